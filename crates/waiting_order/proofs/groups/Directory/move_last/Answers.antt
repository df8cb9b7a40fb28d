use Rattle.std.proofs.Common.{◌≡◌, ◌<◌, ◌∙◌, ◌++◌, ◌∷◌, [], List, ℕ, Some, None, ap, refl, subst, sym, remove, slice_get}
use Rattle.std.specs.List.{AllByRecursion}
use Rattle.broker_state.specs.Lists.{is_none}
use Rattle.broker_state.specs.Names.{name_cmp, text_cmp}
use Rattle.broker_state.specs.Operations.{uses}
use Rattle.broker_state.proofs.Keys.{name_itself, same_names, same_texts}
use Rattle.waiting_order.specs.declared.groups.Group.{Group}
use Rattle.waiting_order.specs.Directories.{group_at, is_in, is_plain_at, members, place_of}
use Rattle.waiting_order.specs.Tickets.{HasTicket, without}
use Rattle.waiting_order.proofs.Directories.{filled_at, groups_moved, in_group, index_moved, sole_name, sole_plain, some_pushed, text_itself}
use Rattle.waiting_order.proofs.Members.{all_members, among_at}
use Rattle.waiting_order.proofs.Rising.{ticket}
use Rattle.waiting_order.proofs.Timed.{W}
use Rattle.waiting_order.proofs.groups.Directory.move_last.Goals as goal

pub move_last-requires-clause-there : goal.move_last-requires-clause-there
move_last-requires-clause-there c =
    let r = c.requires in
    let m = among_at (is_in c.args.group) r.0 r.1 r.2 r.3 (in_group c.args.group r.2 r.5) in
    subst (λ (g : Group). HasTicket c.args.ticket g.places) (sym (r.6.groups c.args.group)) (m.0, place_of r.2, m.1, r.4)

pub move_last-requires-clause-last : goal.move_last-requires-clause-last
move_last-requires-clause-last c =
    let r = c.requires in
    let below = λ (t : ℕ). t < c.args.place.ticket in
    subst (λ (g : Group). AllByRecursion (λ q. below (ticket q)) g.places) (sym (r.6.groups c.args.group)) (all_members (is_in c.args.group) below r.0 r.7)

pub returns : goal.returns
returns c ws at w rising there ticket_is inside dir =
    let old = c.args.self.now in
    let v : W = (c.args.place.key, record w.1 { ticket = c.args.place.ticket }) in
    record {
      groups = groups_moved old.groups c.move_last.new.groups ws dir.groups at c.args.ticket c.args.group w rising there ticket_is inside v refl refl c.move_last.ensures.moved c.move_last.ensures.others;
      destinations = index_moved text_cmp same_texts text_itself is_plain_at sole_plain old.destinations.entries ws dir.destinations at w there v refl refl;
      names = index_moved name_cmp same_names name_itself uses sole_name old.names.entries ws dir.names at w there v refl refl;
      filled = filled_at old.groups c.move_last.new.groups c.args.group c.move_last.ensures.others dir.filled _ c.move_last.ensures.moved (some_pushed (without c.args.ticket (group_at old.groups c.args.group).places) c.args.place);
    }
