use Rattle.std.proofs.Common.{◌≡◌, ◌≤◌, ◌∙◌, [], List, ℕ, Bool, true, false, Some, None, ap, arith, length, not, refl, subst, sym, remove, slice_get}
use Rattle.std.specs.BTreeMap.{is_at}
use Rattle.std.specs.Map.{lookup}
use Rattle.broker_state.specs.declared.subscription.Subscription.{Subscription}
use Rattle.broker_state.specs.Lists.{is_none}
use Rattle.broker_state.specs.Names.{name_cmp, text_cmp}
use Rattle.broker_state.specs.Operations.{uses}
use Rattle.broker_state.proofs.Keys.{name_itself, same_names, same_texts}
use Rattle.waiting_order.specs.declared.groups.Group.{Group}
use Rattle.waiting_order.specs.Directories.{IsDirectory, group_at, is_behind, is_in, is_plain_at, members}
use Rattle.waiting_order.specs.Groups.{one, shrunk}
use Rattle.waiting_order.specs.Tickets.{IsRising, without}
use Rattle.waiting_order.proofs.Behind.{empty_is}
use Rattle.waiting_order.proofs.Directories.{behind_is, behind_within, filled_at, filled_gone, groups_ended, groups_less, index_ended, index_stays, less_name, less_plain, members_after, name_key, named_elsewhere, none_left, plain_key, sole_name, sole_plain, somewhere, text_itself, uses_none}
use Rattle.waiting_order.proofs.Timed.{W, ticket_of}
use Rattle.waiting_order.proofs.groups.Directory.leave.Goals as goal

pub leave-requires-clause-some : goal.leave-requires-clause-some
leave-requires-clause-some c =
    let r = c.requires in
    ap (λ (g : Group). is_none g.places) (r.4.groups c.args.group) ∙ somewhere r.0 r.1 (r.2, record { ticket = c.args.ticket; group = c.args.group; sub = c.args.sub.now }) r.3

pub leave-requires-clause-behind : goal.leave-requires-clause-behind
leave-requires-clause-behind c =
    let r = c.requires in
    let w : W = (r.2, record { ticket = c.args.ticket; group = c.args.group; sub = c.args.sub.now }) in
    omega (arith, ap one (behind_is c.args.sub.now c.is_empty.result c.is_empty.ensures.empty), ap (λ (g : Group). g.behind) (r.4.groups c.args.group), behind_within r.0 r.1 w r.3)

pub returns-then-not-leave : goal.returns-then-not-leave
returns-then-not-leave c ws at key rising there dir =
    let old = c.args.self.now in
    let sub = c.args.sub.now in
    let t = c.args.ticket in
    let g = c.args.group in
    let w : W = (key, record { ticket = t; group = g; sub = sub }) in
    let behind = behind_is sub c.is_empty.result c.is_empty.ensures.empty in
    let left = c.leave.ensures.left c.if-not-leave.true ∙ ap (λ b. shrunk t b (group_at old.groups g)) behind in
    let places : (group_at old.groups g).places ≡ members (is_in g) ws = ap (λ (x : Group). x.places) (dir.groups g) in
    let some : is_none (without t (group_at old.groups g).places) ≡ false = sym c.leave.ensures.none ∙ c.if-not-leave.true in
    let after = members_after old.groups c.leave.new.groups ws dir.groups at t g w rising there refl refl in
    let left_some : is_none (members (is_in g) (remove ws at)) ≡ false = ap is_none (after ∙ ap (without t) (sym places)) ∙ some in
    record {
      groups = groups_less old.groups c.leave.new.groups ws dir.groups at t g w rising there refl refl left c.leave.ensures.others;
      destinations = less_plain ws at w there left_some old.destinations.entries dir.destinations;
      names = less_name ws at w there left_some old.names.entries dir.names;
      filled = filled_at old.groups c.leave.new.groups g c.leave.ensures.others dir.filled _ left some;
    }

pub forget-requires : goal.forget-requires
forget-requires c = same_names

pub forget-requires-in-None : goal.forget-requires-in-None
forget-requires-in-None c = same_texts

pub returns-in-Some : goal.returns-in-Some
returns-in-Some c ws at key rising there dir =
    let old = c.args.self.now in
    let sub = c.args.sub.now in
    let t = c.args.ticket in
    let g = c.args.group in
    let name = c.in-Some.name in
    let w : W = (key, record { ticket = t; group = g; sub = sub }) in
    let places : (group_at old.groups g).places ≡ members (is_in g) ws = ap (λ (x : Group). x.places) (dir.groups g) in
    let none = none_left (without t (group_at old.groups g).places) (sym c.leave.ensures.none ∙ c.if-not-leave.false) in
    let gone = c.leave.ensures.gone c.if-not-leave.false in
    let after = members_after old.groups c.leave.new.groups ws dir.groups at t g w rising there refl refl in
    let nobody : members (is_in g) (remove ws at) ≡ [] = after ∙ ap (without t) (sym places) ∙ none in
    record {
      groups = groups_ended old.groups c.leave.new.groups ws dir.groups at t g w rising there refl refl gone nobody c.leave.ensures.others;
      destinations = index_stays text_cmp same_texts text_itself is_plain_at sole_plain old.destinations.entries ws dir.destinations at w there (named_elsewhere sub name c.in-Some.is);
      names = index_ended name_cmp same_names name_itself uses sole_name old.names.entries ws dir.names at w there c.forget.new.handles.entries name c.forget.ensures (name_key sub name c.in-Some.is) nobody;
      filled = filled_gone old.groups c.leave.new.groups g c.leave.ensures.others dir.filled gone;
    }

pub returns-in-None : goal.returns-in-None
returns-in-None c ws at key rising there dir =
    let old = c.args.self.now in
    let sub = c.args.sub.now in
    let t = c.args.ticket in
    let g = c.args.group in
    let w : W = (key, record { ticket = t; group = g; sub = sub }) in
    let places : (group_at old.groups g).places ≡ members (is_in g) ws = ap (λ (x : Group). x.places) (dir.groups g) in
    let none = none_left (without t (group_at old.groups g).places) (sym c.leave.ensures.none ∙ c.if-not-leave.false) in
    let gone = c.leave.ensures.gone c.if-not-leave.false in
    let after = members_after old.groups c.leave.new.groups ws dir.groups at t g w rising there refl refl in
    let nobody : members (is_in g) (remove ws at) ≡ [] = after ∙ ap (without t) (sym places) ∙ none in
    record {
      groups = groups_ended old.groups c.leave.new.groups ws dir.groups at t g w rising there refl refl gone nobody c.leave.ensures.others;
      destinations = index_ended text_cmp same_texts text_itself is_plain_at sole_plain old.destinations.entries ws dir.destinations at w there c.forget-in-None.new.handles.entries sub.destination c.forget-in-None.ensures (plain_key sub c.in-None.is) nobody;
      names = index_stays name_cmp same_names name_itself uses sole_name old.names.entries ws dir.names at w there (uses_none sub c.in-None.is);
      filled = filled_gone old.groups c.leave.new.groups g c.leave.ensures.others dir.filled gone;
    }
