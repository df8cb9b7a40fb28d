use Rattle.std.proofs.Common.{◌≡◌, ◌==◌, ◌≤◌, ◌<◌, ◌⊎◌, ◌∙◌, [], List, ℕ, Bool, true, false, Some, None, inl, inr, ap, arith, length, not, refl, subst, sym, unwrap_or}
use Rattle.std.specs.BTreeMap.{is_at}
use Rattle.std.specs.List.{AllByRecursion}
use Rattle.std.specs.Map.{lookup}
use Rattle.std.proofs.lemmas.Result.{IfOk-weaker}
use Rattle.slab.specs.Slab.{Slab, get}
use Rattle.broker_state.specs.declared.subscription.Subscription.{Subscription}
use Rattle.broker_state.specs.Lists.{is_none}
use Rattle.broker_state.specs.Names.{name_cmp, text_cmp}
use Rattle.broker_state.specs.Operations.{uses}
use Rattle.broker_state.proofs.Keys.{name_itself, same_names, same_texts}
use Rattle.waiting_order.specs.declared.groups.Group.{Group}
use Rattle.waiting_order.specs.Directories.{IsGroup, behind_in, group_at, grouped, is_behind, is_in, is_plain_at, members}
use Rattle.waiting_order.specs.Groups.{Joins, grown}
use Rattle.waiting_order.proofs.Behind.{behind_few, empty_is, few_members}
use Rattle.waiting_order.proofs.Directories.{filled_at, groups_joined, index_beside, index_joined, joined_here, joined_strange, name_key, named_elsewhere, never_both, never_named, plain_key, sole_name, sole_plain, some_pushed, text_itself, uses_none}
use Rattle.waiting_order.proofs.Members.{all_members}
use Rattle.waiting_order.proofs.Rising.{ticket}
use Rattle.waiting_order.proofs.Timed.{W}
use Rattle.waiting_order.proofs.groups.Directory.join.Goals as goal

pub join-requires-clause-same : goal.join-requires-clause-same
join-requires-clause-same c = same_names

pub join-requires-in-None-clause-same : goal.join-requires-in-None-clause-same
join-requires-in-None-clause-same c = same_texts

pub join-requires-clause-some : goal.join-requires-clause-some
join-requires-clause-some c group is =
    ap (λ (g : Group). is_none g.places) (c.requires.1.groups group) ∙ (subst (IsGroup (uses c.in-Some.name) c.requires.0) is (c.requires.1.names c.in-Some.name)).some

pub join-requires-in-None-clause-some : goal.join-requires-in-None-clause-some
join-requires-in-None-clause-some c group is =
    let to = c.args.sub.now.destination in
    ap (λ (g : Group). is_none g.places) (c.requires.1.groups group) ∙ (subst (IsGroup (is_plain_at to) c.requires.0) is (c.requires.1.destinations to)).some

pub join-requires-clause-last : goal.join-requires-clause-last
join-requires-clause-last c group is =
    let below = λ (t : ℕ). t < c.args.place.ticket in
    subst (λ (g : Group). AllByRecursion (λ q. below (ticket q)) g.places) (sym (c.requires.1.groups group)) (all_members (is_in group) below c.requires.0 c.requires.2)

pub join-requires-in-None-clause-last : goal.join-requires-in-None-clause-last
join-requires-in-None-clause-last c group is =
    let below = λ (t : ℕ). t < c.args.place.ticket in
    subst (λ (g : Group). AllByRecursion (λ q. below (ticket q)) g.places) (sym (c.requires.1.groups group)) (all_members (is_in group) below c.requires.0 c.requires.2)

pub join-requires-clause-count : goal.join-requires-clause-count
join-requires-clause-count c group =
    omega (arith, ap (λ (g : Group). g.behind) (c.requires.1.groups group), behind_few group c.requires.0, few_members (is_in group) c.requires.0, c.requires.3)

pub join-requires-in-None-clause-count : goal.join-requires-in-None-clause-count
join-requires-in-None-clause-count c group =
    omega (arith, ap (λ (g : Group). g.behind) (c.requires.1.groups group), behind_few group c.requires.0, few_members (is_in group) c.requires.0, c.requires.3)

pub returns-in-Some : goal.returns-in-Some
returns-in-Some c =
    let old = c.args.self.now in
    let sub = c.args.sub.now in
    let name = c.in-Some.name in
    let behind = ap not (c.is_empty-is_behind.ensures.empty ∙ empty_is sub.line) in
    IfOk-weaker c.join.result _ _ (λ group joins ws dir.
    let w : W = (c.args.place.key, record { ticket = c.args.place.ticket; group = group; sub = sub }) in
    record {
      groups = groups_joined old.groups c.join.new.groups ws dir.groups w group refl (joins.joined ∙ ap (λ b. grown c.args.place b (group_at old.groups group)) behind) joins.others;
      destinations = index_beside text_cmp same_texts text_itself is_plain_at sole_plain old.destinations.entries ws dir.destinations w group refl (named_elsewhere sub name c.in-Some.is)
          (joined_strange old.groups ws dir.groups group (uses name) is_plain_at (λ q s named. never_both s q name named) (lookup (is_at (name_cmp name)) old.names.entries) (dir.names name) joins.was);
      names = index_joined name_cmp same_names name_itself uses sole_name old.names.entries ws dir.names c.join.new.handles.entries name group w joins.handle (name_key sub name c.in-Some.is) refl (joined_here old.groups ws dir.groups group (lookup (is_at (name_cmp name)) old.names.entries) joins.was);
      filled = filled_at old.groups c.join.new.groups group joins.others dir.filled (grown c.args.place (not c.is_empty-is_behind.result) (group_at old.groups group)) joins.joined (some_pushed (group_at old.groups group).places c.args.place);
    }) c.join.ensures

pub returns-in-None : goal.returns-in-None
returns-in-None c =
    let old = c.args.self.now in
    let sub = c.args.sub.now in
    let to = sub.destination in
    let behind = ap not (c.is_empty-is_behind.ensures.empty ∙ empty_is sub.line) in
    IfOk-weaker c.join-in-None.result _ _ (λ group joins ws dir.
    let w : W = (c.args.place.key, record { ticket = c.args.place.ticket; group = group; sub = sub }) in
    record {
      groups = groups_joined old.groups c.join-in-None.new.groups ws dir.groups w group refl (joins.joined ∙ ap (λ b. grown c.args.place b (group_at old.groups group)) behind) joins.others;
      destinations = index_joined text_cmp same_texts text_itself is_plain_at sole_plain old.destinations.entries ws dir.destinations c.join-in-None.new.handles.entries to group w joins.handle (plain_key sub c.in-None.is) refl (joined_here old.groups ws dir.groups group (lookup (is_at (text_cmp to)) old.destinations.entries) joins.was);
      names = index_beside name_cmp same_names name_itself uses sole_name old.names.entries ws dir.names w group refl (uses_none sub c.in-None.is)
          (joined_strange old.groups ws dir.groups group (is_plain_at to) uses (λ q s plain. never_named s to q plain) (lookup (is_at (text_cmp to)) old.destinations.entries) (dir.destinations to) joins.was);
      filled = filled_at old.groups c.join-in-None.new.groups group joins.others dir.filled (grown c.args.place (not c.is_empty-is_behind.result) (group_at old.groups group)) joins.joined (some_pushed (group_at old.groups group).places c.args.place);
    }) c.join-in-None.ensures
