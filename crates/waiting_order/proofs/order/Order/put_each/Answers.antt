use Rattle.std.proofs.Common.{◌≡◌, ◌∙◌, List, Some, None, ap, refl, subst, sym}
use Rattle.std.specs.Option.{option_copied}
use Rattle.std.proofs.lemmas.Result.{on_ok_weaker}
use Rattle.broker_state.specs.Lists.{is_none}
use Rattle.waiting_order.specs.declared.groups.Group.{Group}
use Rattle.waiting_order.specs.Directories.{AreOfGroup, IsGroup, is_plain_at}
use Rattle.waiting_order.proofs.Keeping.{found_put, put_alike, put_nowhere}
use Rattle.waiting_order.proofs.Timed.{W}
use Rattle.waiting_order.proofs.order.Order.put_each.Goals as goal

pub put_all-requires-clause-some : goal.put_all-requires-clause-some
put_all-requires-clause-some c =
    let d = c.self.invariant.directory in
    let to = c.args.destination.now in
    let it = subst (IsGroup (is_plain_at to) c.self.inside.waiters.all) (sym c.get.ensures.value ∙ ap option_copied c.in-Some.is) (d.destinations to) in
    ap (λ (g : Group). is_none g.places) (d.groups c.in-Some.handle.now) ∙ it.some

pub put_all-requires-clause-group : goal.put_all-requires-clause-group
put_all-requires-clause-group c = c.self.invariant.directory.groups c.in-Some.handle.now

pub invariant_of-self : goal.invariant_of-self
invariant_of-self c =
    let a = c.self.inside in
    let d = c.self.invariant.directory in
    let to = c.args.destination.now in
    let it = subst (IsGroup (is_plain_at to) a.waiters.all) (sym c.get.ensures.value ∙ ap option_copied c.in-Some.is) (d.destinations to) in
    let after = record a.directory { groups = c.put_all.new.groups } in
    found_put a.directory after a.waiters.all c.put_all.new.waiters.all c.in-Some.handle.now c.put_all.ensures.places refl refl c.put_all.ensures.group c.put_all.ensures.groups c.put_all.ensures.others it.some c.self.invariant

pub returns : goal.returns
returns c =
    let a = c.self.inside in
    let to = c.args.destination.now in
    let it = subst (IsGroup (is_plain_at to) a.waiters.all) (sym c.get.ensures.value ∙ ap option_copied c.in-Some.is) (c.self.invariant.directory.destinations to) in
    rw (← c.self.view_is) (on_ok_weaker c.put_all.result (λ is. is ∙ ap (λ (l : List W). record a.waiters { all = l }) (put_alike (is_plain_at to) c.in-Some.handle.now c.args.message.now a.waiters.all it.alike)) c.put_all.ensures.put)

pub returns-in_default : goal.returns-in_default
returns-in_default c =
    let a = c.self.inside in
    let to = c.args.destination.now in
    let none = subst (IsGroup (is_plain_at to) a.waiters.all) (sym c.get.ensures.value ∙ ap option_copied c.in_default.is) (c.self.invariant.directory.destinations to) in
    rw (← c.self.view_is) (ap (λ (l : List W). record a.waiters { all = l }) (put_nowhere (is_plain_at to) c.args.message.now a.waiters.all none))
