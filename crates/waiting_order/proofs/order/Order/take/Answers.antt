use Rattle.std.proofs.Common.{◌≡◌, ◌≤◌, ◌-◌, ◌∙◌, Some, true, ap, arith, drop, length, not, refl, subst, sym}
use Rattle.waiting_order.specs.declared.groups.Group.{Group}
use Rattle.waiting_order.specs.Directories.{AreFound, KeepsPlace, behind_in, group_at, is_behind}
use Rattle.waiting_order.specs.Groups.{OthersStay, one}
use Rattle.waiting_order.specs.Keeping.{taken_from}
use Rattle.waiting_order.specs.Waiting.{Waiting}
use Rattle.waiting_order.proofs.Directories.{behind_within}
use Rattle.waiting_order.proofs.Keeping.{caught_by, found_caught_up, found_changed, last_taken, more_taken, not_caught}
use Rattle.waiting_order.proofs.Timed.{W}
use Rattle.waiting_order.proofs.order.Order.take.Goals as goal

each : (w : W) → KeepsPlace w (taken_from w)
each w = record { key = refl; ticket = refl; group = refl; session = refl; destination = refl; durable = refl }

pub catch_up-requires : goal.catch_up-requires
catch_up-requires c =
    let a = c.self.inside in
    let r = rw (← c.self.view_is) at c.requires in
    let s = r.1 in
    let is = c.take-message.ensures r.0 s r.2 in
    let last = caught_by (length s.sub.line) s.group c.take-message.result.1 c.in-Some.group is.1 c.in-Some.is in
    let behind : is_behind s.sub ≡ true = ap not (last_taken s.sub.line last.0).0 in
    subst (λ g. 1 ≤ (group_at a.directory.groups g).behind) last.1 (omega (arith, behind_within a.waiters.all r.0 (c.args.key, s) r.2, ap one behind, ap (λ (g : Group). g.behind) (c.self.invariant.directory.groups s.group)))

pub invariant_of-self : goal.invariant_of-self
invariant_of-self c =
    let a = c.self.inside in
    let r = rw (← c.self.view_is) at c.requires in
    let s = r.1 in
    let is = c.take-message.ensures r.0 s r.2 in
    let more = not_caught (length s.sub.line) s.group c.take-message.result.1 is.1 c.in_default.is in
    subst (AreFound a.directory) (sym (ap (λ (o : Waiting). o.all) is.2)) (found_changed a.directory taken_from each a.waiters.all r.0 (c.args.key, s) r.2 (ap not (more_taken s.sub.line more)) c.self.invariant)

pub invariant_of-self-2 : goal.invariant_of-self-2
invariant_of-self-2 c =
    let a = c.self.inside in
    let d = a.directory in
    let r = rw (← c.self.view_is) at c.requires in
    let s = r.1 in
    let is = c.take-message.ensures r.0 s r.2 in
    let last = caught_by (length s.sub.line) s.group c.take-message.result.1 c.in-Some.group is.1 c.in-Some.is in
    let taken = last_taken s.sub.line last.0 in
    let after = record d { groups = c.catch_up.new.groups } in
    let caught = subst (λ g. group_at after.groups g ≡ record (group_at d.groups g) { behind = (group_at d.groups g).behind - 1 }) (sym last.1) c.catch_up.ensures.caught in
    let others = subst (OthersStay d.groups after.groups) (sym last.1) c.catch_up.ensures.others in
    subst (AreFound after) (sym (ap (λ (o : Waiting). o.all) is.2)) (found_caught_up d after taken_from each a.waiters.all r.0 (c.args.key, s) r.2 (ap not taken.0) (ap not taken.1) refl refl caught others c.self.invariant)

pub returns-in_default : goal.returns-in_default
returns-in_default c = rw (← c.self.view_is) (λ at s there.
    let is = c.take-message.ensures at s there in
    (is.0, is.2))

pub returns : goal.returns
returns c = rw (← c.self.view_is) (λ at s there.
    let is = c.take-message.ensures at s there in
    (is.0, is.2))
