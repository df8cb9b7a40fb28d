use Rattle.std.proofs.Common.{◌≡◌, ◌∙◌, None, Option, Some, ap, subst, sym}
use Rattle.broker_state.specs.Operations.{is_of}
use Rattle.waiting_order.specs.declared.groups.Place.{Place}
use Rattle.waiting_order.specs.declared.finding.Sought.TheVariants.{Any}
use Rattle.waiting_order.specs.declared.waiters.Waiter.{Waiter}
use Rattle.waiting_order.specs.Directories.{IsNext}
use Rattle.waiting_order.specs.Soughts.{is_sought_of}
use Rattle.broker_tables.specs.declared.due.Scope.{Scope}
use Rattle.broker_tables.specs.Scopes.{is_within}
use Rattle.broker_tables.proofs.Scopes.{and_true, next_alike}
use Rattle.broker_tables.proofs.due.next_within.Goals as goal

pub returns-in-Session : goal.returns-in-Session
returns-in-Session c =
    let session = c.in-Session.session in
    next_alike (λ (s : Waiter). is_sought_of session Any s.sub) (is_within c.args.scope) (λ s. and_true (is_of session s.sub) ∙ ap (λ (scope : Scope). is_within scope s) (sym c.in-Session.is)) c.args.order.now.all c.args.from c.next_of.result c.next_of.ensures.next

pub returns-in-Group : goal.returns-in-Group
returns-in-Group c = subst (λ (scope : Scope). IsNext (is_within scope) c.args.order.now.all c.args.from c.next_in.result) (sym c.in-Group.is) c.next_in.ensures
