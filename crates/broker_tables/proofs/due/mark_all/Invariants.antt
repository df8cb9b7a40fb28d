use Rattle.std.proofs.Common.{◌≡◌, ◌⊎◌, true}
use Rattle.std.specs.List.{list_any}
use Rattle.broker_state.specs.declared.subscription.Subscription.{Subscription}
use Rattle.broker_state.specs.Operations.{uses}
use Rattle.broker_tables.specs.Dues.{is_due}
use Rattle.broker_tables.proofs.due.mark_all.Given as goal

abbrev pub invariant-loop-name : goal.invariant-loop-name
invariant-loop-name l = record {
  kept : (sub : Subscription) → is_due l.fn.marked.items sub ≡ true → is_due l.marked.items sub ≡ true;
  marked : (sub : Subscription) → list_any (λ name. uses name sub) l.names ≡ true
      → (is_due l.marked.items sub ≡ true) ⊎ (list_any (λ name. uses name sub) l.name-iterator ≡ true);
}
