use Rattle.std.proofs.Common.{◌≡◌, ◌++◌, drop, map}
use Rattle.std.specs.List.{flat_map}
use Rattle.journal_files.specs.SessionObjects.{subscription_object}
use Rattle.journal_files.proofs.sessions.put_each_subscription.Given as goal

abbrev pub invariant-loop-subscription : goal.invariant-loop-subscription
invariant-loop-subscription l = record {
  before : l.out.before ≡ l.fn.out.before;
  tokens : l.out.tokens ++ flat_map subscription_object (map (λ sub. sub.now) (drop l.subscription-index l.subscriptions)) ≡ l.fn.out.tokens ++ flat_map subscription_object (map (λ sub. sub.now) l.subscriptions);
}
