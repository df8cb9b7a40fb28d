use Rattle.std.proofs.Common.{◌≡◌, ◌≤◌, ℕ, count_by, take}
use Rattle.std.specs.BTreeMap as tree
use Rattle.std.specs.Ordering.{nat_cmp}
use Rattle.std.specs.Map.{count_at}
use Rattle.broker_state.specs.Operations.{is_of}
use Rattle.broker_state.proofs.part_checks.are_few.Given as goal

abbrev pub invariant-loop-sub : goal.invariant-loop-sub
invariant-loop-sub l = record {
  counted : (session : ℕ) → count_by (is_of session) (take l.sub-index l.subscriptions) ≡ count_at (tree.get nat_cmp l.counts) session;
  few : (session : ℕ) → count_at (tree.get nat_cmp l.counts) session ≤ 16;
}
