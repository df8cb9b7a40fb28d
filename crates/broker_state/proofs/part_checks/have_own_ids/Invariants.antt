use Rattle.std.proofs.Common.{◌≡◌, ℕ, List, cond, count_by, take}
use Rattle.std.specs.BTreeSet as tree
use Rattle.broker_state.specs.Operations.{is_named}
use Rattle.broker_state.proofs.SeenIds.{key_cmp, key_of}
use Rattle.broker_state.proofs.part_checks.have_own_ids.Given as goal

abbrev pub invariant-loop-sub : goal.invariant-loop-sub
invariant-loop-sub l = (session : ℕ) (id : List ℕ) → count_by (is_named session id) (take l.sub-index l.subscriptions)
    ≡ cond (tree.contains key_cmp l.seen (key_of session id)) 1 0
