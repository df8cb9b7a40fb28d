use Rattle.std.proofs.Common.{◌≡◌, cond, count_by, take}
use Rattle.std.specs.BTreeSet as tree
use Rattle.broker_state.specs.Names.{Name}
use Rattle.broker_state.specs.Operations.{uses}
use Rattle.broker_state.proofs.SeenNames.{key_cmp, key_of}
use Rattle.broker_state.proofs.part_checks.have_own_names.Given as goal

abbrev pub invariant-loop-sub : goal.invariant-loop-sub
invariant-loop-sub l = (name : Name) → count_by (uses name) (take l.sub-index l.subscriptions)
    ≡ cond (tree.contains key_cmp l.seen (key_of name)) 1 0
