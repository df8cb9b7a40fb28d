use Rattle.std.proofs.Common.{ℕ, List, length, ap, subst, arith}
use Rattle.broker_core.specs.States.{State}
use Rattle.snapshot_core.specs.Snapshots.{Spells}
use Rattle.recover_core.proofs.Sizes.{restart_fits}
use Rattle.recover_core.proofs.snapshot.Snapshot.new.Goals as goal

pub invariant_of-result : goal.invariant_of-result
invariant_of-result c =
    let spells = c.in_ok-writer.ensures in
    let s = c.args.broker.now.state in
    record {
      counted = omega (arith, c.state_len.ensures, ap (λ (l : List ℕ). length l) spells.spelled, restart_fits s c.in_ok-writer.writer (subst (λ (t : State). Spells c.in_ok-writer.writer t) c.requires.ended spells));
    }
