use Rattle.std.proofs.Common.{◌≡◌, drop}
use Rattle.broker_state.specs.Executing.{committed}
use Rattle.broker_state.specs.States.{State}
use Rattle.broker_core.specs.Prechecks.{StandsFor}
use Rattle.broker_core.proofs.precheck.precheck_members.Given as goal

abbrev pub invariant-loop-member : goal.invariant-loop-member
invariant-loop-member l =
    (s : State) × StandsFor l.session l.tables.state.durables l.tables.state.subscriptions l.precheck s × (committed l.rule s l.session l.member-index (drop l.member-index l.members) ≡ committed l.rule l.tables.state l.session 0 l.members)
