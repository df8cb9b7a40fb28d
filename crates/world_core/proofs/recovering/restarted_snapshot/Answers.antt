use Rattle.std.proofs.Common.{arith}
use Rattle.world_core.proofs.Recovered.{few_left, found_low, found_state, no_restart, within_none, within_some}
use Rattle.world_core.proofs.recovering.restarted_snapshot.Goals as goal

pub returns-in-None-clause-none : goal.returns-in-None-clause-none
returns-in-None-clause-none c none r x can = no_restart c.args.content.now (c.in_ok-broker.ensures.none c.in-None.is) c.args.size r x can

pub snapshot_within-snapshot-requires-clause-few_sessions : goal.snapshot_within-snapshot-requires-clause-few_sessions
snapshot_within-snapshot-requires-clause-few_sessions c =
    let is = found_state c.in_ok-broker.field-0 c.in-Some.broker c.args.content.now c.in-Some.is c.in_ok-broker.ensures.state in
    omega (arith, (few_left c.args.content.now c.args.size c.in-Some.broker.state c.requires is).0)

pub snapshot_within-snapshot-requires-clause-few_subscriptions : goal.snapshot_within-snapshot-requires-clause-few_subscriptions
snapshot_within-snapshot-requires-clause-few_subscriptions c =
    let is = found_state c.in_ok-broker.field-0 c.in-Some.broker c.args.content.now c.in-Some.is c.in_ok-broker.ensures.state in
    omega (arith, (few_left c.args.content.now c.args.size c.in-Some.broker.state c.requires is).1)

pub returns-in-Some-clause-some : goal.returns-in-Some-clause-some
returns-in-Some-clause-some c =
    let is = found_state c.in_ok-broker.field-0 c.in-Some.broker c.args.content.now c.in-Some.is c.in_ok-broker.ensures.state in
    let low = found_low c.in_ok-broker.field-0 c.in-Some.broker c.in-Some.is c.in_ok-broker.ensures.small in
    within_some c.snapshot_within-snapshot.result c.args.size c.args.content.now c.in-Some.broker.state is low c.snapshot_within-snapshot.ensures.some

pub returns-in-Some-clause-none : goal.returns-in-Some-clause-none
returns-in-Some-clause-none c =
    let is = found_state c.in_ok-broker.field-0 c.in-Some.broker c.args.content.now c.in-Some.is c.in_ok-broker.ensures.state in
    within_none c.snapshot_within-snapshot.result c.args.size c.args.content.now c.in-Some.broker.state is c.snapshot_within-snapshot.ensures.none
