use Rattle.world_core.proofs.Recovered.{copy_found, no_copy_found, too_large_to_copy}
use Rattle.std.proofs.Common.{Option, IfSome, subst}
use Rattle.recover_core.specs.Standing.{Stands}
use Rattle.broker_core.specs.States.{BrokerValue}
use Rattle.world_core.proofs.recovering.stored_snapshot.Goals as goal

pub returns-in-Some-clause-some : goal.returns-in-Some-clause-some
returns-in-Some-clause-some c =
    let content = c.args.content.now in
    let stands : Stands content c.in-Some.broker.state = subst (λ (o : Option BrokerValue). IfSome o (λ broker. Stands content broker.state)) c.in-Some.is c.in_ok-broker.ensures.state in
    let small = subst (λ (o : Option BrokerValue). IfSome o _) c.in-Some.is c.in_ok-broker.ensures.small in
    copy_found c.counted_snapshot-snapshot.result content c.in-Some.broker.state stands small.0 c.args.size c.counted_snapshot-snapshot.ensures.some

pub returns-in-Some-clause-none : goal.returns-in-Some-clause-none
returns-in-Some-clause-none c =
    let content = c.args.content.now in
    let stands : Stands content c.in-Some.broker.state = subst (λ (o : Option BrokerValue). IfSome o (λ broker. Stands content broker.state)) c.in-Some.is c.in_ok-broker.ensures.state in
    no_copy_found c.counted_snapshot-snapshot.result content c.in-Some.broker.state stands c.args.size c.counted_snapshot-snapshot.ensures.none

pub returns-in-None-clause-none : goal.returns-in-None-clause-none
returns-in-None-clause-none c = λ none. too_large_to_copy c.args.content.now c.args.size (c.in_ok-broker.ensures.none c.in-None.is)
