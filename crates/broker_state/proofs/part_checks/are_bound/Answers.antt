use Rattle.std.proofs.Common.{IsSome, rules, tests}
use Rattle.std.proofs.lemmas.Iterator.{cases_from_all}
use Rattle.std.proofs.lemmas.Iterator.Consumers.{YieldsList-from_rest}
use Rattle.broker_state.specs.Operations.{topic_of}
use Rattle.broker_state.proofs.Alls.{all_tells}
use Rattle.broker_state.proofs.part_checks.are_bound.Goals as goal

pub returns : goal.returns
returns c =
    let durables = c.args.parts.now.durables.entries in
    all_tells (λ e. IsSome (topic_of e.0 durables)) c.args.parts.now.names.entries c.all.result (cases_from_all _ _ _ (λ e. IsSome (topic_of e.0 durables)) (λ e. ¬ (IsSome (topic_of e.0 durables))) c.all.ensures.ran (YieldsList-from_rest c.args.parts.now.names.entries c.iter.ensures.rest) (λ x q k. search (rules, tests)) (λ x q k. search (rules, tests)))
