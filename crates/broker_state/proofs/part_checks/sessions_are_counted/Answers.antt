use Rattle.std.proofs.Common.{◌<◌, rules, tests}
use Rattle.std.proofs.lemmas.Iterator.{cases_from_all}
use Rattle.std.proofs.lemmas.Iterator.Consumers.{YieldsList-from_rest}
use Rattle.broker_state.proofs.Alls.{all_tells}
use Rattle.broker_state.proofs.part_checks.sessions_are_counted.Goals as goal

pub returns : goal.returns
returns c =
    all_tells (λ e. e.0 < c.args.parts.now.count) c.args.parts.now.sessions.entries c.all.result (cases_from_all _ _ _ (λ e. e.0 < c.args.parts.now.count) (λ e. ¬ (e.0 < c.args.parts.now.count)) c.all.ensures.ran (YieldsList-from_rest c.args.parts.now.sessions.entries c.iter.ensures.rest) (λ x q k. search (rules, tests)) (λ x q k. search (rules, tests)))
