use Rattle.std.proofs.Common.{◌++◌, ◌↔◌, IfOk, IsTrue, List, ℕ, refl, rules, subst}
use Rattle.broker_state.specs.Kept.{takes_from, unacknowledged_by}
use Rattle.broker_state.specs.Names.{text_cmp}
use Rattle.broker_state.specs.Sound.{AreOnce}
use Rattle.broker_state.specs.Waiting.{line_at}
use Rattle.broker_state.proofs.Keys.{same_texts}
use Rattle.broker_state.proofs.part_checks.are_once_in_queues.Goals as goal

pub are_once_by-requires : goal.are_once_by-requires
are_once_by-requires c κs = ((refl, tt), (same_texts, search rules))

pub returns : goal.returns
returns c =
    subst (λ subs. IfOk c.are_once_by.result (λ yes. IsTrue yes ↔ ((key : List ℕ) → AreOnce (line_at text_cmp key c.args.parts.now.queues.entries ++ unacknowledged_by (takes_from key) subs)))) c.as_slice-subscriptions.ensures.value
    (c.are_once_by.ensures takes_from (λ sub result said. search (rules, said)))
