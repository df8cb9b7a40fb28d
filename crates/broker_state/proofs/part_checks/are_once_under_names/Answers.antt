use Rattle.std.proofs.Common.{◌++◌, ◌↔◌, IfOk, IsTrue, refl, rules, subst}
use Rattle.broker_state.specs.Kept.{unacknowledged_by}
use Rattle.broker_state.specs.Names.{Name, name_cmp}
use Rattle.broker_state.specs.Operations.{uses}
use Rattle.broker_state.specs.Sound.{AreOnce}
use Rattle.broker_state.specs.Waiting.{line_at}
use Rattle.broker_state.proofs.Keys.{same_names}
use Rattle.broker_state.proofs.part_checks.are_once_under_names.Goals as goal

pub are_once_by-requires : goal.are_once_by-requires
are_once_by-requires c κs = ((refl, tt), (same_names, search rules))

pub returns : goal.returns
returns c =
    subst (λ subs. IfOk c.are_once_by.result (λ yes. IsTrue yes ↔ ((key : Name) → AreOnce (line_at name_cmp key c.args.parts.now.names.entries ++ unacknowledged_by (uses key) subs)))) c.as_slice-subscriptions.ensures.value
    (c.are_once_by.ensures uses (λ sub result said. search (rules, said)))
