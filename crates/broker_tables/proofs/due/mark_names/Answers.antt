use Rattle.std.proofs.Common.{◌∙◌, ap, sym}
use Rattle.std.specs.List.{list_any}
use Rattle.std.proofs.lemmas.Result.{on_ok_weaker}
use Rattle.broker_state.specs.Names.{Name}
use Rattle.broker_state.specs.Operations.{uses}
use Rattle.broker_tables.specs.Topics.{names_of}
use Rattle.broker_tables.proofs.Dues.{clash}
use Rattle.broker_tables.proofs.Topics.{any_names}
use Rattle.broker_tables.proofs.due.mark_names.Goals as goal

pub returns-in-Some-clause-marked : goal.returns-in-Some-clause-marked
returns-in-Some-clause-marked c =
    let to = c.args.to.now in
    let durables = c.args.durables.now in
    on_ok_weaker c.mark_all.result (λ marks sub any. marks sub (ap (list_any (λ (name : Name). uses name sub)) c.in-Some.ensures ∙ sym (any_names to sub durables) ∙ any)) c.mark_all.ensures.marked

pub returns-in-None-clause-marked : goal.returns-in-None-clause-marked
returns-in-None-clause-marked c sub any =
    let to = c.args.to.now in
    let durables = c.args.durables.now in
    absurd (clash (list_any (λ (name : Name). uses name sub) (names_of to durables)) (sym (any_names to sub durables) ∙ any) (sym (ap (list_any (λ (name : Name). uses name sub)) c.in-None.ensures)))
