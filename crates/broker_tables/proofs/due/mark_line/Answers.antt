use Rattle.std.proofs.Common.{ap, ◌∙◌}
use Rattle.std.proofs.lemmas.Result.{on_ok_weaker}
use Rattle.broker_tables.specs.declared.due.Due.{Due}
use Rattle.broker_tables.specs.Dues.{is_due, is_under, line_due}
use Rattle.broker_tables.proofs.Dues.{back_elsewhere, unless}
use Rattle.broker_tables.proofs.due.mark_line.Goals as goal

pub returns-then-not-has_own_line-clause-marked : goal.returns-then-not-has_own_line-clause-marked
returns-then-not-has_own_line-clause-marked c =
    let key = line_due c.args.sub.now in
    on_ok_weaker c.mark.result (λ marks shared other fails. back_elsewhere shared c.args.sub.now other (unless (is_under key other) (is_due c.mark.new.marked.items other) (λ is. marks other (ap (λ (k : Due). is_under k other) c.in_ok-due.ensures ∙ is)) fails)) c.mark.ensures.marked
