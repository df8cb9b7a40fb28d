use Rattle.std.proofs.Common.{◌∙◌, ap}
use Rattle.std.specs.List.{list_any}
use Rattle.broker_tables.specs.declared.due.Due.{Due}
use Rattle.broker_tables.specs.Dues.{is_under}
use Rattle.broker_tables.proofs.Dues.{any_kept}
use Rattle.broker_tables.proofs.Marks.{marked_already}
use Rattle.broker_tables.proofs.due.mark.Goals as goal

pub returns-in-Ok-clause-marked : goal.returns-in-Ok-clause-marked
returns-in-Ok-clause-marked c =
    marked_already c.args.marked.now.items c.deref-2.result.now c.in-Ok._there c.args.due c.deref-2.ensures.value c.in-Ok.ensures.bound c.in-Ok.ensures.ok

pub returns-in_ok-insert-in-Err-clause-kept : goal.returns-in_ok-insert-in-Err-clause-kept
returns-in_ok-insert-in-Err-clause-kept c sub is =
    let passes = λ (due : Due). is_under due sub in
    ap (list_any passes) c.in_ok-insert-in-Err.ensures.items ∙ any_kept passes c.args.due c.args.marked.now.items c.in-Err.at is
