use Rattle.std.proofs.Common.{arith}
use Rattle.std.proofs.lemmas.Result.{err_from_is_err_and}
use Rattle.command_core.proofs.Walks.{bytes_are}
use Rattle.command_core.proofs.RecordCommands.{failed, none_is_spelled, rest_is_short, read_is_spelled}
use Rattle.command_core.proofs.decoding.decode.Goals as goal

pub returns-in_err-command-clause-none : goal.returns-in_err-command-clause-none
returns-in_err-command-clause-none c =
    let p = err_from_is_err_and c.from_residual.result c.from_residual.ensures.1 in
    rw (p.1, p.2) (λ is. none_is_spelled c.args.bytes.now (failed c.in_err-command.field-0.0 _ c.in_err-command.ensures is))

pub overflow_sub-result : goal.overflow_sub-result
overflow_sub-result c =
    rest_is_short c.args.bytes.now c.in_ok-command.rest.now c.in_ok-command.command (bytes_are c.args.bytes.now (λ i. omega (arith, c.type_inv.bytes i))) c.in_ok-command.ensures

pub returns-clause-spelled : goal.returns-clause-spelled
returns-clause-spelled c =
    read_is_spelled c.args.bytes.now c.in_ok-command.rest.now c.in_ok-command.command (bytes_are c.args.bytes.now (λ i. omega (arith, c.type_inv.bytes i))) c.in_ok-command.ensures
