use Rattle.command_line.proofs.Nothing.{if_err_is, on_ok_is, runs_to_end, stops_over}
use Rattle.command_line.proofs.program.script.Goals as goal

pub returns-in-Ok-ended-clause-ok : goal.returns-in-Ok-ended-clause-ok
returns-in-Ok-ended-clause-ok g c =
    runs_to_end c.in-Ok.disk c.run_script-disk.result.0 _ _ _ _ c.in-Ok.ensures.empty (on_ok_is _ c.run_script-disk.result.1 c.in-Ok-ended.field-0 c.in-Ok-ended.is c.run_script-disk.ensures.ok)

pub returns-in-Err-ended-clause-err : goal.returns-in-Err-ended-clause-err
returns-in-Err-ended-clause-err g c =
    stops_over c.in-Ok.disk c.run_script-disk.result.0 c.in-Err-ended.fault _ _ _ _ c.in-Ok.ensures.empty (if_err_is _ c.run_script-disk.result.1 c.in-Err-ended.fault c.in-Err-ended.is c.run_script-disk.ensures.err)
