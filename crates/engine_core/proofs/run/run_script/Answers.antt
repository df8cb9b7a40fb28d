use Rattle.std.proofs.Common.{◌∙◌, IfErr, inr, refl, subst, sym}
use Rattle.std.proofs.lemmas.Result.{IfErr-weaker, on_ok_weaker}
use Rattle.disk_core.specs.Memory.{Memory}
use Rattle.engine_core.specs.Runs.{Stopped, StopsOver}
use Rattle.engine_core.specs.Scripts.{disk_of}
use Rattle.engine_core.proofs.Turns.{stops_script, refused_at_once, not_opened, whole}
use Rattle.engine_core.proofs.run.run_script.Goals as goal

pub returns-in-Err-clause-err : goal.returns-in-Err-clause-err
returns-in-Err-clause-err g c = refused_at_once _ _ _ _ _ c.from.ensures

pub returns-in-Err-begin-clause-err : goal.returns-in-Err-begin-clause-err
returns-in-Err-begin-clause-err g c = not_opened c.args.disk _ _ _ _ _ refl c.in-Err-begin.ensures.err

pub returns-in-Ok-begin-clause-ok : goal.returns-in-Ok-begin-clause-ok
returns-in-Ok-begin-clause-ok g c =
    let begun = c.in-Ok-begin.ensures.ok in
    on_ok_weaker c.read_to_end-ended.result
    (λ turned. let w = whole begun.start begun.first c.in-Ok-begin.run' begun.script begun.begun c.read_to_end-ended.new.run _ _ _ _ turned in
    (w.input, w.printed, begun.start, begun.first, begun.opened, w.reads, w.at_end, w.writes, w.script, c.into_disk.ensures ∙ w.disk_is))
    c.read_to_end-ended.ensures.ok

pub returns-in-Ok-begin-clause-err : goal.returns-in-Ok-begin-clause-err
returns-in-Ok-begin-clause-err g c =
    let begun = c.in-Ok-begin.ensures.ok in
    let left : Memory = disk_of c.read_to_end-ended.new.run.script in
    subst (λ disk. IfErr c.read_to_end-ended.result (λ fault. StopsOver c.args.disk fault disk (g.R.Read.remaining c.args.reader.now) (g.R.Read.remaining c.read_to_end-ended.new.reader) (g.W.Write.contents c.args.writer.now) (g.W.Write.contents c.read_to_end-ended.new.writer))) (sym c.into_disk.ensures)
    (IfErr-weaker c.read_to_end-ended.result (λ fault. Stopped fault c.in-Ok-begin.run' left (g.R.Read.remaining c.args.reader.now) (g.R.Read.remaining c.read_to_end-ended.new.reader) (g.W.Write.contents c.args.writer.now) (g.W.Write.contents c.read_to_end-ended.new.writer))
    (λ fault. StopsOver c.args.disk fault left (g.R.Read.remaining c.args.reader.now) (g.R.Read.remaining c.read_to_end-ended.new.reader) (g.W.Write.contents c.args.writer.now) (g.W.Write.contents c.read_to_end-ended.new.writer))
    (λ fault stopped. inr (begun.start, begun.first, begun.opened, stops_script begun.start begun.first c.in-Ok-begin.run' begun.script begun.begun fault left _ _ _ _ begun.lines stopped))
    c.read_to_end-ended.ensures.err)
