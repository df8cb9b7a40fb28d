use Rattle.std.proofs.Common.{◌≡◌, subst, string_bytes}
use Rattle.std.proofs.lemmas.Result.{IfErr-weaker, IfOk-weaker}
use Rattle.engine_core.specs.Scripts.{StandsAs, disk_of}
use Rattle.engine_core.proofs.Performing.{opened_as}
use Rattle.engine_core.proofs.Telling.{told_as}
use Rattle.engine_core.proofs.script.Script.open.Goals as goal

pub returns-in-Ok-clause-ok : goal.returns-in-Ok-clause-ok
returns-in-Ok-clause-ok c =
    let was = subst (λ s. (c.in-Ok.disk ≡ disk_of s) × StandsAs s c.in-Ok.disk) c.replace.ensures.value c.in-Ok.ensures.ok in
    IfOk-weaker c.begin_anew.result _ _ (λ text opens. opened_as c.args.self.now _ c.in-Ok.disk (string_bytes text) was.0 was.1 opens) c.begin_anew.ensures.ok

pub returns-in-Ok-clause-told : goal.returns-in-Ok-clause-told
returns-in-Ok-clause-told c =
    let was = subst (λ s. (c.in-Ok.disk ≡ disk_of s) × StandsAs s c.in-Ok.disk) c.replace.ensures.value c.in-Ok.ensures.ok in
    IfErr-weaker c.begin_anew.result _ _ (λ fault told. told_as c.args.self.now c.in-Ok.disk (disk_of c.begin_anew.new.self) fault was.0 told) c.begin_anew.ensures.told
