use Rattle.std.proofs.Common.{◌↔◌, IsTrue, subst}
use Rattle.frame_core.specs.Writable.{HasNoNul}
use Rattle.frame_core.proofs.write.has_end.Goals as goal

pub returns-in-None : goal.returns-in-None
returns-in-None c =
    rw c.in-None.ensures (subst (λ body. IsTrue c.has_no_nul.result ↔ HasNoNul body) c.as_slice-body.ensures c.has_no_nul.ensures)
