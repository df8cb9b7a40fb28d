use Rattle.std.proofs.Common.{◌≡◌, subst}
use Rattle.std.proofs.lemmas.Bool.{eqb-true}
use Rattle.flush_core.specs.Flusher.{Flushed}
use Rattle.flush_core.proofs.flusher.Flusher.repeats_nothing.Goals as goal

pub returns : goal.returns
returns g c = λ yes. subst (λ (f : Flushed g.row.D.Denot). f.last.since ≡ f.stored) c.self.view_is (eqb-true c.self.inside.since c.self.inside.stored yes)
