use Rattle.std.proofs.Common.{sym, subst}
use Rattle.flush_core.specs.Flusher.{HoldBetween}
use Rattle.flush_core.proofs.flusher.Flusher.into_disk.Goals as goal

pub returns-clause-held : goal.returns-clause-held
returns-clause-held g c =
    subst (λ (d : g.row.D.Denot). g.D.Disk.honest d → HoldBetween (g.D.Disk.images d) c.args.self.opening c.args.self.seat) (sym c.into_parts-disk.ensures.parts.0) c.into_parts-disk.ensures.kept.each
