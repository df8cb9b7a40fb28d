use Rattle.std.proofs.Common.{sym, ap, ◌∙◌}
use Rattle.flush_core.specs.Flusher.{Flushed}
use Rattle.engine_core.proofs.Beginning.{some_is, some_of, first, whole}
use Rattle.engine_core.proofs.hub.Hub.begin.Goals as goal

pub returns-in-Ok-clause-ok : goal.returns-in-Ok-clause-ok
returns-in-Ok-clause-ok g c =
    let is = sym c.unwrap-broker.ensures ∙ c.broker.ensures.broker in
    let small = some_of _ _ _ is c.requires.small in
    record {
      flusher = c.new-flusher.result;
      whole = whole _ _ _ _ _ c.of.ensures (first {disk = g.D.Disk} c.new-flusher.result c.broker.new.self c.in-Ok.seat c.unwrap-broker.result _ _ c.new-flusher.ensures c.in-Ok.ensures.flush small.1) c.in-Ok.ensures.count c.in-Ok.ensures.numbers;
      disk_is = ap (λ (f : Flushed g.row.D.Denot). f.disk) c.new-flusher.ensures ∙ c.broker.ensures.same.0;
      opening = some_is _ c.unwrap-broker.result _ is (ap (λ (f : Flushed g.row.D.Denot). f.opening) c.new-flusher.ensures);
    }
