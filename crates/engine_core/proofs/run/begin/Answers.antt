use Rattle.std.proofs.Common.{ap, refl}
use Rattle.engine_core.specs.declared.script.Script.TheVariants.{Running}
use Rattle.engine_core.proofs.run.begin.Goals as goal

pub returns-in-Ok-clause-ok : goal.returns-in-Ok-clause-ok
returns-in-Ok-clause-ok c =
    let made = c.in-Ok.ensures in
    record {
      start = c.in-Ok.journal.state;
      first = c.in-Ok.journal.disk;
      opened = record { restart = made.stood; stands = made.stands; calm = made.calm };
      script = ap Running c.over.ensures;
      begun = c.new.ensures.items;
      lines = refl;
    }
