use Rattle.std.proofs.Common.{subst, sym}
use Rattle.json_line.specs.Objects.{Adds}
use Rattle.event_log.specs.Objects.{members_of}
use Rattle.event_log.proofs.object.put_members.Goals as goal

pub returns-in-Compacted : goal.returns-in-Compacted
returns-in-Compacted c =
    subst (λ event. Adds c.put_two-in-Compacted.result c.args.out.now c.put_two-in-Compacted.new.out (members_of event)) (sym c.in-Compacted.is) c.put_two-in-Compacted.ensures
