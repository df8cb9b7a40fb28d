use Rattle.snapshot_core.proofs.NameLists.{lines_more, topics_more}
use Rattle.snapshot_core.proofs.writing.tables_of.Goals as goal

pub loop-name-preserved-in_ok-insert : goal.loop-name-preserved-in_ok-insert
loop-name-preserved-in_ok-insert c =
    let now = c.loop-name in
    let next = c.in-Some in
    let more = c.next.new.self.rest.items in
    record {
      topics = topics_more now.topics.entries c.insert.new.self.entries next.name next.topic next.line now.name-iterator.rest.items more c.args.names.items c.requires now.invariant.topics next.ensures.steps.0 c.in_ok-insert.ensures.entries;
      lines = lines_more now.lines.entries c.put_line.new.lines.entries next.name next.topic next.line now.name-iterator.rest.items more c.args.names.items c.requires now.invariant.lines next.ensures.steps.0 c.in_ok-put_line.ensures;
    }

pub loop-name-preserved : goal.loop-name-preserved
loop-name-preserved c =
    let now = c.loop-name in
    let next = c.in-Some in
    let more = c.next.new.self.rest.items in
    record {
      topics = topics_more now.topics.entries c.insert.new.self.entries next.name next.topic next.line now.name-iterator.rest.items more c.args.names.items c.requires now.invariant.topics next.ensures.steps.0 c.in_ok-insert.ensures.entries;
      lines = lines_more now.lines.entries c.put_line.new.lines.entries next.name next.topic next.line now.name-iterator.rest.items more c.args.names.items c.requires now.invariant.lines next.ensures.steps.0 c.in_ok-put_line.ensures;
    }
