use Rattle.std.proofs.Common.{arith}
use Rattle.frame_core.proofs.Writing.{line_written, text_written}
use Rattle.frame_core.proofs.write.write_headers.Goals as goal

pub loop-name-preserved : goal.loop-name-preserved
loop-name-preserved c =
    let headers = c.args.headers.now in
    let i = c.loop-name.name-index in
    let h = c.loop-name-item.result in
    record {
      lines = line_written c.args.verb headers i h _ _ _ _ _ (omega arith) c.loop-name-item.is c.as_str.ensures c.as_str-in-loop-name.ensures c.loop-name.invariant.lines c.in_ok-write_header.ensures.line;
      texts = text_written headers i h _ _ (omega arith) c.loop-name-item.is c.as_str.ensures c.as_str-in-loop-name.ensures c.as_str.utf8 c.as_str-in-loop-name.utf8 c.loop-name.invariant.texts;
    }
