use Rattle.std.specs.Int.{w16, to_be_bytes}
use Rattle.std.proofs.Common.{length}
use Rattle.command_core.specs.Sendings.{IsKept}
use Rattle.command_core.specs.PartSpellings.{AreTexts, pair}
use Rattle.command_core.proofs.Walks.{all_at, all_more, put_more}
use Rattle.command_core.proofs.encoding.put_headers.Goals as goal

pub put_header-requires : goal.put_header-requires
put_header-requires c =
    record { kept = all_at IsKept c.args.headers.now c.loop-name.name-index _ c.loop-name-test.true c.loop-name-item.is c.requires.each }

pub loop-name-preserved : goal.loop-name-preserved
loop-name-preserved c =
    let headers = c.args.headers.now in
    let turn = c.loop-name in
    let item = c.loop-name-item in
    record {
      put = put_more pair c.args.out.now.items (to_be_bytes w16 (length headers)) turn.out.items _ headers turn.name-index _ c.loop-name-test.true item.is turn.invariant.put c.in_ok-put_header.ensures.put;
      form = all_more AreTexts headers turn.name-index _ c.loop-name-test.true item.is turn.invariant.form c.put_header.ensures.form;
    }
