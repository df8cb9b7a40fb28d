use Rattle.command_core.specs.Sendings.{IsKept}
use Rattle.command_core.specs.PartSpellings.{AreTexts}
use Rattle.command_core.proofs.Walks.{all_at, all_more}
use Rattle.snapshot_core.proofs.writing.stand_as_headers.Goals as goal

pub stands_as_header-requires : goal.stands_as_header-requires
stands_as_header-requires c =
    all_at IsKept c.args.headers.now c.loop-name.name-index _ c.loop-name-test.true c.loop-name-item.is c.requires

pub loop-name-preserved : goal.loop-name-preserved
loop-name-preserved c =
    all_more AreTexts c.args.headers.now c.loop-name.name-index _ c.loop-name-test.true c.loop-name-item.is c.loop-name.invariant c.stands_as_header.ensures
