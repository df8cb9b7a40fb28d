use Rattle.std.proofs.Common.{◌≡◌, ◌++◌}
use Rattle.std.specs.Int.{w64, to_be_bytes}
use Rattle.snapshot_core.specs.Snapshots.{message}
use Rattle.snapshot_core.proofs.Puts.{last_put}
use Rattle.snapshot_core.specs.Parts.{written}
use Rattle.snapshot_core.proofs.writing.list_delivery.Goals as goal

pub returns-clause-put : goal.returns-clause-put
returns-clause-put c =
    let old = (written c.args.parts.now.items) in
    let number = to_be_bytes w64 c.args.number in
    let first : written c.list_number.new.parts.items ≡ old ++ number = c.in_ok-list_number.ensures.put in
    last_put c.list_message.result old number (message c.args.message.now) _ _ first c.list_message.ensures.put
