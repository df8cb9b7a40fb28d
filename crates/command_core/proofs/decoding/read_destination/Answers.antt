use Rattle.command_core.proofs.RecordTexts.{destination_read, none_read_as_destination}
use Rattle.command_core.proofs.decoding.read_destination.Goals as goal

pub returns-in-Ok : goal.returns-in-Ok
returns-in-Ok c =
    let read = c.in_ok-text in
    let said = c.in-Ok.ensures.ok in
    rw said.0 (destination_read c.args.bytes.now read.text.now read.rest.now read.ensures.read said.1)

pub returns-in-Err-Bad : goal.returns-in-Err-Bad
returns-in-Err-Bad c =
    let read = c.in_ok-text in
    none_read_as_destination c.args.bytes.now read.text.now read.rest.now read.ensures.read (c.in-Err-Bad.ensures.bad.0 cc)
