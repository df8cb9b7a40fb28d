use Rattle.hub_tests.proofs.hubs.close.Goals as goal

pub returns-in-Ok : goal.returns-in-Ok
returns-in-Ok c =
    let closes = c.in-Ok.ensures.closes in
    let disk = c.in-Ok.closed.disk in
    record { holds = (closes.0, closes.1.holds tt (record { size = c.args.party.flusher.size; content = disk.content; held = disk.held })) }
