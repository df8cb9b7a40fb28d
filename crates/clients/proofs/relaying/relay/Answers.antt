use Rattle.clients.proofs.relaying.relay.Goals as goal

pub returns-in-Err-clause-relays : goal.returns-in-Err-clause-relays
returns-in-Err-clause-relays g c = c.in-Err.ensures.none c.args.session (g.L.Outgoing.sent c.args.link.now)
