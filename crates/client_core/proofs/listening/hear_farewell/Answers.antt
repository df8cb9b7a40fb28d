use Rattle.std.proofs.Common.{◌∷◌, [], rules}
use Rattle.client_core.specs.Answers.{said}
use Rattle.client_core.specs.Talks.{Adds, Said}
use Rattle.client_core.specs.declared.probe.Probe.TheVariants.{Disconnect}
use Rattle.client_core.proofs.Leaving.{said_first}
use Rattle.client_core.proofs.listening.hear_farewell.Goals as goal

pub returns-in-Ok : goal.returns-in-Ok
returns-in-Ok g c =
    let talk = g.P.Peer.talk in
    let told : Adds (Said (said Disconnect) ∷ []) (talk c.args.peer.now) (talk c.say.new.self) = search rules in
    said_first c.hear_receipt.result (said Disconnect) c.args.reader.now.rest (talk c.args.peer.now) (talk c.say.new.self) (talk c.hear_receipt.new.peer) told c.hear_receipt.ensures
