use Rattle.std.proofs.Common.{List, Option}
use Rattle.client_core.specs.Listening.{ListensIn}
use Rattle.client_core.specs.Talks.{Adds, Spoken}
use Rattle.client_core.proofs.Turns.{closed}
use Rattle.client_core.proofs.listening.listen_in.Goals as goal

pub returns-in-Ok : goal.returns-in-Ok
returns-in-Ok g c =
    let talk = g.L.Peer.talk in
    let whole = λ (z : Option (List Spoken)). (all : List Spoken) × ListensIn c.args.plan.now all × Adds all (talk c.args.peer.now) z in
    closed whole c.close.result (talk c.hear_all-listened.new.peer) (talk c.close.new.peer) c.close.ensures.told c.in-Ok.ensures
