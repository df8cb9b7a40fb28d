use Rattle.ws_core.proofs.Telling.{told}
use Rattle.ws_core.proofs.handshake.Greeting.say.Goals as goal

pub returns-in-Ok-true : goal.returns-in-Ok-true
returns-in-Ok-true g c =
    let gone = c.in-Ok-true.ensures in
    rw (← c.self.view_is)
    (c.done.ensures _ c.self.inside.head.items
    (told g.S.Read.remaining g.S.Write.contents _ c.self.inside.head.items c.self.inside.stream c.go_on.new.stream c.in-Some.saying c.go_on.new.self c.self.inside.saying
    c.self.invariant c.in-Some.is gone.same.0 gone.same.1 gone.wrote (gone.all c.in-Ok-true.field-0-test)))
