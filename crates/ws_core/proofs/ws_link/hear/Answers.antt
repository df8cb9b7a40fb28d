use Rattle.std.proofs.Common.{Ok, rules, subst}
use Rattle.tungstenite.specs.Socket.{Reads}
use Rattle.ws_core.proofs.Failing.{answered, carried_binary, carried_text, told}
use Rattle.ws_core.proofs.ws_link.hear.Goals as goal

pub returns-in-Ok-Close-clause-hears : goal.returns-in-Ok-Close-clause-hears
returns-in-Ok-Close-clause-hears g c =
    answered g.S.Read.remaining g.S.Write.contents _ c.read.new.self c.flush.new.socket c.in-Ok-Close.field-0-0 c.flush.result c.said.result
    (subst (λ m. Reads g.S.Read.remaining c.args.socket.now c.read.new.self (Ok m)) c.in-Ok-Close.field-0-is c.in-Ok-Close.ensures) c.flush.ensures.wrote (search rules) (search rules)

pub returns-in-Some-clause-hears : goal.returns-in-Some-clause-hears
returns-in-Some-clause-hears g c =
    told g.S.Read.remaining g.S.Write.contents _ c.read.new.self c.say_failure.new.socket c.in-Err.error c.in-Some.code c.say_failure.result c.said-in-Some.result
    c.in-Err.ensures (search rules) c.say_failure.ensures.wrote (search rules) (search rules)

pub returns-in-Ok-Text-clause-hears : goal.returns-in-Ok-Text-clause-hears
returns-in-Ok-Text-clause-hears g c =
    carried_text g.S.Read.remaining g.S.Write.contents _ c.read.new.self c.in-Ok-Text.text c.bytes_of.result
    (subst (λ m. Reads g.S.Read.remaining c.args.socket.now c.read.new.self (Ok m)) c.in-Ok-Text.field-0-is c.in-Ok-Text.ensures) (search rules)

pub returns-in-Ok-Binary-clause-hears : goal.returns-in-Ok-Binary-clause-hears
returns-in-Ok-Binary-clause-hears g c =
    carried_binary g.S.Read.remaining g.S.Write.contents _ c.read.new.self c.in-Ok-Binary.bytes c.bytes_of-in-Ok-Binary.result
    (subst (λ m. Reads g.S.Read.remaining c.args.socket.now c.read.new.self (Ok m)) c.in-Ok-Binary.field-0-is c.in-Ok-Binary.ensures) (search rules)
