use Rattle.std.proofs.Common.{subst, take}
use Rattle.std.proofs.lemmas.List.{take_rest}
use Rattle.std.specs.Io.KnownBytes.{Appends}
use Rattle.ws_core.proofs.Consuming.{wrote_on}
use Rattle.ws_core.proofs.refusal.say_piece.Goals as goal

pub returns-in-Ok-clause-wrote : goal.returns-in-Ok-clause-wrote
returns-in-Ok-clause-wrote g c =
    wrote_on _ _ c.args.said.now c.in-Ok.count c.args.response.now
    (subst (λ rest. Appends (g.S.Write.contents c.args.stream.now) (g.S.Write.contents c.write.new.self) (take c.in-Ok.count rest))
    (take_rest c.args.response.now c.args.said.now) c.in-Ok.ensures.bytes)
