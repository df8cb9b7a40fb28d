use Rattle.std.proofs.Common.{◌≡◌, [], arith, subst}
use Rattle.std.proofs.lemmas.List.{nil_from_length}
use Rattle.ws_core.specs.Links.{Linked}
use Rattle.ws_core.specs.Receiving.{Listens}
use Rattle.ws_core.proofs.Failing.{hears_else}
use Rattle.ws_core.proofs.ws_link.WsLink.listen.Goals as goal

pub returns-in_default-clause-listens : goal.returns-in_default-clause-listens
returns-in_default-clause-listens g c =
    let none : c.self.inside.unfed.left ≡ [] = nil_from_length c.self.inside.unfed.left (omega (arith, c.len.ensures, c.if-len-gt0.false)) in
    let old : Linked g.row.S.Denot = record { socket = c.self.inside.socket; phase = c.self.inside.phase; held_up = c.self.inside.held_up; dropped = c.self.inside.dropped; unfed = c.self.inside.unfed.left; fed = c.self.inside.unfed.fed; holding = c.self.inside.holding } in
    let new : Linked g.row.S.Denot = record { socket = c.hear.new.socket; phase = c.self.inside.phase; held_up = c.hear.new.held_up; dropped = c.self.inside.dropped; unfed = c.self.inside.unfed.left; fed = c.self.inside.unfed.fed; holding = c.self.inside.holding } in
    subst (λ l. Listens g.S.Read.remaining g.S.Write.contents l new c.hear.result) c.self.view_is
    (hears_else g.S.Read.remaining g.S.Write.contents old new c.hear.result c.hear.ensures.hears c.in_default.not-Bytes none none)
