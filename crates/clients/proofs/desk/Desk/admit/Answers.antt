use Rattle.std.proofs.Common.{ap, arith, refl, subst, ◌∙◌}
use Rattle.clients.specs.Connections.{ConnectionValue}
use Rattle.clients.specs.Places.{progress_at}
use Rattle.clients.specs.Desks.{DeskValue, seated_at}
use Rattle.clients.specs.Clients.{IsNew}
use Rattle.clients.proofs.FootprintSums.{counted_taken}
use Rattle.clients.proofs.DeskPlaces.{admits, nobody_is, taken_place, within_reach}
use Rattle.clients.proofs.desk.Desk.admit.Goals as goal

pub index_mut-requires : goal.index_mut-requires
index_mut-requires g c = omega (arith, within_reach c.self.inside.places.items c.add_places.new.places.items c.args.at c.in-Ok.ensures.ok)

pub invariant_of-self : goal.invariant_of-self
invariant_of-self g c = (
  taken_place c.self.inside.before.value c.self.inside.seat c.self.inside.places.items c.add_places.new.places.items c.args.at c.index_mut.result.now c.take_place.new.place
      c.in-Ok.ensures.ok c.index_mut.ensures.value (ap progress_at c.take_place.ensures ∙ ap (λ (x : ConnectionValue). x.progress) c.new-client.ensures.connection) c.self.invariant.0,
  counted_taken c.self.inside.limit c.self.inside.counted c.self.inside.places.items c.add_places.new.places.items c.args.at c.index_mut.result.now c.take_place.new.place _
      c.in-Ok.ensures.ok c.index_mut.ensures.value (ap (λ (d : DeskValue _ _). seated_at d.places c.args.at) c.self.view_is ∙ nobody_is _ c.is_taken.result c.is_taken.ensures c.if-is_taken.false) c.take_place.ensures c.new-client.ensures.connection c.self.invariant.1,
)

pub returns-in-Ok-clause-ok : goal.returns-in-Ok-clause-ok
returns-in-Ok-clause-ok g c =
    admits c.args.self.now c.self.inside.limit c.self.inside.before.value c.self.inside.seat c.self.inside.places.items c.add_places.new.places.items c.args.at c.take_place.new.place _ c.args.link
    c.self.view_is c.in-Ok.ensures.ok (nobody_is _ c.is_taken.result c.is_taken.ensures c.if-is_taken.false) c.take_place.ensures refl (subst (λ n. IsNew n c.new-client.result) (ap (λ (d : DeskValue _ _). d.limit) c.self.view_is) c.new-client.ensures)
