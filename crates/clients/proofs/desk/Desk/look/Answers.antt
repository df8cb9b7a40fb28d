use Rattle.clients.proofs.DeskPlaces.{looked, looks, talk_apart}
use Rattle.clients.proofs.desk.Desk.look.Goals as goal

pub invariant_of-self : goal.invariant_of-self
invariant_of-self g c = (looked c.self.inside.before.value c.self.inside.seat c.look.new.seat c.look.result c.self.inside.places.items c.look.ensures.seen c.self.invariant.0, c.self.invariant.1)

pub returns-clause-looks : goal.returns-clause-looks
returns-clause-looks g c = looks c.args.self.now c.self.inside.limit c.self.inside.before.value c.self.inside.seat c.look.new.seat c.look.result c.self.inside.places.items c.self.view_is c.look.ensures.seen

pub returns-clause-apart : goal.returns-clause-apart
returns-clause-apart g c =
    talk_apart _ _ _ _ _ (looked c.self.inside.before.value c.self.inside.seat c.look.new.seat c.look.result c.self.inside.places.items c.look.ensures.seen c.self.invariant.0) c.self.invariant.1
