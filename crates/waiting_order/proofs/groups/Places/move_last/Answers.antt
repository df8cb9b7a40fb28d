use Rattle.std.proofs.Common.{◌≡◌, ◌<◌, ◌∙◌, ◌++◌, ◌∷◌, [], List, ap, remove, rules}
use Rattle.broker_state.proofs.Weights.{all_removed}
use Rattle.waiting_order.specs.declared.groups.Place.{Place}
use Rattle.waiting_order.proofs.Rising.{index_there, removed_without, rising_pushed, rising_removed, ticket}
use Rattle.waiting_order.proofs.groups.Places.move_last.Goals as goal

pub invariant_of-self : goal.invariant_of-self
invariant_of-self c =
    let ps = c.self.inside.all.items in
    let at = c.index_of-at.result in
    let is : c.remove.new.self.items ≡ remove ps at = search rules in
    rw (c.push_back_reserved.ensures.items, is) (rising_pushed ticket (remove ps at) c.args.place (rising_removed ticket ps at c.self.invariant) (all_removed (λ (p : Place). p.ticket < c.args.place.ticket) ps at (rw (← c.self.view_is) at c.requires.last)))

pub returns : goal.returns
returns c =
    let ps = c.self.inside.all.items in
    let at = c.index_of-at.result in
    let is : c.remove.new.self.items ≡ remove ps at = search rules in
    let p = index_there ps c.self.invariant c.args.ticket at (rw (← c.self.view_is) at c.index_of-at.ensures.index) (rw (← c.self.view_is) at c.requires.there) in
    rw (← c.self.view_is) (c.push_back_reserved.ensures.items ∙ ap (λ (l : List Place). l ++ c.args.place ∷ []) (is ∙ removed_without ps at c.args.ticket p.0 c.self.invariant p.1 p.2))
