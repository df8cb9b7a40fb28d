use Rattle.std.proofs.Common.{◌≡◌, ◌==◌, ◌∙◌, false, ap, arith, remove, rules, sym}
use Rattle.std.proofs.lemmas.Bool.Decides.{nat_tests}
use Rattle.std.proofs.lemmas.Option.{none-some, same_Some}
use Rattle.waiting_order.specs.declared.groups.Place.{Place}
use Rattle.waiting_order.proofs.Rising.{index_none, removed_without, rising_removed, ticket}
use Rattle.waiting_order.proofs.groups.Places.take_out.Goals as goal

pub invariant_of-self : goal.invariant_of-self
invariant_of-self c =
    let ps = c.self.inside.all.items in
    let is : c.remove.new.self.items ≡ remove ps c.index_of-at.result = search rules in
    rw is (rising_removed ticket ps c.index_of-at.result c.self.invariant)

pub returns : goal.returns
returns c =
    let ps = c.self.inside.all.items in
    let is : c.remove.new.self.items ≡ remove ps c.index_of-at.result = search rules in
    let same = c.if-place-ticket.false in
    rw (← c.self.view_is) (is ∙ removed_without ps c.index_of-at.result c.args.ticket c.in-Some.place c.self.invariant (rw (← c.self.view_is) at (sym c.get.ensures ∙ c.in-Some.is)) same)

pub returns-in_default : goal.returns-in_default
returns-in_default c =
    let ps = c.self.inside.all.items in
    rw (← c.self.view_is) (index_none ps c.self.invariant c.args.ticket c.index_of-at.result (rw (← c.self.view_is) at c.index_of-at.ensures.index) (λ p is. absurd (none-some p (rw (← c.self.view_is) at (sym c.in_default.is ∙ c.get.ensures) ∙ is))))

pub returns-then-place-ticket : goal.returns-then-place-ticket
returns-then-place-ticket c =
    let ps = c.self.inside.all.items in
    let other : (c.in-Some.place.ticket == c.args.ticket) ≡ false = grind (arith, nat_tests) in
    rw (← c.self.view_is) (index_none ps c.self.invariant c.args.ticket c.index_of-at.result (rw (← c.self.view_is) at c.index_of-at.ensures.index) (λ p is. ap (λ (q : Place). q.ticket == c.args.ticket) (same_Some p c.in-Some.place (sym is ∙ rw (← c.self.view_is) at (sym c.get.ensures ∙ c.in-Some.is))) ∙ other))
