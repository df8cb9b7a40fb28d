use Rattle.std.proofs.Common.{◌≡◌, ◌<◌, ℕ, true, length, length-append, arith, sym, ◌∙◌}
use Rattle.clients.specs.Lines.{may_join}
use Rattle.clients.proofs.LineKeeps.{joins, room_left, client_that_may, off_where_may, times_push}
use Rattle.clients.proofs.lines.ClientLine.join.Goals as goal

pub push_back_reserved-requires : goal.push_back_reserved-requires
push_back_reserved-requires c =
    let may : may_join c.args.client c.self.inside.order.items ≡ true = rw c.self.view_is (sym c.takes.ensures ∙ c.if-takes.true) in
    let off = off_where_may c.self.inside.order.items _ _ _ c.self.invariant may in
    let h : c.args.client < length c.self.inside.stands.items = rw c.self.invariant.all (client_that_may c.self.inside.order.items _ may) in
    let room = room_left _ _ _ _ c.self.invariant h off in
    omega (arith, room, c.self.inside.order.ok)

pub invariant_of-self : goal.invariant_of-self
invariant_of-self c =
    let may : may_join c.args.client c.self.inside.order.items ≡ true = rw c.self.view_is (sym c.takes.ensures ∙ c.if-takes.true) in
    let off = off_where_may c.self.inside.order.items _ _ _ c.self.invariant may in
    let h : c.args.client < length c.self.inside.stands.items = rw c.self.invariant.all (client_that_may c.self.inside.order.items _ may) in
    rw (c.push_back_reserved.ensures.items, c.push_back_reserved.ensures.capacity)
    (joins c.self.inside.order.items _ c.self.inside.stands.items _ c.args.client c.self.invariant h off (omega (arith, length-append {A = ℕ})) (λ m. times_push m c.args.client c.self.inside.order.items))
