use Rattle.std.proofs.Common.{◌≡◌, ◌-◌, ◌∙◌, ap, arith, sym}
use Rattle.waiting_order.specs.Groups.{one}
use Rattle.waiting_order.proofs.groups.Group.take_out.Goals as goal

pub overflow_sub-self : goal.overflow_sub-self
overflow_sub-self c = omega (arith, c.requires, ap one c.if-is_behind.true)

pub returns-then-is_behind : goal.returns-then-is_behind
returns-then-is_behind c =
    let g = c.args.self.now in
    ap (λ b. record { places = c.take_out.new.self; behind = g.behind - one b }) (sym c.if-is_behind.true) ∙ ap (λ l. record { places = l; behind = g.behind - one c.args.is_behind }) c.take_out.ensures

pub returns-else-is_behind : goal.returns-else-is_behind
returns-else-is_behind c =
    let g = c.args.self.now in
    let same : g.behind ≡ g.behind - one c.args.is_behind = omega (arith, ap one c.if-is_behind.false) in
    ap (λ n. record { places = c.take_out.new.self; behind = n }) same ∙ ap (λ l. record { places = l; behind = g.behind - one c.args.is_behind }) c.take_out.ensures
