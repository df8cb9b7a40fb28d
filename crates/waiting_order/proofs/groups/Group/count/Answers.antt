use Rattle.std.proofs.Common.{◌≡◌, ◌+◌, ◌∙◌, ap, arith, sym}
use Rattle.waiting_order.specs.Groups.{one}
use Rattle.waiting_order.proofs.groups.Group.count.Goals as goal

pub returns-then-is_behind : goal.returns-then-is_behind
returns-then-is_behind c =
    let g = c.args.self.now in
    ap (λ b. record g { behind = g.behind + one b }) (sym c.if-is_behind.true)

pub returns-else-is_behind : goal.returns-else-is_behind
returns-else-is_behind c =
    let g = c.args.self.now in
    let same : g.behind ≡ g.behind + one c.args.is_behind = omega (arith, ap one c.if-is_behind.false) in
    ap (λ n. record g { behind = n }) same
