use Rattle.std.proofs.Common.{arith, subst}
use Rattle.waiting_order.specs.Directories.{IsNext, is_in}
use Rattle.waiting_order.proofs.Directories.{somebody}
use Rattle.broker_tables.proofs.Dues.{clash}
use Rattle.broker_tables.proofs.stock.first_in.Goals as goal

pub unreachable-requires : goal.unreachable-requires
unreachable-requires c =
    let ws = c.args.order.now.all in
    let m = (somebody (is_in c.args.group) ws c.requires).1 in
    let none = subst (IsNext (is_in c.args.group) ws 0) c.in_default.is c.next_in.ensures in
    clash (is_in c.args.group m.entry.1) m.passes (none m.at m.entry m.there (omega arith))
