use Rattle.broker_state.specs.PartsOf.{state_of_parts}
use Rattle.std.proofs.Common.{refl}
use Rattle.broker_tables.proofs.Keeping.{kept_of}
use Rattle.broker_tables.proofs.tables.Tables.of.Goals as goal

pub invariant_of-result : goal.invariant_of-result
invariant_of-result c _ =
    let p = c.args.parts in
    kept_of (state_of_parts p) (record { order = c.in_ok-order.order; shared = c.of-3.result; held = c.args.held; next_delivery = p.next_delivery }) c.new.result.items
    c.of-3.ensures c.in_ok-order.ensures.subs c.new.ensures.items c.requires.sound c.requires.messages c.requires.bytes c.in_ok-order.ensures.small refl
