use Rattle.std.proofs.Common.{◌&&◌, ◌∙◌, ap, not, sym}
use Rattle.std.specs.List.{list_any}
use Rattle.broker_state.specs.Operations.{uses}
use Rattle.waiting_order.specs.Waiting.{subs_of}
use Rattle.broker_tables.proofs.tables.may_be_used.Goals as goal

pub returns-then-eq : goal.returns-then-eq
returns-then-eq c =
    let free = not (list_any (uses c.args.name.now) (subs_of c.args.order.now.all)) in
    ap not c.is_used.ensures ∙ sym (ap (λ b. b && free) (sym c.eq.ensures ∙ c.if-eq.true))

pub returns-else-eq : goal.returns-else-eq
returns-else-eq c =
    let free = not (list_any (uses c.args.name.now) (subs_of c.args.order.now.all)) in
    c.if-eq.false ∙ sym (ap (λ b. b && free) (sym c.eq.ensures ∙ c.if-eq.false))
