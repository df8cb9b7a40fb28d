use Rattle.std.proofs.Common.{◌∙◌, ap, sym}
use Rattle.std.specs.List.{list_any}
use Rattle.broker_state.specs.Operations.{uses}
use Rattle.broker_tables.proofs.Users.{all_left, beside_other, beside_user}
use Rattle.broker_tables.proofs.tables.is_used_beside.Goals as goal

pub returns-in_default : goal.returns-in_default
returns-in_default c s same =
    c.is_used.ensures ∙ sym (ap (list_any (uses c.args.name.now)) (all_left c.args.name.now s c.args.session c.args.id.now c.args.order.now.all same c.in_default.ensures))

pub returns-then-is_user : goal.returns-then-is_user
returns-then-is_user c s same =
    let first = c.in-Some.ensures in
    beside_user c.args.name.now s c.args.session c.args.id.now c.args.order.now.all same c.in-Some.key first c.count_under-users.result c.count_under-users.ensures
    (ap (uses c.args.name.now) (sym (c.get.ensures.sub first.at first.waiter first.there)) ∙ sym c.is_user.ensures ∙ c.if-is_user.true)

pub returns : goal.returns
returns c s same =
    let first = c.in-Some.ensures in
    beside_other c.args.name.now s c.args.session c.args.id.now c.args.order.now.all same c.in-Some.key first c.count_under-users.result c.count_under-users.ensures
    (ap (uses c.args.name.now) (sym (c.get.ensures.sub first.at first.waiter first.there)) ∙ sym c.is_user.ensures ∙ c.if-is_user.false)
