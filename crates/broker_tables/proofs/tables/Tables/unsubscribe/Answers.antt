use Rattle.std.proofs.Common.{◌∙◌, Bool, None, ap, subst}
use Rattle.std.proofs.lemmas.Result.{IfOk-weaker}
use Rattle.broker_state.specs.Operations.{is_named, unsubscribed_by}
use Rattle.broker_tables.specs.Places.{EndsFirst}
use Rattle.broker_tables.proofs.Operating.{ended_id, ended_no_id}
use Rattle.broker_tables.proofs.tables.Tables.unsubscribe.Goals as goal

pub returns-in-Some-clause-executed : goal.returns-in-Some-clause-executed
returns-in-Some-clause-executed c =
    let s = c.args.self.now.state in
    IfOk-weaker c.give_up.result _ _ (λ r is. ap (unsubscribed_by s c.args.session c.args.id) c.in-Some.is ∙ is) (rw c.new.ensures at c.give_up.ensures.given_up)

pub returns-then-branch-clause-executed : goal.returns-then-branch-clause-executed
returns-then-branch-clause-executed c =
    let s = c.args.self.now.state in
    let t = c.end_sought.new.self.state in
    let id = c.in-Some-id.id in
    ap (unsubscribed_by s c.args.session c.args.id) c.in_default.is ∙ ap (λ i. unsubscribed_by s c.args.session i None) c.in-Some-id.is
    ∙ ended_id s t c.args.session id (subst (λ (b : Bool). EndsFirst (is_named c.args.session id) s t b) c.if-branch.true c.in_ok-end_sought.ensures.ended)

pub returns-clause-executed : goal.returns-clause-executed
returns-clause-executed c =
    let s = c.args.self.now.state in
    let t = c.end_sought.new.self.state in
    let id = c.in-Some-id.id in
    ap (unsubscribed_by s c.args.session c.args.id) c.in_default.is ∙ ap (λ i. unsubscribed_by s c.args.session i None) c.in-Some-id.is
    ∙ ended_no_id s t c.args.session id (subst (λ (b : Bool). EndsFirst (is_named c.args.session id) s t b) c.if-branch.false c.in_ok-end_sought.ensures.ended)
