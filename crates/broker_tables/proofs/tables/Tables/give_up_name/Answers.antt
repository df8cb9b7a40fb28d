use Rattle.std.proofs.Common.{rules, ◌≡◌, ◌∙◌, Ok, true, false, ap, is_some, refl, subst, sym}
use Rattle.broker_state.specs.Operations.{forgotten, given_up, topic_of, without_named}
use Rattle.broker_state.specs.States.{State}
use Rattle.broker_tables.specs.Stocks.{shown}
use Rattle.broker_tables.specs.Tables.{TablesValue}
use Rattle.broker_tables.proofs.Operating.{durables_left, given_up_is}
use Rattle.broker_tables.proofs.tables.Tables.give_up_name.Goals as goal

pub returns-then-is_used_by_others-clause-given_up : goal.returns-then-is_used_by_others-clause-given_up
returns-then-is_used_by_others-clause-given_up c =
    let a = c.self.inside in
    let s = shown a.count a.sessions.entries a.durables a.stock in
    let name = c.args.name.now in
    let known : is_some (topic_of name a.durables) ≡ true = search rules in
    let left = ap (λ d. is_some (topic_of name d)) (durables_left s c.args.session c.args.id.now) ∙ known in
    rw (← c.self.view_is) (given_up_is (without_named s c.args.session c.args.id.now) name true true left (sym (c.is_used_by_others.ensures s refl) ∙ c.if-is_used_by_others.true))

pub returns-clause-given_up : goal.returns-clause-given_up
returns-clause-given_up c =
    let a = c.self.inside in
    let s = shown a.count a.sessions.entries a.durables a.stock in
    let name = c.args.name.now in
    let known : is_some (topic_of name a.durables) ≡ true = search rules in
    let left = ap (λ d. is_some (topic_of name d)) (durables_left s c.args.session c.args.id.now) ∙ known in
    let given = given_up_is (without_named s c.args.session c.args.id.now) name true false left (sym (c.is_used_by_others.ensures s refl) ∙ c.if-is_used_by_others.false) in
    let ended = c.in_ok-end_given.ensures.ended in
    subst (λ (b : TablesValue). given_up (without_named b.state c.args.session c.args.id.now) name ≡ Ok (forgotten (without_named b.state c.args.session c.args.id.now) name)) c.self.view_is given
    ∙ sym (ap (λ (s : State). Ok s) (ap (λ (b : TablesValue). b.state) c.forget.ensures ∙ ap (λ (s : State). forgotten s name) ended))
