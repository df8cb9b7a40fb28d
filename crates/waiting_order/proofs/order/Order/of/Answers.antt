use Rattle.std.proofs.Common.{◌++◌, ◌∷◌, ◌∙◌, List, cond, count_by, ap, arith, sym}
use Rattle.std.proofs.lemmas.List.Sums.{sum_by-append, sum_by-cons}
use Rattle.broker_state.specs.declared.subscription.Subscription.{Subscription}
use Rattle.broker_state.specs.Operations.{is_of}
use Rattle.waiting_order.specs.Waiting.{subs_of}
use Rattle.waiting_order.proofs.Seeking.{of_itself, one}
use Rattle.waiting_order.proofs.order.Order.of.Goals as goal

pub enter-requires-clause-few : goal.enter-requires-clause-few
enter-requires-clause-few c =
    let sub = c.in-Some.sub in
    let q = is_of sub.session in
    let done = subs_of c.loop-sub.waiters.all in
    let rest = c.next.new.self.rest.items in
    let steps = c.in-Some.ensures.steps.0 in
    let all = ap (λ (l : List Subscription). count_by q (done ++ l)) (sym steps) ∙ ap (count_by q) c.loop-sub.invariant.joined in
    omega (arith, all, c.requires sub.session, sum_by-append (λ (s : Subscription). cond (q s) 1 0) done (sub ∷ rest), sum_by-cons (λ (s : Subscription). cond (q s) 1 0) sub rest, ap one (of_itself sub))
