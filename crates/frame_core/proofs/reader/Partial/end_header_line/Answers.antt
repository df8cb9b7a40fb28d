use Rattle.std.proofs.Common.{List, ℕ, MatchOption, ◌∷◌, [], ◌++◌, ◌+◌, false, ◌<◌, ◌-◌, take, drop, length, subst, sym, ap, ◌∙◌, arith}
use Rattle.std.proofs.lemmas.Result.{err_from_is_err_and, on_ok_weaker}
use Rattle.frame_core.specs.declared.reader.Section.TheVariants.{HeaderLines, Body}
use Rattle.frame_core.specs.declared.reader.Partial.{Partial}
use Rattle.frame_core.specs.Partials.{IsAt}
use Rattle.frame_core.specs.Parts.{Plans}
use Rattle.frame_core.specs.Stops.{IfFault, IsPlanFault, IsHeaderFault, IsHeaderText}
use Rattle.frame_core.proofs.OpenLines.{text_is}
use Rattle.frame_core.proofs.HeadSteps.{header_ends, body_begins}
use Rattle.frame_core.proofs.HeadFaults.{header_refused, one_too_many, plan_refused, if_fault}
use Rattle.frame_core.proofs.NextLines.{line_ends}
use Rattle.frame_core.proofs.reader.Partial.end_header_line.Goals as goal

pub returns-in_err-plan-clause-fault : goal.returns-in_err-plan-clause-fault
returns-in_err-plan-clause-fault c =
    let p = c.args.self.now in
    let h = c.requires.kept in
    let q = err_from_is_err_and c.from_residual.result c.from_residual.ensures.1 in
    let fault = c.in_err-plan.field-0.0 in
    let why : IsPlanFault c.args.verb p.headers.items fault = subst (λ x. IsPlanFault c.args.verb x fault) c.as_slice.ensures.value c.in_err-plan.ensures in
    rw (q.1, q.2) (plan_refused c.args.verb p.head.items p.line p.with_cr p.headers.items p.body.items h fault (sym c.text_end-end.ensures ∙ c.if-end-self.true) c.requires.room why)

pub returns-then-end-self-clause-ok : goal.returns-then-end-self-clause-ok
returns-then-end-self-clause-ok c =
    let p = c.args.self.now in
    let h = c.requires.kept in
    let plan = c.in_ok-plan.plan in
    let plans : Plans c.args.verb p.headers.items plan = subst (λ x. Plans c.args.verb x plan) c.as_slice.ensures.value c.in_ok-plan.ensures in
    let begins = body_begins c.args.verb plan p.head.items p.line p.with_cr p.headers.items p.body.items h (sym c.text_end-end.ensures ∙ c.if-end-self.true) c.requires.room plans in
    on_ok_weaker c.next_line.result (line_ends (Body c.args.verb plan) p c.next_line.new.self h.4 begins) c.next_line.ensures.ok

pub returns-in_err-header-clause-fault : goal.returns-in_err-header-clause-fault
returns-in_err-header-clause-fault c =
    let p = c.args.self.now in
    let h = c.requires.kept in
    let text = ap (λ x. take (c.text_end-end.result - p.line) (drop p.line x)) c.deref-2.ensures.value
    ∙ text_is p.head.items p.line p.with_cr h.0 h.1 c.text_end-end.result c.text_end-end.ensures in
    let q = err_from_is_err_and c.from_residual-in_err-header.result c.from_residual-in_err-header.ensures.1 in
    let stop = c.in_err-header.field-0.0 in
    let why : IfFault stop (IsHeaderFault c.args.verb h.1.part) = subst (λ x. IfFault stop (IsHeaderFault c.args.verb x)) text c.in_err-header.ensures.fault in
    rw (q.1, q.2) (if_fault stop _ _ (λ fault reason.
    header_refused c.args.verb p.head.items p.line p.with_cr p.headers.items p.body.items h fault (λ e. c.if-end-self.false (c.text_end-end.ensures ∙ e)) c.requires.room reason) why)

pub returns-then-len-eq-MAX_HEADERS-clause-fault : goal.returns-then-len-eq-MAX_HEADERS-clause-fault
returns-then-len-eq-MAX_HEADERS-clause-fault c =
    let p = c.args.self.now in
    let h = c.requires.kept in
    let text = ap (λ x. take (c.text_end-end.result - p.line) (drop p.line x)) c.deref.ensures.value
    ∙ text_is p.head.items p.line p.with_cr h.0 h.1 c.text_end-end.result c.text_end-end.ensures in
    let refusal = c.refusal_of-refusal.result in
    let why = subst (λ x. MatchOption refusal ((header : List ℕ × List ℕ) × IsHeaderText c.args.verb x header) (IsHeaderFault c.args.verb x)) text c.refusal_of-refusal.ensures in
    rw c.unwrap_or.ensures (one_too_many c.args.verb p.head.items p.line p.with_cr p.headers.items p.body.items h refusal why (λ e. c.if-end-self.false (c.text_end-end.ensures ∙ e)) (omega arith) c.requires.room)

pub returns-clause-ok : goal.returns-clause-ok
returns-clause-ok c =
    let p = c.args.self.now in
    let h = c.requires.kept in
    let text = ap (λ x. take (c.text_end-end.result - p.line) (drop p.line x)) c.deref-2.ensures.value
    ∙ text_is p.head.items p.line p.with_cr h.0 h.1 c.text_end-end.result c.text_end-end.ensures in
    let header = c.in_ok-header.header in
    let line : IsHeaderText c.args.verb h.1.part header = subst (λ x. IsHeaderText c.args.verb x header) text c.in_ok-header.ensures.ok in
    let few : length p.headers.items < 64 = omega (arith, h.3) in
    let ends = header_ends c.args.verb p.head.items p.line p.with_cr p.headers.items p.body.items h header line few c.requires.room in
    let old : Partial = record p { headers = c.push.new.self } in
    let next : IsAt (HeaderLines c.args.verb) (p.head.items ++ 10 ∷ []) (length p.head.items + 1) false c.push.new.self.items p.body.items = rw c.in_ok-push.ensures.items ends in
    on_ok_weaker c.next_line-2.result (line_ends (HeaderLines c.args.verb) old c.next_line-2.new.self h.4 next) c.next_line-2.ensures.ok
