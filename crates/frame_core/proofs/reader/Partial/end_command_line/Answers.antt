use Rattle.std.proofs.Common.{◌≡◌, ◌<◌, ◌-◌, cond, take, drop, length, subst, sym, ap, ◌∙◌, arith}
use Rattle.std.proofs.lemmas.Result.{err_from_is_err_and, on_ok_weaker}
use Rattle.frame_core.specs.declared.reader.Section.TheVariants.{HeaderLines}
use Rattle.frame_core.specs.Stops.{IsCommandFault}
use Rattle.frame_core.proofs.OpenLines.{text_is}
use Rattle.frame_core.proofs.HeadSteps.{gap_reads, gap_kept, command_ends}
use Rattle.frame_core.proofs.HeadFaults.{command_refused}
use Rattle.frame_core.proofs.NextLines.{line_ends}
use Rattle.frame_core.proofs.reader.Partial.end_command_line.Goals as goal

pub returns-then-end-eq0-clause-ok : goal.returns-then-end-eq0-clause-ok
returns-then-end-eq0-clause-ok c =
    let p = c.args.self.now in
    let h = c.requires.kept in
    let empty : length p.head.items - cond p.with_cr 1 0 ≡ 0 = sym c.text_end-end.ensures ∙ c.if-end-eq0.true in
    rw (c.clear.ensures.items, c.requires.section) (
      gap_reads p.head.items p.line p.with_cr p.headers.items p.body.items h empty,
      gap_kept p.head.items p.line p.with_cr p.headers.items p.body.items h,
    )

pub returns-in_err-verb-clause-fault : goal.returns-in_err-verb-clause-fault
returns-in_err-verb-clause-fault c =
    let p = c.args.self.now in
    let h = c.requires.kept in
    let text = ap (λ x. take (c.text_end-end.result - p.line) (drop p.line x)) c.deref.ensures.value
    ∙ text_is p.head.items p.line p.with_cr _ h.0 c.text_end-end.result c.text_end-end.ensures in
    let q = err_from_is_err_and c.from_residual.result c.from_residual.ensures.1 in
    let why : IsCommandFault h.0.part c.in_err-verb.field-0.0 = subst (λ x. IsCommandFault x c.in_err-verb.field-0.0) text c.in_err-verb.ensures in
    let some_byte : 0 < length p.head.items - cond p.with_cr 1 0 = subst (λ x. 0 < x) c.text_end-end.ensures (omega arith) in
    rw (q.1, q.2) (command_refused p.head.items p.line p.with_cr p.headers.items p.body.items h c.in_err-verb.field-0.0 some_byte c.requires.room why)

pub returns-clause-ok : goal.returns-clause-ok
returns-clause-ok c =
    let p = c.args.self.now in
    let h = c.requires.kept in
    let text = ap (λ x. take (c.text_end-end.result - p.line) (drop p.line x)) c.deref.ensures.value
    ∙ text_is p.head.items p.line p.with_cr _ h.0 c.text_end-end.result c.text_end-end.ensures in
    let verb = c.in_ok-verb.verb in
    let ends = command_ends verb p.head.items p.line p.with_cr p.headers.items p.body.items h (sym text ∙ c.in_ok-verb.ensures) c.requires.room in
    on_ok_weaker c.next_line.result (line_ends (HeaderLines verb) p c.next_line.new.self h.2 ends) c.next_line.ensures.ok
