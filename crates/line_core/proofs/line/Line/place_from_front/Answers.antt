use Rattle.std.proofs.Common.{◌≡◌, ◌∙◌, true, sym, ap, arith}
use Rattle.std.specs.Cmp.{Some-then}
use Rattle.std.specs.Ordering.{is_lt, is_some_and, nat_cmp}
use Rattle.line_core.specs.declared.message.Message.{Message}
use Rattle.line_core.specs.Lines.{by_number}
use Rattle.line_core.proofs.Inserted.{stands_at}
use Rattle.line_core.proofs.line.Line.place_from_front.Goals as goal

pub returns-then-lt-clause-place : goal.returns-then-lt-clause-place
returns-then-lt-clause-place c =
    let line = c.self.inside.messages.items in
    let place = c.loop-place.place in
    let less : is_lt (by_number c.args.number.now c.index.result.now.number) ≡ true =
    sym (ap (is_some_and is_lt) (Some-then (nat_cmp c.args.number.now.command c.index.result.now.number.command) (nat_cmp c.args.number.now.place c.index.result.now.number.place))) ∙ sym c.lt.ensures ∙ c.if-lt.true in
    let is = ap (λ (x : Message). is_lt (by_number c.args.number.now x.number)) (sym c.index.ensures) ∙ less in
    rw (← c.self.view_is) (stands_at c.args.number.now c.index.result.now line place (omega arith) c.loop-place.invariant (λ inside. is))

pub returns-clause-place : goal.returns-clause-place
returns-clause-place c =
    let line = c.self.inside.messages.items in
    let end : c.loop-place.place ≡ c.len-count.result = omega arith in
    rw (← c.self.view_is, ← end) (λ m is. stands_at c.args.number.now m line c.loop-place.place (omega arith) c.loop-place.invariant (λ inside. absurd (omega arith)) m is)
