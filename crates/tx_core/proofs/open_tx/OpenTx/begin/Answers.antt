use Rattle.std.proofs.Common.{List, ℕ, arith, sym, subst}
use Rattle.tx_core.specs.Places.{HasNone, IsPlace}
use Rattle.tx_core.specs.Transactions.{begun}
use Rattle.tx_core.proofs.Named.{open_after_put, is_begun, has_four, may_begin, open_with_one}
use Rattle.tx_core.proofs.open_tx.OpenTx.begin.Goals as goal

pub returns-in-Some-clause-refused : goal.returns-in-Some-clause-refused
returns-in-Some-clause-refused c =
    rw (← c.self.view_is) (sym (is_begun c.args.name c.self.inside.all.items c.in-Some.field-0 (subst (λ (name : List ℕ). IsPlace name c.self.inside.all.items c.in-Some.field-0) c.as_str.ensures.text c.in-Some.ensures)))

pub returns-then-len-ge4-clause-refused : goal.returns-then-len-ge4-clause-refused
returns-then-len-ge4-clause-refused c =
    rw (← c.self.view_is) (sym (has_four c.args.name c.self.inside.all.items (subst (λ (name : List ℕ). HasNone name c.self.inside.all.items) c.as_str.ensures.text c.in_default.ensures) (omega (arith, c.len.ensures, c.if-len-ge4.true))))

pub returns-clause-allowed : goal.returns-clause-allowed
returns-clause-allowed c =
    rw (← c.self.view_is) (may_begin c.args.name c.self.inside.all.items (subst (λ (name : List ℕ). HasNone name c.self.inside.all.items) c.as_str.ensures.text c.in_default.ensures) (omega (arith, c.len.ensures, c.if-len-ge4.false)))

pub invariant_of-self-2 : goal.invariant_of-self-2
invariant_of-self-2 c =
    let none = subst (λ (name : List ℕ). HasNone name c.self.inside.all.items) c.as_str.ensures.text c.in_default.ensures in
    let more = open_with_one c.args.name c.self.inside.all.items none (omega (arith, c.len.ensures, c.if-len-ge4.false)) c.self.invariant in
    open_after_put c.put.result c.self.inside.all.items (begun c.args.name c.self.inside.all.items) c.put.new.all.items (rw c.new.ensures at c.put.ensures.ok) c.put.ensures.same c.self.invariant more
