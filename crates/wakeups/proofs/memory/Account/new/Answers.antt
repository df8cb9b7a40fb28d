use Rattle.std.proofs.Common.{rules, ◌≡◌, ◌≤◌, ◌*◌, length, arith}
use Rattle.std.proofs.lemmas.List.Sums.{sum_by-le}
use Rattle.std.specs.List.{slice_index_or}
use Rattle.std.specs.Prelude.{sum}
use Rattle.wakeups.proofs.memory.Account.new.Goals as goal

pub invariant_of-result : goal.invariant_of-result
invariant_of-result c =
    let bytes = c.new.result.bytes in
    let most : sum bytes ≤ length bytes * 0 = sum_by-le (λ x. x) 0 bytes (λ k d lt. omega (arith, c.new.ensures.nothing k d lt)) in
    let none : sum bytes ≡ 0 = omega (arith, most) in
    let first : slice_index_or bytes c.new.result.most 0 ≡ 0 = c.new.ensures.nothing c.new.result.most 0 (omega (arith, c.new.ensures.places, c.new.ensures.first)) in
    (omega (arith, none), omega (arith, first), search rules)
