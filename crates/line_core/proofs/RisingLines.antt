use Rattle.std.proofs.Common.{◌≡◌, ◌<◌, ◌≤◌, ◌-◌, List, [], ◌∷◌, ℕ, suc, zero, length, take, drop, get_or, arith}
use Rattle.std.specs.Cmp.{IsStrictWeakOrder, IsTotalOrder, on_total, then_total}
use Rattle.std.specs.List.{AllByRecursion}
use Rattle.std.specs.Ordering.{is_lt}
use Rattle.std.proofs.lemmas.Cmp.{nat_cmp_total}
use Rattle.std.proofs.lemmas.List.MinMax.{ranks_by}
use Rattle.line_core.specs.declared.message.Message.{Message}
use Rattle.line_core.specs.declared.message.MessageNumber.{MessageNumber}
use Rattle.line_core.specs.Lines.{IsRising, by_number}

pub by_number-total : IsTotalOrder by_number
by_number-total =
    then_total (on_total (λ (n : MessageNumber). n.command) nat_cmp_total) (on_total (λ (n : MessageNumber). n.place) nat_cmp_total)

-- messages rank by their numbers
pub ranks : IsStrictWeakOrder (λ (x y : Message). is_lt (by_number x.number y.number))
ranks = ranks_by by_number-total (λ (m : Message). m.number)

-- a line without its first message still rises
pub rising_rest : (line : List Message) → IsRising line → IsRising (drop 1 line)
rising_rest [] rising = tt
rising_rest (x ∷ line) rising = rising.1

pub all_taken_more : {X : Type 0} (P : X → Type 0) (xs : List X) (i : ℕ) (d : X) → i < length xs → AllByRecursion P (take i xs) → P (get_or xs i d) → AllByRecursion P (take (suc i) xs)
all_taken_more P [] i d inside all next = absurd (omega arith)
all_taken_more P (x ∷ xs) zero d inside all next = (next, tt)
all_taken_more P (x ∷ xs) (suc i) d inside all next = (all.0, all_taken_more P xs i d (omega arith) all.1 next)

all_dropped_more : {X : Type 0} (P : X → Type 0) (xs : List X) (i : ℕ) (d : X) → i < length xs → AllByRecursion P (drop (suc i) xs) → P (get_or xs i d) → AllByRecursion P (drop i xs)
all_dropped_more P [] i d inside all next = absurd (omega arith)
all_dropped_more P (x ∷ xs) zero d inside all next = (next, all)
all_dropped_more P (x ∷ xs) (suc i) d inside all next = all_dropped_more P xs i d (omega arith) all next

-- and one item more at the front of what is left out
pub all_dropped_less : {X : Type 0} (P : X → Type 0) (xs : List X) (i : ℕ) (d : X) → 0 < i → i ≤ length xs → AllByRecursion P (drop i xs) → P (get_or xs (i - 1) d) → AllByRecursion P (drop (i - 1) xs)
all_dropped_less P xs zero d some within all next = absurd (omega arith)
all_dropped_less P xs (suc i) d some within all next =
    let place : suc i - 1 ≡ i = omega arith in
    rw place (all_dropped_more P xs i d within all (rw (← place) next))
