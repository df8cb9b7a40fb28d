use Rattle.std.proofs.Common.{◌≡◌, ◌<◌, ◌≤◌, ◌+◌, ◌-◌, ◌++◌, List, [], ◌∷◌, ℕ, suc, zero, Bool, true, false, cond, ◌||◌, length, take, drop, get_or, refl, sym, ap, ◌∙◌, arith, true≢false}
use Rattle.std.specs.List.{AllByRecursion, insert, sum_by}
use Rattle.std.specs.Ordering.{is_eq, is_lt, ordering_reverse}
use Rattle.std.specs.declared.cmp.Ordering.{Ordering}
use Rattle.std.specs.declared.cmp.Ordering.TheVariants.{Less, Equal, Greater}
use Rattle.std.proofs.lemmas.Bool.{or_parts}
use Rattle.std.proofs.lemmas.List.Sums.{sum_by-cons}
use Rattle.line_core.specs.declared.message.Message.{Message}
use Rattle.line_core.specs.declared.message.MessageNumber.{MessageNumber}
use Rattle.line_core.specs.Lines.{IsOver, IsRising, by_number, has_number, inserted, is_same}
use Rattle.line_core.proofs.RisingLines.{by_number-total, ranks}

-- what `inserted` gives, by how the two numbers compare
placed : (m x : Message) (line : List Message) (o : Ordering) → by_number m.number x.number ≡ o → inserted m (x ∷ line) ≡ cond (is_lt o) (m ∷ x ∷ line) (x ∷ inserted m line)
placed m x line o is = ap (λ r. cond (is_lt r) (m ∷ x ∷ line) (x ∷ inserted m line)) is

tested : (m x : Message) (line : List Message) (b : Bool) → is_lt (by_number m.number x.number) ≡ b → inserted m (x ∷ line) ≡ cond b (m ∷ x ∷ line) (x ∷ inserted m line)
tested m x line b is = ap (λ r. cond r (m ∷ x ∷ line) (x ∷ inserted m line)) is

is_less : (o : Ordering) → is_lt o ≡ true → o ≡ Less
is_less Less is = refl
is_less Equal is = absurd (true≢false (sym is))
is_less Greater is = absurd (true≢false (sym is))

turned : (a b : MessageNumber) (o : Ordering) → by_number b a ≡ o → by_number a b ≡ ordering_reverse o
turned a b o is = by_number-total.antisymm a b ∙ ap ordering_reverse is

module _ (m : Message) where
  -- what holds of all holds of them with one more message of which it holds
  pub all_inserted : (P : Message → Type 0) (line : List Message) → P m → AllByRecursion P line → AllByRecursion P (inserted m line)
  all_inserted P [] new all = (new, tt)
  all_inserted P (x ∷ line) new all =
      elim (is_lt (by_number m.number x.number)) as (λ b. AllByRecursion P (cond b (m ∷ x ∷ line) (x ∷ inserted m line))) [ true ↦ (new, all) | false ↦ (all.0, all_inserted P line new all.1) ]

  -- what isn't under y isn't under m, which is not over y
  all_from : (y : Message) → is_lt (by_number y.number m.number) ≡ false → (line : List Message) → AllByRecursion (λ (z : Message). is_lt (by_number z.number y.number) ≡ false) line → AllByRecursion (λ (z : Message). is_lt (by_number z.number m.number) ≡ false) line
  all_from y not_under [] all = tt
  all_from y not_under (z ∷ line) all =
      (ranks.chain z y m all.0 not_under, all_from y not_under line all.1)

  rising_at : (x : Message) (line : List Message) (b : Bool) → is_lt (by_number m.number x.number) ≡ b → IsRising (x ∷ line) → IsRising (inserted m line) → IsRising (cond b (m ∷ x ∷ line) (x ∷ inserted m line))
  rising_at x line true is rising rest =
      let not_under = ranks.one_way m x is in
      ((not_under, all_from x not_under line rising.0), rising)
  rising_at x line false is rising rest =
      (all_inserted (λ (z : Message). is_lt (by_number z.number x.number) ≡ false) line is rising.0, rest)

  -- a line with one more message still rises
  pub rising_inserted : (line : List Message) → IsRising line → IsRising (inserted m line)
  rising_inserted [] rising = (tt, tt)
  rising_inserted (x ∷ line) rising =
      rising_at x line (is_lt (by_number m.number x.number)) refl rising (rising_inserted line rising.1)

  swapped : (a b c : Bool) → (a || (b || c)) ≡ (b || (a || c))
  swapped true true c = refl
  swapped true false c = refl
  swapped false b c = refl

  -- it has the numbers that it had, and the new one
  pub has_number-inserted : (line : List Message) (n : MessageNumber) → has_number n (inserted m line) ≡ (is_same n m.number || has_number n line)
  has_number-inserted [] n = refl
  has_number-inserted (x ∷ line) n =
      elim (is_lt (by_number m.number x.number)) as (λ b. has_number n (cond b (m ∷ x ∷ line) (x ∷ inserted m line)) ≡ (is_same n m.number || has_number n (x ∷ line))) [ true ↦ refl | false ↦ ap (λ b. is_same n x.number || b) (has_number-inserted line n) ∙ swapped (is_same n x.number) (is_same n m.number) (has_number n line) ]

  -- a message of the greatest number goes last
  pub inserted_last : (line : List Message) → IsOver m.number line → inserted m line ≡ line ++ m ∷ []
  inserted_last [] over = refl
  inserted_last (x ∷ line) over =
      placed m x line Greater (turned m.number x.number Less over.0) ∙ ap (λ l. x ∷ l) (inserted_last line over.1)

  less_at : (x : Message) (o : Ordering) → by_number m.number x.number ≡ o → is_eq o ≡ false → is_lt (by_number x.number m.number) ≡ false → by_number m.number x.number ≡ Less
  less_at x Less is other not_under = is
  less_at x Equal is other not_under = absurd (true≢false other)
  less_at x Greater is other not_under =
      absurd (true≢false (sym (ap is_lt (turned x.number m.number Greater is)) ∙ not_under))

  -- and the first of a line, which alone has its number, first
  pub inserted_first : (rest : List Message) → IsRising (m ∷ rest) → has_number m.number rest ≡ false → inserted m rest ≡ m ∷ rest
  inserted_first [] rising alone = refl
  inserted_first (x ∷ rest) rising alone =
      placed m x rest Less (less_at x (by_number m.number x.number) refl (or_parts (is_same m.number x.number) (has_number m.number rest) alone).0 rising.0.0)

  pub length-inserted : (line : List Message) → length (inserted m line) ≡ length line + 1
  length-inserted [] = refl
  length-inserted (x ∷ line) =
      elim (is_lt (by_number m.number x.number)) as (λ b. length (cond b (m ∷ x ∷ line) (x ∷ inserted m line)) ≡ length (x ∷ line) + 1) [ true ↦ omega arith | false ↦ omega (arith, length-inserted line) ]

  pub sum_by-inserted : (f : Message → ℕ) (line : List Message) → sum_by f (inserted m line) ≡ sum_by f line + f m
  sum_by-inserted f [] = omega (arith, sum_by-cons f m [])
  sum_by-inserted f (x ∷ line) =
      elim (is_lt (by_number m.number x.number)) as (λ b. sum_by f (cond b (m ∷ x ∷ line) (x ∷ inserted m line)) ≡ sum_by f (x ∷ line) + f m) [ true ↦ omega (arith, sum_by-cons f m (x ∷ line)) | false ↦ omega (arith, sum_by-cons f x (inserted m line), sum_by-cons f x line, sum_by-inserted f line) ]

  -- behind messages that are not greater and before the first that is, it stands where `inserted` puts it
  pub inserted_at : (d : Message) (line : List Message) (i : ℕ) → i ≤ length line → AllByRecursion (λ x. is_lt (by_number m.number x.number) ≡ false) (take i line) → (i < length line → is_lt (by_number m.number (get_or line i d).number) ≡ true) → insert line i m ≡ inserted m line
  inserted_at d [] zero within before next = refl
  inserted_at d [] (suc i) within before next = absurd (omega arith)
  inserted_at d (x ∷ line) zero within before next =
      sym (ap (λ b. cond b (m ∷ x ∷ line) (x ∷ inserted m line)) (next (omega arith)))
  inserted_at d (x ∷ line) (suc i) within before next =
      ap (λ l. x ∷ l) (inserted_at d line i (omega arith) before.1 (λ inside. next (omega arith))) ∙ sym (ap (λ b. cond b (m ∷ x ∷ line) (x ∷ inserted m line)) before.0)

  under_last : (d : Message) (x : Message) (line : List Message) (i : ℕ) → suc i ≤ length line → AllByRecursion (λ (y : Message). is_lt (by_number y.number x.number) ≡ false) line → is_lt (by_number m.number (get_or line i d).number) ≡ false → is_lt (by_number m.number x.number) ≡ false
  under_last d x [] i within all last = absurd (omega arith)
  under_last d x (y ∷ line) zero within all last = ranks.chain m y x last all.0
  under_last d x (y ∷ line) (suc i) within all last = under_last d x line i (omega arith) all.1 last

  -- before messages that are all greater it goes first
  inserted_before : (line : List Message) → AllByRecursion (λ x. is_lt (by_number m.number x.number) ≡ true) line → insert line 0 m ≡ inserted m line
  inserted_before [] after = refl
  inserted_before (x ∷ line) after = sym (tested m x line true after.0)

  -- in a line that rises it stands there too before messages that are greater and behind one that isn't
  inserted_behind : (d : Message) (line : List Message) (i : ℕ) → suc i ≤ length line → IsRising line → AllByRecursion (λ x. is_lt (by_number m.number x.number) ≡ true) (drop (suc i) line) → is_lt (by_number m.number (get_or line i d).number) ≡ false → insert line (suc i) m ≡ inserted m line
  inserted_behind d [] i within rising after last = absurd (omega arith)
  inserted_behind d (x ∷ line) zero within rising after last =
      ap (λ l. x ∷ l) (inserted_before line after) ∙ sym (tested m x line false last)
  inserted_behind d (x ∷ line) (suc i) within rising after last =
      ap (λ l. x ∷ l) (inserted_behind d line i (omega arith) rising.1 after last)
      ∙ sym (tested m x line false (under_last d x line i (omega arith) rising.0 last))

module _ (a b : Message) (less : by_number a.number b.number ≡ Less) where
  behind : (line : List Message) → inserted b (a ∷ line) ≡ a ∷ inserted b line
  behind line = placed b a line Greater (turned b.number a.number Less less)

  twice_at : (x : Message) (line : List Message) (p q : Bool) → is_lt (by_number a.number x.number) ≡ p → is_lt (by_number b.number x.number) ≡ q → inserted a (inserted b line) ≡ inserted b (inserted a line) → inserted a (cond q (b ∷ x ∷ line) (x ∷ inserted b line)) ≡ inserted b (cond p (a ∷ x ∷ line) (x ∷ inserted a line))
  twice_at x line true true is_p is_q rest =
      placed a b (x ∷ line) Less less ∙ sym (behind (x ∷ line) ∙ ap (λ l. a ∷ l) (tested b x line true is_q))
  twice_at x line true false is_p is_q rest =
      tested a x (inserted b line) true is_p ∙ sym (behind (x ∷ line) ∙ ap (λ l. a ∷ l) (tested b x line false is_q))
  twice_at x line false true is_p is_q rest =
      let both = by_number-total.trans a.number b.number x.number less (is_less (by_number b.number x.number) is_q) in
      absurd (true≢false (sym (ap is_lt both) ∙ is_p))
  twice_at x line false false is_p is_q rest =
      tested a x (inserted b line) false is_p ∙ ap (λ l. x ∷ l) rest ∙ sym (tested b x (inserted a line) false is_q)

  twice : (line : List Message) → inserted a (inserted b line) ≡ inserted b (inserted a line)
  twice [] =
      placed a b [] Less less ∙ sym (placed b a [] Greater (turned b.number a.number Less less))
  twice (x ∷ line) =
      twice_at x line (is_lt (by_number a.number x.number)) (is_lt (by_number b.number x.number)) refl refl (twice line)

either : (a b : Message) (o : Ordering) → by_number a.number b.number ≡ o → is_eq o ≡ false → (line : List Message) → inserted a (inserted b line) ≡ inserted b (inserted a line)
either a b Less is other line = twice a b is line
either a b Equal is other line = absurd (true≢false other)
either a b Greater is other line = sym (twice b a (turned b.number a.number Greater is) line)

-- two messages of different numbers go in in either order
pub inserted_twice : (a b : Message) (line : List Message) → is_same a.number b.number ≡ false → inserted a (inserted b line) ≡ inserted b (inserted a line)
inserted_twice a b line other = either a b (by_number a.number b.number) refl other line

-- the same for each message of that number
pub stands_at : (n : MessageNumber) (d : Message) (line : List Message) (i : ℕ) → i ≤ length line → AllByRecursion (λ x. is_lt (by_number n x.number) ≡ false) (take i line) → (i < length line → is_lt (by_number n (get_or line i d).number) ≡ true) → (m : Message) → m.number ≡ n → insert line i m ≡ inserted m line
stands_at n d line i within before next m is =
    inserted_at m d line i within (rw is before) (λ inside. rw is (next inside))

pub stands_behind : (n : MessageNumber) (d : Message) (line : List Message) (i : ℕ) → i ≤ length line → IsRising line → AllByRecursion (λ x. is_lt (by_number n x.number) ≡ true) (drop i line) → 0 < i → is_lt (by_number n (get_or line (i - 1) d).number) ≡ false → (m : Message) → m.number ≡ n → insert line i m ≡ inserted m line
stands_behind n d line zero within rising after some last m is = absurd (omega arith)
stands_behind n d line (suc i) within rising after some last m is =
    let place : suc i - 1 ≡ i = omega arith in
    inserted_behind m d line i within rising (rw is after) (rw (is, ← place) last)

pub stands_first : (n : MessageNumber) (line : List Message) (i : ℕ) → AllByRecursion (λ x. is_lt (by_number n x.number) ≡ true) (drop i line) → i ≡ 0 → (m : Message) → m.number ≡ n → insert line i m ≡ inserted m line
stands_first n line zero after none m is = inserted_before m line (rw is after)
stands_first n line (suc i) after none m is = absurd (omega arith)
