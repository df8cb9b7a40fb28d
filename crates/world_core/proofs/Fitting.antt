-- Which commands go into the next block.
use Rattle.std.proofs.Common.{◌≡◌, ℕ, zero, suc, ◌+◌, ◌-◌, ◌<◌, ◌≤◌, List, [], ◌∷◌, Bool, true, false, length, take, drop, get_or, nat_le, refl, sym, ◌∙◌, ap, arith, le-leb}
use Rattle.std.specs.Prelude.{if◌then◌else◌}
use Rattle.std.proofs.lemmas.Bool.{lt-leb}
use Rattle.command_core.specs.Commands.{CommandValue}
use Rattle.command_core.specs.Entries.{EntryValue}
use Rattle.command_core.specs.Spellings.{Spells, record_of}
use Rattle.area_core.specs.Areas.{commands}
use Rattle.world_core.specs.Calls.{as_many, fitting}
use Rattle.world_core.specs.Keeping.{IsKept}
use Rattle.world_core.specs.Readings.{Reading}
use Rattle.world_core.specs.Worlds.{WorldValue}

one_more : (b : Bool) (a n : ℕ) → a ≤ n → (if b then suc a else 0) ≤ suc n
one_more true a n le = omega (arith, le)
one_more false a n le = omega arith

pub as_many_most : (room n : ℕ) (cs : List CommandValue) → as_many room (take n cs) ≤ n
as_many_most room zero cs = omega arith
as_many_most room (suc n) [] = omega arith
as_many_most room (suc n) (c ∷ cs) = one_more (nat_le (length (record_of c)) room) (as_many (room - length (record_of c)) (take n cs)) n (as_many_most (room - length (record_of c)) n cs)

-- they are taken
pub fitting_taken : (w : WorldValue) → IsKept w → (r : Reading) → fitting w r ≤ w.taken
fitting_taken w k r = omega (arith, k.stored, as_many_most (w.disk.size - (r.gate + 10)) (w.taken - w.stored) (drop (w.stored - w.base) w.history))

-- the entries from one on are that one and those after it
from_one : {X : Type 0} (xs : List X) (i : ℕ) (x : X) → i < length xs → x ≡ get_or xs i x → drop i xs ≡ x ∷ drop (suc i) xs
from_one [] i x lt is = absurd (omega (arith, lt))
from_one (y ∷ ys) zero x lt is = ap (λ z. z ∷ ys) (sym is)
from_one (y ∷ ys) (suc i) x lt is = from_one ys i x (omega (arith, lt)) is

if_it : (b : Bool) (a : ℕ) → b ≡ true → (if b then suc a else 0) ≡ suc a
if_it true a is = refl
if_it false a is = absurd (cc)

if_not : (b : Bool) (a : ℕ) → b ≡ false → (if b then suc a else 0) ≡ 0
if_not false a is = refl
if_not true a is = absurd (cc)

-- one more of them fits
pub fits_more : {B : Type 0} (es : List (EntryValue B)) (i left n : ℕ) (e : EntryValue B) (bytes : List ℕ) → i < length es → e ≡ get_or es i e → Spells bytes e.command
    → length bytes ≤ left → n ≡ left - length bytes → as_many left (commands (drop i es)) ≡ suc (as_many n (commands (drop (i + 1) es)))
fits_more {B} es i left n e bytes lt is spells fits less =
    let size : length bytes ≡ length (record_of e.command) = ap (λ (l : List ℕ). length l) spells.spelled in
    let rest : List (EntryValue B) = drop (suc i) es in
    let here : left - length (record_of e.command) ≡ n = omega (arith, less, size) in
    let after : suc i ≡ i + 1 = omega arith in
    ap (λ (l : List (EntryValue B)). as_many left (commands l)) (from_one es i e lt is)
    ∙ if_it (nat_le (length (record_of e.command)) left) (as_many (left - length (record_of e.command)) (commands rest)) (le-leb _ _ (omega (arith, fits, size)))
    ∙ ap (λ (m : ℕ). suc (as_many m (commands rest))) here
    ∙ ap (λ (m : ℕ). suc (as_many n (commands (drop m es)))) after

-- no more of them fits
pub fits_no_more : {B : Type 0} (es : List (EntryValue B)) (i left : ℕ) (e : EntryValue B) (bytes : List ℕ) → i < length es → e ≡ get_or es i e → Spells bytes e.command
    → left < length bytes → as_many left (commands (drop i es)) ≡ 0
fits_no_more {B} es i left e bytes lt is spells long =
    let size : length bytes ≡ length (record_of e.command) = ap (λ (l : List ℕ). length l) spells.spelled in
    ap (λ (l : List (EntryValue B)). as_many left (commands l)) (from_one es i e lt is)
    ∙ if_not (nat_le (length (record_of e.command)) left) (as_many (left - length (record_of e.command)) (commands (drop (suc i) es))) (lt-leb _ _ (omega (arith, long, size)))

-- and no entry is left
pub all_fit : {B : Type 0} (es : List (EntryValue B)) (i left : ℕ) → length es ≤ i → as_many left (commands (drop i es)) ≡ 0
all_fit [] zero left most = refl
all_fit [] (suc i) left most = refl
all_fit (e ∷ es) zero left most = absurd (omega (arith, most))
all_fit (e ∷ es) (suc i) left most = all_fit es i left (omega (arith, most))
