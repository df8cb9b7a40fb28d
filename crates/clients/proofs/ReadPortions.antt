-- What a portion leaves to be given.
use Rattle.std.proofs.Common.{◌≡◌, ◌∙◌, ◌≤◌, ◌<◌, ◌++◌, ℕ, List, [], Option, Some, None, ap, arith, drop, length, refl, subst, suc, sym, take, zero}
use Rattle.std.proofs.lemmas.List.{append_assoc, length-take-le, take-append-drop, take-append-le}
use Rattle.std.specs.Io.KnownBytes.{Consumes, IsAtEnd, Keeps, prepend_known}

-- nothing was read
pub keeps : (spare : List ℕ) (left : Option (List ℕ)) → Keeps (prepend_known spare left) (prepend_known spare left)
keeps spare None = tt
keeps spare (Some xs) = refl

pub fails : (old new : Option (List ℕ)) → Keeps old new → Keeps (prepend_known [] old) (prepend_known [] new)
fails None new kept = tt
fails (Some xs) None kept = absurd kept
fails (Some xs) (Some ys) kept = kept

-- a front of a front
front : (buf : List ℕ) (n count : ℕ) → count ≤ length (take n buf) → take count buf ≡ take count (take n buf)
front buf n count within = ap (take count) (sym (take-append-drop n buf)) ∙ take-append-le count (take n buf) (drop n buf) within

-- what was read is given in part, and the others are kept
given : (old new : Option (List ℕ)) (buf : List ℕ) (n count : ℕ) → Consumes old new (take n buf) → count ≤ length (take n buf)
    → Consumes (prepend_known [] old) (prepend_known (drop count (take n buf)) new) (take count buf)
given None new buf n count read within = tt
given (Some xs) None buf n count read within = absurd read
given (Some xs) (Some ys) buf n count read within =
    let part = take n buf in
    read ∙ (ap (λ it. it ++ ys) (sym (take-append-drop count part)) ∙ (append_assoc (take count part) (drop count part) ys
    ∙ ap (λ it. it ++ (drop count part ++ ys)) (sym (front buf n count within))))

-- the end
at_end : (new : Option (List ℕ)) → IsAtEnd new → IsAtEnd (prepend_known [] new)
at_end None end = tt
at_end (Some ys) end = end

none_of : (n count : ℕ) → (0 < n → 0 < count) → count ≡ 0 → n ≡ 0
none_of zero count some none = refl
none_of (suc n) count some none = absurd (omega (arith, some (omega arith), none))

from_none : (old new : Option (List ℕ)) (buf spare : List ℕ) (n count : ℕ) → n ≤ length buf → Consumes old new (take n buf) × (n ≡ 0 → 0 < length buf → IsAtEnd new)
    → count ≤ length (take n buf) → (0 < length (take n buf) → 0 < count) → spare ≡ drop count (take n buf)
    → Consumes (prepend_known [] old) (prepend_known spare new) (take count buf) × (count ≡ 0 → 0 < length buf → IsAtEnd (prepend_known spare new))
from_none old new buf spare n count within read most some is =
    let size : length (take n buf) ≡ n = length-take-le n buf within in (
      subst (λ it. Consumes (prepend_known [] old) (prepend_known it new) (take count buf)) (sym is) (given old new buf n count read.0 most),
      λ none there.
          let nothing : n ≡ 0 = none_of n count (subst (λ m. 0 < m → 0 < count) size some) none in
          let empty : spare ≡ [] = is ∙ (ap (λ it. drop count (take it buf)) nothing ∙ ap (λ it. drop it (take 0 buf)) none) in
          subst (λ it. IsAtEnd (prepend_known it new)) (sym empty) (at_end new (read.1 nothing there)),
    )

pub reads : (old new now : Option (List ℕ)) (before spare buf : List ℕ) (n count : ℕ) → before ≡ [] → now ≡ new → n ≤ length buf
    → Consumes old new (take n buf) × (n ≡ 0 → 0 < length buf → IsAtEnd new)
    → count ≤ length (take n buf) → (0 < length (take n buf) → 0 < count) → spare ≡ drop count (take n buf)
    → Consumes (prepend_known before old) (prepend_known spare now) (take count buf) × (count ≡ 0 → 0 < length buf → IsAtEnd (prepend_known spare now))
reads old new now before spare buf n count none same within read most some is =
    subst (λ it. Consumes (prepend_known it old) (prepend_known spare now) (take count buf) × (count ≡ 0 → 0 < length buf → IsAtEnd (prepend_known spare now))) (sym none)
    (subst (λ it. Consumes (prepend_known [] old) (prepend_known spare it) (take count buf) × (count ≡ 0 → 0 < length buf → IsAtEnd (prepend_known spare it))) (sym same)
    (from_none old new buf spare n count within read most some is))

-- what was kept is given in part
kept : (left : Option (List ℕ)) (old given : List ℕ) (count : ℕ) → given ≡ take count old → Consumes (prepend_known old left) (prepend_known (drop count old) left) given
kept None old given count is = tt
kept (Some xs) old given count is =
    ap (λ it. it ++ xs) (sym (take-append-drop count old)) ∙ (append_assoc (take count old) (drop count old) xs ∙ ap (λ it. it ++ (drop count old ++ xs)) (sym is))

pub gives : (left now : Option (List ℕ)) (buf old new : List ℕ) (count : ℕ) → now ≡ left → take count buf ≡ take count old → new ≡ drop count old → (0 < length buf → 0 < count)
    → Consumes (prepend_known old left) (prepend_known new now) (take count buf) × (count ≡ 0 → 0 < length buf → IsAtEnd (prepend_known new now))
gives left now buf old new count unread same is some = (
  subst (λ it. Consumes (prepend_known old left) (prepend_known new it) (take count buf)) (sym unread)
      (subst (λ it. Consumes (prepend_known old left) (prepend_known it left) (take count buf)) (sym is) (kept left old (take count buf) count same)),
  λ none there. absurd (omega (arith, some there, none)),
)
