-- How bytes pass in frames.
use Rattle.std.proofs.Common.{◌≡◌, ◌≢◌, ◌⊎◌, ◌∙◌, ◌≤◌, ◌<◌, ◌+◌, ◌-◌, ℕ, List, [], ◌∷◌, ◌++◌, ap, arith, cond, drop, false, get_or, inl, inr, refl, subst, sym, suc, true, zero, length, length-append, take}
use Rattle.std.proofs.Math.Seq.{drop-append_seam, take-append_seam}
use Rattle.std.proofs.lemmas.Bool.{lt-ltb}
use Rattle.std.proofs.lemmas.List.{append-nil, append_assoc, length-take-le, take-append-drop}
use Rattle.clients.specs.Frames.{Passes, ended, is_front, passed, step}
use Rattle.clients.specs.declared.read_budget.FrameProgress.{FrameProgress}
use Rattle.clients.specs.declared.read_budget.FrameProgress.TheVariants.{Front, Payload}

-- one byte
one : (old new : FrameProgress) (before left : ℕ) (bytes : List ℕ) → bytes ≢ [] → new ≡ step old (get_or bytes 0 0) → cond (is_front new) 1 0 + left ≡ before → Passes old new before left bytes 1
one old new before left [] some is count = absurd (some refl)
one old new before left (byte ∷ bytes) some is count =
    record { front = byte ∷ []; rest = bytes; whole = refl; count_is = refl; place = is; ends = omega (arith, subst (λ p. cond (is_front p) 1 0 + left ≡ before) is count) }

pub one_ends : (old new : FrameProgress) (left : ℕ) (bytes : List ℕ) → bytes ≢ [] → new ≡ step old (get_or bytes 0 0) → is_front new ≡ true → 0 < left → Passes old new left (left - 1) bytes 1
one_ends old new left bytes some is front more =
    one old new left (left - 1) bytes some is (subst (λ b. cond b 1 0 + (left - 1) ≡ left) (sym front) (omega (arith, more)))

pub one_goes_on : (old new : FrameProgress) (left : ℕ) (bytes : List ℕ) → bytes ≢ [] → new ≡ step old (get_or bytes 0 0) → is_front new ≡ false → Passes old new left left bytes 1
one_goes_on old new left bytes some is front =
    one old new left left bytes some is (subst (λ b. cond b 1 0 + left ≡ left) (sym front) (omega arith))

-- more bytes
pub passed_more : (place : FrameProgress) (a b : List ℕ) → passed place (a ++ b) ≡ passed (passed place a) b
passed_more place [] b = refl
passed_more place (byte ∷ a) b = passed_more (step place byte) a b

pub ended_more : (place : FrameProgress) (a b : List ℕ) → ended place (a ++ b) ≡ ended place a + ended (passed place a) b
ended_more place [] b = omega arith
ended_more place (byte ∷ a) b = grind (arith, ended_more (step place byte) a b)

-- a byte of a payload after which more comes
shrinks : (n byte : ℕ) → 1 < n → step (Payload n) byte ≡ Payload (n - 1)
shrinks n byte more = ap (λ b. cond b (Payload (n - 1)) Front) (lt-ltb 1 n more)

-- a part of a payload
goes_on : (n : ℕ) (bytes : List ℕ) → length bytes < n → (passed (Payload n) bytes ≡ Payload (n - length bytes)) × (ended (Payload n) bytes ≡ 0)
goes_on n [] less =
    let same : n ≡ n - 0 = omega arith in
    (ap Payload same, refl)
goes_on n (byte ∷ bytes) less =
    let next = shrinks n byte (omega (arith, less)) in
    let rest = goes_on (n - 1) bytes (omega (arith, less)) in
    let fewer : n - 1 - length bytes ≡ n - length (byte ∷ bytes) = omega arith in
    let none : 0 + ended (Payload (n - 1)) bytes ≡ 0 = omega (arith, rest.1) in
    (ap (λ p. passed p bytes) next ∙ (rest.0 ∙ ap Payload fewer), ap (λ p. cond (is_front p) 1 0 + ended p bytes) next ∙ none)

-- its end
ends : (n : ℕ) (bytes : List ℕ) → 0 < n → n ≤ length bytes → (passed (Payload n) (take n bytes) ≡ Front) × (ended (Payload n) (take n bytes) ≡ 1)
ends zero bytes some within = absurd (omega (arith, some))
ends (suc n) [] some within = absurd (omega (arith, within))
ends (suc zero) (byte ∷ bytes) some within = (refl, refl)
ends (suc (suc n)) (byte ∷ bytes) some within =
    let fewer : suc (suc n) - 1 ≡ suc n = omega arith in
    let next = shrinks (suc (suc n)) byte (omega arith) ∙ ap Payload fewer in
    let rest = ends (suc n) bytes (omega arith) (omega (arith, within)) in
    let one : 0 + ended (Payload (suc n)) (take (suc n) bytes) ≡ 1 = omega (arith, rest.1) in
    (ap (λ p. passed p (take (suc n) bytes)) next ∙ rest.0, ap (λ p. cond (is_front p) 1 0 + ended p (take (suc n) bytes)) next ∙ one)

pub part : (old : FrameProgress) (count left : ℕ) (bytes : List ℕ) → old ≡ Payload count → length bytes < count → Passes old (Payload (count - length bytes)) left left bytes (length bytes)
part old count left bytes is less =
    let on = goes_on count bytes less in
    subst (λ p. Passes p (Payload (count - length bytes)) left left bytes (length bytes)) (sym is)
    (record { front = bytes; rest = []; whole = sym (append-nil bytes); count_is = refl; place = sym on.0; ends = omega (arith, on.1) })

pub all : (old : FrameProgress) (count left : ℕ) (bytes : List ℕ) → old ≡ Payload count → 0 < count → count ≤ length bytes → 0 < left → Passes old Front left (left - 1) bytes count
all old count left bytes is some within more =
    let end = ends count bytes some within in
    subst (λ p. Passes p Front left (left - 1) bytes count) (sym is)
    (record {
      front = take count bytes;
      rest = drop count bytes;
      whole = sym (take-append-drop count bytes);
      count_is = sym (length-take-le count bytes within);
      place = sym end.0;
      ends = omega (arith, end.1, more);
    })

-- what was passed before, and what is now
pub record Passed (first now : FrameProgress) (most left : ℕ) (bytes rest : List ℕ) : Type 0 where
  pub done : List ℕ
  pub whole : bytes ≡ done ++ rest
  pub place : now ≡ passed first done
  pub ends : ended first done + left ≡ most

pub begins : (first : FrameProgress) (most : ℕ) (bytes : List ℕ) → Passed first first most most bytes bytes
begins first most bytes = record { done = []; whole = refl; place = refl; ends = omega arith }

pub passes : (first old new : FrameProgress) (most before left : ℕ) (bytes rest : List ℕ) (count : ℕ) → Passed first old most before bytes rest → Passes old new before left rest count
    → Passed first new most left bytes (drop count rest)
passes first old new most before left bytes rest count at more =
    let behind : drop count rest ≡ more.rest =
    ap (λ it. drop it rest) more.count_is ∙ (ap (drop (length more.front)) more.whole ∙ drop-append_seam more.front more.rest) in
    record {
      done = at.done ++ more.front;
      whole = at.whole ∙ (ap (λ it. at.done ++ it) (more.whole ∙ ap (λ it. more.front ++ it) (sym behind)) ∙ sym (append_assoc at.done more.front (drop count rest)));
      place = more.place ∙ (ap (λ p. passed p more.front) at.place ∙ sym (passed_more first at.done more.front));
      ends = omega (arith, ended_more first at.done more.front, at.ends, subst (λ p. ended p more.front + left ≡ before) at.place more.ends);
    }

-- how many bytes that are
counts : (done rest : List ℕ) (bytes : List ℕ) → bytes ≡ done ++ rest → length bytes - length rest ≡ length done
counts done rest bytes whole = omega (arith, ap length whole, length-append done rest)

fronts : (done rest : List ℕ) (bytes : List ℕ) → bytes ≡ done ++ rest → take (length bytes - length rest) bytes ≡ done
fronts done rest bytes whole =
    ap (λ n. take n bytes) (counts done rest bytes whole) ∙ (ap (take (length done)) whole ∙ take-append_seam done rest)

whole_of : (left most ended : ℕ) (bytes rest : List ℕ) → (left ≡ 0) ⊎ (rest ≡ []) → ended + left ≡ most → ended < most → length bytes - length rest ≡ length bytes
whole_of left most ended bytes rest (inl none) some less = absurd (omega (arith, none, some, less))
whole_of left most ended bytes rest (inr none) some less = omega (arith, ap length none)

pub at_end : (first now : FrameProgress) (most left : ℕ) (bytes rest : List ℕ) → Passed first now most left bytes rest → (left ≡ 0) ⊎ (rest ≡ [])
    → let count = length bytes - length rest in
    (count ≤ length bytes) × (now ≡ passed first (take count bytes)) × (ended first (take count bytes) ≤ most) × (ended first (take count bytes) < most → count ≡ length bytes)
at_end first now most left bytes rest at over =
    let is = sym (fronts at.done rest bytes at.whole) in
    let some : ended first (take (length bytes - length rest) bytes) + left ≡ most = subst (λ it. ended first it + left ≡ most) is at.ends in
    (omega arith, at.place ∙ ap (passed first) is, omega (arith, some), λ less. whole_of left most _ bytes rest over some less)
