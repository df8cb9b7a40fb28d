-- The pieces of a snapshot between an area's first word and a closed gate, one behind the other.
use Rattle.std.proofs.Common.{◌≡◌, ◌≢◌, inl, inr, ℕ, ◌+◌, ◌-◌, ◌==◌, ◌<◌, ◌≤◌, Bool, true, false, List, [], ◌∷◌, ◌++◌, length, take, drop, cond, nat_lt, refl, sym, ◌∙◌, ap, subst, arith, append_assoc, length-append, length-drop}
use Rattle.std.specs.Int.{w64, to_be_bytes}
use Rattle.std.proofs.Math.Seq.{take-add, take-append-add, drop-append-add}
use Rattle.std.proofs.lemmas.Bool.{cases_lt, ltb-false, ltb-true, ne_eqb}
use Rattle.std.proofs.lemmas.List.{append-nil, drop-append-le, drop-drop, length-take-le, take-append-le, take_all, take_at}
use Rattle.std.proofs.lemmas.Slice.{drop-append-drop}
use Rattle.disk_core.specs.Images.{patched, Torn}
use Rattle.disk_core.proofs.Patched.{front}
use Rattle.disk_core.proofs.Torn.{drop_after, take_before}
use Rattle.area_core.specs.declared.version.Version.TheVariants.{Two}
use Rattle.area_core.specs.Areas.{closed_snapshot, word_of}
use Rattle.area_core.specs.Closing.{closing, heading}
use Rattle.area_core.specs.declared.area.Area.{Area}
use Rattle.area_core.specs.Journals.{is_odd, other, start}
use Rattle.area_core.specs.Switches.{KeepsRest}

-- the first n bytes, or all: some before, so many of these, and the gate behind the last
pub piece_is : (n : ℕ) (h xs piece : List ℕ) (b : Bool) → length h ≤ n → piece ≡ take (n - length h) xs → (b ≡ true → length piece < n - length h) → (b ≡ false → n - length h ≤ length piece)
    → (h ++ piece) ++ cond b (0 ∷ []) [] ≡ take n (h ++ (xs ++ 0 ∷ []))
piece_is n h xs piece true le is less more =
    let size : length piece ≡ length (take (n - length h) xs) = ap (λ (l : List ℕ). length l) is in
    elim (cases_lt (length xs) (n - length h)) [
      | inl short ↦ (let all : piece ≡ xs = is ∙ take_all (n - length h) xs (omega (arith, short)) in
          append_assoc h piece (0 ∷ []) ∙ ap (λ (l : List ℕ). h ++ (l ++ 0 ∷ [])) all
          ∙ sym (take_all n (h ++ (xs ++ 0 ∷ [])) (omega (arith, short, le, length-append h (xs ++ 0 ∷ []), length-append xs (0 ∷ [])))))
      | inr long ↦ absurd (let cut = length-take-le (n - length h) xs (omega (arith, long)) in omega (arith, size, cut, less refl))
    ]
piece_is n h xs piece false le is less more =
    let size : length piece ≡ length (take (n - length h) xs) = ap (λ (l : List ℕ). length l) is in
    let again : length h + (n - length h) ≡ n = omega (arith, le) in
    elim (cases_lt (length xs) (n - length h)) [
      | inl short ↦ absurd (let all = ap (λ (l : List ℕ). length l) (take_all (n - length h) xs (omega (arith, short))) in omega (arith, size, all, more refl, short))
      | inr long ↦ (append-nil (h ++ piece) ∙ ap (λ (l : List ℕ). h ++ l) (is ∙ sym (take-append-le (n - length h) xs (0 ∷ []) (omega (arith, long))))
          ∙ sym (take-append-add h (xs ++ 0 ∷ []) (n - length h)) ∙ ap (λ (k : ℕ). take k (h ++ (xs ++ 0 ∷ []))) again)
    ]

-- what follows the first n of them
pub closes_on : (n : ℕ) (h xs : List ℕ) → length h ≤ n → n < length (h ++ (xs ++ 0 ∷ [])) → drop n (h ++ (xs ++ 0 ∷ [])) ≡ drop (n - length h) xs ++ 0 ∷ []
closes_on n h xs le more =
    let again : length h + (n - length h) ≡ n = omega (arith, le) in
    ap (λ (k : ℕ). drop k (h ++ (xs ++ 0 ∷ []))) (sym again) ∙ drop-append-add h (xs ++ 0 ∷ []) (n - length h)
    ∙ drop-append-le (n - length h) xs (0 ∷ []) (omega (arith, more, le, length-append h (xs ++ 0 ∷ []), length-append xs (0 ∷ [])))

-- before the first piece, all is to be written
pub closes_first : (coming : List ℕ) (total : ℕ) → total ≡ length coming → closing 0 total coming ≡ closed_snapshot Two coming
closes_first coming total is =
    ap (λ (n : ℕ). to_be_bytes w64 (word_of Two n) ++ (coming ++ 0 ∷ [])) is ∙ sym (append_assoc (to_be_bytes w64 (word_of Two (length coming))) coming (0 ∷ []))

pub length-heading : (at total : ℕ) → length (heading at total) ≤ 8
length-heading at total = by (at == 0)
  where
    by : (b : Bool) → length (cond b (to_be_bytes w64 (word_of Two total)) []) ≤ 8
    by true = omega arith
    by false = omega arith

-- a piece is written, and more follows: it has n bytes
pub whole_piece : (n at : ℕ) (whole stream : List ℕ) → stream ≡ drop at whole → at ≤ length whole → at + length (take n stream) < length whole → (n < length stream) × (length (take n stream) ≡ n)
whole_piece n at whole stream is le more =
    let size : length stream ≡ length whole - at = ap (λ (l : List ℕ). length l) is ∙ length-drop at whole in
    elim (cases_lt n (length stream)) [
      | inl long ↦ (long, length-take-le n stream (omega (arith, long)))
      | inr short ↦ absurd (let all = ap (λ (l : List ℕ). length l) (take_all n stream (omega (arith, short))) in omega (arith, all, size, le, more))
    ]

-- what is still to be written, once the piece is
pub closes_next : (n at next total : ℕ) (whole coming : List ℕ) → 8 ≤ n → closing at total coming ≡ drop at whole → at ≤ length whole → next ≡ at + length (take n (closing at total coming)) → next < length whole
    → closing next total (drop (n - length (heading at total)) coming) ≡ drop next whole
closes_next n at next total whole coming eight is le then more =
    let size = whole_piece n at whole (closing at total coming) is le (omega (arith, then, more)) in
    let on : next ≡ n + at = omega (arith, then, size.1) in
    let later : next ≢ 0 = (λ e. omega (arith, e, on, eight)) in
    let none : heading next total ≡ [] = ap (λ (b : Bool). cond b (to_be_bytes w64 (word_of Two total)) []) (ne_eqb next 0 later) in
    ap (λ (l : List ℕ). l ++ (drop (n - length (heading at total)) coming ++ 0 ∷ [])) none
    ∙ sym (closes_on n (heading at total) coming (omega (arith, length-heading at total, eight)) size.0)
    ∙ ap (λ (l : List ℕ). drop n l) is ∙ drop-drop n at whole ∙ ap (λ (k : ℕ). drop k whole) (omega (arith, on))

-- so much of it is written
pub more_written : (n at : ℕ) (whole stream : List ℕ) → stream ≡ drop at whole → take at whole ++ take n stream ≡ take (at + length (take n stream)) whole
more_written n at whole stream is =
    let again : take n stream ≡ take (length (take n stream)) (drop at whole) = fewer n stream ∙ ap (λ (l : List ℕ). take (length (take n stream)) l) is in
    ap (λ (l : List ℕ). take at whole ++ l) again ∙ sym (take-add at (length (take n stream)) whole)
  where
    fewer : (n : ℕ) (l : List ℕ) → take n l ≡ take (length (take n l)) l
    fewer n l = elim (cases_lt n (length l)) [
      | inl long ↦ ap (λ (k : ℕ). take k l) (sym (length-take-le n l (omega (arith, long))))
      | inr short ↦ (let all = take_all n l (omega (arith, short)) in all ∙ sym (take_all (length (take n l)) l (omega (arith, ap (λ (m : List ℕ). length m) all))))
    ]

-- two writes, one behind the other, are one
pub patched_on : (base at : ℕ) (xs ys d : List ℕ) → length xs ≡ at → base + at + length ys ≤ length d → patched (base + at) ys (patched base xs d) ≡ patched base (xs ++ ys) d
patched_on base at xs ys d size room =
    let long : length (take base d ++ xs) ≡ base + at = front base xs d (omega (arith, size, room)) ∙ omega (arith, size) in
    let rest : drop (base + length xs) d ≡ drop (base + at) d = ap (λ (k : ℕ). drop (base + k) d) size in
    let before : take (base + at) (patched base xs d) ≡ take base d ++ xs = take_at (take base d ++ xs) (drop (base + length xs) d) (base + at) long in
    let after : drop (base + at + length ys) (patched base xs d) ≡ drop (base + at + length ys) d =
    ap (λ (l : List ℕ). drop (base + at + length ys) ((take base d ++ xs) ++ l)) rest ∙ drop-append-drop (base + at) d (take base d ++ xs) (base + at + length ys) (omega arith) long in
    let end : base + at + length ys ≡ base + length (xs ++ ys) = omega (arith, size, length-append xs ys) in
    (λ i. (before i ++ ys) ++ after i) ∙ (λ i. append_assoc (take base d) xs ys i ++ drop (end i) d)

-- any bytes in a range, twice
pub torn_twice : (at n : ℕ) (d c e : List ℕ) → Torn at n d c → Torn at n c e → Torn at n d e
torn_twice at n d c e first second = record { size = second.size ∙ first.size; before = second.before ∙ first.before; after = second.after ∙ first.after }

-- a range lies in a longer one
pub torn_within : (base m at n : ℕ) (d c : List ℕ) → base ≤ at → at + n ≤ base + m → Torn at n d c → Torn base m d c
torn_within base m at n d c from to torn = record {
  size = torn.size;
  before = take_before at n base d c torn from;
  after = drop_after at n (base + m) d c torn to;
}

-- a piece is no longer than what it is of
pub length-piece : (n : ℕ) (l : List ℕ) → length (take n l) ≤ length l
length-piece n l = elim (cases_lt n (length l)) [
  | inl long ↦ (let cut = length-take-le n l (omega (arith, long)) in omega (arith, cut, long))
  | inr short ↦ (let all = ap (λ (m : List ℕ). length m) (take_all n l (omega (arith, short))) in omega (arith, all))
]

-- the same, where the code tells by these numbers whether it was the last piece
pub piece_cut : (n a m : ℕ) (h xs piece out : List ℕ) → length h ≤ n → piece ≡ take (n - length h) xs → a ≡ length piece → m ≡ n - length h → out ≡ h ++ piece → out ++ cond (nat_lt a m) (0 ∷ []) [] ≡ take n (h ++ (xs ++ 0 ∷ []))
piece_cut n a m h xs piece out le is size room are =
    ap (λ (l : List ℕ). l ++ cond (nat_lt a m) (0 ∷ []) []) are
    ∙ piece_is n h xs piece (nat_lt a m) le is (λ e. omega (arith, ltb-true a m e, size, room)) (λ e. omega (arith, ltb-false a m e, size, room))

-- a piece has a byte where one is left, and no more than are left
pub piece_fits : (n at : ℕ) (whole stream : List ℕ) → 1 ≤ n → stream ≡ drop at whole → at < length whole → (1 ≤ length (take n stream)) × (at + length (take n stream) ≤ length whole)
piece_fits n at whole stream one is more =
    let size : length stream ≡ length whole - at = ap (λ (l : List ℕ). length l) is ∙ length-drop at whole in
    elim (cases_lt n (length stream)) [
      | inl long ↦ (let cut = length-take-le n stream (omega (arith, long)) in (omega (arith, cut, one), omega (arith, cut, long, size, more)))
      | inr short ↦ (let all = ap (λ (m : List ℕ). length m) (take_all n stream (omega (arith, short))) in (omega (arith, all, size, more), omega (arith, all, size, more)))
    ]

-- what keeps the rest of what kept it keeps it
pub rest_twice : (first later : List ℕ → Type 0) (a b : Area) → b.size ≡ a.size → b.selector ≡ a.selector → ((d : List ℕ) → later d → KeepsRest first a d) → (c : List ℕ) → KeepsRest later b c → KeepsRest first a c
rest_twice first later a b size selector kept c torn =
    let from = kept torn.0 torn.1 in
    let here : Torn (start a.size (other (is_odd a.selector))) a.size torn.0 c = subst (λ (k : ℕ). Torn (start k (other (is_odd a.selector))) k torn.0 c) size (subst (λ (k : ℕ). Torn (start b.size (other (is_odd k))) b.size torn.0 c) selector torn.2) in
    (from.0, from.1, torn_twice (start a.size (other (is_odd a.selector))) a.size from.0 torn.0 c from.2 here)
