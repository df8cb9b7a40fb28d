-- Passes over the ranges of a disk.
use Rattle.std.proofs.Common.{◌≡◌, ◌⊎◌, inl, inr, ℕ, ◌+◌, ◌-◌, ◌<◌, ◌≤◌, List, length, get_or, Option, Some, None, slice_get, sym, ◌∙◌, ap, refl, subst, arith}
use Rattle.std.specs.List.{between}
use Rattle.std.proofs.lemmas.Bool.{cases_lt}
use Rattle.std.proofs.lemmas.List.{ext_get_or, get_or-replicate, length-replicate}
use Rattle.std.proofs.lemmas.List.Edits.{length-between, get_or-between}
use Rattle.std.proofs.lemmas.Option.{get_or_from_slice_get, slice_get_within}
use Rattle.disk_core.specs.declared.span.Span.{Span}
use Rattle.disk_core.specs.Images.{patched}
use Rattle.disk_core.specs.Memory.{none_held, byte_after, crashed}
use Rattle.disk_core.specs.Spans.{Has, IsHeldIn, EndsIn}
use Rattle.disk_core.proofs.Pairs.{length-pairwise, get_or-pairwise}
use borrow.Rule.Slice.PartMut.{put_mid}
use Rattle.disk_core.proofs.Patched.{put_mid-patched, length-patched, patched_in, patched_out}

-- a byte is in a range or not
pub sides : (a n i : ℕ) → ((a ≤ i) × (i < a + n)) ⊎ ((i < a) ⊎ (a + n ≤ i))
sides a n i = elim (cases_lt i a) [
  | inl below ↦ inr (inl below)
  | inr from ↦ elim (cases_lt i (a + n)) [ inl to ↦ inl (from, to) | inr above ↦ inr (inr above) ]
]

-- a byte is held or not
pub held_or_not : (o : Option ℕ) → (o ≡ None) ⊎ ((b : ℕ) × (o ≡ Some b))
held_or_not None = inl refl
held_or_not (Some b) = inr (b, refl)

-- nothing is held in a range that was let go
pub released_in : (held : List (Option ℕ)) (a n i : ℕ) → a + n ≤ length held → a ≤ i → i < a + n → get_or (patched a (none_held n) held) i None ≡ None
released_in held a n i fits from to =
    let size : length (none_held n) ≡ n = length-replicate n None in
    patched_in a (none_held n) held i None (omega arith) from (omega arith) ∙ get_or-replicate n (i - a) None None (omega arith)

-- and the rest stays
pub released_out : (held : List (Option ℕ)) (a n i : ℕ) → a + n ≤ length held → (i < a) ⊎ (a + n ≤ i) → get_or (patched a (none_held n) held) i None ≡ get_or held i None
released_out held a n i fits out =
    let size : length (none_held n) ≡ n = length-replicate n None in
    patched_out a (none_held n) held i None (omega arith) (subst (λ (m : ℕ). (i < a) ⊎ (a + m ≤ i)) (sym size) out)

-- what is held lies further on once one more range is let go
pub held_later : (spans : List Span) (k : ℕ) (d : Span) (held : List (Option ℕ)) → EndsIn (length held) (get_or spans k d) → IsHeldIn k spans held
    → IsHeldIn (k + 1) spans (patched (get_or spans k d).at (none_held (get_or spans k d).len) held)
held_later spans k d held fits so_far i b is =
    let span = get_or spans k d in
    elim (sides span.at span.len i) [
      | inl here ↦ absurd (let gone = released_in held span.at span.len i fits here.0 here.1 in cc)
      | inr out ↦
          let among = so_far i b (sym (released_out held span.at span.len i fits out) ∙ is) in
          elim (cases_lt k among.place) [
            | inl later ↦ record { place = among.place; span = among.span; later = omega arith; is = among.is; has = among.has }
            | inr no_later ↦
                let same : among.place ≡ k = omega (arith, among.later) in
                let this : get_or spans k d ≡ among.span = get_or_from_slice_get spans k among.span d (subst (λ (j : ℕ). slice_get spans j ≡ Some among.span) same among.is) in
                let has : Has span i = subst (λ (s : Span). Has s i) (sym this) among.has in
                absurd (elim out [ inl below ↦ omega (arith, has.from) | inr above ↦ omega (arith, has.to) ])
          ]
    ]

-- behind the last range nothing is held
pub none_left : (spans : List Span) (k : ℕ) (held : List (Option ℕ)) → length spans ≤ k → IsHeldIn k spans held → held ≡ none_held (length held)
none_left spans k held end so_far = ext_get_or None held (none_held (length held)) (sym (length-replicate (length held) None)) (λ i within.
    elim (held_or_not (get_or held i None)) [
      | inl none ↦ none ∙ sym (get_or-replicate (length held) i None None within)
      | inr some ↦
          let among = so_far i some.0 some.1 in
          absurd (omega (arith, among.later, slice_get_within spans among.place among.span among.is))
    ])

same_byte : (fill o p : Option ℕ) (b c : ℕ) → o ≡ p → b ≡ c → byte_after fill o b ≡ byte_after fill p c
same_byte fill o p b c held bytes = ap (λ q. byte_after fill q b) held ∙ ap (λ n. byte_after fill p n) bytes

pub same_crash : (fill : Option ℕ) (held later : List (Option ℕ)) (bytes written : List ℕ) → held ≡ later → bytes ≡ written → crashed fill held bytes ≡ crashed fill later written
same_crash fill held later bytes written h b = ap (λ (o : List (Option ℕ)). crashed fill o bytes) h ∙ ap (λ (n : List ℕ). crashed fill later n) b

-- one range of a crash, which leaves the rest of it as it was to be
pub crash_more : (fill : Option ℕ) (held : List (Option ℕ)) (bytes : List ℕ) (a n e : ℕ) → length held ≡ length bytes → e ≡ a + n → e ≤ length bytes
    → crashed fill (patched a (none_held n) held) (patched a (crashed fill (between a e held) (between a e bytes)) bytes) ≡ crashed fill held bytes
crash_more fill held bytes a n e sizes is fits =
    let part = crashed fill (between a e held) (between a e bytes) in
    let held_part : length (between a e held) ≡ n = length-between held a e (omega arith) ∙ omega arith in
    let bytes_part : length (between a e bytes) ≡ n = length-between bytes a e fits ∙ omega arith in
    let part_size : length part ≡ n = length-pairwise (byte_after fill) (between a e held) (between a e bytes) (omega arith) ∙ bytes_part in
    let none_size : length (none_held n) ≡ n = length-replicate n None in
    let later = patched a (none_held n) held in
    let written = patched a part bytes in
    let later_size : length later ≡ length held = length-patched a (none_held n) held (omega arith) in
    let written_size : length written ≡ length bytes = length-patched a part bytes (omega arith) in
    let left_size : length (crashed fill later written) ≡ length written = length-pairwise (byte_after fill) later written (omega arith) in
    let right_size : length (crashed fill held bytes) ≡ length bytes = length-pairwise (byte_after fill) held bytes sizes in
    ext_get_or 0 (crashed fill later written) (crashed fill held bytes) (omega arith) (λ i within.
    let left = get_or-pairwise (byte_after fill) later written i None 0 0 (omega arith) (omega arith) in
    let right = get_or-pairwise (byte_after fill) held bytes i None 0 0 (omega arith) (omega arith) in
    left ∙ elim (sides a n i) [
      | inl here ↦
          let back : a + (i - a) ≡ i = omega (arith, here.0) in
          let from_part : get_or part (i - a) 0 ≡ byte_after fill (get_or held i None) (get_or bytes i 0) =
          get_or-pairwise (byte_after fill) (between a e held) (between a e bytes) (i - a) None 0 0 (omega (arith, here.0, here.1)) (omega (arith, here.0, here.1))
          ∙ same_byte fill _ _ _ _
          (get_or-between held a e (i - a) None (omega (arith, here.0, here.1)) ∙ ap (λ j. get_or held j None) back)
          (get_or-between bytes a e (i - a) 0 (omega (arith, here.0, here.1)) ∙ ap (λ j. get_or bytes j 0) back) in
          ap (λ o. byte_after fill o (get_or written i 0)) (released_in held a n i (omega arith) here.0 here.1)
          ∙ patched_in a part bytes i 0 (omega arith) here.0 (omega (arith, here.1))
          ∙ from_part
      | inr out ↦ same_byte fill _ _ _ _
          (released_out held a n i (omega arith) out)
          (patched_out a part bytes i 0 (omega arith) (subst (λ (m : ℕ). (i < a) ⊎ (a + m ≤ i)) (sym part_size) out))
    ] ∙ sym right)

-- where nothing is held a crash changes nothing
pub nothing_lost : (fill : Option ℕ) (n : ℕ) (bytes : List ℕ) → length bytes ≡ n → crashed fill (none_held n) bytes ≡ bytes
nothing_lost fill n bytes size =
    let none_size : length (none_held n) ≡ n = length-replicate n None in
    let left_size : length (crashed fill (none_held n) bytes) ≡ length bytes = length-pairwise (byte_after fill) (none_held n) bytes (omega arith) in
    ext_get_or 0 (crashed fill (none_held n) bytes) bytes left_size (λ i within.
    get_or-pairwise (byte_after fill) (none_held n) bytes i None 0 0 (omega arith) (omega arith)
    ∙ ap (λ o. byte_after fill o (get_or bytes i 0)) (get_or-replicate n i None None (omega arith)))

-- one range of a disk, as the code lets it go
pub put_released : (held part : List (Option ℕ)) (a n : ℕ) → a + n ≤ length held → part ≡ none_held (length (between a (a + n) held)) → put_mid a (a + n - a) held part ≡ patched a (none_held n) held
put_released held part a n fits is =
    let size : length (between a (a + n) held) ≡ n = length-between held a (a + n) fits ∙ omega arith in
    let none_size : length (none_held n) ≡ n = length-replicate n None in
    ap (λ (p : List (Option ℕ)). put_mid a (a + n - a) held p) (is ∙ ap none_held size) ∙ put_mid-patched a (a + n - a) held (none_held n) (omega arith)

-- one range of a disk, as the code puts it back
pub put_crashed : (fill : Option ℕ) (held : List (Option ℕ)) (bytes part : List ℕ) (a n : ℕ) → length held ≡ length bytes → a + n ≤ length bytes
    → part ≡ crashed fill (between a (a + n) held) (between a (a + n) bytes) → put_mid a (a + n - a) bytes part ≡ patched a (crashed fill (between a (a + n) held) (between a (a + n) bytes)) bytes
put_crashed fill held bytes part a n sizes fits is =
    let of_held = length-between held a (a + n) (omega arith) in
    let of_bytes = length-between bytes a (a + n) fits in
    ap (λ (p : List ℕ). put_mid a (a + n - a) bytes p) is
    ∙ put_mid-patched a (a + n - a) bytes (crashed fill (between a (a + n) held) (between a (a + n) bytes))
    (length-pairwise (byte_after fill) (between a (a + n) held) (between a (a + n) bytes) (omega arith) ∙ of_bytes)
