-- What was held is read off the ranges that it was held in.
use Rattle.std.proofs.Common.{◌≡◌, ◌⊎◌, inl, inr, ℕ, zero, suc, ◌+◌, ◌-◌, ◌<◌, ◌≤◌, List, [], ◌∷◌, ◌++◌, length, get_or, take, drop, Option, Some, None, slice_get, All, sym, ◌∙◌, ap, subst, arith}
use Rattle.std.specs.List.{flat_map}
use Rattle.std.proofs.lemmas.List.{ext_get_or, get_or-replicate, length-replicate, take_at, drop_at}
use Rattle.std.proofs.lemmas.List.Edits.{length-between, get_or-between}
use Rattle.disk_core.specs.declared.span.Span.{Span}
use Rattle.disk_core.specs.Images.{patched}
use Rattle.disk_core.specs.Memory.{none_held}
use Rattle.disk_core.specs.Spans.{Has, AmongFrom, IsCover, EndsIn}
use Rattle.disk_core.specs.Epochs.{held_at, placed}
use Rattle.disk_core.proofs.Patched.{length-patched, patched_in, patched_out}
use Rattle.disk_core.proofs.Spans.{sides, held_or_not}

rest_of : (s : Span) (ss : List Span) (i k : ℕ) (t : Span) → slice_get (s ∷ ss) k ≡ Some t → Has t i → (Has s i → ⊥) → AmongFrom 0 ss i
rest_of s ss i zero t is has not_in = absurd (not_in (subst (λ (x : Span). Has x i) (let same : t ≡ s = cc in same) has))
rest_of s ss i (suc k) t is has not_in = record { place = k; span = t; later = omega arith; is = is; has = has }

-- a byte is as held, or it is in no range
abbrev Agrees : List Span → List (Option ℕ) → List (Option ℕ) → ℕ → Type 0
Agrees spans held all i = (get_or all i None ≡ get_or held i None) ⊎ ((get_or all i None ≡ None) × (AmongFrom 0 spans i → ⊥))

record Stands (spans : List Span) (held all : List (Option ℕ)) : Type 0 where
  pub size : length all ≡ length held
  pub each : (i : ℕ) → i < length held → Agrees spans held all i

stands_more : (s : Span) (ss : List Span) (held all : List (Option ℕ)) → EndsIn (length held) s → Stands ss held all → Stands (s ∷ ss) held (patched s.at (held_at held s) all)
stands_more s ss held all fits so_far =
    let part = held_at held s in
    let part_size : length part ≡ s.len = length-between held s.at (s.at + s.len) fits ∙ omega arith in
    let size = so_far.size in
    record {
      size = length-patched s.at part all (omega arith) ∙ so_far.size;
      each = λ i within. elim (sides s.at s.len i) [
        | inl here ↦ inl (
            patched_in s.at part all i None (omega arith) here.0 (omega (arith, here.1))
            ∙ get_or-between held s.at (s.at + s.len) (i - s.at) None (omega (arith, here.0, here.1))
            ∙ ap (λ j. get_or held j None) (let back : s.at + (i - s.at) ≡ i = omega (arith, here.0) in back))
        | inr out ↦
            let stays : get_or (patched s.at part all) i None ≡ get_or all i None = patched_out s.at part all i None (omega arith) (subst (λ (m : ℕ). (i < s.at) ⊎ (s.at + m ≤ i)) (sym part_size) out) in
            elim (so_far.each i within) [
              | inl same ↦ inl (stays ∙ same)
              | inr none ↦ inr (
                stays ∙ none.0,
                λ among. none.1 (rest_of s ss i among.place among.span among.is among.has (λ has.
                    elim out [ inl below ↦ omega (arith, has.from) | inr above ↦ omega (arith, has.to) ])),
              )
            ]
      ];
    }

placed_stands : (spans : List Span) (held : List (Option ℕ)) → All (EndsIn (length held)) spans → Stands spans held (placed spans (flat_map (held_at held) spans) (none_held (length held)))
placed_stands [] held all = record {
  size = length-replicate (length held) None;
  each = λ i within. inr (get_or-replicate (length held) i None None within, λ among. let none : slice_get {X = Span} [] among.place ≡ Some among.span = among.is in cc);
}
placed_stands (s ∷ ss) held all =
    let rest = flat_map (held_at held) ss in
    let fits : s.at + s.len ≤ length held = all 0 s (omega arith) in
    let part_size : length (held_at held s) ≡ s.len = length-between held s.at (s.at + s.len) fits ∙ omega arith in
    let so_far = placed_stands ss held (λ k d h. all (suc k) d (omega arith)) in
    let first : take s.len (held_at held s ++ rest) ≡ held_at held s = take_at (held_at held s) rest s.len part_size in
    let others : drop s.len (held_at held s ++ rest) ≡ rest = drop_at (held_at held s) rest s.len part_size in
    rw (first, others) (stands_more s ss held _ fits so_far)

pub same_places : (spans again : List Span) (parts copies : List (Option ℕ)) (base : List (Option ℕ)) → spans ≡ again → parts ≡ copies → placed spans parts base ≡ placed again copies base
same_places spans again parts copies base s p = ap (λ (ss : List Span). placed ss parts base) s ∙ ap (λ (ps : List (Option ℕ)). placed again ps base) p

-- all that was held is there
pub placed_is : (spans : List Span) (held : List (Option ℕ)) → IsCover spans held → placed spans (flat_map (held_at held) spans) (none_held (length held)) ≡ held
placed_is spans held cover =
    let all = placed spans (flat_map (held_at held) spans) (none_held (length held)) in
    let stands = placed_stands spans held cover.within in
    ext_get_or None all held stands.size (λ i within. elim (stands.each i (omega (arith, stands.size))) [
      | inl same ↦ same
      | inr none ↦ elim (held_or_not (get_or held i None)) [
        | inl not_held ↦ none.0 ∙ sym not_held
        | inr some ↦ absurd (none.1 (cover.each i some.0 some.1))
      ]
    ])
