-- What the calls of a disk in memory do to its images.
use Rattle.std.proofs.Common.{◌≡◌, ◌⊎◌, inl, inr, ℕ, zero, suc, ◌+◌, ◌-◌, ◌<◌, ◌≤◌, List, [], ◌∷◌, ◌++◌, length, get_or, drop, Option, Some, None, Vec, Global, vec_capacity, Result, Ok, Err, OnOk, OnErr, slice_get, unwrap_or, sym, ◌∙◌, ap, refl, subst, arith}
use Rattle.std.specs.List.{between}
use Rattle.std.proofs.lemmas.List.{ext_get_or, get_or_past}
use Rattle.std.proofs.lemmas.List.Edits.{length-between, get_or-between}
use Rattle.std.proofs.lemmas.List.Elements.{All-push, All-cons, All-nil}
use Rattle.std.proofs.lemmas.Bool.{cases_lt}
use Rattle.disk_core.specs.Images.{patched, Torn, IsImage, Follows, Frees}
use Rattle.disk_core.specs.declared.call.Call.{Call}
use Rattle.disk_core.specs.declared.span.Span.{Span}
use Rattle.disk_core.specs.Kept.{IsKept}
use Rattle.disk_core.specs.Moments.{Elapses}
use Rattle.disk_core.specs.Spans.{IsCover, EndsIn, whole}
use Rattle.disk_core.specs.Memory.{Memory, byte_after, crashed, noted, held_over, HadImage, HadSince}
use Rattle.disk_core.proofs.Pairs.{length-pairwise, get_or-pairwise}
use Rattle.disk_core.proofs.Patched.{length-patched, patched_in, patched_out}
use Rattle.disk_core.proofs.Torn.{torn_same, torn_patched, byte_outside}
use Rattle.disk_core.proofs.Spans.{sides}

last_span : (spans : List Span) (span : Span) → slice_get (spans ++ span ∷ []) (length spans) ≡ Some span
last_span [] span = refl
last_span (s ∷ spans) span = last_span spans span

earlier_span : (spans : List Span) (last : Span) (k : ℕ) (span : Span) → slice_get spans k ≡ Some span → slice_get (spans ++ last ∷ []) k ≡ Some span
earlier_span [] last k span is = absurd (cc)
earlier_span (s ∷ spans) last zero span is = is
earlier_span (s ∷ spans) last (suc k) span is = earlier_span spans last k span is

module _ (at : ℕ) (new content : List ℕ) (held : List (Option ℕ)) (sizes : length held ≡ length content) (fits : at + length new ≤ length content) where
  marks_size : length (noted (between at (at + length new) held) (between at (at + length new) content)) ≡ length new
  marks_size =
      let of_held = length-between held at (at + length new) (omega arith) in
      let of_content = length-between content at (at + length new) fits in
      length-pairwise (λ h b. Some (unwrap_or h b)) (between at (at + length new) held) (between at (at + length new) content) (omega arith) ∙ of_content ∙ omega arith

  pub length-held_over : length (held_over at (length new) held content) ≡ length held
  length-held_over = length-patched at (noted (between at (at + length new) held) (between at (at + length new) content)) held (omega (arith, marks_size))

  pub held_in : (i : ℕ) → at ≤ i → i < at + length new → get_or (held_over at (length new) held content) i None ≡ Some (unwrap_or (get_or held i None) (get_or content i 0))
  held_in i from to =
      let of_held = length-between held at (at + length new) (omega arith) in
      let of_content = length-between content at (at + length new) fits in
      let back : at + (i - at) ≡ i = omega arith in
      patched_in at (noted (between at (at + length new) held) (between at (at + length new) content)) held i None (omega (arith, marks_size)) from (omega (arith, marks_size))
      ∙ get_or-pairwise (λ h b. Some (unwrap_or h b)) (between at (at + length new) held) (between at (at + length new) content) (i - at) None 0 None (omega arith) (omega arith)
      ∙ ap (λ h. Some (unwrap_or h (get_or (between at (at + length new) content) (i - at) 0))) (get_or-between held at (at + length new) (i - at) None (omega arith) ∙ ap (λ j. get_or held j None) back)
      ∙ ap (λ b. Some (unwrap_or (get_or held i None) b)) (get_or-between content at (at + length new) (i - at) 0 (omega arith) ∙ ap (λ j. get_or content j 0) back)

  pub held_out : (i : ℕ) → (i < at) ⊎ (at + length new ≤ i) → get_or (held_over at (length new) held content) i None ≡ get_or held i None
  held_out i out = patched_out at (noted (between at (at + length new) held) (between at (at + length new) content)) held i None (omega (arith, marks_size)) (subst (λ (m : ℕ). (i < at) ⊎ (at + m ≤ i)) (sym marks_size) out)

  only_torn : Follows (Torn at (length new)) (IsImage content held) (IsImage (patched at new content) (held_over at (length new) held content))
  only_torn c image =
      let wide : length c ≡ length content = image.size ∙ length-patched at new content fits in
      let part = between at (at + length new) content in
      let part_size : length part ≡ length new = length-between content at (at + length new) fits ∙ omega arith in
      let d = patched at part c in
      let there : Torn at (length new) c d = torn_patched at (length new) part c part_size (omega arith) in
      let old : IsImage content held d = record {
        size = there.size ∙ wide;
        stable = λ i none. elim (sides at (length new) i) [
          | inl here ↦
              patched_in at part c i 0 (omega arith) here.0 (omega (arith, here.1))
              ∙ get_or-between content at (at + length new) (i - at) 0 (omega (arith, here.0, here.1))
              ∙ ap (λ j. get_or content j 0) (let back : at + (i - at) ≡ i = omega (arith, here.0) in back)
          | inr out ↦
              byte_outside at (length new) i c d there out ∙ image.stable i (held_out i out ∙ none) ∙ patched_out at new content i 0 fits out
        ];
      } in
      (d, old, record { size = sym there.size; before = sym there.before; after = sym there.after })

  each_torn : (d c : List ℕ) → IsImage content held d → Torn at (length new) d c → IsImage (patched at new content) (held_over at (length new) held content) c
  each_torn d c old torn = record {
    size = torn.size ∙ old.size ∙ sym (length-patched at new content fits);
    stable = λ i none. elim (sides at (length new) i) [
      | inl here ↦ absurd (let some = held_in i here.0 here.1 in cc)
      | inr out ↦ byte_outside at (length new) i d c torn out ∙ old.stable i (sym (held_out i out) ∙ none) ∙ sym (patched_out at new content i 0 fits out)
    ];
  }

  -- each image may have any bytes in the range
  pub frees : Frees at (length new) (IsImage content held) (IsImage (patched at new content) (held_over at (length new) held content))
  frees = record { only = only_torn; every = each_torn }

  -- an image stays one
  pub still_image : (c : List ℕ) → IsImage content held c → IsImage (patched at new content) (held_over at (length new) held content) c
  still_image c old = each_torn c c old (torn_same at (length new) c)

  held_byte : (h : Option ℕ) (b z : ℕ) → byte_after None (Some (unwrap_or h b)) z ≡ byte_after None h b
  held_byte None b z = refl
  held_byte (Some x) b z = refl

  -- what was synced is still known
  pub same_synced : crashed None (held_over at (length new) held content) (patched at new content) ≡ crashed None held content
  same_synced =
      let f = byte_after None in
      let now = held_over at (length new) held content in
      let wrote = patched at new content in
      let wrote_size : length wrote ≡ length content = length-patched at new content fits in
      let left_size : length (crashed None now wrote) ≡ length wrote = length-pairwise f now wrote (omega (arith, length-held_over)) in
      let right_size : length (crashed None held content) ≡ length content = length-pairwise f held content sizes in
      ext_get_or 0 (crashed None now wrote) (crashed None held content) (omega arith) (λ i within.
      get_or-pairwise f now wrote i None 0 0 (omega (arith, length-held_over)) (omega arith)
      ∙ elim (sides at (length new) i) [
        | inl here ↦ ap (λ h. byte_after None h (get_or wrote i 0)) (held_in i here.0 here.1) ∙ held_byte (get_or held i None) (get_or content i 0) (get_or wrote i 0)
        | inr out ↦ ap (λ h. byte_after None h (get_or wrote i 0)) (held_out i out) ∙ ap (λ b. byte_after None (get_or held i None) b) (patched_out at new content i 0 fits out)
      ]
      ∙ sym (get_or-pairwise f held content i None 0 0 (omega arith) (omega arith)))

  -- a write takes no time
  pub time : (past : List (List (Option ℕ))) (calls called : List Call) (failures failed : ℕ)
      → let old : Memory = record { content = content; held = held; past = past; calls = calls; failures = failures } in
      let now : Memory = record { content = patched at new content; held = held_over at (length new) held content; past = past; calls = called; failures = failed } in
      Elapses (length past) (length past) (HadSince old) (HadSince now) (IsImage (patched at new content) (held_over at (length new) held content))
  time past calls called failures failed = record {
    later = omega arith;
    nothing_else = λ t c _ since. elim since [
      | inl image ↦ inr image
      | inr had ↦ inl (inr (subst (λ (s : List ℕ). HadImage (drop t past) s c) same_synced had))
    ];
    keeps = λ t c _ since. elim since [
      | inl image ↦ inl (still_image c image)
      | inr had ↦ inr (subst (λ (s : List ℕ). HadImage (drop t past) s c) (sym same_synced) had)
    ];
  }

  -- what is held lies in the ranges with one more
  pub covered : (spans : List Span) → IsCover spans held → IsCover (spans ++ record { at = at; len = length new } ∷ []) (held_over at (length new) held content)
  covered spans cover =
      let span : Span = record { at = at; len = length new } in
      let same = length-held_over in
      record {
        within = All-push (EndsIn (length (held_over at (length new) held content))) spans span (λ k d h. omega (arith, same, cover.within k d h)) (omega (arith, same));
        each = λ i b some. elim (sides at (length new) i) [
          | inl here ↦ record { place = length spans; span = span; later = omega arith; is = last_span spans span; has = record { from = here.0; to = here.1 } }
          | inr out ↦
              let among = cover.each i b (sym (held_out i out) ∙ some) in
              record { place = among.place; span = among.span; later = among.later; is = earlier_span spans span among.place among.span among.is; has = among.has }
        ];
      }

  -- or in the whole disk
  pub covered_whole : (size : ℕ) → size ≡ length content → IsCover (whole size ∷ []) (held_over at (length new) held content)
  covered_whole size is = record {
    within = All-cons (EndsIn (length (held_over at (length new) held content))) (whole size) [] (omega (arith, length-held_over)) (All-nil (EndsIn (length (held_over at (length new) held content))));
    each = λ i b some. record {
      place = 0;
      span = whole size;
      later = omega arith;
      is = refl;
      has = record {
        from = omega arith;
        to = elim (cases_lt i size) [
          | inl below ↦ omega (arith, below)
          | inr past ↦ absurd (let none = get_or_past (held_over at (length new) held content) i None (omega (arith, past, length-held_over)) in cc)
        ];
      };
    };
  }

pub ok_or_err : {T E : Type 0} (r : Result T E) (P Q : Type 0) → OnOk r P → OnErr r Q → P ⊎ Q
ok_or_err (Ok x) P Q p q = inl p
ok_or_err (Err e) P Q p q = inr q

pub same_held_over : (at n : ℕ) (held same : List (Option ℕ)) (content again : List ℕ) → held ≡ same → content ≡ again → held_over at n held content ≡ held_over at n same again
same_held_over at n held same content again h c = ap (λ (l : List (Option ℕ)). held_over at n l content) h ∙ ap (λ (l : List ℕ). held_over at n same l) c

-- the same of the fields after a write
pub frees_now : (at : ℕ) (new content now : List ℕ) (held later : List (Option ℕ)) → length held ≡ length content → at + length new ≤ length content
    → now ≡ patched at new content → later ≡ held_over at (length new) held content → Frees at (length new) (IsImage content held) (IsImage now later)
frees_now at new content now held later sizes fits n l =
    subst (λ (c : List ℕ). Frees at (length new) (IsImage content held) (IsImage c later)) (sym n)
    (subst (λ (h : List (Option ℕ)). Frees at (length new) (IsImage content held) (IsImage (patched at new content) h)) (sym l) (frees at new content held sizes fits))

pub time_now : (at : ℕ) (new content now : List ℕ) (held later : List (Option ℕ)) (past : List (List (Option ℕ))) (calls called : List Call) (failures failed : ℕ) → length held ≡ length content → at + length new ≤ length content
    → now ≡ patched at new content → later ≡ held_over at (length new) held content
    → let old : Memory = record { content = content; held = held; past = past; calls = calls; failures = failures } in
    let next : Memory = record { content = now; held = later; past = past; calls = called; failures = failed } in
    Elapses (length past) (length past) (HadSince old) (HadSince next) (IsImage now later)
time_now at new content now held later past calls called failures failed sizes fits n l =
    let old : Memory = record { content = content; held = held; past = past; calls = calls; failures = failures } in
    subst (λ (c : List ℕ). Elapses (length past) (length past) (HadSince old) (HadSince (record { content = c; held = later; past = past; calls = called; failures = failed })) (IsImage c later)) (sym n)
    (subst (λ (h : List (Option ℕ)). Elapses (length past) (length past) (HadSince old) (HadSince (record { content = patched at new content; held = h; past = past; calls = called; failures = failed })) (IsImage (patched at new content) h)) (sym l)
    (time at new content held sizes fits past calls called failures failed))

pub kept_now : (at : ℕ) (new content now : List ℕ) (held later : List (Option ℕ)) (written : Vec Span Global) → length held ≡ length content → at + length new ≤ length content
    → now ≡ patched at new content → later ≡ held_over at (length new) held content → 1 ≤ vec_capacity written
    → (spans : List Span) → IsCover spans held → (written.items ≡ spans ++ record { at = at; len = length new } ∷ []) ⊎ (written.items ≡ whole (length content) ∷ []) → IsKept now later written
kept_now at new content now held later written sizes fits n l room spans cover is = record {
  sizes = ap length l ∙ length-held_over at new content held sizes fits ∙ sizes ∙ sym (ap length n ∙ length-patched at new content fits);
  room = room;
  cover = subst (IsCover written.items) (sym l) (elim is [
    | inl more ↦ subst (λ (ss : List Span). IsCover ss (held_over at (length new) held content)) (sym more) (covered at new content held sizes fits spans cover)
    | inr all ↦ subst (λ (ss : List Span). IsCover ss (held_over at (length new) held content)) (sym all) (covered_whole at new content held sizes fits (length content) refl)
  ]);
}
