-- What a sync does to the images, and the history that it adds to.
use Rattle.std.proofs.Common.{◌≡◌, ◌⊎◌, inl, inr, ℕ, List, [], ◌∷◌, ◌++◌, length, drop, Option, None, sym, ap, refl, subst, arith}
use Rattle.std.proofs.lemmas.List.{ext_get_or, drop-append-le, length_push, get_or-replicate}
use Rattle.disk_core.specs.declared.call.Call.{Call}
use Rattle.disk_core.specs.Images.{IsImage, Only}
use Rattle.disk_core.specs.Moments.{Elapses}
use Rattle.disk_core.specs.Memory.{Memory, none_held, crashed, synced_before, HadImage, HadSince}
use Rattle.disk_core.proofs.Spans.{nothing_lost}

earlier : (past : List (List (Option ℕ))) (held : List (Option ℕ)) (synced : List ℕ) → synced_before (past ++ held ∷ []) synced ≡ synced_before past (crashed None held synced)
earlier [] held synced = refl
earlier (h ∷ past) held synced = ap (λ (s : List ℕ). crashed None h s) (earlier past held synced)

had_last : (past : List (List (Option ℕ))) (held : List (Option ℕ)) (synced c : List ℕ) → HadImage (past ++ held ∷ []) synced c → HadImage past (crashed None held synced) c ⊎ IsImage synced held c
had_last [] held synced c (inl image) = inr image
had_last [] held synced c (inr none) = absurd none
had_last (h ∷ past) held synced c (inl image) = inl (inl (subst (λ (s : List ℕ). IsImage s h c) (earlier past held synced) image))
had_last (h ∷ past) held synced c (inr had) = elim (had_last past held synced c had) [ inl before ↦ inl (inr before) | inr image ↦ inr image ]

had_before : (past : List (List (Option ℕ))) (held : List (Option ℕ)) (synced c : List ℕ) → HadImage past (crashed None held synced) c → HadImage (past ++ held ∷ []) synced c
had_before [] held synced c had = absurd had
had_before (h ∷ past) held synced c (inl image) = inl (subst (λ (s : List ℕ). IsImage s h c) (sym (earlier past held synced)) image)
had_before (h ∷ past) held synced c (inr had) = inr (had_before past held synced c had)

had_now : (past : List (List (Option ℕ))) (held : List (Option ℕ)) (synced c : List ℕ) → IsImage synced held c → HadImage (past ++ held ∷ []) synced c
had_now [] held synced c image = inl image
had_now (h ∷ past) held synced c image = inr (had_now past held synced c image)

-- where nothing is held, only the content is an image
pub only_content : (content : List ℕ) (n : ℕ) → length content ≡ n → Only content (IsImage content (none_held n))
only_content content n size c image = ext_get_or 0 c content image.size (λ i within. image.stable i (get_or-replicate n i None None (omega (arith, image.size))))

-- a sync is a moment, and what was held goes into the history
pub time : (content : List ℕ) (held : List (Option ℕ)) (past : List (List (Option ℕ))) (calls called : List Call) (n failures : ℕ) → length content ≡ n
    → let old : Memory = record { content = content; held = held; past = past; calls = calls; failures = failures } in
    let now : Memory = record { content = content; held = none_held n; past = past ++ held ∷ []; calls = called; failures = failures } in
    Elapses (length past) (length (past ++ held ∷ [])) (HadSince old) (HadSince now) (IsImage content (none_held n))
time content held past calls called n failures size =
    let same : crashed None (none_held n) content ≡ content = nothing_lost None n content size in
    record {
      later = omega (arith, length_push past held);
      nothing_else = λ t c le since. elim since [
        | inl image ↦ inr image
        | inr had ↦
            let before : drop t (past ++ held ∷ []) ≡ drop t past ++ held ∷ [] = drop-append-le t past (held ∷ []) le in
            elim (had_last (drop t past) held content c (subst (λ (ps : List (List (Option ℕ))). HadImage ps content c) before (subst (λ (s : List ℕ). HadImage (drop t (past ++ held ∷ [])) s c) same had))) [
              | inl earlier ↦ inl (inr earlier)
              | inr image ↦ inl (inl image)
            ]
      ];
      keeps = λ t c le since.
          let before : drop t (past ++ held ∷ []) ≡ drop t past ++ held ∷ [] = drop-append-le t past (held ∷ []) le in
          let had : HadImage (drop t past ++ held ∷ []) content c = elim since [
            | inl image ↦ had_now (drop t past) held content c image
            | inr had ↦ had_before (drop t past) held content c had
          ] in
          inr (subst (λ (s : List ℕ). HadImage (drop t (past ++ held ∷ [])) s c) (sym same) (subst (λ (ps : List (List (Option ℕ))). HadImage ps content c) (sym before) had));
    }

-- the same of the fields after a sync
pub time_now : (content : List ℕ) (held later : List (Option ℕ)) (past now : List (List (Option ℕ))) (calls called : List Call) (n failures : ℕ) → length content ≡ n → later ≡ none_held n → now ≡ past ++ held ∷ []
    → let old : Memory = record { content = content; held = held; past = past; calls = calls; failures = failures } in
    let next : Memory = record { content = content; held = later; past = now; calls = called; failures = failures } in
    Elapses (length past) (length now) (HadSince old) (HadSince next) (IsImage content later)
time_now content held later past now calls called n failures size l p =
    let old : Memory = record { content = content; held = held; past = past; calls = calls; failures = failures } in
    subst (λ (h : List (Option ℕ)). Elapses (length past) (length now) (HadSince old) (HadSince (record { content = content; held = h; past = now; calls = called; failures = failures })) (IsImage content h)) (sym l)
    (subst (λ (ps : List (List (Option ℕ))). Elapses (length past) (length ps) (HadSince old) (HadSince (record { content = content; held = none_held n; past = ps; calls = called; failures = failures })) (IsImage content (none_held n))) (sym p)
    (time content held past calls called n failures size))
