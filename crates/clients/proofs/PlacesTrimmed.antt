-- What stands at a desk once free places at its end are taken away.
use Rattle.std.proofs.Common.{◌≡◌, ℕ, zero, suc, ◌+◌, ◌-◌, ◌<◌, List, [], ◌∷◌, ◌++◌, Option, Some, None, length, replicate, set, get_or, inl, inr, refl, sym, ap, ◌∙◌, subst, append_assoc, append-nil, arith}
use Rattle.std.specs.Prelude.{◌≢◌, MatchOption, option_to_list, slice_get, true}
use Rattle.std.specs.List.{sum_by}
use Rattle.std.proofs.lemmas.Bool.{cases_eq}
use Rattle.std.proofs.lemmas.List.{length-append, length-replicate, length-set, get_or-set_other, map-append}
use Rattle.std.proofs.lemmas.List.Sums.{sum_by_push}
use Rattle.claim_core.specs.Seats.{SessionSeatValue}
use Rattle.clients.specs.declared.progress.Progress.{Progress}
use Rattle.clients.specs.declared.progress.Progress.TheVariants.{Gone}
use Rattle.clients.specs.declared.desk.Seated.{Seated}
use Rattle.clients.specs.Conversations.{holds, opens, part_of}
use Rattle.clients.specs.Desks.{DeskValue, IsDesk, Leaves, Trims, desk, seated_at, stand_of}
use Rattle.clients.specs.Places.{is_over_at, progress_at}
use Rattle.clients.proofs.DeskPlaces.{as_many, get_same_or, sitting, still_there, vacated}

-- ── the loop ──

pub taken_or_none : {X : Type 0} (o : Option X) (n m k : ℕ) → n ≡ m → MatchOption o ((m ≡ 0) × (k ≡ 0)) (λ x. k + 1 ≡ m) → MatchOption o (n ≡ 0) (λ x. Unit {0})
taken_or_none None n m k same none = same ∙ none.0
taken_or_none (Some x) n m k same some = tt

-- it has become so many free places shorter
abbrev pub Shorter : {X : Type 0} → List (Option X) → List (Option X) → Type 0
Shorter old now = (free : ℕ) × (old ≡ now ++ replicate free None)

pub not_yet : {X : Type 0} (all : List (Option X)) → Shorter all all
not_yet all = (0, sym (append-nil all))

at_end : {X : Type 0} (xs : List X) (x : X) → slice_get (xs ++ x ∷ []) (length xs) ≡ Some x
at_end [] x = refl
at_end (y ∷ xs) x = at_end xs x

last_of : {X : Type 0} (xs : List X) (x : X) → slice_get (xs ++ x ∷ []) (length (xs ++ x ∷ []) - 1) ≡ Some x
last_of xs x = ap (λ n. slice_get (xs ++ x ∷ []) n) (omega (arith, length-append xs (x ∷ []))) ∙ at_end xs x

same_of : {X : Type 0} (x y : X) → Some x ≡ Some y → x ≡ y
same_of x y e = cc

pub within_list : {X : Type 0} (l : List X) (k : ℕ) (x : X) → slice_get l k ≡ Some x → k < length l
within_list [] zero x e = absurd (let never : None ≡ Some x = e in cc)
within_list [] (suc k) x e = absurd (let never : None ≡ Some x = e in cc)
within_list (y ∷ l) zero x e = omega (arith)
within_list (y ∷ l) (suc k) x e = omega (arith, within_list l k x e)

pub shorter_by : {X : Type 0} (now new : List (Option X)) (taken : Option (Option X)) → now ≡ new ++ option_to_list taken → MatchOption taken (length now ≡ 0) (λ one. Unit {0}) → slice_get now (length now - 1) ≡ Some None → length new < length now
shorter_by now new None split some last = absurd (omega (arith, some, within_list now (length now - 1) None last))
shorter_by now new (Some one) split some last = omega (arith, ap length split, length-append new (one ∷ []))

-- one free place less, by what was taken out of all
pub one_less : {X : Type 0} (old now new : List (Option X)) (taken : Option (Option X)) → Shorter old now → now ≡ new ++ option_to_list taken → MatchOption taken (length now ≡ 0) (λ one. Unit {0}) → slice_get now (length now - 1) ≡ Some None → Shorter old new
one_less old now new None s split some last = absurd (omega (arith, some, within_list now (length now - 1) None last))
one_less old now new (Some one) s split some last =
    let free : one ≡ None = same_of one None (sym (last_of new one) ∙ ap (λ l. slice_get l (length l - 1)) (sym split) ∙ last) in
    (suc s.0, s.1 ∙ ap (λ l. l ++ replicate s.0 None) (split ∙ ap (λ o. new ++ o ∷ []) free) ∙ append_assoc new (None ∷ []) (replicate s.0 None))

-- no free place is the last
pub no_more : {X : Type 0} (old now : List (Option X)) → Shorter old now → slice_get now (length now - 1) ≢ Some None → Trims old now
no_more old now s last = record {
  free = s.0;
  whole = s.1;
  last = λ k free. elim (cases_eq (k + 1) (length now)) [
    | inl same ↦ absurd (last (ap (λ n. slice_get now n) (omega (arith, same)) ∙ free))
    | inr other ↦ omega (arith, other, within_list now k None free)
  ];
}

-- ── what stands then ──

same_sum : {B L : Type 0} (f : Progress → ℕ) → f Gone ≡ 0 → (places : List (Option (Seated B L))) (n : ℕ) → sum_by f (stand_of (places ++ replicate n None)) ≡ sum_by f (stand_of places)
same_sum {B} {L} f gone places zero = ap (λ l. sum_by f (stand_of l)) (append-nil places)
same_sum {B} {L} f gone places (suc n) =
    ap (λ l. sum_by f (stand_of l)) (sym (append_assoc places (None ∷ []) (replicate n None)))
    ∙ same_sum f gone (places ++ None ∷ []) n
    ∙ ap (λ l. sum_by f l) (map-append progress_at places (None ∷ []))
    ∙ omega (arith, sum_by_push f (stand_of places) Gone, gone)

pub trimmed_desk : {B L : Type 0} (before seat : SessionSeatValue) (places new : List (Option (Seated B L))) → Trims places new → IsDesk before seat places → IsDesk before seat new
trimmed_desk {B} {L} before seat places new t d =
    let all : IsDesk before seat (new ++ replicate t.free None) = subst (λ l. IsDesk before seat l) t.whole d in record {
      ring = all.ring;
      number = all.number;
      speaks = record {
        more = all.speaks.more;
        whole = all.speaks.whole;
        parts = λ n. as_many n _ _ _ _ (part_of n all.speaks.more) (sym (same_sum (holds n) refl new t.free)) (omega (arith, same_sum (opens n) refl new t.free)) (all.speaks.parts n);
      };
    }

-- ── a client is let go, and free places at the end with it ──

pub left_desk : {B L : Type 0} (before seat : SessionSeatValue) (places new : List (Option (Seated B L))) (at : ℕ) (was is : Option (Seated B L)) → at < length places → was ≡ get_or places at was
    → is ≡ None → Trims (set places at is) new → IsDesk before seat places → IsDesk before seat new
left_desk before seat places new at was is within there none t d = trimmed_desk before seat (set places at is) new t (vacated before seat places at was is within there none d)

pub leaves_so : {B L : Type 0} (old : DeskValue B L) (limit : ℕ) (before seat : SessionSeatValue) (places new : List (Option (Seated B L))) (at : ℕ) (was is : Option (Seated B L)) (seated : Seated B L)
    → desk limit before seat places ≡ old → at < length places → was ≡ get_or places at was → was ≡ Some seated → is ≡ None → is_over_at was ≡ true → Trims (set places at is) new → Leaves old (desk limit before seat new) at seated.link
leaves_so {B} {L} old limit before seat places new at was is seated same within there it none over t =
    let seen : (k : ℕ) → seated_at new k ≡ seated_at (set places at is) k = λ k. sym (still_there new t.free k) ∙ ap (λ l. seated_at l k) (sym t.whole) in
    let long : length (set places at is) ≡ length new + t.free = ap length t.whole ∙ length-append new (replicate t.free None) ∙ ap (λ n. length new + n) (length-replicate t.free None) in
    let of_old : length places ≡ length old.places = ap (λ (d : DeskValue B L). length d.places) same in record {
      was = seated;
      before = ap (λ (d : DeskValue B L). d.before) same;
      seat = ap (λ (d : DeskValue B L). d.seat) same;
      limit = ap (λ (d : DeskValue B L). d.limit) same;
      sat = ap (λ (d : DeskValue B L). slice_get d.places at) (sym same) ∙ sitting places at was within there ∙ ap (λ x. Some x) it;
      over = subst (λ (o : Option (Seated B L)). is_over_at o ≡ true) it over;
      link_is = refl;
      free = seen at ∙ get_same_or places at is within ∙ none;
      others = λ k other. seen k ∙ get_or-set_other places at k is None other ∙ ap (λ (d : DeskValue B L). seated_at d.places k) same;
      count = omega (arith, long, of_old, length-set places at is);
      last = t.last;
    }
