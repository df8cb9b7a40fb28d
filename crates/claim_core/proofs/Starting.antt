-- How the ring starts.
use Rattle.std.proofs.Common.{◌≡◌, ℕ, zero, suc, ◌+◌, ◌-◌, ◌*◌, ◌%◌, ◌<◌, ◌≤◌, ◌≢◌, List, [], ◌∷◌, ◌++◌, ◌⊎◌, map, length, get_or, set, replicate, false, sym, refl, ap, ◌∙◌, subst, inl, inr, ⊎_elim, arith, length-set, get_or-set_other, get_or-set_same, mod-lt}
use Rattle.std.proofs.lemmas.Bool.{cases_eq, false≢true}
use mathlib.Core.Option.{some, some-injective, some-ne-none}
use lib.ListN.{get_elem?, length-map, length-replicate}
use Rattle.std.specs.Prelude.{Option, Some, None, slice_get}
use Rattle.atomic_table.specs.Table.{opening}
use Rattle.command_core.specs.Entries.{EntryValue}
use Rattle.claim_core.specs.declared.views.Limits.{Limits}
use Rattle.claim_core.specs.declared.views.Owner.{Owner}
use Rattle.claim_core.specs.declared.views.View.{View}
use Rattle.claim_core.specs.Places.{free_for}
use Rattle.claim_core.specs.Rule.{far, first_view, Fits, RingRule}
use Rattle.claim_core.specs.Steps.{owning}
use Rattle.std.specs.Prelude.{All}
use Rattle.std.proofs.lemmas.List.Elements.{All-push}
use Rattle.atomic_table.specs.Seated.{TableId}
use Rattle.claim_core.specs.Seats.{SessionSeatValue, new_session}
use Rattle.claim_core.specs.Laid.{IsLaid}
use Rattle.claim_core.proofs.Moves.{apart}

blank : {T : Type 0} (n i : ℕ) → i < n → get_elem? (map some (replicate {A = Option T} n None)) i ≡ some (some None)
blank zero i near = absurd (omega arith)
blank (suc n) zero near = refl
blank (suc n) (suc i) near = blank n i (omega arith)

-- one more place is written
pub laid_more : (row : List ℕ) (n base i : ℕ) → 0 < n → i < n → IsLaid row n base i → IsLaid (set row ((base + i) % n + 3) (free_for (base + i))) n base (i + 1)
laid_more row n base i pos lt laid = let t : ℕ = base + i in let k : ℕ = t % n + 3 in let y : ℕ = free_for t in let tn : t % n < n = mod-lt t pos in let w : length row ≡ n + 3 = laid.0 in (
  length-set row k y ∙ w,
  get_or-set_other row k 0 y 0 (λ q. omega arith) ∙ laid.1,
  get_or-set_other row k 1 y 0 (λ q. omega arith) ∙ laid.2,
  get_or-set_other row k 2 y 0 (λ q. omega arith) ∙ laid.3,
  λ j lj. ⊎_elim (λ (e : j ≡ i). subst (λ z. get_or (set row k y) ((base + z) % n + 3) 0 ≡ free_for (base + z)) (sym e) (get_or-set_same row k y 0 (omega arith)))
      (λ ne. let other : (base + j) % n ≢ t % n = apart base n (base + j) t (omega arith) (omega arith) (omega arith) (omega arith) (λ q. ne (omega arith)) in
      get_or-set_other row k ((base + j) % n + 3) y 0 (λ q. other (omega arith)) ∙ laid.4 j (omega arith)) (cases_eq j i),
)

pub starts : {B : Type 0} (key : Limits) (row : List ℕ) (n : ℕ) → 0 < n → n ≤ 4096 → key.seats * key.window ≤ n → key.base ≤ 2 * far → IsLaid row n key.base n → RingRule {B = B} key (opening row (replicate n None) (first_view key))
starts {B} key row n pos small roomy low laid = let o : Owner = owning key.base [] false key.base false 0 [] in let homes = map some (replicate {A = Option (EntryValue B)} n None) in let is : length homes ≡ n = length-map (replicate {A = Option (EntryValue B)} n None) some ∙ length-replicate n None in
    record {
      log = [];
      owner = o;
      base_low = low;
      roomy = omega arith;
      some_place = omega arith;
      small = omega arith;
      wide = omega (arith, laid.0);
      tail_is = omega (arith, laid.1);
      mark_is = laid.2;
      stop_is = laid.3;
      at_owner = refl;
      base_is = refl;
      low = omega arith;
      published_low = omega arith;
      prefix = ([], refl);
      counted = refl;
      few = omega arith;
      once = λ i l. absurd (omega arith);
      each_view = each key;
      places = λ t a b h. inl (omega arith, place t (omega arith) (omega arith), subst (λ m. get_elem? homes (t % m) ≡ some (some None)) (sym is) (blank n (t % n) (mod-lt t pos)));
      held = λ h. absurd (false≢true h);
    }
  where
    each : (k : Limits) (j : ℕ) (v : View) → get_elem? (first_view k ∷ []) j ≡ some v → Fits k.base k.window k.base false (k.base + 0) [] j v
    each k zero v e = subst (Fits k.base k.window k.base false (k.base + 0) [] 0) (some-injective (first_view k) v e) (refl, λ j c q. absurd (some-ne-none c (sym q)))
    each k (suc j) v e = absurd (some-ne-none v (sym e))

    place : (t : ℕ) → key.base ≤ t → t < key.base + n → get_or row (t % length (map some (replicate {A = Option (EntryValue B)} n None)) + 3) 0 ≡ free_for t
    place t a b = let i : ℕ = t - key.base in let e : key.base + i ≡ t = omega arith in let is : length (map some (replicate {A = Option (EntryValue B)} n None)) ≡ n = length-map (replicate {A = Option (EntryValue B)} n None) some ∙ length-replicate n None in
        subst (λ m. get_or row (t % m + 3) 0 ≡ free_for t) (sym is) (subst (λ z. get_or row (z % n + 3) 0 ≡ free_for z) e (laid.4 i (omega arith)))

abbrev value_in : {A : Type 0} → A → Option A → A
value_in d None = d
value_in d (Some x) = x

abbrev IsThere : {A : Type 0} → Option A → Type 0
IsThere None = ⊥
IsThere (Some x) = Unit {0}

-- an item of a list that one is added to
get_snoc : {A : Type 0} (xs : List A) (y : A) (k : ℕ) (z : A) → slice_get (xs ++ y ∷ []) k ≡ Some z → (slice_get xs k ≡ Some z) ⊎ ((k ≡ length xs) × (y ≡ z))
get_snoc [] y zero z e = inr (refl, ap (value_in y) e)
get_snoc [] y (suc k) z e = absurd (subst IsThere (sym e) tt)
get_snoc (x ∷ xs) y zero z e = inl e
get_snoc (x ∷ xs) y (suc k) z e = ⊎_elim (λ old. inl old) (λ new. inr (ap suc new.0, new.1)) (get_snoc xs y k z e)

abbrev pub Numbered : List SessionSeatValue → Type 0
Numbered seats = (k : ℕ) (s : SessionSeatValue) → slice_get seats k ≡ Some s → s.number ≡ k

abbrev pub AllNew : TableId → ℕ → List SessionSeatValue → Type 0
AllNew ring base seats = All (λ (s : SessionSeatValue). s ≡ new_session ring base s.number) seats

-- the seats of a new ring, and one more
pub one_more : (ring : TableId) (base n : ℕ) (seats seats' : List SessionSeatValue) (seat : SessionSeatValue) → seats' ≡ seats ++ seat ∷ [] → length seats ≡ n → seat ≡ new_session ring base n → AllNew ring base seats → Numbered seats → AllNew ring base seats' × Numbered seats'
one_more ring base n seats seats' seat more len is new numbered =
    let itself : seat ≡ new_session ring base seat.number = is ∙ ap (λ (s : SessionSeatValue). new_session ring base s.number) (sym is) in
    let next : Numbered (seats ++ seat ∷ []) = λ k s at. ⊎_elim (λ e. numbered k s e) (λ (last : (k ≡ length seats) × (seat ≡ s)). ap (λ (z : SessionSeatValue). z.number) (sym last.1) ∙ (ap (λ (z : SessionSeatValue). z.number) is ∙ sym (last.0 ∙ len))) (get_snoc seats seat k s at) in
    (subst (AllNew ring base) (sym more) (All-push (λ (s : SessionSeatValue). s ≡ new_session ring base s.number) seats seat new itself), subst Numbered (sym more) next)
