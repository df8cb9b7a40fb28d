-- What the writes of a snapshot and of the selector may leave.
use Rattle.std.proofs.Common.{◌≡◌, ◌≢◌, inl, inr, ℕ, ◌+◌, ◌%◌, ◌<◌, ◌≤◌, ◌^◌, Bool, true, false, List, [], ◌∷◌, length, get_or, drop, refl, sym, ◌∙◌, ap, subst, arith, eq-eqb}
use Rattle.std.proofs.lemmas.Bool.{cases_eq, ne_eqb}
use Rattle.disk_core.specs.Images.{patched, Torn}
use Rattle.disk_core.proofs.Torn.{take_before, drop_after, torn_patched}
use Rattle.disk_core.proofs.Patched.{patched_in}
use Rattle.area_core.specs.declared.area.Area.{Area}
use Rattle.command_core.specs.Commands.{CommandValue}
use Rattle.area_core.specs.declared.version.Version.{Version}
use Rattle.area_core.specs.declared.version.Version.TheVariants.{Two}
use Rattle.area_core.specs.Areas.{closed_snapshot, IsArea}
use Rattle.area_core.specs.Journals.{is_odd, other, start, IsJournal, Reads}
use Rattle.area_core.specs.Puts.{IsTorn}
use Rattle.area_core.specs.Switches.{IsSwitching, IsWriting, KeepsBoth, KeepsLive, KeepsRest}
use Rattle.area_core.proofs.Areas.{fresh}
use Rattle.area_core.proofs.Journals.{start_least, journal_stays, area_stays}
use Rattle.area_core.proofs.Ranges.{patched_start}

-- ---- the selector's next value names the other area

odd_is : (n : ℕ) (b : Bool) → n % 2 ≡ 1 → is_odd n ≡ true
odd_is n b e = eq-eqb (n % 2) 1 e

even_is : (n : ℕ) → n % 2 ≢ 1 → is_odd n ≡ false
even_is n ne = ne_eqb (n % 2) 1 ne

pub next_odd : (n : ℕ) → is_odd ((n + 1) % 256) ≡ other (is_odd n)
next_odd n = elim (cases_eq (n % 2) 1) [
  | inl odd ↦ let ne : ((n + 1) % 256) % 2 ≢ 1 = (λ e. omega (arith, odd, e)) in even_is ((n + 1) % 256) ne ∙ sym (ap other (odd_is n true odd))
  | inr even ↦ let e : ((n + 1) % 256) % 2 ≡ 1 = omega (arith, even) in odd_is ((n + 1) % 256) true e ∙ sym (ap other (even_is n even))
]

-- ---- a write into the other area

other_stays : (version : Version) (size : ℕ) (second : Bool) (snapshot : List ℕ) (bs : List (List CommandValue)) (n : ℕ) (d c : List ℕ) → IsArea version size snapshot bs (drop (start size second) d) → n ≤ size → Torn (start size (other second)) n d c → IsArea version size snapshot bs (drop (start size second) c)
other_stays version size true snapshot bs n d c a le torn = subst (λ (l : List ℕ). IsArea version size snapshot bs l) (sym (drop_after 32 n (32 + size) d c torn (omega (arith, le)))) a
other_stays version size false snapshot bs n d c a le torn = area_stays version size 32 snapshot bs (32 + size) n d c a (omega (arith, a.fits)) torn

pub keeps_live : (area : Area) (images : List ℕ → Type 0) (at n : ℕ) (c : List ℕ) → at ≡ start area.size (other (is_odd area.selector)) → n ≤ area.size → IsTorn at n images c → KeepsLive images area c
keeps_live area images at n c is le torn snapshot blocks held =
    let was = held torn.0 torn.1 in
    let here : Torn (start area.size (other (is_odd area.selector))) n torn.0 c = subst (λ (m : ℕ). Torn m n torn.0 c) is torn.2 in
    record {
      reads = record {
        journal = journal_stays area.size area.selector (start area.size (other (is_odd area.selector))) n torn.0 c was.reads.journal (omega (arith, start_least area.size (other (is_odd area.selector)))) here;
        area = other_stays area.version area.size (is_odd area.selector) snapshot blocks n torn.0 c was.reads.area le here;
      };
      gate = was.gate;
    }

-- what keeps the rest keeps the live area
pub rest_live : (area : Area) (images : List ℕ → Type 0) (c : List ℕ) → KeepsRest images area c → KeepsLive images area c
rest_live area images c torn = keeps_live area images (start area.size (other (is_odd area.selector))) area.size c refl (omega arith) torn

pub writing : (area : Area) (images : List ℕ → Type 0) (c : List ℕ) → KeepsRest images area c → IsWriting images area c
writing area images c torn = record { live = rest_live area images c torn; rest = torn }

-- a range that may be torn lies in a longer one
widened : (at n m : ℕ) (d c : List ℕ) → Torn at n d c → n ≤ m → Torn at m d c
widened at n m d c torn le = record { size = torn.size; before = torn.before; after = drop_after at n (at + m) d c torn (omega (arith, le)) }

pub keeps_rest : (area : Area) (images : List ℕ → Type 0) (at n : ℕ) (c : List ℕ) → at ≡ start area.size (other (is_odd area.selector)) → n ≤ area.size → IsTorn at n images c → KeepsRest images area c
keeps_rest area images at n c is le torn =
    (torn.0, torn.1, widened (start area.size (other (is_odd area.selector))) n area.size torn.0 c (subst (λ (m : ℕ). Torn m n torn.0 c) is torn.2) le)

pub idle_is : (size at base : ℕ) (snapshot bytes d : List ℕ) → at ≡ base → base ≤ length d → length snapshot < 2 ^ 56 → length snapshot + 9 ≤ size → bytes ≡ closed_snapshot Two snapshot → IsArea Two size snapshot [] (drop base (patched at bytes d))
idle_is size at base snapshot bytes d is le seven room are =
    fresh Two size snapshot (drop (length (closed_snapshot Two snapshot)) (drop base d)) _ seven room
    (ap (λ (m : ℕ). drop base (patched m bytes d)) is ∙ ap (λ (l : List ℕ). drop base (patched base l d)) are ∙ patched_start base (closed_snapshot Two snapshot) d le)

-- the other area of two that are held alike
pub idle_moved : (a b : Area) (snapshot c : List ℕ) → b.size ≡ a.size → b.selector ≡ a.selector → IsArea Two a.size snapshot [] (drop (start a.size (other (is_odd a.selector))) c) → IsArea Two b.size snapshot [] (drop (start b.size (other (is_odd b.selector))) c)
idle_moved a b snapshot c size selector is =
    subst (λ (k : ℕ). IsArea Two k snapshot [] (drop (start k (other (is_odd b.selector))) c)) (sym size) (subst (λ (k : ℕ). IsArea Two a.size snapshot [] (drop (start a.size (other (is_odd k))) c)) (sym selector) is)

-- ---- a write of the selector

selects : (size selector : ℕ) (d c : List ℕ) → IsJournal size selector d → Torn 16 1 d c → IsJournal size (get_or c 16 0) c
selects size selector d c j torn = record {
  named = j.named;
  begins = take_before 16 1 16 d c torn (omega arith) ∙ j.begins;
  selects = refl;
  least = j.least;
  most = j.most;
  fits = omega (arith, torn.size, j.fits);
}

same_area : (version : Version) (size : ℕ) (second : Bool) (snapshot : List ℕ) (bs : List (List CommandValue)) (d c : List ℕ) → IsArea version size snapshot bs (drop (start size second) d) → Torn 16 1 d c → IsArea version size snapshot bs (drop (start size second) c)
same_area version size second snapshot bs d c a torn =
    subst (λ (l : List ℕ). IsArea version size snapshot bs l) (sym (drop_after 16 1 (start size second) d c torn (omega (arith, start_least size second)))) a

pub keeps_both : (area : Area) (images : List ℕ → Type 0) (c : List ℕ) → IsTorn 16 1 images c → KeepsBoth images area c
keeps_both area images c torn snapshot blocks next held idle =
    let was = held torn.0 torn.1 in
    record {
      selector = get_or c 16 0;
      journal = selects area.size area.selector torn.0 c was.reads.journal torn.2;
      live = same_area area.version area.size (is_odd area.selector) snapshot blocks torn.0 c was.reads.area torn.2;
      idle = same_area Two area.size (other (is_odd area.selector)) next [] torn.0 c (idle torn.0 torn.1).idle torn.2;
    }

pub switching : (area : Area) (images : List ℕ → Type 0) (c : List ℕ) → IsTorn 16 1 images c → IsSwitching images area c
switching area images c torn = record { both = keeps_both area images c torn; rest = torn }

pub switched : (size selector : ℕ) (next d : List ℕ) → IsJournal size selector d → IsArea Two size next [] (drop (start size (other (is_odd selector))) d) → Reads Two size ((selector + 1) % 256) next [] (patched 16 ((selector + 1) % 256 ∷ []) d)
switched size selector next d j idle =
    let now : ℕ = (selector + 1) % 256 in
    let room : 17 ≤ length d = omega (arith, j.fits) in
    let torn : Torn 16 1 d (patched 16 (now ∷ []) d) = torn_patched 16 1 (now ∷ []) d refl room in
    let is : get_or (patched 16 (now ∷ []) d) 16 0 ≡ now = patched_in 16 (now ∷ []) d 16 0 room (omega arith) (omega arith) in
    record {
      journal = subst (λ (k : ℕ). IsJournal size k (patched 16 (now ∷ []) d)) is (selects size selector d _ j torn);
      area = subst (λ (b : Bool). IsArea Two size next [] (drop (start size b) (patched 16 (now ∷ []) d))) (sym (next_odd selector)) (same_area Two size (other (is_odd selector)) next [] d _ idle torn);
    }
