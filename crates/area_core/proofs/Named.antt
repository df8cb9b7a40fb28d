-- Disks that have a journal's name, or none, or any bytes in its place.
use Rattle.std.proofs.Common.{◌≡◌, ◌≢◌, ◌⊎◌, inl, inr, ⊎_elim, ℕ, ◌+◌, ◌*◌, ◌<◌, ◌≤◌, ◌^◌, List, [], ◌∷◌, ◌++◌, length, get_or, take, drop, replicate, codes, refl, sym, ◌∙◌, ap, subst, arith, take-append-drop}
use Rattle.std.specs.Int.{w64, to_be_bytes}
use Rattle.std.specs.Cmp.Lexicographic.{bytes_decides}
use Rattle.std.specs.Str.{bytes_eq}
use Rattle.std.proofs.lemmas.Bool.{cases_Bool, false≢true}
use Rattle.std.proofs.lemmas.List.{drop-drop, drop-take, get_or-take, take-take, take_at}
use Rattle.disk_core.specs.declared.disk.Disk.{Ghosts}
use Rattle.disk_core.specs.Images.{Only, patched, Torn}
use Rattle.disk_core.specs.Moments.{LeavesOnly}
use Rattle.disk_core.proofs.Patched.{length-patched}
use Rattle.disk_core.proofs.Runs.{weaker}
use Rattle.disk_core.proofs.Torn.{take_before, torn_patched}
use Rattle.area_core.specs.declared.version.Version.{Version}
use Rattle.area_core.specs.declared.version.Version.TheVariants.{One, Two}
use Rattle.area_core.specs.Areas.{closed_snapshot, IsArea}
use Rattle.area_core.specs.Damage.{IsNoJournal, IsOtherVersion}
use Rattle.area_core.specs.Journals.{digits, header, Reads}
use Rattle.area_core.specs.Making.{IsBegun, IsMaking, IsUnnamed, IsUnnaming, Makes}
use Rattle.area_core.specs.Puts.{IsStable, IsTorn}
use Rattle.area_core.proofs.Areas.{length-sealed}
use Rattle.area_core.proofs.Ranges.{patched_start}
use Rattle.area_core.proofs.Switches.{idle_is}

-- bytes are those, or others
decided : (xs ys : List ℕ) → (xs ≡ ys) ⊎ (xs ≢ ys)
decided xs ys =
    ⊎_elim (λ yes. inl ((bytes_decides xs ys).0 yes)) (λ no. inr (λ same. false≢true (sym no ∙ (bytes_decides xs ys).1 same))) (cases_Bool (bytes_eq xs ys))

-- what is written behind the name gives none
pub torn_none : (at n : ℕ) (d c : List ℕ) → 6 ≤ at → Torn at n d c → IsNoJournal d → IsNoJournal c
torn_none at n d c far torn none =
    ⊎_elim (λ short. inl (omega (arith, short, torn.size))) (λ other. inr (λ named. other (sym (take_before at n 6 d c torn far) ∙ named))) none

-- ---- the header's rest, and the first area

-- a header without its name is written
pub begun : (size : ℕ) (rest d : List ℕ) → rest ≡ to_be_bytes w64 size ++ replicate 16 0 → 8 ≤ length d → take 24 (drop 8 (patched 8 rest d)) ≡ to_be_bytes w64 size ++ replicate 16 0
begun size rest d is room =
    let all = to_be_bytes w64 size ++ replicate 16 0 in
    ap (λ (l : List ℕ). take 24 (drop 8 (patched 8 l d))) is ∙ ap (λ (l : List ℕ). take 24 l) (patched_start 8 all d room) ∙ take_at all (drop (length all) (drop 8 d)) 24 refl

-- a snapshot is written into the first area
pub filled : (size : ℕ) (snapshot d : List ℕ) → take 24 (drop 8 d) ≡ to_be_bytes w64 size ++ replicate 16 0 → length snapshot < 2 ^ 56 → length snapshot + 9 ≤ size
    → 4096 ≤ size → 32 + 2 * size < 2 ^ 64 → 32 + 2 * size ≤ length d → IsUnnamed size snapshot (patched 32 (closed_snapshot Two snapshot) d)
filled size snapshot d sized seven room least most fits =
    let ys = closed_snapshot Two snapshot in
    let within : 32 + length ys ≤ length d = omega (arith, length-sealed Two snapshot, room, fits) in
    let first : take 32 (patched 32 ys d) ≡ take 32 d = (torn_patched 32 (length ys) ys d refl within).before in
    record {
      sized = sym (drop-take 8 24 (patched 32 ys d)) ∙ ap (λ (l : List ℕ). drop 8 l) first ∙ drop-take 8 24 d ∙ sized;
      area = idle_is size 32 32 snapshot ys d refl (omega (arith, fits)) seven room refl;
      least = least;
      most = most;
      fits = omega (arith, fits, length-patched 32 ys d within);
    }

-- ---- the name

-- bytes and what follows them, if those are known
headed : (c name rest : List ℕ) → take 8 c ≡ name → drop 8 c ≡ rest → c ≡ name ++ rest
headed c name rest front behind = sym (take-append-drop 8 c) ∙ (λ i. front i ++ behind i)

module _ (size : ℕ) (snapshot d : List ℕ) (all : IsUnnamed size snapshot d) where
  area_size : take 8 (drop 8 d) ≡ to_be_bytes w64 size
  area_size = sym (take-take 8 24 (drop 8 d) (omega arith)) ∙ ap (λ (l : List ℕ). take 8 l) all.sized

  selector : get_or (drop 8 d) 8 0 ≡ 0
  selector = sym (get_or-take 24 (drop 8 d) 8 0 (omega arith)) ∙ ap (λ (l : List ℕ). get_or l 8 0) all.sized

  begins : (v : Version) → take 16 ((codes "STOMPJ" ++ digits v) ++ drop 8 d) ≡ header v size
  begins One = ap (λ (l : List ℕ). codes "STOMPJ" ++ (codes "01" ++ l)) area_size
  begins Two = ap (λ (l : List ℕ). codes "STOMPJ" ++ (codes "02" ++ l)) area_size

  selects : (v : Version) → get_or ((codes "STOMPJ" ++ digits v) ++ drop 8 d) 16 0 ≡ 0
  selects One = selector
  selects Two = selector

  areas : (v : Version) → drop 32 ((codes "STOMPJ" ++ digits v) ++ drop 8 d) ≡ drop 32 d
  areas One = drop-drop 24 8 d
  areas Two = drop-drop 24 8 d

  -- the name of a version stands before it
  whole : (v : Version) (c : List ℕ) → length c ≡ length d → take 8 c ≡ codes "STOMPJ" ++ digits v → drop 8 c ≡ drop 8 d → Reads Two size 0 snapshot [] c
  whole v c long named rest =
      let is : c ≡ (codes "STOMPJ" ++ digits v) ++ drop 8 d = headed c (codes "STOMPJ" ++ digits v) (drop 8 d) named rest in
      record {
        journal = record {
          named = v;
          begins = ap (λ (l : List ℕ). take 16 l) is ∙ begins v;
          selects = ap (λ (l : List ℕ). get_or l 16 0) is ∙ selects v;
          least = all.least;
          most = all.most;
          fits = omega (arith, long, all.fits);
        };
        area = subst (λ (l : List ℕ). IsArea Two size snapshot [] l) (sym (ap (λ (l : List ℕ). drop 32 l) is ∙ areas v)) all.area;
      }

  spelled : (v : Version) (c : List ℕ) → take 6 c ≡ codes "STOMPJ" → take 2 (drop 6 c) ≡ digits v → take 8 c ≡ codes "STOMPJ" ++ digits v
  spelled v c named is =
      sym (take-append-drop 6 (take 8 c)) ∙ (λ i. (take-take 6 8 c (omega arith) ∙ named) i ++ (drop-take 6 2 c ∙ is) i)

  neither : (bytes : List ℕ) → bytes ≢ codes "01" → bytes ≢ codes "02" → (v : Version) → bytes ≡ digits v → ⊥
  neither bytes first second One is = first is
  neither bytes first second Two is = second is

  -- any bytes stand in the name's place
  pub torn_name : (before c : List ℕ) → Torn 0 8 d c → IsMaking before (Reads Two size 0 snapshot []) c
  torn_name before c torn = elim (decided (take 6 c) (codes "STOMPJ")) [
    | inr other ↦ inl (inr (inr other))
    | inl named ↦ elim (decided (take 2 (drop 6 c)) (codes "01")) [
      | inl one ↦ inr (inr (whole One c torn.size (spelled One c named one) torn.after))
      | inr not_one ↦ elim (decided (take 2 (drop 6 c)) (codes "02")) [
        | inl two ↦ inr (inr (whole Two c torn.size (spelled Two c named two) torn.after))
        | inr not_two ↦ inr (inl (record { long = omega (arith, torn.size, all.fits); named = named; version = λ it. neither (take 2 (drop 6 c)) not_one not_two it.0 it.1 }))
      ]
    ]
  ]

  abbrev pub name_written : List ℕ
  name_written = patched 0 (codes "STOMPJ02") d

  long_enough : length name_written ≡ length d
  long_enough = length-patched 0 (codes "STOMPJ02") d (omega (arith, all.fits))

  -- each image is the journal once the name is written and synced
  pub made : {D : Type 0} (disk : Ghosts D) (now : D) → IsStable disk now name_written → Makes disk now size snapshot
  made disk now stable = record {
    made = λ c is. subst (λ (l : List ℕ). Reads Two size 0 snapshot [] l) (sym (stable.only c is)) (whole Two name_written long_enough refl refl);
    begins = λ c is. ap (λ (l : List ℕ). take 32 l) (stable.only c is) ∙ ap (λ (l : List ℕ). codes "STOMPJ" ++ (codes "02" ++ l)) all.sized;
    only = λ c is. stable.only c is ∙ sym stable.content;
  }

-- ---- the moments

module _ {D : Type 0} (disk : Ghosts D) (before : List ℕ) (whole : List ℕ → Type 0) where
  -- the name is taken away
  pub unnaming : (old new : D) → LeavesOnly disk.moment disk.images_since old new (IsUnnaming before) → LeavesOnly disk.moment disk.images_since old new (IsMaking before whole)
  unnaming old new leaves = weaker disk old new _ _ leaves (λ c is. inl is)

  -- more is written behind a name that is none
  pub behind : (old new : D) (at n : ℕ) → 6 ≤ at → IsNoJournal (disk.content old) → Only (disk.content old) (disk.images old) → LeavesOnly disk.moment disk.images_since old new (IsTorn at n (disk.images old))
      → LeavesOnly disk.moment disk.images_since old new (IsUnnaming before)
  behind old new at n far none only leaves =
      weaker disk old new _ _ leaves (λ c torn. inr (torn_none at n torn.0 c far torn.2 (subst (λ (l : List ℕ). IsNoJournal l) (sym (only torn.0 torn.1)) none)))
