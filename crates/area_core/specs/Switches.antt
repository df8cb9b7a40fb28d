-- The two areas while the live one changes.
use Rattle.std.specs.Prelude.{◌≡◌, ℕ, List, [], length, drop}
use Rattle.command_core.specs.Commands.{CommandValue}
use Rattle.area_core.specs.declared.area.Area.{Area}
use Rattle.area_core.specs.declared.version.Version.TheVariants.{Two}
use Rattle.area_core.specs.Areas.{IsArea}
use Rattle.area_core.specs.Held.{IsAt}
use Rattle.area_core.specs.Journals.{IsJournal, is_odd, other, start}
use Rattle.area_core.specs.Puts.{Each, IsTorn}

-- where the area that is not live begins
abbrev pub idle_start : Area → ℕ
idle_start area = start area.size (other (is_odd area.selector))

-- the area that is not live is of the second version, and has the last written snapshot and no block
pub record HasIdle (area : Area) (snapshot : List ℕ) (image : List ℕ) : Type 0 where
  pub idle : IsArea Two area.size snapshot [] (drop (start area.size (other (is_odd area.selector))) image)
  pub written : area.written ≡ length snapshot

-- both areas are whole, whatever the selector is
pub record IsBoth (area : Area) (snapshot : List ℕ) (blocks : List (List CommandValue)) (next : List ℕ) (image : List ℕ) : Type 0 where
  pub selector : ℕ
  pub journal : IsJournal area.size selector image
  pub live : IsArea area.version area.size snapshot blocks (drop (start area.size (is_odd area.selector)) image)
  pub idle : IsArea Two area.size next [] (drop (start area.size (other (is_odd area.selector))) image)

-- if each image held the same at the start, so does this one
abbrev pub KeepsLive : (List ℕ → Type 0) → Area → List ℕ → Type 0
KeepsLive images area c = (snapshot : List ℕ) (blocks : List (List CommandValue)) → Each images (IsAt area snapshot blocks) → IsAt area snapshot blocks c

-- one of these images with any bytes in the area that is not live
abbrev pub KeepsRest : (List ℕ → Type 0) → Area → List ℕ → Type 0
KeepsRest images area c = IsTorn (start area.size (other (is_odd area.selector))) area.size images c

-- one of these images with any byte for the selector
abbrev pub KeepsAllButSelector : (List ℕ → Type 0) → List ℕ → Type 0
KeepsAllButSelector images c = IsTorn 16 1 images c

-- if each image had both areas at the start, so has this one
abbrev pub KeepsBoth : (List ℕ → Type 0) → Area → List ℕ → Type 0
KeepsBoth images area c =
    (snapshot : List ℕ) (blocks : List (List CommandValue)) (next : List ℕ) → Each images (IsAt area snapshot blocks) → Each images (HasIdle area next) → IsBoth area snapshot blocks next c

-- while a snapshot is written, the live area is as it was, and so are all bytes but the other area's
pub record IsWriting (images : List ℕ → Type 0) (area : Area) (c : List ℕ) : Type 0 where
  pub live : KeepsLive images area c
  pub rest : KeepsRest images area c

-- while areas are switched, both are as they were, and so are all bytes but the selector
pub record IsSwitching (images : List ℕ → Type 0) (area : Area) (c : List ℕ) : Type 0 where
  pub both : KeepsBoth images area c
  pub rest : KeepsAllButSelector images c
