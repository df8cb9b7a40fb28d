-- What compaction may leave.
use Rattle.std.proofs.Common.{◌≡◌, ◌⊎◌, ◌+◌, inl, inr, ⊎_elim, false, ℕ, List, [], ◌∷◌, Result, Ok, Err, OnOk, OnErr, refl, sym, ◌∙◌, subst, arith}
use Rattle.std.proofs.Math.Logic.{∥∥₁_prop, ∥∥₁_map, ∥∥₁_elim}
use Rattle.disk_core.specs.Images.{Torn, patched}
use Rattle.disk_core.proofs.Torn.{torn_patched}
use Rattle.command_core.specs.Commands.{CommandValue}
use Rattle.broker_core.specs.States.{State}
use Rattle.snapshot_core.specs.Snapshots.{Spells}
use Rattle.area_core.specs.declared.area.Area.{Area}
use Rattle.area_core.specs.declared.version.Version.{Version}
use Rattle.area_core.specs.declared.version.Version.TheVariants.{Two}
use Rattle.area_core.specs.Held.{IsAt}
use Rattle.area_core.specs.Journals.{Reads}
use Rattle.area_core.specs.Puts.{Each}
use Rattle.area_core.specs.Switches.{HasIdle, IsBoth, IsWriting, KeepsAllButSelector, KeepsBoth, KeepsLive, KeepsRest}
use Rattle.area_core.proofs.Areas.{length-fresh}
use Rattle.area_core.proofs.Switches.{keeps_both}
use Rattle.recover_core.specs.Compactions.{HoldsItAlone, IsWritingState, KeepsState, KeepsTwo, StandsTwice}
use Rattle.recover_core.specs.Opens.{HasWritten}
use Rattle.recover_core.specs.Sound.{IsSound, Sound}
use Rattle.recover_core.specs.Standing.{Leads, Standing, Stands, StandFor}
use Rattle.recover_core.proofs.Opens.{both_stand, moved}
use Rattle.recover_core.proofs.Stores.{leads, stands}

-- while nothing is done, and while the snapshot is written, the live area stays
pub written_as : (images : List ℕ → Type 0) (area : Area) (s : State) (c : List ℕ) → KeepsLive images area c → KeepsState images area s c
written_as images area s c keeps snapshot blocks each lead = stands area.version area.size area.selector snapshot blocks c s (keeps snapshot blocks each).reads lead

pub still_as : (images : List ℕ → Type 0) (area : Area) (s : State) (c : List ℕ) → images c → KeepsState images area s c
still_as images area s c image = written_as images area s c (λ snapshot blocks each. each c image)

pub rest_as : (images : List ℕ → Type 0) (area : Area) (s : State) (c : List ℕ) → KeepsRest images area c → KeepsTwo images area s c
rest_as images area s c rest snapshot blocks each lead = inl rest

pub writing_as : (images : List ℕ → Type 0) (area : Area) (s : State) (c : List ℕ) → IsWriting images area c → IsWritingState images area s c
writing_as images area s c writing = record { stands = written_as images area s c writing.live; two = rest_as images area s c writing.rest }

-- What is known once the snapshot was written: the live area is as it was, and the other has the snapshot.
pub record Copied (images now : List ℕ → Type 0) (area next : Area) (s : State) : Type 0 where
  pub live : (c : List ℕ) → now c → KeepsLive images area c
  pub size : next.size ≡ area.size
  pub selector : next.selector ≡ area.selector
  pub gate : next.gate ≡ area.gate
  pub version : next.version ≡ area.version
  pub snapshot : List ℕ
  pub idle : Each now (HasIdle next snapshot)
  pub spells : Spells snapshot s

module _ {images now : List ℕ → Type 0} {area next : Area} {s : State} (w : Copied images now area next s) where
  held : (snapshot : List ℕ) (blocks : List (List CommandValue)) → Each images (IsAt area snapshot blocks) → Each now (IsAt next snapshot blocks)
  held snapshot blocks each d image = moved area next snapshot blocks d w.size w.selector w.gate w.version (w.live d image snapshot blocks each)

  copy_leads : Leads Two w.snapshot [] s
  copy_leads = record { first = s; spells = w.spells; is = refl }

  either_stands : (snapshot : List ℕ) (blocks : List (List CommandValue)) (c : List ℕ) → IsBoth next snapshot blocks w.snapshot c → Leads area.version snapshot blocks s → Stands c s
  either_stands snapshot blocks c both lead = ⊎_elim (λ (x : Stands c s). x) (λ (x : Stands c s). x) (both_stand next snapshot blocks w.snapshot s s c both (subst (λ (v : Version). Leads v snapshot blocks s) (sym w.version) lead) copy_leads)

  pub switched_as : (c : List ℕ) → KeepsBoth now next c → KeepsState images area s c
  switched_as c keeps snapshot blocks each lead = either_stands snapshot blocks c (keeps snapshot blocks w.snapshot (held snapshot blocks each) w.idle) lead

  -- whatever the selector is, in place of what it is
  pub twice_as : (c : List ℕ) → KeepsAllButSelector now c → KeepsTwo images area s c
  twice_as c torn snapshot blocks each lead =
      inr (λ (n : ℕ).
      let d = torn.0 in
      let journal = (held snapshot blocks each d torn.1).reads.journal in
      let again : Torn 16 1 c (patched 16 (n ∷ []) c) = torn_patched 16 1 (n ∷ []) c refl (omega (arith, torn.2.size, journal.fits)) in
      let whole : Torn 16 1 d (patched 16 (n ∷ []) c) = record { size = again.size ∙ torn.2.size; before = again.before ∙ torn.2.before; after = again.after ∙ torn.2.after } in
      either_stands snapshot blocks (patched 16 (n ∷ []) c) (keeps_both next now (patched 16 (n ∷ []) c) (d, torn.1, whole) snapshot blocks w.snapshot (held snapshot blocks each) w.idle) lead)

  -- so it is where the switch went through
  pub live_after : (later : List ℕ → Type 0) (last : Area) → last.version ≡ Two
      → ((snapshot : List ℕ) (blocks : List (List CommandValue)) (new : List ℕ) → Each now (IsAt next snapshot blocks) → Each now (HasIdle next new) → Each later (IsAt last new []))
      → (snapshot : List ℕ) (blocks : List (List CommandValue)) → Each images (IsAt area snapshot blocks) → HasWritten later last s
  live_after later last two after snapshot blocks each =
      let there = after snapshot blocks w.snapshot (held snapshot blocks each) w.idle in record {
        sound = ∣ record { snapshot = w.snapshot; blocks = []; held = there } ∣₁;
        stands = λ c image. stands last.version last.size last.selector w.snapshot [] c s (there c image).reads (subst (λ (v : Version). Leads v w.snapshot [] s) (sym two) copy_leads);
        holds = λ c image. record {
          selector = last.selector;
          snapshot = w.snapshot;
          reads = subst (λ (v : Version). Reads v last.size last.selector w.snapshot [] c) two (there c image).reads;
          spells = w.spells;
          is_used = omega (arith, (there c image).gate, length-fresh last.version w.snapshot);
        };
      }

-- what holds where each image has an area that leads to the state, holds where each stands for it
module _ (area : Area) (images : List ℕ → Type 0) (content : List ℕ) (reads : images content) (sound : IsSound images area) (s : State) (stand : StandFor images s) where
  knowing : (P : Type 0) → ((snapshot : List ℕ) (blocks : List (List CommandValue)) → Each images (IsAt area snapshot blocks) → Leads area.version snapshot blocks s → ∥ P ∥₁) → ∥ P ∥₁
  knowing P then = ∥∥₁_elim sound ∥∥₁_prop (λ (it : Sound images area). ∥∥₁_elim (stand content reads) ∥∥₁_prop (λ (st : Standing content s).
      then it.snapshot it.blocks it.held (leads area.version area.size area.selector it.snapshot it.blocks content s (it.held content reads).reads st)))

  pub stands_as : (c : List ℕ) → KeepsState images area s c → Stands c s
  stands_as c keeps = knowing (Standing c s) keeps

  pub two_as : (c : List ℕ) → KeepsTwo images area s c → ∥ KeepsRest images area c ⊎ StandsTwice s c ∥₁
  two_as c keeps = knowing (KeepsRest images area c ⊎ StandsTwice s c) (λ snapshot blocks each lead. ∣ keeps snapshot blocks each lead ∣₁)

pub sound_after : {D E : Type 0} (images : D → List ℕ → Type 0) (area last : Area) (old new : D) (s : State) (res : Result (Unit {0}) E) → IsSound (images old) area
    → OnOk res ((snapshot : List ℕ) (blocks : List (List CommandValue)) → Each (images old) (IsAt area snapshot blocks) → HasWritten (images new) last s)
    → OnErr res (last.broken ≡ false → (new ≡ old) × (last ≡ area)) → last.broken ≡ false → IsSound (images new) last
sound_after images area last old new s (Ok x) sound after kept whole = ∥∥₁_elim sound ∥∥₁_prop (λ (it : Sound (images old) area). (after it.snapshot it.blocks it.held).sound)
sound_after images area last old new s (Err e) sound after kept whole =
    let same = kept whole in
    subst (λ (d : _). IsSound (images d) last) (sym same.0) (subst (λ (a : Area). IsSound (images old) a) (sym same.1) sound)

pub alone_as : (area last : Area) (images later : List ℕ → Type 0) (s : State) → IsSound images area
    → ((snapshot : List ℕ) (blocks : List (List CommandValue)) → Each images (IsAt area snapshot blocks) → HasWritten later last s)
    → Each later (HoldsItAlone last.size (last.gate + 1) s)
alone_as area last images later s sound after = λ c image. ∥∥₁_map sound (λ (it : Sound images area). (after it.snapshot it.blocks it.held).holds c image)
