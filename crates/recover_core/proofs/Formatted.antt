-- A journal that was formatted stands for the empty state.
use Rattle.std.proofs.Common.{◌≡◌, inl, inr, ⊎_elim, List, [], ℕ, codes, refl, arith, subst, sym, take, ◌∙◌}
use Rattle.std.proofs.lemmas.Bool.{cases_Bool, false≢true}
use Rattle.std.specs.Cmp.Lexicographic.{bytes_decides}
use Rattle.std.specs.Str.{bytes_eq}
use Rattle.disk_core.specs.declared.disk.Disk.{Ghosts}
use Rattle.disk_core.specs.Images.{Only}
use Rattle.disk_core.specs.Moments.{LeavesOnly}
use Rattle.disk_core.proofs.Torn.{torn_same}
use Rattle.area_core.specs.declared.version.Version.TheVariants.{Two}
use Rattle.area_core.specs.Areas.{first_snapshot}
use Rattle.area_core.specs.Journals.{Reads}
use Rattle.area_core.specs.Making.{IsMaking}
use Rattle.area_core.proofs.Unwritten.{untouched}
use Rattle.broker_core.specs.States.{State, empty_state}
use Rattle.broker_state.proofs.SoundSteps.{sound_first}
use Rattle.recover_core.specs.Standing.{Leads, Stands}
use Rattle.snapshot_core.specs.Snapshots.{Spells}

pub spells_empty : Spells first_snapshot empty_state
spells_empty = record {
  sound = sound_first;
  form = record { count = omega arith; sessions = tt; few_sessions = omega arith; durables = tt; names = tt; queues = tt; subscriptions = tt; few_subscriptions = omega arith };
  spelled = refl;
}

pub leads_empty : Leads Two first_snapshot [] empty_state
leads_empty = record { first = empty_state; spells = spells_empty; is = refl }

pub stands_formatted : (size : ℕ) (content : List ℕ) → Reads Two size 0 first_snapshot [] content → Stands content empty_state
stands_formatted size content reads = ∣ record { version = Two; size = size; selector = 0; snapshot = first_snapshot; blocks = []; reads = reads; leads = leads_empty } ∣₁

-- ---- a journal that is made of a snapshot

-- it stands for the state that the snapshot spells
pub stands_made : (size : ℕ) (snapshot : List ℕ) (s : State) (content : List ℕ) → Spells snapshot s → Reads Two size 0 snapshot [] content → Stands content s
stands_made size snapshot s content spells reads =
    ∣ record { version = Two; size = size; selector = 0; snapshot = snapshot; blocks = []; reads = reads; leads = record { first = s; spells = spells; is = refl } } ∣₁

-- while it is made, an image is that, or as before, or none
pub making_stands : (before : List ℕ) (size : ℕ) (snapshot : List ℕ) (s : State) (c : List ℕ) → Spells snapshot s → IsMaking before (Reads Two size 0 snapshot []) c → IsMaking before (λ d. Stands d s) c
making_stands before size snapshot s c spells making =
    ⊎_elim (λ unnaming. inl unnaming) (λ named. inr (⊎_elim (λ other. inl other) (λ reads. inr (stands_made size snapshot s c spells reads)) named)) making

-- nothing was written yet
pub making_yet : (content : List ℕ) (whole : List ℕ → Type 0) → IsMaking content whole content
making_yet content whole =
    ⊎_elim
    (λ yes. inl (inl ((bytes_decides (take 6 content) (codes "STOMPJ")).0 yes, torn_same 0 8 content)))
    (λ no. inl (inr (inr (λ named. false≢true (sym no ∙ (bytes_decides (take 6 content) (codes "STOMPJ")).1 named)))))
    (cases_Bool (bytes_eq (take 6 content) (codes "STOMPJ")))

module _ {D : Type 0} (disk : Ghosts D) (now : D) (only : (c : List ℕ) → disk.images_since now (disk.moment now) c → disk.images now c) where
  pub unmade : (whole : List ℕ → Type 0) → Only (disk.content now) (disk.images now) → LeavesOnly disk.moment disk.images_since now now (IsMaking (disk.content now) whole)
  unmade whole is = untouched disk now only _ (λ c image. subst (λ (l : List ℕ). IsMaking (disk.content now) whole l) (sym (is c image)) (making_yet (disk.content now) whole))
