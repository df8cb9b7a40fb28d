-- What opening a journal may leave.
use Rattle.std.proofs.Common.{◌≡◌, ◌⊎◌, inl, inr, ⊎_elim, Bool, true, false, ℕ, List, [], Err, IfErr, Ok, Result, drop, length, refl, sym, ◌∙◌, ap, subst, arith}
use Rattle.std.proofs.Math.Logic.{∥∥₁_prop, ∥∥₁_map, ∥∥₁_elim}
use Rattle.disk_core.specs.declared.disk.Disk.{Ghosts}
use Rattle.disk_core.specs.Images.{Within, Only}
use Rattle.disk_core.specs.Moments.{Elapses, LeavesOnly}
use Rattle.disk_core.proofs.Runs.{goes_on, joined, weaker}
use Rattle.disk_core.proofs.Torn.{take_before}
use Rattle.command_core.specs.Commands.{CommandValue}
use Rattle.broker_core.specs.Operations.{restarted}
use Rattle.broker_core.specs.States.{State}
use Rattle.snapshot_core.specs.Snapshots.{Spells}
use Rattle.area_core.specs.declared.area.Area.{Area}
use Rattle.area_core.specs.declared.version.Version.{Version}
use Rattle.area_core.specs.declared.version.Version.TheVariants.{Two}
use Rattle.area_core.specs.Puts.{Each}
use Rattle.area_core.specs.Areas.{IsArea, front}
use Rattle.area_core.specs.Held.{IsAt}
use Rattle.area_core.specs.Journals.{is_odd, other, start, Reads}
use Rattle.recover_core.specs.Opens.{HasRead, HasRestarted, IsUnwritten, KeepsEither, KeepsHeader, StandsForSome, RestartsAs, KeepsRestart}
use Rattle.recover_core.specs.Opened.{IsOpening, IsRestarting, RefusesRestart, RefusesToOpen, RefusesToRead}
use Rattle.recover_core.specs.Standing.{Leads, Stands}
use Rattle.recover_core.specs.Told.{IfFull, IsOpenTold, IsTooLongFor, IsWriteTold}
use Rattle.recover_core.specs.declared.faults.OpenFault.{OpenFault}
use Rattle.area_core.specs.Reading.{Quiet}
use Rattle.area_core.proofs.Areas.{length-fresh}
use Rattle.area_core.proofs.Journals.{start_least}
use Rattle.area_core.proofs.Unwritten.{untouched}
use Rattle.area_core.specs.Switches.{HasIdle, IsBoth, IsSwitching, IsWriting, KeepsAllButSelector, KeepsBoth, KeepsLive, KeepsRest}
use Rattle.recover_core.proofs.Stores.{stands}
use Rattle.recover_core.proofs.Single.{stands_one}
use Rattle.recover_core.proofs.Walking.{if_read, never_full}

-- one of the images itself
pub same_image : (images : List ℕ → Type 0) (c : List ℕ) → images c → KeepsRestart images c
same_image images c image each = ∥∥₁_map (each c image) (λ (it : StandsForSome c). record { image = c; among = image; before = it.state; was = it.stands; now = it.state; stands = it.stands; same = refl })

pub restart_twice : (s : State) → restarted (restarted s) ≡ restarted s
restart_twice s = refl

pub fresh_leads : (s : State) (snapshot : List ℕ) → Spells snapshot (restarted s) → Leads Two snapshot [] (restarted s)
fresh_leads s snapshot spells = record { first = restarted s; spells = spells; is = refl }

-- where this was read of one of the images, and c stands for that state or for its restart
pub as_read : (images : List ℕ → Type 0) (area : Area) (s : State) (image c : List ℕ) → images image → HasRead area s image → (Stands c s ⊎ Stands c (restarted s)) → ∥ RestartsAs images c ∥₁
as_read images area s image c among r (inl old) =
    ∣ record { image = image; among = among; before = s; was = stands area.version area.size area.selector r.snapshot r.blocks image s r.at.reads r.leads; now = s; stands = old; same = refl } ∣₁
as_read images area s image c among r (inr new) =
    ∣ record { image = image; among = among; before = s; was = stands area.version area.size area.selector r.snapshot r.blocks image s r.at.reads r.leads; now = restarted s; stands = new; same = restart_twice s } ∣₁

same_or_other : (a b : Bool) → (a ≡ b) ⊎ (other b ≡ a)
same_or_other true true = inl refl
same_or_other true false = inr refl
same_or_other false true = inr refl
same_or_other false false = inl refl

-- whichever area is live, it has the state or its restart
pub both_stand : (area : Area) (snapshot : List ℕ) (blocks : List (List CommandValue)) (next : List ℕ) (s t : State) (c : List ℕ) → IsBoth area snapshot blocks next c → Leads area.version snapshot blocks s → Leads Two next [] t → Stands c s ⊎ Stands c t
both_stand area snapshot blocks next s t c both old new =
    ⊎_elim
    (λ (e : is_odd both.selector ≡ is_odd area.selector). inl (stands area.version area.size both.selector snapshot blocks c s
    (record { journal = both.journal; area = subst (λ (b : Bool). IsArea area.version area.size snapshot blocks (drop (start area.size b) c)) (sym e) both.live }) old))
    (λ (e : other (is_odd area.selector) ≡ is_odd both.selector). inr (stands Two area.size both.selector next [] c t
    (record { journal = both.journal; area = subst (λ (b : Bool). IsArea Two area.size next [] (drop (start area.size b) c)) e both.idle }) new))
    (same_or_other (is_odd both.selector) (is_odd area.selector))

pub moved : (a b : Area) (snapshot : List ℕ) (blocks : List (List CommandValue)) (c : List ℕ) → b.size ≡ a.size → b.selector ≡ a.selector → b.gate ≡ a.gate → b.version ≡ a.version → IsAt a snapshot blocks c → IsAt b snapshot blocks c
moved a b snapshot blocks c size selector gate version at = record {
  reads = subst (λ (k : ℕ). Reads b.version k b.selector snapshot blocks c) (sym size)
      (subst (λ (k : ℕ). Reads b.version a.size k snapshot blocks c) (sym selector) (subst (λ (v : Version). Reads v a.size a.selector snapshot blocks c) (sym version) at.reads));
  gate = gate ∙ at.gate ∙ ap (λ (v : Version). length (front v snapshot blocks)) (sym version);
}

-- What is known once the disk was read: each image of now is one that was there at the start, and this was read of it.
pub record Known (first now : List ℕ → Type 0) (area : Area) (s : State) : Type 0 where
  pub image : List ℕ
  pub among : first image
  pub has : HasRead area s image
  pub only : Only image now

pub held_now : {first now : List ℕ → Type 0} {area : Area} {s : State} (k : Known first now area s) → Each now (IsAt area k.has.snapshot k.has.blocks)
held_now {first} {now} {area} k d image = subst (λ (l : List ℕ). IsAt area k.has.snapshot k.has.blocks l) (sym (k.only d image)) k.has.at

-- whatever the step leaves of the state that was read restarts as that does
pub while_restarted : (first now : List ℕ → Type 0) (area : Area) (s : State) → Known first now area s → (c : List ℕ) → KeepsEither now area s c → KeepsRestart first c
while_restarted first now area s k c keeps each =
    ∥∥₁_elim (keeps k.has.snapshot k.has.blocks (held_now k) k.has.leads) ∥∥₁_prop (λ (either : Stands c s ⊎ Stands c (restarted s)). as_read first area s k.image c k.among k.has either)

-- while the snapshot is written, the live area stays
pub while_written : (images : List ℕ → Type 0) (area : Area) (s : State) (c : List ℕ) → KeepsLive images area c → KeepsEither images area s c
while_written images area s c keeps snapshot blocks each lead = ∣ inl (stands area.version area.size area.selector snapshot blocks c s (keeps snapshot blocks each).reads lead) ∣₁

-- What is known once the snapshot was written: the live area is as it was, and the other has the snapshot.
pub record Written (images now : List ℕ → Type 0) (area next : Area) (s : State) : Type 0 where
  pub live : (c : List ℕ) → now c → KeepsLive images area c
  pub size : next.size ≡ area.size
  pub selector : next.selector ≡ area.selector
  pub gate : next.gate ≡ area.gate
  pub version : next.version ≡ area.version
  pub snapshot : List ℕ
  pub idle : Each now (HasIdle next snapshot)
  pub spells : Spells snapshot (restarted s)

pub held_written : {images now : List ℕ → Type 0} {area next : Area} {s : State} (w : Written images now area next s) (snapshot : List ℕ) (blocks : List (List CommandValue)) → Each images (IsAt area snapshot blocks) → Each now (IsAt next snapshot blocks)
held_written {area = area} {next = next} w snapshot blocks each d image = moved area next snapshot blocks d w.size w.selector w.gate w.version (w.live d image snapshot blocks each)

pub while_switched : (images now : List ℕ → Type 0) (area next : Area) (s : State) → Written images now area next s → (c : List ℕ) → KeepsBoth now next c → KeepsEither images area s c
while_switched images now area next s w c keeps snapshot blocks each lead =
    ∣ both_stand next snapshot blocks w.snapshot s (restarted s) c (keeps snapshot blocks w.snapshot (held_written w snapshot blocks each) w.idle) (subst (λ (v : Version). Leads v snapshot blocks s) (sym w.version) lead) (fresh_leads s w.snapshot w.spells) ∣₁

pub then_switched : (images now later : List ℕ → Type 0) (area next last : Area) (s : State) → last.version ≡ Two → Written images now area next s
    → ((snapshot : List ℕ) (blocks : List (List CommandValue)) (new : List ℕ) → Each now (IsAt next snapshot blocks) → Each now (HasIdle next new) → Each later (IsAt last new []))
    → (snapshot : List ℕ) (blocks : List (List CommandValue)) → Each images (IsAt area snapshot blocks) → HasRestarted later last s
then_switched images now later area next last s two w after snapshot blocks each =
    let held = after snapshot blocks w.snapshot (held_written w snapshot blocks each) w.idle in record {
      sound = ∣ record { snapshot = w.snapshot; blocks = []; held = held } ∣₁;
      stands = λ c image. stands last.version last.size last.selector w.snapshot [] c (restarted s) (held c image).reads (subst (λ (v : Version). Leads v w.snapshot [] (restarted s)) (sym two) (fresh_leads s w.snapshot w.spells));
      holds = λ c image. record {
        selector = last.selector;
        snapshot = w.snapshot;
        reads = subst (λ (v : Version). Reads v last.size last.selector w.snapshot [] c) two (held c image).reads;
        spells = w.spells;
        is_used = omega (arith, (held c image).gate, length-fresh last.version w.snapshot);
      };
    }

-- what was read is what the content stands for
pub has_read_stands : (area : Area) (s : State) (image : List ℕ) → HasRead area s image → Stands image s
has_read_stands area s image r = stands area.version area.size area.selector r.snapshot r.blocks image s r.at.reads r.leads

-- and what it stood for
pub is_read : (area : Area) (s t : State) (image : List ℕ) → HasRead area s image → Stands image t → s ≡ t
is_read area s t image r stand = stands_one image s t (has_read_stands area s image r) stand

-- the header stays while the snapshot is written
pub rest_header : (images : List ℕ → Type 0) (area : Area) (c : List ℕ) → KeepsRest images area c → KeepsHeader images c
rest_header images area c torn =
    let at = start area.size (other (is_odd area.selector)) in
    (torn.0, torn.1, take_before at area.size 16 torn.0 c torn.2 (omega (arith, start_least area.size (other (is_odd area.selector)))))

-- and while the selector is
pub switched_header : (images now : List ℕ → Type 0) → ((d : List ℕ) → now d → KeepsHeader images d) → (c : List ℕ) → KeepsAllButSelector now c → KeepsHeader images c
switched_header images now kept c torn =
    let from = kept torn.0 torn.1 in
    (from.0, from.1, take_before 16 1 16 torn.0 c torn.2 (omega arith) ∙ from.2)

-- while the snapshot is written
pub restarting_written : (images : List ℕ → Type 0) (area : Area) (s : State) (c : List ℕ) → IsWriting images area c → IsRestarting images area s c
restarting_written images area s c writing = record { either = while_written images area s c writing.live; header = rest_header images area c writing.rest }

-- and while the selector is
pub restarting_switched : (images now : List ℕ → Type 0) (area next : Area) (s : State) → Written images now area next s → ((d : List ℕ) → now d → KeepsHeader images d) → (c : List ℕ) → IsSwitching now next c → IsRestarting images area s c
restarting_switched images now area next s w kept c switching = record { either = while_switched images now area next s w c switching.both; header = switched_header images now kept c switching.rest }

-- two facts of a refusal are one
pub refuses_restart : {D T : Type 0} (size : ℕ) (s : State) (before after : D) (res : Result T OpenFault) → IfErr res (λ fault. IsWriteTold fault size s) → IfErr res (λ fault. IfFull fault (after ≡ before)) → IfErr res (RefusesRestart size s before after)
refuses_restart size s before after (Ok x) told full = tt
refuses_restart size s before after (Err fault) told full = record { told = told; full = full }

pub refuses_to_read : {D T : Type 0} (disk : Ghosts D) (old : D) (res : Result T OpenFault) → (disk.honest old → IfErr res (λ fault. IsOpenTold fault (disk.content old))) → IfErr res (λ fault. IfFull fault ⊥) → IfErr res (RefusesToRead disk old)
refuses_to_read disk old (Ok x) told full = tt
refuses_to_read disk old (Err fault) told full = record { told = told; full = full }

-- nothing was written where reading was refused
pub read_to_open : {D T : Type 0} (disk : Ghosts D) (old new : D) (res : Result T OpenFault) → IfErr res (RefusesToRead disk old) → (disk.honest old → IsUnwritten disk old new) → IfErr res (RefusesToOpen disk old new)
read_to_open disk old new (Ok x) told none = tt
read_to_open disk old new (Err fault) refuses none = record {
  told = refuses.told;
  full = never_full (IsTooLongFor (length (disk.content old))) fault refuses.full;
  unwritten = λ honest. if_read {T = ℕ} (Err fault) (none honest);
}

module _ {D : Type 0} (disk : Ghosts D) (start : D) (only_now : (c : List ℕ) → disk.images_since start (disk.moment start) c → disk.images start c) where
  -- a sync and reads write nothing, at any moment
  pub none_written : (synced read : D) → disk.content synced ≡ disk.content start → Within (disk.images synced) (disk.images start) → Elapses (disk.moment start) (disk.moment synced) (disk.images_since start) (disk.images_since synced) (disk.images synced)
      → Quiet disk synced read → IsUnwritten disk start read
  none_written synced read same within time quiet = record {
    content = quiet.content ∙ same;
    images = λ c image. within c (quiet.images.no_more c image);
    leaves = joined disk start synced read (disk.images start)
        (goes_on disk start start synced (disk.images start) (disk.images synced) (untouched disk start only_now (disk.images start) (λ c image. image)) time within)
        (weaker disk synced read _ _ quiet.leaves within);
  }

  -- where nothing is written, each image is one of the start's
  pub opening_unwritten : (read : D) → IsUnwritten disk start read → LeavesOnly disk.moment disk.images_since start read (IsOpening (disk.images start))
  opening_unwritten read none = weaker disk start read _ _ none.leaves (λ c image. record { restart = same_image (disk.images start) c image; header = (c, image, refl) })

  pub opening_written : (read now : D) (area : Area) (s : State) → IsUnwritten disk start read → Known (disk.images start) (disk.images read) area s
      → LeavesOnly disk.moment disk.images_since read now (IsRestarting (disk.images read) area s) → LeavesOnly disk.moment disk.images_since start now (IsOpening (disk.images start))
  opening_written read now area s none known leaves =
      joined disk start read now (IsOpening (disk.images start)) (opening_unwritten read none)
      (weaker disk read now _ _ leaves (λ c is. record {
        restart = while_restarted (disk.images start) (disk.images read) area s known c is.either;
        header = (is.header.0, none.images is.header.0 is.header.1, is.header.2);
      }))

  -- where nothing was done, the images are those of the start
  pub still : (area : Area) (s : State) → LeavesOnly disk.moment disk.images_since start start (IsRestarting (disk.images start) area s)
  still area s = record {
    later = omega arith;
    each = λ c since. record {
      either = λ snapshot blocks each lead. ∣ inl (stands area.version area.size area.selector snapshot blocks c s (each c (only_now c since)).reads lead) ∣₁;
      header = (c, only_now c since, refl);
    };
    before = λ t c le since. inl since;
  }
