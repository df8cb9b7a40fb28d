-- Reading block after block.
use Rattle.std.proofs.Common.{◌≡◌, inl, inr, Bool, true, false, Result, Ok, Err, IfErr, IsErrOf, length, if◌then◌else◌, ◌-◌, ℕ, ◌+◌, ◌*◌, ◌<◌, ◌≤◌, ◌^◌, List, [], ◌∷◌, ◌++◌, refl, sym, subst, ◌∙◌, arith}
use Rattle.command_core.specs.Commands.{CommandValue}
use Rattle.broker_core.specs.States.{State}
use Rattle.broker_core.specs.Steps.{state_after_by}
use Rattle.snapshot_core.specs.Snapshots.{Spells}
use Rattle.area_core.specs.declared.area.Area.{Area}
use Rattle.area_core.specs.declared.version.Version.{Version}
use Rattle.area_core.specs.declared.faults.AreaFault.{AreaFault}
use Rattle.area_core.specs.declared.faults.AreaFault.TheVariants as areas
use Rattle.area_core.specs.declared.faults.ReadFault.{ReadFault}
use Rattle.area_core.specs.declared.faults.ReadFault.TheVariants as reads
use Rattle.area_core.specs.Damage.{IsBlockTold}
use Rattle.area_core.specs.Held.{IsAt}
use Rattle.area_core.specs.Journals.{is_odd, start}
use Rattle.area_core.specs.Reading.{IsPast}
use Rattle.area_core.specs.Steps.{HasNoRoom}
use Rattle.broker_core.specs.Operations.{restarted}
use Rattle.recover_core.proofs.Sizes.{restart_fits}
use Rattle.recover_core.specs.declared.faults.OpenFault.{OpenFault}
use Rattle.recover_core.specs.declared.faults.OpenFault.TheVariants.{Read, CountTooLarge, Area as Areas}
use Rattle.disk_core.specs.declared.disk.Disk.{Ghosts}
use Rattle.recover_core.specs.Opens.{HasRead, IsFolded}
use Rattle.recover_core.specs.Reads.{RefusesWalk}
use Rattle.recover_core.specs.Standing.{joined, rule_of}
use Rattle.recover_core.specs.Told.{IfFull, IfRead, IsOfReading, IsOpenTold, IsSnapshotTold, IsStateRefused, IsTooLarge, IsTooLongFor, IsWalkTold, IsWriteTold}
use Rattle.recover_core.specs.Walks.{Follows, HasEnded, HasWalked}
use Rattle.recover_core.proofs.Folded.{follows_leads, follows_more, leads_large}
use Rattle.recover_core.proofs.Stores.{stands}

-- the snapshot alone was read
pub walked_first : (area : Area) (s : State) (snapshot content : List ℕ) → IsPast area snapshot [] content → Spells snapshot s → HasWalked area s content
walked_first area s snapshot content past spells = record {
  snapshot = snapshot;
  blocks = [];
  past = past;
  follows = record { first = s; spells = spells; folded = inl refl };
}

-- a block more
pub walked_on : (area next : Area) (s t : State) (content : List ℕ) (batch : List CommandValue) → next.version ≡ area.version → IsFolded (rule_of area.version) s batch t
    → ((snapshot : List ℕ) (blocks : List (List CommandValue)) → IsPast area snapshot blocks content → IsPast next snapshot (blocks ++ batch ∷ []) content)
    → HasWalked area s content → HasWalked next t content
walked_on area next s t content batch same folded past w = record {
  snapshot = w.snapshot;
  blocks = w.blocks ++ batch ∷ [];
  past = past w.snapshot w.blocks w.past;
  follows = subst (λ (v : Version). Follows v w.snapshot (w.blocks ++ batch ∷ []) t) (sym same) (follows_more area.version w.snapshot w.blocks s t batch w.follows folded);
}

-- the closed gate
pub walked_out : (area next : Area) (s : State) (content : List ℕ) → next.version ≡ area.version
    → ((snapshot : List ℕ) (blocks : List (List CommandValue)) → IsPast area snapshot blocks content → IsAt next snapshot blocks content)
    → HasWalked area s content → HasEnded next s content
walked_out area next s content same ends w = record { snapshot = w.snapshot; blocks = w.blocks; at = ends w.snapshot w.blocks w.past; follows = subst (λ (v : Version). Follows v w.snapshot w.blocks s) (sym same) w.follows }

-- where the count is not large, that is the state that the content stands for
pub read_of : (area : Area) (s : State) (content : List ℕ) → HasEnded area s content → s.count ≤ 2 ^ 61 → HasRead area s content
read_of area s content ended small = record { snapshot = ended.snapshot; blocks = ended.blocks; at = ended.at; leads = follows_leads area.version ended.snapshot ended.blocks s ended.follows small }

-- where it is, the content stands for a state whose count is large too
pub too_large : (area : Area) (s : State) (content : List ℕ) → HasEnded area s content → 2 ^ 61 < s.count → IsTooLarge content
too_large area s content ended large =
    let f = ended.follows in
    let t = state_after_by (rule_of area.version) f.first (joined ended.blocks) in
    record {
      state = t;
      stands = stands area.version area.size area.selector ended.snapshot ended.blocks content t ended.at.reads (record { first = f.first; spells = f.spells; is = refl });
      large = leads_large area.version ended.snapshot ended.blocks s f large;
    }

-- what is told of a block is so of the content
pub block_told : (fault : ReadFault) (area : Area) (s : State) (content : List ℕ) → HasWalked area s content → IsBlockTold fault area content → IsWalkTold (Read fault) content
block_told reads.NotAJournal area s content w told = told
block_told (reads.Damaged place) area s content w told = record { area = area; snapshot = w.snapshot; first = w.follows.first; spells = w.follows.spells; blocks = w.blocks; past = w.past; damaged = told }
block_told reads.Device area s content w told = told
block_told reads.UnknownVersion area s content w told = told
block_told reads.TooSmall area s content w told = told
block_told (reads.Memory refused) area s content w told = told

-- what is told of the snapshot is so of the content
pub snapshot_told : (fault : OpenFault) (area : Area) (snapshot content : List ℕ) (place : ℕ) → IsPast area snapshot [] content → place ≡ start area.size (is_odd area.selector) + 8
    → IsSnapshotTold fault snapshot place → IsStateRefused fault content
snapshot_told (Read reads.NotAJournal) area snapshot content place past at so = absurd so
snapshot_told (Read (reads.Damaged told)) area snapshot content place past at so =
    inr (inl (record { area = area; snapshot = snapshot; past = past; at = so.0 ∙ at; none = so.1 }))
snapshot_told (Read reads.Device) area snapshot content place past at so = absurd so
snapshot_told (Read reads.UnknownVersion) area snapshot content place past at so = absurd so
snapshot_told (Read reads.TooSmall) area snapshot content place past at so = absurd so
snapshot_told (Read (reads.Memory refused)) area snapshot content place past at so = so
snapshot_told CountTooLarge area snapshot content place past at so = absurd so
snapshot_told (Areas fault) area snapshot content place past at so = absurd so

-- what is told of the blocks is so
pub walk_told : (fault : OpenFault) (content : List ℕ) → IsWalkTold fault content → IsStateRefused fault content
walk_told (Read reads.NotAJournal) content so = absurd so
walk_told (Read (reads.Damaged place)) content told = inr (inr told)
walk_told (Read reads.Device) content told = told
walk_told (Read reads.UnknownVersion) content so = absurd so
walk_told (Read reads.TooSmall) content so = absurd so
walk_told (Read (reads.Memory refused)) content told = told
walk_told CountTooLarge content told = told
walk_told (Areas areas.Device) content so = absurd so
walk_told (Areas areas.Full) content so = absurd so
walk_told (Areas areas.Broken) content so = absurd so
walk_told (Areas (areas.Memory refused)) content told = told

-- what is told of writing is so of the content that was read
pub write_told : (fault : OpenFault) (area : Area) (s : State) (content : List ℕ) → HasRead area s content → s.count ≤ 2 ^ 61 → IsWriteTold fault area.size s → IsOpenTold fault content
write_told (Read fault) area s content has small so = absurd so
write_told CountTooLarge area s content has small so = absurd so
write_told (Areas areas.Device) area s content has small told = told
write_told (Areas areas.Full) area s content has small told = record {
  size = area.size;
  selector = area.selector;
  journal = has.at.reads.journal;
  state = s;
  stands = stands area.version area.size area.selector has.snapshot has.blocks content s has.at.reads has.leads;
  small = small;
  long = told;
}
write_told (Areas areas.Broken) area s content has small so = absurd so
write_told (Areas (areas.Memory refused)) area s content has small told = told

-- what holds whatever the answer is holds where it is of what was read
pub if_read : {T P : Type 0} (answer : Result T OpenFault) → P → IfErr answer (λ fault. IfRead fault P)
if_read (Ok read) p = tt
if_read (Err (Read fault)) p = p
if_read (Err CountTooLarge) p = p
if_read (Err (Areas areas.Device)) p = tt
if_read (Err (Areas areas.Full)) p = p
if_read (Err (Areas areas.Broken)) p = tt
if_read (Err (Areas (areas.Memory refused))) p = tt

-- what is told of writing is told of nothing that was read, but that there is no room, and then the disk is as it was read
pub written_told : {D : Type 0} (P : D → Type 0) (read now : D) (fault : OpenFault) (size : ℕ) (s : State) → IsWriteTold fault size s → IfFull fault (now ≡ read) → P read → IfRead fault (P now)
written_told P read now (Read fault) size s so same was = absurd so
written_told P read now CountTooLarge size s so same was = absurd so
written_told P read now (Areas areas.Device) size s told same was = tt
written_told P read now (Areas areas.Full) size s told same was = subst P (sym same) was
written_told P read now (Areas areas.Broken) size s so same was = tt
written_told P read now (Areas (areas.Memory refused)) size s told same was = tt

-- reading does not tell that there is no room
pub room_to_read : (P : Type 0) (fault : OpenFault) → IsOfReading fault → IfFull fault P
room_to_read P (Read fault) told = tt
room_to_read P CountTooLarge told = tt
room_to_read P (Areas areas.Device) told = tt
room_to_read P (Areas areas.Full) so = absurd so
room_to_read P (Areas areas.Broken) told = tt
room_to_read P (Areas (areas.Memory refused)) told = tt

-- where there is never no room, anything is so of it
pub never_full : (P : Type 0) (fault : OpenFault) → IfFull fault ⊥ → IfFull fault P
never_full P (Read fault) never = tt
never_full P CountTooLarge never = tt
never_full P (Areas areas.Device) never = tt
never_full P (Areas areas.Full) never = absurd never
never_full P (Areas areas.Broken) never = tt
never_full P (Areas (areas.Memory refused)) never = tt

-- what is told of reading is told of opening
pub state_told : (fault : OpenFault) (content : List ℕ) → IsStateRefused fault content → IsOpenTold fault content
state_told (Read fault) content told = told
state_told CountTooLarge content told = told
state_told (Areas areas.Device) content so = absurd so
state_told (Areas areas.Full) content so = absurd so
state_told (Areas areas.Broken) content so = absurd so
state_told (Areas (areas.Memory refused)) content told = told

-- where it does not fit, it does not fit a disk of so many bytes
pub full_told : (fault : OpenFault) (size bytes : ℕ) (s : State) → IsWriteTold fault size s → 4096 ≤ size → 32 + 2 * size ≤ bytes → s.count ≤ 2 ^ 61 → IfFull fault (IsTooLongFor bytes)
full_told (Read fault) size bytes s so least two small = absurd so
full_told CountTooLarge size bytes s so least two small = absurd so
full_told (Areas areas.Device) size bytes s told least two small = tt
full_told (Areas areas.Full) size bytes s told least two small = record { size = size; least = least; two = two; state = s; small = small; long = told }
full_told (Areas areas.Broken) size bytes s so least two small = tt
full_told (Areas (areas.Memory refused)) size bytes s told least two small = tt

-- each block read takes the gate on, within the area
pub measure : (was more : Bool) (size now gate next : ℕ) → was ≡ true → now ≡ size → gate ≤ next → (more ≡ true → gate < next) → next + 1 ≤ now
    → (if more then 1 else 0) + (now - next) < (if was then 1 else 0) + (size - gate)
measure true true size now gate next is same forward grows within = omega (arith, same, grows refl, within)
measure true false size now gate next is same forward grows within = omega (arith, same, forward, within)
measure false more size now gate next is same forward grows within = absurd (cc is)

-- a snapshot that seven bytes count is too long where an area has no room for it
pub is_long : (size count : ℕ) → count < 2 ^ 56 → HasNoRoom size count → size < count + 9
is_long size count seven (inl long) = long
is_long size count seven (inr high) = absurd (omega (arith, seven, high))

-- a snapshot of a restart doesn't fit where an area has no room for it, since seven bytes count it
pub no_room_told : {T : Type 0} (answer : Result T AreaFault) (size : ℕ) (s : State) (snapshot : List ℕ) → Spells snapshot (restarted s) → (IsErrOf answer areas.Full → HasNoRoom size (length snapshot)) → (IsErrOf answer areas.Broken → ⊥)
    → IfErr answer (λ fault. IsWriteTold (Areas fault) size s)
no_room_told (Ok done) size s snapshot spells full whole = tt
no_room_told (Err areas.Device) size s snapshot spells full whole = tt
no_room_told (Err areas.Full) size s snapshot spells full whole = record { snapshot = snapshot; spells = spells; long = is_long size (length snapshot) (omega (arith, restart_fits s snapshot spells)) (full refl) }
no_room_told (Err areas.Broken) size s snapshot spells full whole = whole refl
no_room_told (Err (areas.Memory refused)) size s snapshot spells full whole = tt

-- two facts of a refusal are one
pub refuses_walk : {D T : Type 0} (disk : Ghosts D) (old : D) (area : Area) (s : State) (res : Result T OpenFault)
    → (disk.honest old → IfErr res (λ fault. HasWalked area s (disk.content old) → IsWalkTold fault (disk.content old))) → IfErr res IsOfReading → IfErr res (RefusesWalk disk old area s)
refuses_walk disk old area s (Ok x) told kind = tt
refuses_walk disk old area s (Err fault) told kind = record { told = told; kind = kind }

-- what is told behind what was walked so far is told from the start
pub refuses_on : {D T : Type 0} (disk : Ghosts D) (old now : D) (first area : Area) (before s : State) (res : Result T OpenFault) → (disk.honest old → disk.honest now) → (disk.honest old → disk.content now ≡ disk.content old)
    → (disk.honest old → HasWalked first before (disk.content old) → HasWalked area s (disk.content old)) → IfErr res (RefusesWalk disk now area s) → IfErr res (RefusesWalk disk old first before)
refuses_on disk old now first area before s (Ok x) honest same walked refuses = tt
refuses_on disk old now first area before s (Err fault) honest same walked refuses = record {
  told = λ h w. subst (λ (l : List ℕ). IsWalkTold fault l) (same h) (refuses.told (honest h) (subst (λ (l : List ℕ). HasWalked area s l) (sym (same h)) (walked h w)));
  kind = refuses.kind;
}
