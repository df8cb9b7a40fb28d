-- A call that is made on the disk is the event.
use Rattle.std.proofs.Common.{◌≡◌, ◌≢◌, ◌⊎◌, ◌+◌, ◌-◌, ◌≤◌, ℕ, Bool, true, false, nat_lt, if◌then◌else◌, List, [], ◌++◌, map, Option, Some, None, IfSome, Result, Ok, Err, IfOk, IsSomeAnd, length, arith, refl, sym, ◌∙◌, ap, subst}
use Rattle.command_core.specs.Commands.{CommandValue}
use Rattle.broker_core.specs.Operations.{restarted}
use Rattle.broker_core.specs.States.{State}
use Rattle.snapshot_core.specs.Snapshots.{snapshot_of}
use Rattle.area_core.specs.declared.version.Version.TheVariants.{Two}
use Rattle.area_core.specs.Areas.{closed_snapshot}
use Rattle.world_core.specs.Recoveries.{IsReadable}
use Rattle.recover_core.specs.Standing.{Stands}
use Rattle.recover_core.specs.Told.{IsTooLarge, IsTooLong}
use Rattle.disk_core.specs.Images.{patched}
use Rattle.disk_core.specs.Memory.{held_over, none_held}
use Rattle.world_core.specs.declared.event.Call.{Call}
use Rattle.world_core.specs.declared.event.CallKind.{CallKind}
use Rattle.world_core.specs.declared.event.CallKind.TheVariants.{Read, Write, Sync}
use Rattle.world_core.specs.declared.event.CallList.{CallList}
use Rattle.world_core.specs.declared.event.CallList.TheVariants.{Append, Snapshot, Switch, Open}
use Rattle.world_core.specs.declared.event.Event.TheVariants.{Device, Open as Opens}
use Rattle.world_core.specs.declared.parts.Patch.{Patch as Patched}
use Rattle.world_core.specs.declared.parts.Period.TheVariants.{Running, Crashed}
use Rattle.world_core.specs.declared.parts.LastCall.{LastCall}
use Rattle.world_core.specs.declared.parts.LastCall.TheVariants.{Rest, Broken, BlockWritten, BlockSynced, GateWritten, Copying, CopySynced, SwitchWritten, OpenSynced, OpenRead, SnapshotWriting, SnapshotSynced, SelectorWritten, Opened}
use Rattle.world_core.specs.declared.seat.Seat.{Seat}
use Rattle.world_core.specs.Answers.{IsTold}
use Rattle.world_core.specs.Calls.{CanCopy, CanRestart, MayLead, Patch, append_syncs, append_writes, as_many, batch, called, copy_of, copy_syncs, copy_writes, done_at, fitting, leads, open_reads, open_syncs, open_writes, patch, phase_after, piece_end, place_after, rest_of, stored_after, switch_syncs, switch_writes, synced, with_disk, wrote}
use Rattle.world_core.specs.Events.{reopened, with_image}
use Rattle.world_core.specs.Keeping.{Copied, IsAt, IsKept, Preparing, log_of}
use Rattle.world_core.specs.Readings.{IsRead, Reading}
use Rattle.world_core.specs.Touches.{IsDue, IsNoPatch, IsPatch, IsTouched, LeadsNowhere, LeadsTo, begun, is_measured}
use Rattle.world_core.specs.Worlds.{WorldValue}
use Rattle.world_core.proofs.Patching.{here, patch_fits}
use Rattle.world_core.proofs.Readings.{same_gate, same_state}
use Rattle.world_core.proofs.Recovered.{no_restart, read_stands}

-- reads and syncs ask for nothing more

free_append : (p to : LastCall) → append_syncs p ≡ Some to → (w : WorldValue) (r : Reading) → MayLead w r to
free_append Rest to is w r = absurd (cc)
free_append Broken to is w r = absurd (cc)
free_append (BlockWritten n) to is w r = subst (λ (q : LastCall). MayLead w r q) (let e : BlockSynced n ≡ to = cc in e) tt
free_append (BlockSynced n) to is w r = absurd (cc)
free_append (GateWritten n) to is w r = subst (λ (q : LastCall). MayLead w r q) (let e : Rest ≡ to = cc in e) tt
free_append (Copying n m) to is w r = absurd (cc)
free_append CopySynced to is w r = absurd (cc)
free_append SwitchWritten to is w r = absurd (cc)
free_append OpenSynced to is w r = absurd (cc)
free_append OpenRead to is w r = absurd (cc)
free_append (SnapshotWriting n m) to is w r = absurd (cc)
free_append SnapshotSynced to is w r = absurd (cc)
free_append SelectorWritten to is w r = absurd (cc)
free_append Opened to is w r = absurd (cc)

free_copy_if : (b : Bool) (to : LastCall) → (if b then None else Some CopySynced) ≡ Some to → (w : WorldValue) (r : Reading) → MayLead w r to
free_copy_if true to is w r = absurd (cc)
free_copy_if false to is w r = subst (λ (q : LastCall). MayLead w r q) (let e : CopySynced ≡ to = cc in e) tt

free_began_if : (b : Bool) (to : LastCall) → (if b then Some OpenSynced else None) ≡ Some to → (w : WorldValue) (r : Reading) → MayLead w r to
free_began_if true to is w r = subst (λ (q : LastCall). MayLead w r q) (let e : OpenSynced ≡ to = cc in e) tt
free_began_if false to is w r = absurd (cc)

free_synced_if : (b : Bool) (to : LastCall) → (if b then Some OpenSynced else Some SnapshotSynced) ≡ Some to → (w : WorldValue) (r : Reading) → MayLead w r to
free_synced_if true to is w r = subst (λ (q : LastCall). MayLead w r q) (let e : OpenSynced ≡ to = cc in e) tt
free_synced_if false to is w r = subst (λ (q : LastCall). MayLead w r q) (let e : SnapshotSynced ≡ to = cc in e) tt

free_copy : (p to : LastCall) → copy_syncs p ≡ Some to → (w : WorldValue) (r : Reading) → MayLead w r to
free_copy Rest to is w r = absurd (cc)
free_copy Broken to is w r = absurd (cc)
free_copy (BlockWritten n) to is w r = absurd (cc)
free_copy (BlockSynced n) to is w r = absurd (cc)
free_copy (GateWritten n) to is w r = absurd (cc)
free_copy (Copying n m) to is w r = free_copy_if (nat_lt n m) to is w r
free_copy CopySynced to is w r = absurd (cc)
free_copy SwitchWritten to is w r = absurd (cc)
free_copy OpenSynced to is w r = absurd (cc)
free_copy OpenRead to is w r = absurd (cc)
free_copy (SnapshotWriting n m) to is w r = absurd (cc)
free_copy SnapshotSynced to is w r = absurd (cc)
free_copy SelectorWritten to is w r = absurd (cc)
free_copy Opened to is w r = absurd (cc)

free_switch : (p to : LastCall) → switch_syncs p ≡ Some to → (w : WorldValue) (r : Reading) → MayLead w r to
free_switch Rest to is w r = absurd (cc)
free_switch Broken to is w r = absurd (cc)
free_switch (BlockWritten n) to is w r = absurd (cc)
free_switch (BlockSynced n) to is w r = absurd (cc)
free_switch (GateWritten n) to is w r = absurd (cc)
free_switch (Copying n m) to is w r = absurd (cc)
free_switch CopySynced to is w r = absurd (cc)
free_switch SwitchWritten to is w r = subst (λ (q : LastCall). MayLead w r q) (let e : Rest ≡ to = cc in e) tt
free_switch OpenSynced to is w r = absurd (cc)
free_switch OpenRead to is w r = absurd (cc)
free_switch (SnapshotWriting n m) to is w r = absurd (cc)
free_switch SnapshotSynced to is w r = absurd (cc)
free_switch SelectorWritten to is w r = absurd (cc)
free_switch Opened to is w r = absurd (cc)

free_open : (p to : LastCall) → open_syncs p ≡ Some to → (w : WorldValue) (r : Reading) → MayLead w r to
free_open Rest to is w r = subst (λ (q : LastCall). MayLead w r q) (let e : OpenSynced ≡ to = cc in e) tt
free_open Broken to is w r = subst (λ (q : LastCall). MayLead w r q) (let e : OpenSynced ≡ to = cc in e) tt
free_open (BlockWritten n) to is w r = absurd (cc)
free_open (BlockSynced n) to is w r = absurd (cc)
free_open (GateWritten n) to is w r = absurd (cc)
free_open (Copying n m) to is w r = free_began_if (nat_lt n m) to is w r
free_open CopySynced to is w r = subst (λ (q : LastCall). MayLead w r q) (let e : OpenSynced ≡ to = cc in e) tt
free_open SwitchWritten to is w r = absurd (cc)
free_open OpenSynced to is w r = subst (λ (q : LastCall). MayLead w r q) (let e : OpenSynced ≡ to = cc in e) tt
free_open OpenRead to is w r = subst (λ (q : LastCall). MayLead w r q) (let e : OpenSynced ≡ to = cc in e) tt
free_open (SnapshotWriting n m) to is w r = free_synced_if (nat_lt n m) to is w r
free_open SnapshotSynced to is w r = absurd (cc)
free_open SelectorWritten to is w r = subst (λ (q : LastCall). MayLead w r q) (let e : Opened ≡ to = cc in e) tt
free_open Opened to is w r = absurd (cc)

free_read : (p to : LastCall) → open_reads p ≡ Some to → (w : WorldValue) (r : Reading) → MayLead w r to
free_read Rest to is w r = absurd (cc)
free_read Broken to is w r = absurd (cc)
free_read (BlockWritten n) to is w r = absurd (cc)
free_read (BlockSynced n) to is w r = absurd (cc)
free_read (GateWritten n) to is w r = absurd (cc)
free_read (Copying n m) to is w r = absurd (cc)
free_read CopySynced to is w r = absurd (cc)
free_read SwitchWritten to is w r = absurd (cc)
free_read OpenSynced to is w r = subst (λ (q : LastCall). MayLead w r q) (let e : OpenRead ≡ to = cc in e) tt
free_read OpenRead to is w r = subst (λ (q : LastCall). MayLead w r q) (let e : OpenRead ≡ to = cc in e) tt
free_read (SnapshotWriting n m) to is w r = absurd (cc)
free_read SnapshotSynced to is w r = absurd (cc)
free_read SelectorWritten to is w r = absurd (cc)
free_read Opened to is w r = absurd (cc)

pub synced_freely : (w : WorldValue) (list : CallList) (to : LastCall) (r : Reading) → leads w r list Sync ≡ Some to → MayLead w r to
synced_freely w Append to r is = free_append w.place to is w r
synced_freely w Snapshot to r is = free_copy w.place to is w r
synced_freely w Switch to r is = free_switch w.place to is w r
synced_freely w Open to r is = free_open w.place to is w r

pub read_freely : (w : WorldValue) (list : CallList) (to : LastCall) (r : Reading) → leads w r list Read ≡ Some to → MayLead w r to
read_freely w Append to r is = absurd (cc)
read_freely w Snapshot to r is = absurd (cc)
read_freely w Switch to r is = absurd (cc)
read_freely w Open to r is = free_read w.place to is w r

-- what is written is due

due_append : (w : WorldValue) (under : ℕ) → ((r : Reading) → IsRead w.disk.size w.disk.content r → under ≡ fitting w r) → (p to : LastCall) → append_writes under p ≡ Some to → IsDue w to
due_append w under fits Rest to is = subst (λ (q : LastCall). IsDue w q) (let e : BlockWritten under ≡ to = cc in e) fits
due_append w under fits Broken to is = absurd (cc)
due_append w under fits (BlockWritten n) to is = absurd (cc)
due_append w under fits (BlockSynced n) to is = subst (λ (q : LastCall). IsDue w q) (let e : GateWritten n ≡ to = cc in e) tt
due_append w under fits (GateWritten n) to is = absurd (cc)
due_append w under fits (Copying n m) to is = absurd (cc)
due_append w under fits CopySynced to is = subst (λ (q : LastCall). IsDue w q) (let e : BlockWritten under ≡ to = cc in e) fits
due_append w under fits SwitchWritten to is = absurd (cc)
due_append w under fits OpenSynced to is = absurd (cc)
due_append w under fits OpenRead to is = absurd (cc)
due_append w under fits (SnapshotWriting n m) to is = absurd (cc)
due_append w under fits SnapshotSynced to is = absurd (cc)
due_append w under fits SelectorWritten to is = absurd (cc)
due_append w under fits Opened to is = absurd (cc)

due_switch : (w : WorldValue) (p to : LastCall) → switch_writes p ≡ Some to → IsDue w to
due_switch w Rest to is = absurd (cc)
due_switch w Broken to is = absurd (cc)
due_switch w (BlockWritten n) to is = absurd (cc)
due_switch w (BlockSynced n) to is = absurd (cc)
due_switch w (GateWritten n) to is = absurd (cc)
due_switch w (Copying n m) to is = absurd (cc)
due_switch w CopySynced to is = subst (λ (q : LastCall). IsDue w q) (let e : SwitchWritten ≡ to = cc in e) tt
due_switch w SwitchWritten to is = absurd (cc)
due_switch w OpenSynced to is = absurd (cc)
due_switch w OpenRead to is = absurd (cc)
due_switch w (SnapshotWriting n m) to is = absurd (cc)
due_switch w SnapshotSynced to is = absurd (cc)
due_switch w SelectorWritten to is = absurd (cc)
due_switch w Opened to is = absurd (cc)

-- a piece of a snapshot is of what there is to write

module _ (w : WorldValue) (k : IsKept w) where
  abbrev readable : IsReadable w.disk.size w.disk.content
  readable = here w k

  abbrev one : Reading
  one = readable.reading

  same_copy : (r : Reading) → IsRead w.disk.size w.disk.content r → length (copy_of one) ≡ length (copy_of r)
  same_copy r x = ap (λ (s : State). length (closed_snapshot Two (snapshot_of s))) (same_state w.disk.size w.disk.size w.disk.content one r readable.is_read x)

  same_rest : (r : Reading) → IsRead w.disk.size w.disk.content r → length (rest_of one) ≡ length (rest_of r)
  same_rest r x = ap (λ (s : State). length (closed_snapshot Two (snapshot_of (restarted s)))) (same_state w.disk.size w.disk.size w.disk.content one r readable.is_read x)

  same_fitting : (r : Reading) → IsRead w.disk.size w.disk.content r → fitting w one ≡ fitting w r
  same_fitting r x = ap (λ (gate : ℕ). w.stored + as_many (w.disk.size - (gate + 10)) (batch w w.taken)) (same_gate w.disk.size w.disk.size w.disk.content one r readable.is_read x)

  first_copy_due : done_at w.place ≡ 0 → (to : LastCall) → Copying (piece_end 0 (length (copy_of one))) (length (copy_of one)) ≡ to → IsDue w to
  first_copy_due none to is = subst (λ (q : LastCall). IsDue w q) is (λ r x. (omega (arith, none), omega (arith, same_copy r x)))

  first_rest_due : done_at w.place ≡ 0 → (to : LastCall) → SnapshotWriting (piece_end 0 (length (rest_of one))) (length (rest_of one)) ≡ to → IsDue w to
  first_rest_due none to is = subst (λ (q : LastCall). IsDue w q) is (λ r x. (omega (arith, none), omega (arith, same_rest r x)))

  next_copy_due : (b : Bool) (n m : ℕ) → w.place ≡ Copying n m → Copied (log_of w) w.disk n m → (to : LastCall) → (if b then Some (Copying (piece_end n m) m) else None) ≡ Some to → IsDue w to
  next_copy_due false n m e c to is = absurd (cc)
  next_copy_due true n m e c to is =
      let there : done_at w.place ≡ n = ap done_at e in
      let whole = c.copies.whole in
      let within = c.copies.within in
      subst (λ (q : LastCall). IsDue w q) (let e : Copying (piece_end n m) m ≡ to = cc in e)
      (λ r x. (omega (arith, there, within), omega (arith, whole, ap (λ (s : State). length (closed_snapshot Two (snapshot_of s))) (same_state w.disk.size w.disk.size w.disk.content c.reading r c.is_read x))))

  next_rest_due : (b : Bool) (n m : ℕ) → w.place ≡ SnapshotWriting n m → Preparing w.disk n m → (to : LastCall) → (if b then Some (SnapshotWriting (piece_end n m) m) else None) ≡ Some to → IsDue w to
  next_rest_due false n m e c to is = absurd (cc)
  next_rest_due true n m e c to is =
      let there : done_at w.place ≡ n = ap done_at e in
      let whole = c.copies.whole in
      let within = c.copies.within in
      subst (λ (q : LastCall). IsDue w q) (let e : SnapshotWriting (piece_end n m) m ≡ to = cc in e)
      (λ r x. (omega (arith, there, within), omega (arith, whole, ap (λ (s : State). length (closed_snapshot Two (snapshot_of (restarted s)))) (same_state w.disk.size w.disk.size w.disk.content c.reading r c.is_read x))))

  due_copy : (p to : LastCall) → w.place ≡ p → IsAt (log_of w) w.disk p → copy_writes (length (copy_of one)) p ≡ Some to → IsDue w to
  due_copy Rest to e at is = first_copy_due (ap done_at e) to (let e : Copying (piece_end 0 (length (copy_of one))) (length (copy_of one)) ≡ to = cc in e)
  due_copy Broken to e at is = absurd (cc)
  due_copy (BlockWritten n) to e at is = absurd (cc)
  due_copy (BlockSynced n) to e at is = absurd (cc)
  due_copy (GateWritten n) to e at is = absurd (cc)
  due_copy (Copying n m) to e at is = next_copy_due (nat_lt n m) n m e at to is
  due_copy CopySynced to e at is = first_copy_due (ap done_at e) to (let e : Copying (piece_end 0 (length (copy_of one))) (length (copy_of one)) ≡ to = cc in e)
  due_copy SwitchWritten to e at is = absurd (cc)
  due_copy OpenSynced to e at is = absurd (cc)
  due_copy OpenRead to e at is = absurd (cc)
  due_copy (SnapshotWriting n m) to e at is = absurd (cc)
  due_copy SnapshotSynced to e at is = absurd (cc)
  due_copy SelectorWritten to e at is = absurd (cc)
  due_copy Opened to e at is = absurd (cc)

  due_open : (p to : LastCall) → w.place ≡ p → IsAt (log_of w) w.disk p → open_writes (length (rest_of one)) p ≡ Some to → IsDue w to
  due_open Rest to e at is = absurd (cc)
  due_open Broken to e at is = absurd (cc)
  due_open (BlockWritten n) to e at is = absurd (cc)
  due_open (BlockSynced n) to e at is = absurd (cc)
  due_open (GateWritten n) to e at is = absurd (cc)
  due_open (Copying n m) to e at is = absurd (cc)
  due_open CopySynced to e at is = absurd (cc)
  due_open SwitchWritten to e at is = absurd (cc)
  due_open OpenSynced to e at is = absurd (cc)
  due_open OpenRead to e at is = first_rest_due (ap done_at e) to (let e : SnapshotWriting (piece_end 0 (length (rest_of one))) (length (rest_of one)) ≡ to = cc in e)
  due_open (SnapshotWriting n m) to e at is = next_rest_due (nat_lt n m) n m e at.1 to is
  due_open SnapshotSynced to e at is = subst (λ (q : LastCall). IsDue w q) (let e : SelectorWritten ≡ to = cc in e) tt
  due_open SelectorWritten to e at is = absurd (cc)
  due_open Opened to e at is = absurd (cc)

  pub write_due : (list : CallList) (to : LastCall) → LeadsTo w list Write to → IsDue w to
  write_due Append to is = due_append w (fitting w one) same_fitting w.place to (is one readable.is_read)
  write_due Snapshot to is = due_copy w.place to refl k.at (is one readable.is_read)
  write_due Switch to is = due_switch w w.place to (is one readable.is_read)
  write_due Open to is = due_open w.place to refl k.at (is one readable.is_read)

-- what is done on the disk

pub wrote_it : (w v : WorldValue) (ok : Bool) (to : LastCall) (at : ℕ) (bytes : List ℕ) → IsPatch w to at bytes → v ≡ with_disk w (wrote w.disk (patch at bytes)) → IsTouched w Write ok to true v
wrote_it w v ok to at bytes is new r x =
    let both = is r x in
    (both.0, new ∙ ap (λ (p : Patch). with_disk w (wrote w.disk p)) both.1)

pub wrote_nothing : (w : WorldValue) (ok : Bool) (to : LastCall) → IsNoPatch w to → IsTouched w Write ok to false w
wrote_nothing w ok to none r x = (none r x, refl)

pub read_it : (w : WorldValue) (ok : Bool) (list : CallList) (to : LastCall) → LeadsTo w list Read to → IsTouched w Read ok to true w
read_it w ok list to is r x = (read_freely w list to r (is r x), refl)

pub synced_it : (w v : WorldValue) (list : CallList) (to : LastCall) → LeadsTo w list Sync to → v ≡ with_disk w (synced w.disk) → IsTouched w Sync true to true v
synced_it w v list to is new r x = (synced_freely w list to r (is r x), new)

pub synced_if : (w v : WorldValue) (ok : Bool) (list : CallList) (to : LastCall) → LeadsTo w list Sync to → (ok ≡ true → v ≡ with_disk w (synced w.disk)) → (ok ≡ false → v ≡ w) → IsTouched w Sync ok to true v
synced_if w v true list to is all none = synced_it w v list to is (all refl)
synced_if w v false list to is all none = λ r x. (synced_freely w list to r (is r x), none refl)

-- a call of that kind

pub touches_read : (w : WorldValue) (call : Call) (to : LastCall) → call.kind ≡ Read → LeadsTo w call.list call.kind to → IsTouched w call.kind call.ok to true w
touches_read w call to is there = subst (λ (k : CallKind). LeadsTo w call.list k to → IsTouched w k call.ok to true w) (sym is) (read_it w call.ok call.list to) there

pub touches_write : {E : Type 0} (res : Result Bool E) (w v : WorldValue) (call : Call) (to : LastCall) → call.kind ≡ Write → IfOk res (λ answer. IsTouched w Write call.ok to answer v) → IfOk res (λ answer. IsTouched w call.kind call.ok to answer v)
touches_write res w v call to is touched = subst (λ (k : CallKind). IfOk res (λ answer. IsTouched w k call.ok to answer v)) (sym is) touched

pub touches_sync : (w v : WorldValue) (call : Call) (to : LastCall) → call.kind ≡ Sync → LeadsTo w call.list call.kind to → (call.ok ≡ true → v ≡ with_disk w (synced w.disk)) → (call.ok ≡ false → v ≡ w) → IsTouched w call.kind call.ok to true v
touches_sync w v call to is there all none = subst (λ (k : CallKind). LeadsTo w call.list k to → IsTouched w k call.ok to true v) (sym is) (λ l. synced_if w v call.ok call.list to l all none) there

-- and the event

pub leads_nowhere : (w : WorldValue) (call : Call) → LeadsNowhere w call.list call.kind → IsTold w (Device call) false w
leads_nowhere w call none r x = (none r x, refl)

pub not_touched : (w v : WorldValue) (call : Call) (to : LastCall) → LeadsTo w call.list call.kind to → IsTouched w call.kind call.ok to false v → IsTold w (Device call) false v
not_touched w v call to is t r x = (λ may. (t r x).0 (subst (λ (o : Option LastCall). IsSomeAnd o (MayLead w r)) (is r x) may), (t r x).1)

pub touched : (w v : WorldValue) (call : Call) (to : LastCall) → LeadsTo w call.list call.kind to → IsTouched w call.kind call.ok to true v
    → IsTold w (Device call) true (record v { stored = stored_after v.stored v.place call.ok; phase = phase_after call.list v.phase; place = place_after call.ok to })
touched w v call to is t r x =
    let both = t r x in (
      subst (λ (o : Option LastCall). IsSomeAnd o (MayLead w r)) (sym (is r x)) both.0,
      ap (λ (u : WorldValue). record u { stored = stored_after u.stored u.place call.ok; phase = phase_after call.list u.phase; place = place_after call.ok to }) both.1
          ∙ ap (λ (o : Option LastCall). called w r call w.place o) (sym (is r x)),
    )

-- the end of an opening

pub not_opened : (w : WorldValue) → w.place ≢ Opened → IsTold w Opens false w
not_opened w other r x = (λ is. other is, refl)

pub opens : (w v : WorldValue) (state : State) → IsKept w → w.place ≡ Opened → ((s : State) → Stands w.disk.content s → state ≡ restarted s) → v ≡ reopened w state → IsTold w Opens true v
opens w v state k is state_is new r x =
    let at : IsAt (log_of w) w.disk Opened = subst (λ (p : LastCall). IsAt (log_of w) w.disk p) is k.at in
    let same : r.state ≡ at.2.reading.state = same_state w.disk.size w.disk.size w.disk.content r at.2.reading x at.2.is_read in
    let stays : restarted r.state ≡ r.state = ap restarted same ∙ at.2.again ∙ sym same in
    (is, new ∙ ap (λ (s : State). reopened w s) (state_is r.state (read_stands w.disk.size w.disk.content r x) ∙ stays))

pub opens_if : {E : Type 0} (res : Result Bool E) (w v : WorldValue) (state : State) → IsKept w → w.place ≡ Opened → ((s : State) → Stands w.disk.content s → state ≡ restarted s)
    → IfOk res (λ begun. (begun ≡ true) × (v ≡ reopened w state)) → IfOk res (λ answer. IsTold w Opens answer v)
opens_if (Err e) w v state k is state_is begun = begun
opens_if (Ok b) w v state k is state_is begun = subst (λ (a : Bool). IsTold w Opens a v) (sym begun.0) (opens w v state k is state_is begun.1)

pub cannot_fail : (w : WorldValue) (content : List ℕ) → IsKept w → w.place ≡ Opened → content ≡ w.disk.content → (IsTooLarge content ⊎ IsTooLong content) → ⊥
cannot_fail w content k is same why =
    let at : IsAt (log_of w) w.disk Opened = subst (λ (p : LastCall). IsAt (log_of w) w.disk p) is k.at in
    no_restart content why w.disk.size at.2.reading (subst (λ (l : List ℕ). IsRead w.disk.size l at.2.reading) (sym same) at.2.is_read) at.2.can

-- what begins anew
pub begins : (w : WorldValue) (s opening : State) (base : ℕ) (history : List CommandValue) (ready : List Bool) (seats : List Seat) (released : List ℕ) → base ≡ s.count → opening ≡ s → history ≡ [] → ready ≡ []
    → seats ≡ map (λ (seat : Seat). record { own = []; seen = s.count }) w.seats → released ≡ []
    → record w { base = base; opening = opening; history = history; ready = ready; taken = base; stored = base; mark = base; seats = seats; stopped = false; released = released; phase = Running; place = Rest } ≡ begun w s
begins w s opening base history ready seats released b o h f a n =
    λ i. record w { base = b i; opening = o i; history = h i; ready = f i; taken = b i; stored = b i; mark = b i; seats = a i; stopped = false; released = n i; phase = Running; place = Rest }

pub begun_is : (w : WorldValue) (earlier : List ℕ) (s : State) → earlier ≡ w.earlier ++ w.released → begun (record w { earlier = earlier }) s ≡ reopened w s
begun_is w earlier s is = ap (λ (l : List ℕ). record (reopened w s) { earlier = l }) is

pub found_patch : (o : Option Patched) (p : Patched) (w : WorldValue) (to : LastCall) → o ≡ Some p → IfSome o (λ x. IsPatch w to x.at x.bytes.items) → IsPatch w to p.at p.bytes.items
found_patch o p w to is some = subst (λ (q : Option Patched). IfSome q (λ x. IsPatch w to x.at x.bytes.items)) is some

pub fits_there : (w : WorldValue) → IsKept w → (to : LastCall) (at : ℕ) (bytes : List ℕ) → IsDue w to → IsPatch w to at bytes → at + length bytes ≤ length w.disk.content
fits_there w k to at bytes due is =
    let x = here w k in
    let both = is x.reading x.is_read in
    let same_at = ap (λ (p : Patch). p.at) both.1 in
    let same_bytes = ap (λ (p : Patch). length p.bytes) both.1 in
    omega (arith, patch_fits w k to x.reading x.is_read due both.0, same_at, same_bytes)

pub wrote_disk : (w : WorldValue) (content : List ℕ) (held : List (Option ℕ)) (at : ℕ) (bytes : List ℕ) → content ≡ patched at bytes w.disk.content → held ≡ held_over at (length bytes) w.disk.held w.disk.content
    → record w { disk = record { size = w.disk.size; content = content; held = held } } ≡ with_disk w (wrote w.disk (patch at bytes))
wrote_disk w content held at bytes c h = λ i. record w { disk = record { size = w.disk.size; content = c i; held = h i } }

-- after a crash
pub crashed : (w : WorldValue) (image content : List ℕ) (held : List (Option ℕ)) → content ≡ image → held ≡ none_held (length image)
    → record w { phase = Crashed; place = Broken; disk = record { size = w.disk.size; content = content; held = held } } ≡ record w { phase = Crashed; place = Broken; disk = with_image image w.disk }
crashed w image content held c h = λ i. record w { phase = Crashed; place = Broken; disk = record { size = w.disk.size; content = c i; held = h i } }

pub found_lead : (o : Option LastCall) (w : WorldValue) (list : CallList) (kind : CallKind) (to : LastCall) → o ≡ Some to → IfSome o (LeadsTo w list kind) → LeadsTo w list kind to
found_lead o w list kind to is some = subst (λ (q : Option LastCall). IfSome q (LeadsTo w list kind)) is some

-- where the next call leads

pub place_leads_to : (found : Option LastCall) (w : WorldValue) (list : CallList) (kind : CallKind) → ((r : Reading) → found ≡ leads w r list kind) → IfSome found (LeadsTo w list kind)
place_leads_to None w list kind is = tt
place_leads_to (Some to) w list kind is = λ r x. sym (is r)

pub place_leads_nowhere : (found : Option LastCall) (w : WorldValue) (list : CallList) (kind : CallKind) → ((r : Reading) → found ≡ leads w r list kind) → found ≡ None → LeadsNowhere w list kind
place_leads_nowhere found w list kind is none r x may = subst (λ (o : Option LastCall). IsSomeAnd o (MayLead w r)) (sym (is r) ∙ none) may

pub is_write_of_copy : (list : CallList) (kind : CallKind) → list ≡ Snapshot → is_measured list kind ≡ true → kind ≡ Write
is_write_of_copy list Read is writes = absurd (let e : is_measured Snapshot Read ≡ true = subst (λ (l : CallList). is_measured l Read ≡ true) is writes in cc)
is_write_of_copy list Write is writes = refl
is_write_of_copy list Sync is writes = absurd (let e : is_measured Snapshot Sync ≡ true = subst (λ (l : CallList). is_measured l Sync ≡ true) is writes in cc)

pub is_write_of_block : (list : CallList) (kind : CallKind) → list ≡ Append → is_measured list kind ≡ true → kind ≡ Write
is_write_of_block list Read is writes = absurd (let e : is_measured Append Read ≡ true = subst (λ (l : CallList). is_measured l Read ≡ true) is writes in cc)
is_write_of_block list Write is writes = refl
is_write_of_block list Sync is writes = absurd (let e : is_measured Append Sync ≡ true = subst (λ (l : CallList). is_measured l Sync ≡ true) is writes in cc)

pub is_write_of_open : (list : CallList) (kind : CallKind) → list ≢ Append → list ≢ Snapshot → is_measured list kind ≡ true → (list ≡ Open) × (kind ≡ Write)
is_write_of_open Append kind block other writes = absurd (block refl)
is_write_of_open Snapshot kind block other writes = absurd (other refl)
is_write_of_open Switch Read block other writes = absurd (cc)
is_write_of_open Switch Write block other writes = absurd (cc)
is_write_of_open Switch Sync block other writes = absurd (cc)
is_write_of_open Open Read block other writes = absurd (cc)
is_write_of_open Open Write block other writes = (refl, refl)
is_write_of_open Open Sync block other writes = absurd (cc)

pub leads_as : {E : Type 0} (res : Result (Option LastCall) E) (w : WorldValue) (l list : CallList) (k kind : CallKind) → list ≡ l → kind ≡ k → IfOk res (λ found. IfSome found (LeadsTo w l k)) → IfOk res (λ found. IfSome found (LeadsTo w list kind))
leads_as res w l list k kind is_list is_kind found =
    subst (λ (x : CallList). IfOk res (λ found. IfSome found (LeadsTo w x kind))) (sym is_list) (subst (λ (x : CallKind). IfOk res (λ found. IfSome found (LeadsTo w l x))) (sym is_kind) found)

pub leads_nowhere_as : {E : Type 0} (res : Result (Option LastCall) E) (w : WorldValue) (l list : CallList) (k kind : CallKind) → list ≡ l → kind ≡ k → IfOk res (λ found. found ≡ None → LeadsNowhere w l k) → IfOk res (λ found. found ≡ None → LeadsNowhere w list kind)
leads_nowhere_as res w l list k kind is_list is_kind found =
    subst (λ (x : CallList). IfOk res (λ found. found ≡ None → LeadsNowhere w x kind)) (sym is_list) (subst (λ (x : CallKind). IfOk res (λ found. found ≡ None → LeadsNowhere w l x)) (sym is_kind) found)

pub due_where : (w : WorldValue) → IsKept w → (list : CallList) (kind : CallKind) (to : LastCall) → kind ≡ Write → LeadsTo w list kind to → IsDue w to
due_where w k list kind to is leads = write_due w k list to (subst (λ (x : CallKind). LeadsTo w list x to) is leads)

-- what the commands that fit lead to

pub block_leads_to : (w : WorldValue) (under : ℕ) → ((r : Reading) → IsRead w.disk.size w.disk.content r → under ≡ fitting w r) → (found : Option LastCall) → found ≡ append_writes under w.place → IfSome found (LeadsTo w Append Write)
block_leads_to w under is None leads = tt
block_leads_to w under is (Some to) leads = λ r x. ap (λ (n : ℕ). append_writes n w.place) (sym (is r x)) ∙ sym leads

pub block_leads_nowhere : (w : WorldValue) (under : ℕ) → ((r : Reading) → IsRead w.disk.size w.disk.content r → under ≡ fitting w r) → (found : Option LastCall) → found ≡ append_writes under w.place → found ≡ None → LeadsNowhere w Append Write
block_leads_nowhere w under is found leads none r x may =
    subst (λ (o : Option LastCall). IsSomeAnd o (MayLead w r)) (ap (λ (n : ℕ). append_writes n w.place) (sym (is r x)) ∙ sym leads ∙ none) may

-- what the length of a snapshot leads to

pub copy_leads_to : (w : WorldValue) (whole : ℕ) → ((r : Reading) → IsRead w.disk.size w.disk.content r → whole ≡ length (copy_of r)) → (found : Option LastCall) → found ≡ copy_writes whole w.place → IfSome found (LeadsTo w Snapshot Write)
copy_leads_to w whole is None leads = tt
copy_leads_to w whole is (Some to) leads = λ r x. ap (λ (n : ℕ). copy_writes n w.place) (sym (is r x)) ∙ sym leads

pub copy_leads_nowhere : (w : WorldValue) (whole : ℕ) → ((r : Reading) → IsRead w.disk.size w.disk.content r → whole ≡ length (copy_of r)) → (found : Option LastCall) → found ≡ copy_writes whole w.place → found ≡ None → LeadsNowhere w Snapshot Write
copy_leads_nowhere w whole is found leads none r x may =
    subst (λ (o : Option LastCall). IsSomeAnd o (MayLead w r)) (ap (λ (n : ℕ). copy_writes n w.place) (sym (is r x)) ∙ sym leads ∙ none) may

pub rest_leads_to : (w : WorldValue) (whole : ℕ) → ((r : Reading) → IsRead w.disk.size w.disk.content r → whole ≡ length (rest_of r)) → (found : Option LastCall) → found ≡ open_writes whole w.place → IfSome found (LeadsTo w Open Write)
rest_leads_to w whole is None leads = tt
rest_leads_to w whole is (Some to) leads = λ r x. ap (λ (n : ℕ). open_writes n w.place) (sym (is r x)) ∙ sym leads

pub rest_leads_nowhere : (w : WorldValue) (whole : ℕ) → ((r : Reading) → IsRead w.disk.size w.disk.content r → whole ≡ length (rest_of r)) → (found : Option LastCall) → found ≡ open_writes whole w.place → found ≡ None → LeadsNowhere w Open Write
rest_leads_nowhere w whole is found leads none r x may =
    subst (λ (o : Option LastCall). IsSomeAnd o (MayLead w r)) (ap (λ (n : ℕ). open_writes n w.place) (sym (is r x)) ∙ sym leads ∙ none) may

-- where none can be written, no such write may come

no_copy_if : (b : Bool) (w : WorldValue) (r : Reading) (n m : ℕ) → (CanCopy w.disk.size r → ⊥) → IsSomeAnd (if b then Some (Copying n m) else None) (MayLead w r) → ⊥
no_copy_if true w r n m never may = never may
no_copy_if false w r n m never may = may

no_copy_at : (w : WorldValue) (r : Reading) (whole : ℕ) (p : LastCall) → (CanCopy w.disk.size r → ⊥) → IsSomeAnd (copy_writes whole p) (MayLead w r) → ⊥
no_copy_at w r whole Rest never may = never may
no_copy_at w r whole Broken never may = may
no_copy_at w r whole (BlockWritten n) never may = may
no_copy_at w r whole (BlockSynced n) never may = may
no_copy_at w r whole (GateWritten n) never may = may
no_copy_at w r whole (Copying n m) never may = no_copy_if (nat_lt n m) w r (piece_end n m) m never may
no_copy_at w r whole CopySynced never may = never may
no_copy_at w r whole SwitchWritten never may = may
no_copy_at w r whole OpenSynced never may = may
no_copy_at w r whole OpenRead never may = may
no_copy_at w r whole (SnapshotWriting n m) never may = may
no_copy_at w r whole SnapshotSynced never may = may
no_copy_at w r whole SelectorWritten never may = may
no_copy_at w r whole Opened never may = may

pub no_copy : (w : WorldValue) → ((r : Reading) → IsRead w.disk.size w.disk.content r → CanCopy w.disk.size r → ⊥) → LeadsNowhere w Snapshot Write
no_copy w never r x may = no_copy_at w r (length (copy_of r)) w.place (never r x) may

no_rest_if : (b : Bool) (w : WorldValue) (r : Reading) (n m : ℕ) → (CanRestart w.disk.size r → ⊥) → IsSomeAnd (if b then Some (SnapshotWriting n m) else None) (MayLead w r) → ⊥
no_rest_if true w r n m never may = never may
no_rest_if false w r n m never may = may

no_rest_at : (w : WorldValue) (r : Reading) (whole : ℕ) (p : LastCall) → p ≢ SnapshotSynced → (CanRestart w.disk.size r → ⊥) → IsSomeAnd (open_writes whole p) (MayLead w r) → ⊥
no_rest_at w r whole Rest other never may = may
no_rest_at w r whole Broken other never may = may
no_rest_at w r whole (BlockWritten n) other never may = may
no_rest_at w r whole (BlockSynced n) other never may = may
no_rest_at w r whole (GateWritten n) other never may = may
no_rest_at w r whole (Copying n m) other never may = may
no_rest_at w r whole CopySynced other never may = may
no_rest_at w r whole SwitchWritten other never may = may
no_rest_at w r whole OpenSynced other never may = may
no_rest_at w r whole OpenRead other never may = never may
no_rest_at w r whole (SnapshotWriting n m) other never may = no_rest_if (nat_lt n m) w r (piece_end n m) m never may
no_rest_at w r whole SnapshotSynced other never may = other refl
no_rest_at w r whole SelectorWritten other never may = may
no_rest_at w r whole Opened other never may = may

pub no_rest : (w : WorldValue) → w.place ≢ SnapshotSynced → ((r : Reading) → IsRead w.disk.size w.disk.content r → CanRestart w.disk.size r → ⊥) → LeadsNowhere w Open Write
no_rest w other never r x may = no_rest_at w r (length (rest_of r)) w.place other (never r x) may

pub leads_to_selector : (w : WorldValue) → w.place ≡ SnapshotSynced → LeadsTo w Open Write SelectorWritten
leads_to_selector w is r x = ap (λ (p : LastCall). open_writes (length (rest_of r)) p) is
