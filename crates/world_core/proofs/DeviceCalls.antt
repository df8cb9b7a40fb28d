-- Device calls, crashes and the end of an opening keep what is kept.
use Rattle.std.proofs.Common.{◌≡◌, ◌≢◌, inl, inr, ℕ, ◌+◌, ◌-◌, ◌<◌, ◌≤◌, ◌^◌, Bool, true, false, nat_lt, if◌then◌else◌, List, [], ◌∷◌, length, take, drop, slice_index, Option, Some, None, IsSomeAnd, refl, sym, ◌∙◌, ap, subst, arith}
use Rattle.std.proofs.lemmas.List.{length-replicate}
use Rattle.std.proofs.lemmas.Bool.{ltb-false}
use Rattle.std.proofs.lemmas.List.Elements.{All-weaker, All-append, All-nil, All-map}
use Rattle.command_core.specs.Commands.{CommandValue}
use Rattle.broker_core.specs.Operations.{restarted}
use Rattle.broker_core.specs.States.{State}
use Rattle.broker_core.specs.Steps.{state_after}
use Rattle.snapshot_core.specs.Snapshots.{snapshot_of}
use Rattle.disk_core.specs.Images.{IsImage, Torn, patched}
use Rattle.disk_core.specs.Memory.{none_held}
use Rattle.disk_core.proofs.Overwritten.{frees, length-held_over}
use Rattle.disk_core.proofs.Patched.{length-patched}
use Rattle.disk_core.proofs.Synced.{only_content}
use Rattle.disk_core.proofs.Torn.{torn_patched, torn_same}
use Rattle.area_core.specs.declared.version.Version.TheVariants.{Two}
use Rattle.area_core.specs.Areas.{closed, closed_snapshot, front, records}
use Rattle.area_core.specs.Journals.{is_odd, other, start}
use Rattle.area_core.proofs.Areas.{length-sealed}
use Rattle.world_core.specs.declared.event.Call.{Call}
use Rattle.world_core.specs.declared.event.CallKind.{CallKind}
use Rattle.world_core.specs.declared.event.CallKind.TheVariants.{Read, Write, Sync}
use Rattle.world_core.specs.declared.event.CallList.{CallList}
use Rattle.world_core.specs.declared.event.CallList.TheVariants.{Append, Snapshot, Switch, Open}
use Rattle.world_core.specs.declared.event.Event.TheVariants.{Device, Crash, Open as Opens}
use Rattle.world_core.specs.declared.parts.Period.{Period}
use Rattle.world_core.specs.declared.parts.Period.TheVariants.{Running, Reopening, Crashed}
use Rattle.world_core.specs.declared.parts.LastCall.{LastCall}
use Rattle.world_core.specs.declared.parts.LastCall.TheVariants.{Rest, Broken, BlockWritten, BlockSynced, GateWritten, Copying, CopySynced, SwitchWritten, OpenSynced, OpenRead, SnapshotWriting, SnapshotSynced, SelectorWritten, Opened}
use Rattle.world_core.specs.declared.seat.Seat.{Seat}
use Rattle.world_core.specs.Calls.{CanCopy, CanRestart, MayLead, MayStore, Patch, append_syncs, append_writes, batch, called, fitting, copy_of, copy_syncs, copy_writes, done_at, gate_of, idle_of, leads, open_reads, open_syncs, open_writes, patch_to, phase_after, piece, piece_end, place_after, rest_of, switch_syncs, switch_writes, synced, wrote}
use Rattle.world_core.specs.Events.{Possible, after, with_image}
use Rattle.world_core.specs.Keeping.{Copied, Copies, Exact, HasCopy, HasPrefix, IsAt, IsKept, IsStill, Log, Prepared, Preparing, Restarted, Staged, log_of, upto}
use Rattle.world_core.specs.Readings.{IsRead, Reading}
use Rattle.world_core.specs.Worlds.{DiskValue, WorldValue, between}
use Rattle.world_core.proofs.Logs.{batch_form, count_under, none_taken, prefix_moves, state_more}
use Rattle.world_core.proofs.Fitting.{fitting_taken}
use Rattle.world_core.proofs.Copying.{all_there, piece_size, piece_there, torn_back, torn_on, torn_within}
use Rattle.world_core.proofs.Readings.{at_selector, block_fits, block_reads, block_torn, gate_open, gate_torn, idle_fits, idle_torn, same_gate, same_state, same_version, selector_torn, selector_written, with_block}

-- where it is not under another, it is that much or more
le_where : (a b : ℕ) → nat_lt a b ≡ false → b ≤ a
le_where a b is = ltb-false a b is

-- the content is an image
pub is_content : (content : List ℕ) (held : List (Option ℕ)) → IsImage content held content
is_content content held = record { size = refl; stable = λ i stable. refl }

not_running : (phase : Period) → phase_after Open phase ≢ Running
not_running Running r = absurd (cc)
not_running Reopening r = absurd (cc)
not_running Crashed r = absurd (cc)

exact_synced : (log : Log) (d : DiskValue) (n : ℕ) → Exact log d n → Exact log (synced d) n
exact_synced log d n e = record { running = e.running; reading = e.reading; is_read = e.is_read; two = e.two; state = e.state }

staged_synced : (log : Log) (d : DiskValue) (to : ℕ) → Staged log d to → Staged log (synced d) to
staged_synced log d to s = record {
  running = s.running;
  more = s.more;
  taken = s.taken;
  before = s.before;
  reading = s.reading;
  was_read = s.was_read;
  two = s.two;
  state = s.state;
  form = s.form;
  room = s.room;
  content = s.content;
}

restarted_synced : (d : DiskValue) → Restarted d → Restarted (synced d)
restarted_synced d p = record { reading = p.reading; is_read = p.is_read; two = p.two; can = p.can; again = p.again }

at_ok : (ok : Bool) (log : Log) (d : DiskValue) (to : LastCall) → IsAt log d to → IsAt log d (place_after ok to)
at_ok true log d to is = is
at_ok false log d to is = tt

module _ (w : WorldValue) (k : IsKept w) (r : Reading) (x : IsRead w.disk.size w.disk.content r) where
  abbrev d : DiskValue
  d = w.disk

  abbrev now : IsRead d.size d.content r
  now = at_selector d.size d.content r x

  here : HasPrefix (log_of w) d.size d.content
  here = k.images d.content (is_content d.content d.held)

  -- all that device calls change
  device_keeps : (stored : ℕ) (phase : Period) (place : LastCall) (disk : DiskValue)
      → let new : WorldValue = record w { stored = stored; phase = phase; place = place; disk = disk } in
      disk.size ≡ w.disk.size → length disk.content ≡ length w.disk.content → length disk.held ≡ length disk.content → w.stored ≤ stored → stored ≤ w.taken
      → ((c : List ℕ) → IsImage disk.content disk.held c → HasPrefix (log_of new) disk.size c) → IsAt (log_of new) disk place → IsKept new
  device_keeps stored phase place disk len size held up le images at = record {
    least = omega (arith, k.least, len);
    most = omega (arith, k.most, len);
    size = omega (arith, k.size, len, size);
    held = held;
    opened = k.opened;
    low = k.low;
    begun = k.begun;
    marked = omega (arith, k.marked, up);
    stored = le;
    taken = k.taken;
    flags = k.flags;
    forms = k.forms;
    seen = k.seen;
    released = k.released;
    earlier = k.earlier;
    images = images;
    at = at;
  }

  -- a call that fails, and a read
  idle_keeps : (phase : Period) (place : LastCall) → (phase ≡ Running → w.phase ≡ Running)
      → IsAt (log_of (record w { phase = phase; place = place })) d place → IsKept (record w { phase = phase; place = place })
  idle_keeps phase place running at =
      let new : WorldValue = record w { phase = phase; place = place } in
      device_keeps w.stored phase place d refl refl k.held (omega arith) k.stored
      (λ c image. prefix_moves (log_of w) (log_of new) d.size c (omega arith) (omega arith) (λ m le. refl) running (k.images c image)) at

  only_there : (c : List ℕ) → IsImage d.content (none_held (length d.content)) c → c ≡ d.content
  only_there c image = only_content d.content (length d.content) refl c image

  length-none : length (none_held (length d.content)) ≡ length d.content
  length-none = length-replicate (length d.content) None

  -- a sync
  sync_keeps : (phase : Period) (place : LastCall) → (phase ≡ Running → w.phase ≡ Running)
      → let new : WorldValue = record w { phase = phase; place = place; disk = synced d } in
      IsAt (log_of new) (synced d) place → IsKept new
  sync_keeps phase place running at =
      let new : WorldValue = record w { phase = phase; place = place; disk = synced d } in
      device_keeps w.stored phase place (synced d) refl refl length-none (omega arith) k.stored
      (λ c image. prefix_moves (log_of w) (log_of new) d.size c (omega arith) (omega arith) (λ m le. refl) running
      (subst (λ (l : List ℕ). HasPrefix (log_of w) d.size l) (sym (only_there c image)) here)) at

  -- a write, where nothing was unsynced
  write_keeps : (phase : Period) (place : LastCall) (p : Patch) → (phase ≡ Running → w.phase ≡ Running) → IsStill d → p.at + length p.bytes ≤ length d.content
      → let new : WorldValue = record w { phase = phase; place = place; disk = wrote d p } in
      ((c : List ℕ) → Torn p.at (length p.bytes) d.content c → HasPrefix (log_of w) d.size c) → IsAt (log_of new) (wrote d p) place → IsKept new
  write_keeps phase place p running still fits torn at =
      let new : WorldValue = record w { phase = phase; place = place; disk = wrote d p } in
      let size : length (patched p.at p.bytes d.content) ≡ length d.content = length-patched p.at p.bytes d.content fits in
      device_keeps w.stored phase place (wrote d p) refl size (omega (arith, size, k.held, length-held_over p.at p.bytes d.content d.held k.held fits)) (omega arith) k.stored
      (λ c image. prefix_moves (log_of w) (log_of new) d.size c (omega arith) (omega arith) (λ m le. refl) running
      (let old = (frees p.at p.bytes d.content d.held k.held fits).only c image in
      let same : old.0 ≡ d.content = only_there old.0 (subst (λ (h : List (Option ℕ)). IsImage d.content h old.0) still old.1) in
      torn c (subst (λ (l : List ℕ). Torn p.at (length p.bytes) l c) same old.2))) at

  -- Append

  block_keeps : (ok : Bool) (under : ℕ) → under ≤ w.taken → IsStill d → Exact (log_of w) d w.stored → MayStore w r under
      → IsKept (record w { place = place_after ok (BlockWritten under); disk = wrote d (patch_to w r (BlockWritten under)) })
  block_keeps ok under most still exact may =
      let cs = batch w under in
      let p = patch_to w r (BlockWritten under) in
      let state : r.state ≡ upto (log_of w) w.stored = same_state d.size d.size d.content r exact.reading x exact.is_read ∙ exact.state in
      let fits = block_fits d.size d.content r now (records cs) may.fits in
      write_keeps w.phase (place_after ok (BlockWritten under)) p (λ s. s) still fits
      (λ c t. record {
        number = w.stored;
        stored = omega arith;
        taken = k.stored;
        reading = r;
        is_read = block_torn d.size d.content r now (length (closed (records cs))) c t;
        same = ap restarted state;
        running = λ s. state;
      })
      (at_ok ok (log_of w) (wrote d p) (BlockWritten under) (record {
        running = exact.running;
        more = may.some;
        taken = most;
        before = d.content;
        reading = r;
        was_read = now;
        two = same_version d.size d.size d.content r exact.reading x exact.is_read ∙ exact.two;
        state = state;
        form = batch_form w.base w.history w.stored under (omega (arith, k.begun, k.marked)) may.some (omega (arith, most, k.taken)) k.forms;
        room = may.fits;
        content = refl;
      }))

  module _ (to : ℕ) (s : Staged (log_of w) d to) where
    abbrev cs : List CommandValue
    cs = between w.base w.history w.stored to

    abbrev block_at : ℕ
    block_at = start d.size (is_odd s.was_read.selector) + s.reading.gate

    abbrev block : List ℕ
    block = closed (records cs)

    staged_fits : block_at + 1 + length block ≤ length s.before
    staged_fits = block_fits d.size s.before s.reading s.was_read (records cs) s.room

    -- what was read before the block is still read
    still_read : IsRead d.size d.content s.reading
    still_read = subst (λ (c : List ℕ). IsRead d.size c s.reading) (sym s.content)
        (block_torn d.size s.before s.reading s.was_read (length block) (patched (block_at + 1) block s.before) (torn_patched (block_at + 1) (length block) block s.before refl staged_fits))

    still_selects : slice_index d.content 16 ≡ s.was_read.selector
    still_selects = ap (λ (c : List ℕ). slice_index c 16) s.content
        ∙ (block_reads d.size s.before s.reading s.was_read (length block) (patched (block_at + 1) block s.before) (torn_patched (block_at + 1) (length block) block s.before refl staged_fits)).journal.selects

    gate_there : gate_of d r ≡ block_at
    gate_there =
        ap (λ (n : ℕ). start d.size (is_odd n) + r.gate) still_selects
        ∙ ap (λ (n : ℕ). start d.size (is_odd s.was_read.selector) + n) (same_gate d.size d.size d.content r s.reading x still_read)

    abbrev next : Reading
    next = with_block d.size s.before s.reading s.was_read cs

    next_state : next.state ≡ upto (log_of w) to
    next_state =
        ap (λ (t : State). state_after t cs) s.state ∙ sym (state_more w.base w.opening w.history w.stored to (omega (arith, k.begun, k.marked)) (omega (arith, s.more)))

    gate_keeps : (ok : Bool) → IsStill d → IsKept (record w { place = place_after ok (GateWritten to); disk = wrote d (patch_to w r (GateWritten to)) })
    gate_keeps ok still =
        let p = patch_to w r (GateWritten to) in
        let fits : gate_of d r + 1 ≤ length d.content = omega (arith, gate_there, staged_fits, ap (λ (l : List ℕ). length l) s.content, length-patched (block_at + 1) block s.before staged_fits) in
        write_keeps w.phase (place_after ok (GateWritten to)) p (λ q. q) still fits
        (λ c t. elim (gate_torn d.size s.before s.reading s.was_read s.two cs s.form s.room c (subst (λ (l : List ℕ). Torn block_at 1 l c) s.content (subst (λ (n : ℕ). Torn n 1 d.content c) gate_there t))) [
          | inl old ↦ record { number = w.stored; stored = omega arith; taken = k.stored; reading = s.reading; is_read = old; same = ap restarted s.state; running = λ q. s.state }
          | inr new ↦ record { number = to; stored = omega (arith, s.more); taken = s.taken; reading = next; is_read = new; same = ap restarted next_state; running = λ q. next_state }
        ])
        (at_ok ok (log_of w) (wrote d p) (GateWritten to) (
          omega (arith, s.more),
          s.taken,
          record {
            running = s.running;
            reading = next;
            is_read = subst (λ (n : ℕ). IsRead d.size (patched n (1 ∷ []) d.content) next) (sym gate_there)
                (subst (λ (l : List ℕ). IsRead d.size (patched block_at (1 ∷ []) l) next) (sym s.content) (gate_open d.size s.before s.reading s.was_read s.two cs s.form s.room));
            two = s.two;
            state = next_state;
          },
        ))

  -- the block is stored
  stored_keeps : (to : ℕ) → w.stored ≤ to → to ≤ w.taken → Exact (log_of w) d to → IsKept (record w { stored = to; place = Rest; disk = synced d })
  stored_keeps to up le e =
      device_keeps to w.phase Rest (synced d) refl refl length-none up le
      (λ c image. record {
        number = to;
        stored = omega arith;
        taken = le;
        reading = e.reading;
        is_read = subst (λ (l : List ℕ). IsRead d.size l e.reading) (sym (only_there c image)) e.is_read;
        same = ap restarted e.state;
        running = λ q. e.state;
      })
      (refl, record { running = e.running; reading = e.reading; is_read = e.is_read; two = e.two; state = e.state })

  has_exact : HasCopy (log_of w) d → Exact (log_of w) d w.stored
  has_exact c = record { running = c.running; reading = c.reading; is_read = c.is_read; two = c.two; state = c.state }

  append_write : (ok : Bool) (p : LastCall) → IsAt (log_of w) d p → IsSomeAnd (append_writes (fitting w r) p) (MayLead w r) → IsKept (called w r (record { list = Append; kind = Write; ok = ok }) p (append_writes (fitting w r) p))
  append_write ok Rest is may = block_keeps ok (fitting w r) (fitting_taken w k r) is.0 is.1 may
  append_write ok Broken is may = k
  append_write ok (BlockWritten to) is may = k
  append_write ok (BlockSynced to) is may = gate_keeps to is.1 ok is.0
  append_write ok (GateWritten to) is may = k
  append_write ok (Copying done all) is may = k
  append_write ok CopySynced is may = block_keeps ok (fitting w r) (fitting_taken w k r) is.0 (has_exact is.1) may
  append_write ok SwitchWritten is may = k
  append_write ok OpenSynced is may = k
  append_write ok OpenRead is may = k
  append_write ok (SnapshotWriting done all) is may = k
  append_write ok SnapshotSynced is may = k
  append_write ok SelectorWritten is may = k
  append_write ok Opened is may = k

  append_sync : (ok : Bool) (p : LastCall) → IsAt (log_of w) d p → IsKept (called w r (record { list = Append; kind = Sync; ok = ok }) p (append_syncs p))
  append_sync ok Rest is = k
  append_sync ok Broken is = k
  append_sync true (BlockWritten to) is = sync_keeps w.phase (BlockSynced to) (λ q. q) (refl, staged_synced (log_of w) d to is)
  append_sync false (BlockWritten to) is = idle_keeps w.phase Broken (λ q. q) tt
  append_sync ok (BlockSynced to) is = k
  append_sync true (GateWritten to) is = stored_keeps to is.0 is.1 is.2
  append_sync false (GateWritten to) is = idle_keeps w.phase Broken (λ q. q) tt
  append_sync ok (Copying done all) is = k
  append_sync ok CopySynced is = k
  append_sync ok SwitchWritten is = k
  append_sync ok OpenSynced is = k
  append_sync ok OpenRead is = k
  append_sync ok (SnapshotWriting done all) is = k
  append_sync ok SnapshotSynced is = k
  append_sync ok SelectorWritten is = k
  append_sync ok Opened is = k

  -- Open

  abbrev ended : Period
  ended = phase_after Open w.phase

  state_here : r.state ≡ here.reading.state
  state_here = same_state d.size d.size d.content r here.reading x here.is_read

  -- an image that differs in the idle area alone is read as the content is

  torn_prefix : (c : List ℕ) → Torn (idle_of d) d.size d.content c → HasPrefix (log_of w) d.size c
  torn_prefix c t = record {
    number = here.number;
    stored = here.stored;
    taken = here.taken;
    reading = r;
    is_read = idle_torn d.size d.content r now d.size c (omega arith) t;
    same = ap restarted state_here ∙ here.same;
    running = λ q. state_here ∙ here.running q;
  }

  -- what a stop leaves differs in the idle area alone
  abbrev AreTorn : Type 0
  AreTorn = (c : List ℕ) → IsImage d.content d.held c → Torn (idle_of d) d.size d.content c

  still_torn : IsStill d → AreTorn
  still_torn still c image =
      let same : c ≡ d.content = only_there c (subst (λ (h : List (Option ℕ)). IsImage d.content h c) still image) in
      subst (λ (l : List ℕ). Torn (idle_of d) d.size d.content l) (sym same) (torn_same (idle_of d) d.size d.content)

  -- a piece, from one place on and before another
  module _ (from to : ℕ) (bytes : List ℕ) (le : from ≤ to) (most : to ≤ length bytes) (room : length bytes ≤ d.size) (torn : AreTorn) where
    abbrev p : Patch
    p = piece (idle_of d) from to bytes

    area_fits : idle_of d + d.size ≤ length d.content
    area_fits = idle_fits d.size d.content r now d.size (omega arith)

    size_of_piece : length p.bytes ≡ to - from
    size_of_piece = piece_size from to bytes le most

    piece_within : from + length p.bytes ≤ d.size
    piece_within = omega (arith, size_of_piece, le, most, room)

    piece_fits : p.at + length p.bytes ≤ length d.content
    piece_fits = omega (arith, piece_within, area_fits)

    torn_there : Torn (idle_of d) d.size d.content (wrote d p).content
    torn_there = torn_within (idle_of d) from (length p.bytes) d.size d.content (wrote d p).content piece_within (torn_patched p.at (length p.bytes) p.bytes d.content refl piece_fits)

    torn_images : (c : List ℕ) → IsImage (wrote d p).content (wrote d p).held c → Torn (idle_of d) d.size d.content c
    torn_images c image =
        let old = (frees p.at p.bytes d.content d.held k.held piece_fits).only c image in
        torn_on (idle_of d) d.size d.content old.0 c (torn old.0 old.1) (torn_within (idle_of d) from (length p.bytes) d.size old.0 c piece_within old.2)

    abbrev still_reads : IsRead d.size (wrote d p).content r
    still_reads = idle_torn d.size d.content r now d.size (wrote d p).content (omega arith) torn_there

    same_idle : idle_of (wrote d p) ≡ idle_of d
    same_idle = ap (λ (n : ℕ). start d.size (other (is_odd n))) still_reads.reads.journal.selects

    piece_keeps : (phase : Period) (place : LastCall) → (phase ≡ Running → w.phase ≡ Running)
        → let new : WorldValue = record w { phase = phase; place = place; disk = wrote d p } in
        IsAt (log_of new) (wrote d p) place → IsKept new
    piece_keeps phase place running at =
        let new : WorldValue = record w { phase = phase; place = place; disk = wrote d p } in
        let size : length (patched p.at p.bytes d.content) ≡ length d.content = length-patched p.at p.bytes d.content piece_fits in
        device_keeps w.stored phase place (wrote d p) refl size (omega (arith, size, k.held, length-held_over p.at p.bytes d.content d.held k.held piece_fits)) (omega arith) k.stored
        (λ c image. prefix_moves (log_of w) (log_of new) d.size c (omega arith) (omega arith) (λ m le. refl) running (torn_prefix c (torn_images c image))) at

    copies_more : (all : ℕ) → all ≡ length bytes → take from (drop (idle_of d) d.content) ≡ take from bytes → Copies (wrote d p) bytes to all
    copies_more all whole there = record {
      whole = whole;
      within = omega (arith, whole, most);
      there = ap (λ (n : ℕ). take to (drop n (wrote d p).content)) same_idle ∙ piece_there (idle_of d) from to bytes d.content le most (omega (arith, area_fits, most, room)) there;
      torn = λ c image. subst (λ (n : ℕ). Torn n d.size (wrote d p).content c) (sym same_idle)
          (torn_on (idle_of d) d.size (wrote d p).content d.content c (torn_back (idle_of d) d.size d.content (wrote d p).content torn_there) (torn_images c image));
    }

  -- Snapshot

  copy_keeps : (ok : Bool) (to all : ℕ) → w.phase ≡ Running → r.version ≡ Two → r.state ≡ upto (log_of w) w.stored → CanCopy d.size r → AreTorn → done_at w.place ≤ to → to ≤ all → all ≡ length (copy_of r)
      → take (done_at w.place) (drop (idle_of d) d.content) ≡ take (done_at w.place) (copy_of r)
      → IsKept (record w { place = place_after ok (Copying to all); disk = wrote d (patch_to w r (Copying to all)) })
  copy_keeps ok to all running two state can torn le within whole there =
      let from = done_at w.place in
      let bytes = copy_of r in
      let most : to ≤ length bytes = omega (arith, within, whole) in
      let room : length bytes ≤ d.size = omega (arith, length-sealed Two (snapshot_of r.state), can.fits) in
      piece_keeps from to bytes le most room torn w.phase (place_after ok (Copying to all)) (λ q. q)
      (at_ok ok (log_of w) (wrote d (piece (idle_of d) from to bytes)) (Copying to all) (record {
        running = running;
        reading = r;
        is_read = still_reads from to bytes le most room torn;
        two = two;
        state = state;
        can = can;
        copies = copies_more from to bytes le most room torn all whole there;
      }))

  first_copy : (ok : Bool) → done_at w.place ≡ 0 → IsStill d → Exact (log_of w) d w.stored → CanCopy d.size r
      → let all = length (copy_of r) in IsKept (record w { place = place_after ok (Copying (piece_end 0 all) all); disk = wrote d (patch_to w r (Copying (piece_end 0 all) all)) })
  first_copy ok none still exact can =
      let state : r.state ≡ upto (log_of w) w.stored = same_state d.size d.size d.content r exact.reading x exact.is_read ∙ exact.state in
      copy_keeps ok (piece_end 0 (length (copy_of r))) (length (copy_of r)) exact.running (same_version d.size d.size d.content r exact.reading x exact.is_read ∙ exact.two) state can (still_torn still) (omega (arith, none)) (omega arith) refl
      (ap (λ (n : ℕ). take n (drop (idle_of d) d.content)) none ∙ sym (ap (λ (n : ℕ). take n (copy_of r)) none))

  -- what was copied so far, of what is read
  copied_here : (done all : ℕ) → Copied (log_of w) d done all → Copies d (copy_of r) done all
  copied_here done all c = subst (λ (s : State). Copies d (closed_snapshot Two (snapshot_of s)) done all) (sym (same_state d.size d.size d.content r c.reading x c.is_read)) c.copies

  next_copy : (ok b : Bool) (done all : ℕ) → w.place ≡ Copying done all → Copied (log_of w) d done all → IsSomeAnd (if b then Some (Copying (piece_end done all) all) else None) (MayLead w r) → b ≡ nat_lt done all
      → IsKept (called w r (record { list = Snapshot; kind = Write; ok = ok }) (Copying done all) (if b then Some (Copying (piece_end done all) all) else None))
  next_copy ok false done all e c may b = k
  next_copy ok true done all e c may b =
      let there : done_at w.place ≡ done = ap done_at e in
      let copies = copied_here done all c in
      let state : r.state ≡ upto (log_of w) w.stored = same_state d.size d.size d.content r c.reading x c.is_read ∙ c.state in
      copy_keeps ok (piece_end done all) all c.running (same_version d.size d.size d.content r c.reading x c.is_read ∙ c.two) state may copies.torn (omega (arith, there, copies.within)) (omega arith) copies.whole
      (ap (λ (n : ℕ). take n (drop (idle_of d) d.content)) there ∙ copies.there ∙ sym (ap (λ (n : ℕ). take n (copy_of r)) there))

  copy_write : (ok : Bool) (p : LastCall) → w.place ≡ p → IsAt (log_of w) d p → IsSomeAnd (copy_writes (length (copy_of r)) p) (MayLead w r)
      → IsKept (called w r (record { list = Snapshot; kind = Write; ok = ok }) p (copy_writes (length (copy_of r)) p))
  copy_write ok Rest e is may = first_copy ok (ap done_at e) is.0 is.1 may
  copy_write ok Broken e is may = k
  copy_write ok (BlockWritten to) e is may = k
  copy_write ok (BlockSynced to) e is may = k
  copy_write ok (GateWritten to) e is may = k
  copy_write ok (Copying done all) e is may = next_copy ok (nat_lt done all) done all e is may refl
  copy_write ok CopySynced e is may = first_copy ok (ap done_at e) is.0 (has_exact is.1) may
  copy_write ok SwitchWritten e is may = k
  copy_write ok OpenSynced e is may = k
  copy_write ok OpenRead e is may = k
  copy_write ok (SnapshotWriting done all) e is may = k
  copy_write ok SnapshotSynced e is may = k
  copy_write ok SelectorWritten e is may = k
  copy_write ok Opened e is may = k

  all_copied : (done all : ℕ) → false ≡ nat_lt done all → Copied (log_of w) d done all → HasCopy (log_of w) (synced d)
  all_copied done all end c =
      let past : all ≤ done = le_where done all (sym end) in
      let same : done ≡ all = omega (arith, past, c.copies.within) in
      record {
        running = c.running;
        reading = c.reading;
        is_read = c.is_read;
        two = c.two;
        state = c.state;
        can = c.can;
        idle = all_there d.size all (snapshot_of c.reading.state) (drop (idle_of d) d.content) (omega (arith, c.can.fits, k.most)) c.can.fits c.copies.whole (subst (λ (n : ℕ). take n (drop (idle_of d) d.content) ≡ take n (copy_of c.reading)) same c.copies.there);
      }

  copy_sync_if : (ok b : Bool) (done all : ℕ) → Copied (log_of w) d done all → b ≡ nat_lt done all
      → IsKept (called w r (record { list = Snapshot; kind = Sync; ok = ok }) (Copying done all) (if b then None else Some CopySynced))
  copy_sync_if ok true done all c b = k
  copy_sync_if true false done all c b = sync_keeps w.phase CopySynced (λ q. q) (refl, all_copied done all b c)
  copy_sync_if false false done all c b = idle_keeps w.phase Broken (λ q. q) tt

  copy_sync : (ok : Bool) (p : LastCall) → IsAt (log_of w) d p → IsKept (called w r (record { list = Snapshot; kind = Sync; ok = ok }) p (copy_syncs p))
  copy_sync ok Rest is = k
  copy_sync ok Broken is = k
  copy_sync ok (BlockWritten to) is = k
  copy_sync ok (BlockSynced to) is = k
  copy_sync ok (GateWritten to) is = k
  copy_sync ok (Copying done all) is = copy_sync_if ok (nat_lt done all) done all is refl
  copy_sync ok CopySynced is = k
  copy_sync ok SwitchWritten is = k
  copy_sync ok OpenSynced is = k
  copy_sync ok OpenRead is = k
  copy_sync ok (SnapshotWriting done all) is = k
  copy_sync ok SnapshotSynced is = k
  copy_sync ok SelectorWritten is = k
  copy_sync ok Opened is = k

  -- Switch

  switch_keeps : (ok : Bool) → IsStill d → HasCopy (log_of w) d → IsKept (record w { place = place_after ok SwitchWritten; disk = wrote d (patch_to w r SwitchWritten) })
  switch_keeps ok still c =
      let p = patch_to w r SwitchWritten in
      let t = c.reading.state in
      let next = snapshot_of t in
      let there = at_selector d.size d.content c.reading c.is_read in
      let new_reading : Reading = record { version = Two; gate = length (front Two next []); state = t } in
      write_keeps w.phase (place_after ok SwitchWritten) p (λ q. q) still (omega (arith, k.size))
      (λ image torn. elim (selector_torn d.size d.content c.reading there next t c.can.spelled c.idle image torn) [
        | inl old ↦ record { number = w.stored; stored = omega arith; taken = k.stored; reading = c.reading; is_read = old; same = ap restarted c.state; running = λ q. c.state }
        | inr new ↦ record { number = w.stored; stored = omega arith; taken = k.stored; reading = new_reading; is_read = new; same = ap restarted c.state; running = λ q. c.state }
      ])
      (at_ok ok (log_of w) (wrote d p) SwitchWritten (record {
        running = c.running;
        reading = new_reading;
        is_read = selector_written d.size d.content c.reading there next t c.can.spelled c.idle;
        two = refl;
        state = c.state;
      }))

  switch_write : (ok : Bool) (p : LastCall) → IsAt (log_of w) d p → IsKept (called w r (record { list = Switch; kind = Write; ok = ok }) p (switch_writes p))
  switch_write ok Rest is = k
  switch_write ok Broken is = k
  switch_write ok (BlockWritten to) is = k
  switch_write ok (BlockSynced to) is = k
  switch_write ok (GateWritten to) is = k
  switch_write ok (Copying done all) is = k
  switch_write ok CopySynced is = switch_keeps ok is.0 is.1
  switch_write ok SwitchWritten is = k
  switch_write ok OpenSynced is = k
  switch_write ok OpenRead is = k
  switch_write ok (SnapshotWriting done all) is = k
  switch_write ok SnapshotSynced is = k
  switch_write ok SelectorWritten is = k
  switch_write ok Opened is = k

  switch_sync : (ok : Bool) (p : LastCall) → IsAt (log_of w) d p → IsKept (called w r (record { list = Switch; kind = Sync; ok = ok }) p (switch_syncs p))
  switch_sync ok Rest is = k
  switch_sync ok Broken is = k
  switch_sync ok (BlockWritten to) is = k
  switch_sync ok (BlockSynced to) is = k
  switch_sync ok (GateWritten to) is = k
  switch_sync ok (Copying done all) is = k
  switch_sync ok CopySynced is = k
  switch_sync true SwitchWritten is = sync_keeps w.phase Rest (λ q. q) (refl, exact_synced (log_of w) d w.stored is)
  switch_sync false SwitchWritten is = idle_keeps w.phase Broken (λ q. q) tt
  switch_sync ok OpenSynced is = k
  switch_sync ok OpenRead is = k
  switch_sync ok (SnapshotWriting done all) is = k
  switch_sync ok SnapshotSynced is = k
  switch_sync ok SelectorWritten is = k
  switch_sync ok Opened is = k

  -- a piece of what a restart leaves

  rest_keeps : (ok : Bool) (to all : ℕ) → CanRestart d.size r → AreTorn → done_at w.place ≤ to → to ≤ all → all ≡ length (rest_of r)
      → take (done_at w.place) (drop (idle_of d) d.content) ≡ take (done_at w.place) (rest_of r)
      → IsKept (record w { phase = ended; place = place_after ok (SnapshotWriting to all); disk = wrote d (patch_to w r (SnapshotWriting to all)) })
  rest_keeps ok to all can torn le within whole there =
      let from = done_at w.place in
      let bytes = rest_of r in
      let most : to ≤ length bytes = omega (arith, within, whole) in
      let room : length bytes ≤ d.size = omega (arith, length-sealed Two (snapshot_of (restarted r.state)), can.fits) in
      let log : Log = log_of (record w { phase = ended }) in
      piece_keeps from to bytes le most room torn ended (place_after ok (SnapshotWriting to all)) (λ q. absurd (not_running w.phase q))
      (at_ok ok log (wrote d (piece (idle_of d) from to bytes)) (SnapshotWriting to all) (
        not_running w.phase,
        record {
          reading = r;
          is_read = still_reads from to bytes le most room torn;
          can = can;
          copies = copies_more from to bytes le most room torn all whole there;
        },
      ))

  first_rest : (ok : Bool) → done_at w.place ≡ 0 → IsStill d → CanRestart d.size r
      → let all = length (rest_of r) in IsKept (record w { phase = ended; place = place_after ok (SnapshotWriting (piece_end 0 all) all); disk = wrote d (patch_to w r (SnapshotWriting (piece_end 0 all) all)) })
  first_rest ok none still can =
      rest_keeps ok (piece_end 0 (length (rest_of r))) (length (rest_of r)) can (still_torn still) (omega (arith, none)) (omega arith) refl
      (ap (λ (n : ℕ). take n (drop (idle_of d) d.content)) none ∙ sym (ap (λ (n : ℕ). take n (rest_of r)) none))

  next_rest : (ok b : Bool) (done all : ℕ) → w.place ≡ SnapshotWriting done all → Preparing d done all → IsSomeAnd (if b then Some (SnapshotWriting (piece_end done all) all) else None) (MayLead w r) → b ≡ nat_lt done all
      → IsKept (called w r (record { list = Open; kind = Write; ok = ok }) (SnapshotWriting done all) (if b then Some (SnapshotWriting (piece_end done all) all) else None))
  next_rest ok false done all e c may b = k
  next_rest ok true done all e c may b =
      let there : done_at w.place ≡ done = ap done_at e in
      let copies : Copies d (rest_of r) done all = subst (λ (s : State). Copies d (closed_snapshot Two (snapshot_of (restarted s))) done all) (sym (same_state d.size d.size d.content r c.reading x c.is_read)) c.copies in
      rest_keeps ok (piece_end done all) all may copies.torn (omega (arith, there, copies.within)) (omega arith) copies.whole
      (ap (λ (n : ℕ). take n (drop (idle_of d) d.content)) there ∙ copies.there ∙ sym (ap (λ (n : ℕ). take n (rest_of r)) there))

  all_prepared : (done all : ℕ) → false ≡ nat_lt done all → Preparing d done all → Prepared (synced d)
  all_prepared done all end c =
      let past : all ≤ done = le_where done all (sym end) in
      let same : done ≡ all = omega (arith, past, c.copies.within) in
      record {
        reading = c.reading;
        is_read = c.is_read;
        can = c.can;
        idle = all_there d.size all (snapshot_of (restarted c.reading.state)) (drop (idle_of d) d.content) (omega (arith, c.can.fits, k.most)) c.can.fits c.copies.whole (subst (λ (n : ℕ). take n (drop (idle_of d) d.content) ≡ take n (rest_of c.reading)) same c.copies.there);
      }

  selector_keeps : (ok : Bool) → IsStill d → w.phase ≢ Running → Prepared d
      → IsKept (record w { phase = ended; place = place_after ok SelectorWritten; disk = wrote d (patch_to w r SelectorWritten) })
  selector_keeps ok still stopped c =
      let p = patch_to w r SelectorWritten in
      let log : Log = log_of (record w { phase = ended }) in
      let state : c.reading.state ≡ here.reading.state = same_state d.size d.size d.content c.reading here.reading c.is_read here.is_read in
      let same : restarted c.reading.state ≡ restarted (upto (log_of w) here.number) = ap restarted state ∙ here.same in
      let t = restarted c.reading.state in
      let next = snapshot_of t in
      let there = at_selector d.size d.content c.reading c.is_read in
      write_keeps ended (place_after ok SelectorWritten) p (λ q. absurd (not_running w.phase q)) still (omega (arith, k.size))
      (λ image torn. elim (selector_torn d.size d.content c.reading there next t c.can.spelled c.idle image torn) [
        | inl old ↦ record { number = here.number; stored = here.stored; taken = here.taken; reading = c.reading; is_read = old; same = same; running = λ q. absurd (stopped q) }
        | inr new ↦ record { number = here.number; stored = here.stored; taken = here.taken; reading = record { version = Two; gate = length (front Two next []); state = t }; is_read = new; same = same; running = λ q. absurd (stopped q) }
      ])
      (at_ok ok log (wrote d p) SelectorWritten (
        not_running w.phase,
        record {
          reading = record { version = Two; gate = length (front Two next []); state = t };
          is_read = selector_written d.size d.content c.reading there next t c.can.spelled c.idle;
          two = refl;
          can = record { low = c.can.low; spelled = c.can.spelled; fits = c.can.fits };
          again = refl;
        },
      ))

  began : IsKept (record w { phase = ended; place = OpenSynced; disk = synced d })
  began = sync_keeps ended OpenSynced (λ q. absurd (not_running w.phase q)) (refl, not_running w.phase)

  failed : IsKept (record w { phase = ended; place = Broken })
  failed = idle_keeps ended Broken (λ q. absurd (not_running w.phase q)) tt

  copying_began : (ok b : Bool) (done all : ℕ) → IsKept (called w r (record { list = Open; kind = Sync; ok = ok }) (Copying done all) (if b then Some OpenSynced else None))
  copying_began ok false done all = k
  copying_began true true done all = began
  copying_began false true done all = failed

  prepared_if : (ok b : Bool) (done all : ℕ) → Preparing d done all → b ≡ nat_lt done all
      → IsKept (called w r (record { list = Open; kind = Sync; ok = ok }) (SnapshotWriting done all) (if b then Some OpenSynced else Some SnapshotSynced))
  prepared_if true true done all c b = began
  prepared_if false true done all c b = failed
  prepared_if true false done all c b = sync_keeps ended SnapshotSynced (λ q. absurd (not_running w.phase q)) (refl, not_running w.phase, all_prepared done all b c)
  prepared_if false false done all c b = failed

  open_sync : (ok : Bool) (p : LastCall) → IsAt (log_of w) d p → IsKept (called w r (record { list = Open; kind = Sync; ok = ok }) p (open_syncs p))
  open_sync true Rest is = began
  open_sync false Rest is = failed
  open_sync true Broken is = began
  open_sync false Broken is = failed
  open_sync ok (BlockWritten to) is = k
  open_sync ok (BlockSynced to) is = k
  open_sync ok (GateWritten to) is = k
  open_sync true (Copying done all) is = copying_began true (nat_lt done all) done all
  open_sync false (Copying done all) is = copying_began false (nat_lt done all) done all
  open_sync true CopySynced is = began
  open_sync false CopySynced is = failed
  open_sync ok SwitchWritten is = k
  open_sync true OpenSynced is = began
  open_sync false OpenSynced is = failed
  open_sync true OpenRead is = began
  open_sync false OpenRead is = failed
  open_sync ok (SnapshotWriting done all) is = prepared_if ok (nat_lt done all) done all is.1 refl
  open_sync ok SnapshotSynced is = k
  open_sync true SelectorWritten is = sync_keeps ended Opened (λ q. absurd (not_running w.phase q)) (refl, not_running w.phase, restarted_synced d is.1)
  open_sync false SelectorWritten is = failed
  open_sync ok Opened is = k

  open_read : (ok : Bool) (p : LastCall) → IsAt (log_of w) d p → IsKept (called w r (record { list = Open; kind = Read; ok = ok }) p (open_reads p))
  open_read ok Rest is = k
  open_read ok Broken is = k
  open_read ok (BlockWritten to) is = k
  open_read ok (BlockSynced to) is = k
  open_read ok (GateWritten to) is = k
  open_read ok (Copying done all) is = k
  open_read ok CopySynced is = k
  open_read ok SwitchWritten is = k
  open_read true OpenSynced is = idle_keeps ended OpenRead (λ q. absurd (not_running w.phase q)) (is.0, not_running w.phase)
  open_read false OpenSynced is = failed
  open_read true OpenRead is = idle_keeps ended OpenRead (λ q. absurd (not_running w.phase q)) (is.0, not_running w.phase)
  open_read false OpenRead is = failed
  open_read ok (SnapshotWriting done all) is = k
  open_read ok SnapshotSynced is = k
  open_read ok SelectorWritten is = k
  open_read ok Opened is = k

  open_write : (ok : Bool) (p : LastCall) → w.place ≡ p → IsAt (log_of w) d p → IsSomeAnd (open_writes (length (rest_of r)) p) (MayLead w r)
      → IsKept (called w r (record { list = Open; kind = Write; ok = ok }) p (open_writes (length (rest_of r)) p))
  open_write ok Rest e is may = k
  open_write ok Broken e is may = k
  open_write ok (BlockWritten to) e is may = k
  open_write ok (BlockSynced to) e is may = k
  open_write ok (GateWritten to) e is may = k
  open_write ok (Copying done all) e is may = k
  open_write ok CopySynced e is may = k
  open_write ok SwitchWritten e is may = k
  open_write ok OpenSynced e is may = k
  open_write ok OpenRead e is may = first_rest ok (ap done_at e) is.0 may
  open_write ok (SnapshotWriting done all) e is may = next_rest ok (nat_lt done all) done all e is.1 may refl
  open_write ok SnapshotSynced e is may = selector_keeps ok is.0 is.1 is.2
  open_write ok SelectorWritten e is may = k
  open_write ok Opened e is may = k

  call_keeps : (list : CallList) (kind : CallKind) (ok : Bool) → IsSomeAnd (leads w r list kind) (MayLead w r) → IsKept (called w r (record { list = list; kind = kind; ok = ok }) w.place (leads w r list kind))
  call_keeps Append Read ok may = k
  call_keeps Append Write ok may = append_write ok w.place k.at may
  call_keeps Append Sync ok may = append_sync ok w.place k.at
  call_keeps Snapshot Read ok may = k
  call_keeps Snapshot Write ok may = copy_write ok w.place refl k.at may
  call_keeps Snapshot Sync ok may = copy_sync ok w.place k.at
  call_keeps Switch Read ok may = k
  call_keeps Switch Write ok may = switch_write ok w.place k.at
  call_keeps Switch Sync ok may = switch_sync ok w.place k.at
  call_keeps Open Read ok may = open_read ok w.place k.at
  call_keeps Open Write ok may = open_write ok w.place refl k.at may
  call_keeps Open Sync ok may = open_sync ok w.place k.at

  pub device_call_keeps : (call : Call) → Possible w r (Device call) → IsKept (after w r (Device call))
  device_call_keeps call may = call_keeps call.list call.kind call.ok may

  -- Crash

  pub crash_keeps : (image : List ℕ) → Possible w r (Crash image) → IsKept (after w r (Crash image))
  crash_keeps image may =
      let new : WorldValue = after w r (Crash image) in
      device_keeps w.stored Crashed Broken (with_image image d) refl may.size (length-replicate (length image) None) (omega arith) k.stored
      (λ c is. prefix_moves (log_of w) (log_of new) d.size c (omega arith) (omega arith) (λ m le. refl) (λ q. absurd (cc))
      (subst (λ (l : List ℕ). HasPrefix (log_of w) d.size l) (sym (only_content image (length image) refl c is)) (k.images image may))) tt

  -- the end of Open

  pub open_keeps : Possible w r Opens → IsKept (after w r Opens)
  open_keeps may =
      let at : IsAt (log_of w) d Opened = subst (λ (p : LastCall). IsAt (log_of w) d p) may k.at in
      let s = r.state in
      let same = same_state d.size d.size d.content r at.2.reading x at.2.is_read in
      let low : s.count ≤ 2 ^ 61 = omega (arith, at.2.can.low, ap (λ (t : State). t.count) same) in
      let number : s.count ≡ here.number =
      ap (λ (t : State). t.count) state_here ∙ ap (λ (t : State). t.count) here.same ∙ count_under w.base w.opening w.history here.number k.opened (omega (arith, k.begun, k.marked, here.stored)) (omega (arith, here.taken, k.taken)) in
      let new : WorldValue = after w r Opens in
      let begins : (n : ℕ) → upto (log_of new) n ≡ s = λ n. ap (λ (l : List CommandValue). state_after s l) (none_taken (n - s.count)) in
      record {
        least = k.least;
        most = k.most;
        size = k.size;
        held = k.held;
        opened = refl;
        low = low;
        begun = omega arith;
        marked = omega arith;
        stored = omega arith;
        taken = omega arith;
        flags = refl;
        forms = tt;
        seen = All-map (λ (seat : Seat). seat.seen ≤ s.count) (λ (seat : Seat). record { own = []; seen = s.count }) w.seats (λ i seat lt. omega arith);
        released = All-nil (λ n. n < s.count);
        earlier = All-append (λ n. n < s.count) w.earlier w.released
            (All-weaker (λ n. n < w.base) (λ n. n < s.count) (λ n lt. omega (arith, lt, number, k.begun, k.marked, here.stored)) w.earlier k.earlier)
            (All-weaker (λ n. n < w.mark) (λ n. n < s.count) (λ n lt. omega (arith, lt, number, k.marked, here.stored)) w.released k.released);
        images = λ c image. record {
          number = s.count;
          stored = omega arith;
          taken = omega arith;
          reading = r;
          is_read = subst (λ (l : List ℕ). IsRead d.size l r) (sym (only_there c (subst (λ (h : List (Option ℕ)). IsImage d.content h c) at.0 image))) x;
          same = ap restarted (sym (begins s.count));
          running = λ q. sym (begins s.count);
        };
        at = (at.0, record { running = refl; reading = r; is_read = x; two = same_version d.size d.size d.content r at.2.reading x at.2.is_read ∙ at.2.two; state = sym (begins s.count) });
      }
