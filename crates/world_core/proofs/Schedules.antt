-- Each world that a schedule reaches keeps what is kept.
use Rattle.std.proofs.Common.{◌≡◌, inl, inr, ◌≤◌, ◌<◌, ◌+◌, ◌-◌, ◌*◌, ℕ, Bool, true, false, List, [], ◌∷◌, ◌++◌, drop, length, replicate, Option, None, refl, sym, ◌∙◌, ap, subst, arith, length-append}
use Rattle.std.proofs.lemmas.List.{append-nil, length-replicate}
use Rattle.std.proofs.lemmas.List.Elements.{All-nil, All-replicate}
use Rattle.std.specs.List.{AllByRecursion}
use Rattle.claim_core.specs.declared.limits.TheConstants.{SEATS}
use Rattle.command_core.specs.Commands.{CommandValue}
use Rattle.broker_core.specs.Operations.{restarted}
use Rattle.broker_core.specs.States.{State, empty_state}
use Rattle.broker_core.specs.Steps.{state_after, state_after_v1}
use Rattle.disk_core.specs.Images.{IsImage, patched}
use Rattle.disk_core.specs.Memory.{none_held}
use Rattle.disk_core.proofs.Patched.{length-patched}
use Rattle.disk_core.proofs.Synced.{only_content}
use Rattle.disk_core.proofs.Torn.{torn_patched}
use Rattle.area_core.specs.declared.version.Version.TheVariants.{One, Two}
use Rattle.area_core.specs.Areas.{HasRecord, IsArea, IsBlock, closed_snapshot, first_snapshot, front}
use Rattle.area_core.specs.Journals.{Reads, header}
use Rattle.area_core.proofs.Formatted.{first_live, formatted as formatted_reads}
use Rattle.recover_core.proofs.Formatted.{leads_empty, spells_empty}
use Rattle.recover_core.specs.Standing.{Leads, joined}
use Rattle.recover_core.proofs.Folded.{count_after_v1}
use Rattle.recover_core.proofs.Stores.{stands}
use Rattle.area_core.proofs.Areas.{length-pushed}
use Rattle.area_core.proofs.Single.{some_bytes}
use Rattle.world_core.specs.declared.event.Event.{Event}
use Rattle.world_core.specs.declared.event.Event.TheVariants.{Look, Claim, Ready, Take, Device, Raise, Release, Stop, Crash, Open}
use Rattle.world_core.specs.declared.seat.Seat.{Seat}
use Rattle.world_core.specs.Answers.{Answers}
use Rattle.world_core.specs.Events.{Possible, after}
use Rattle.world_core.specs.Keeping.{IsKept}
use Rattle.world_core.specs.Promises.{IsPrefixKept}
use Rattle.world_core.specs.Readings.{IsRead, Reading}
use Rattle.world_core.specs.Schedules.{FitsOld, Holds, IsFirst, Reaches, first, first_old, formatted, life_of, old_area, old_journal, one_block, opened_once}
use Rattle.world_core.specs.Worlds.{WorldValue, state_under}
use Rattle.world_core.proofs.Logs.{none_taken}
use Rattle.world_core.proofs.DeviceCalls.{crash_keeps, device_call_keeps, open_keeps}
use Rattle.world_core.proofs.Readings.{idle_reads, idle_written, is_read, selector_written}
use Rattle.world_core.proofs.SessionEvents.{claim_keeps, look_keeps, raise_keeps, ready_keeps, release_keeps, stop_keeps, take_keeps}

-- schedules

pub event_keeps : (w : WorldValue) → IsKept w → (r : Reading) → IsRead w.disk.size w.disk.content r → (e : Event) → Possible w r e → IsKept (after w r e)
event_keeps w k r x (Look j) may = look_keeps w k r j
event_keeps w k r x (Claim j command) may = claim_keeps w k r j command may.1
event_keeps w k r x (Ready j) may = ready_keeps w k r j
event_keeps w k r x Take may = take_keeps w k r may
event_keeps w k r x (Device call) may = device_call_keeps w k r x call may
event_keeps w k r x (Raise n) may = raise_keeps w k r n may
event_keeps w k r x (Release j n) may = release_keeps w k r j n may
event_keeps w k r x Stop may = stop_keeps w k r
event_keeps w k r x (Crash image) may = crash_keeps w k r x image may
event_keeps w k r x Open may = open_keeps w k r x may

pub answered : (w v : WorldValue) (e : Event) (b : Bool) → IsKept w → Answers w e b v → IsKept v
answered w v e true k a = subst IsKept (sym a.tells.1) (event_keeps w k a.reading a.is_read e a.tells.0)
answered w v e false k a = subst IsKept (sym a.tells.1) k

pub reached : (events : List Event) (w v : WorldValue) → IsKept w → Reaches w events v → IsKept v
reached [] w v k same = subst IsKept (sym same) k
reached (e ∷ events) w v k steps = reached events steps.1 v (answered w steps.1 e steps.0 k steps.2) steps.3

-- what is kept is what is promised

image_kept : (w : WorldValue) → IsKept w → (c : List ℕ) → IsImage w.disk.content w.disk.held c → IsPrefixKept (life_of w) c
image_kept w k c image =
    let f = k.images c image in
    record {
      number = f.number;
      told = omega (arith, k.marked, f.stored);
      taken = f.taken;
      state = f.reading.state;
      stands = stands f.reading.version w.disk.size f.is_read.selector f.is_read.snapshot f.is_read.blocks c f.reading.state f.is_read.reads f.is_read.leads;
      same = f.same;
      running = f.running;
    }

pub kept_holds : (w : WorldValue) → IsKept w → Holds w
kept_holds w k = record { each = λ c image. ∣ image_kept w k c image ∣₁; claimed = k.taken; released = k.released; earlier = k.earlier }

-- the first world

abbrev pub nothing_read : Reading
nothing_read = record { version = Two; gate = length (front Two first_snapshot []); state = empty_state }

module _ (size : ℕ) (least : 4096 ≤ size) (most : size ≤ 1048576) where
  abbrev zeros : List ℕ
  zeros = replicate (32 + 2 * size) 0

  abbrev ends : List ℕ
  ends = closed_snapshot Two first_snapshot

  abbrev head : List ℕ
  head = header Two size ++ replicate 16 0

  length-zeros : length zeros ≡ 32 + 2 * size
  length-zeros = length-replicate (32 + 2 * size) 0

  abbrev fronted : List ℕ
  fronted = patched 32 ends zeros

  length-fronted : length fronted ≡ 32 + 2 * size
  length-fronted = length-patched 32 ends zeros (omega (arith, length-zeros)) ∙ length-zeros

  pub length-formatted : length (formatted size) ≡ 32 + 2 * size
  length-formatted = length-patched 0 head fronted (omega (arith, length-fronted)) ∙ length-fronted

  formatted_is : Reads Two size 0 first_snapshot [] (formatted size)
  formatted_is = formatted_reads size zeros head ends refl refl least (omega (arith, length-zeros)) (omega arith)

  abbrev formatted_read : IsRead size (formatted size) nothing_read
  formatted_read = is_read Two size 0 first_snapshot [] (formatted size) empty_state formatted_is leads_empty

  abbrev second : List ℕ
  second = patched (32 + size) ends (formatted size)

  length-second : length second ≡ 32 + 2 * size
  length-second = length-patched (32 + size) ends (formatted size) (omega (arith, length-formatted)) ∙ length-formatted

  second_is : Reads Two size 0 first_snapshot [] second
  second_is = idle_reads size (formatted size) nothing_read formatted_read (length ends) second (omega arith)
      (torn_patched (32 + size) (length ends) ends (formatted size) refl (omega (arith, length-formatted)))

  abbrev second_read : IsRead size second nothing_read
  second_read = is_read Two size 0 first_snapshot [] second empty_state second_is leads_empty

  second_idle : IsArea Two size first_snapshot [] (drop (32 + size) second)
  second_idle = idle_written size (formatted size) nothing_read formatted_read first_snapshot (omega arith) (omega arith)

  pub first_read : IsRead size (opened_once size) nothing_read
  first_read = selector_written size second nothing_read second_read first_snapshot empty_state spells_empty second_idle

  pub length-opened : length (opened_once size) ≡ 32 + 2 * size
  length-opened = length-patched 16 (1 ∷ []) second (omega (arith, length-second)) ∙ length-second

  first_still : (c : List ℕ) → IsImage (opened_once size) (none_held (32 + 2 * size)) c → c ≡ opened_once size
  first_still c image = only_content (opened_once size) (32 + 2 * size) length-opened c image

  pub first_kept : IsKept (first size)
  first_kept = record {
    least = least;
    most = most;
    size = length-opened;
    held = omega (arith, length-opened, length-replicate (32 + 2 * size) (none_byte));
    opened = refl;
    low = omega arith;
    begun = omega arith;
    marked = omega arith;
    stored = omega arith;
    taken = omega arith;
    flags = refl;
    forms = tt;
    seen = All-replicate (λ (seat : Seat). seat.seen ≤ 0) SEATS (record { own = []; seen = 0 }) (omega arith);
    released = All-nil (λ n. n < 0);
    earlier = All-nil (λ n. n < 0);
    images = λ c image. record {
      number = 0;
      stored = omega arith;
      taken = omega arith;
      reading = nothing_read;
      is_read = subst (λ (l : List ℕ). IsRead size l nothing_read) (sym (first_still c image)) first_read;
      same = refl;
      running = λ q. refl;
    };
    at = (ap (λ (n : ℕ). none_held n) (sym length-opened), record { running = refl; reading = nothing_read; is_read = first_read; two = refl; state = refl });
  }
    where
      none_byte : Option ℕ
      none_byte = None

-- the world of a journal of the first version

-- some commands are a block, and none are no block
block_forms : (commands : List CommandValue) → AllByRecursion HasRecord commands → AllByRecursion IsBlock (one_block commands)
block_forms [] each = tt
block_forms (c ∷ cs) each = (record { some = λ is. absurd (cc); each = each }, tt)

block_joined : (commands : List CommandValue) → joined (one_block commands) ≡ commands
block_joined [] = refl
block_joined (c ∷ cs) = append-nil (c ∷ cs)

-- the records of so few bytes are of few commands
count_low : (size : ℕ) (commands : List CommandValue) → size ≤ 1048576 → FitsOld size commands → length commands ≤ 1048576
count_low size [] most fits = omega arith
count_low size (c ∷ cs) most fits =
    omega (arith, most, fits.fits, length-append (front One first_snapshot (one_block (c ∷ cs))) (0 ∷ []), length-pushed One first_snapshot [] (c ∷ cs), some_bytes (c ∷ cs))

module _ (size : ℕ) (least : 4096 ≤ size) (most : size ≤ 1048576) (commands : List CommandValue) (fits : FitsOld size commands) where
  abbrev old_state : State
  old_state = state_after_v1 empty_state commands

  abbrev old_head : List ℕ
  old_head = header One size ++ replicate 16 0

  abbrev old_zeros : List ℕ
  old_zeros = replicate (32 + 2 * size) 0

  length-old_zeros : length old_zeros ≡ 32 + 2 * size
  length-old_zeros = length-replicate (32 + 2 * size) 0

  length-begun : length (patched 32 (old_area commands) old_zeros) ≡ 32 + 2 * size
  length-begun = length-patched 32 (old_area commands) old_zeros (omega (arith, length-old_zeros, fits.fits)) ∙ length-old_zeros

  pub length-old : length (old_journal size commands) ≡ 32 + 2 * size
  length-old = length-patched 0 old_head (patched 32 (old_area commands) old_zeros) (omega (arith, length-begun)) ∙ length-begun

  old_leads : Leads One first_snapshot (one_block commands) old_state
  old_leads = record { first = empty_state; spells = spells_empty; is = ap (λ (l : List CommandValue). state_after_v1 empty_state l) (sym (block_joined commands)) }

  abbrev pub old_reading : Reading
  old_reading = record { version = One; gate = length (front One first_snapshot (one_block commands)); state = old_state }

  pub old_read : IsRead size (old_journal size commands) old_reading
  old_read = is_read One size 0 first_snapshot (one_block commands) (old_journal size commands) old_state
      (first_live One One size first_snapshot (one_block commands) old_zeros old_head (old_area commands) refl refl (omega arith) (block_forms commands fits.each) fits.fits least (omega (arith, length-old_zeros)) (omega (arith, most)))
      old_leads

  old_still : (c : List ℕ) → IsImage (old_journal size commands) (none_held (32 + 2 * size)) c → c ≡ old_journal size commands
  old_still c image = only_content (old_journal size commands) (32 + 2 * size) length-old c image

  old_low : old_state.count ≤ 1048576
  old_low = omega (arith, count_after_v1 commands empty_state, count_low size commands most fits)

  pub old_kept : IsKept (first_old size commands)
  old_kept = record {
    least = least;
    most = most;
    size = length-old;
    held = omega (arith, length-old, length-replicate (32 + 2 * size) no_byte);
    opened = refl;
    low = omega (arith, old_low);
    begun = omega arith;
    marked = omega arith;
    stored = omega arith;
    taken = omega arith;
    flags = refl;
    forms = tt;
    seen = All-replicate (λ (seat : Seat). seat.seen ≤ old_state.count) SEATS (record { own = []; seen = old_state.count }) (omega arith);
    released = All-nil (λ n. n < old_state.count);
    earlier = All-nil (λ n. n < old_state.count);
    images = λ c image. record {
      number = old_state.count;
      stored = omega arith;
      taken = omega arith;
      reading = old_reading;
      is_read = subst (λ (l : List ℕ). IsRead size l old_reading) (sym (old_still c image)) old_read;
      same = ap restarted (sym (none_under old_state));
      running = λ q. absurd (cc);
    };
    at = tt;
  }
    where
      no_byte : Option ℕ
      no_byte = None

      none_under : (s : State) → state_under s.count s [] s.count ≡ s
      none_under s = ap (λ (l : List CommandValue). state_after s l) (none_taken (s.count - s.count))

pub every : (size : ℕ) (begin : WorldValue) (events : List Event) (w : WorldValue) → 4096 ≤ size → size ≤ 1048576 → IsFirst size begin → Reaches begin events w → Holds w
every size begin events w least most (inl new) steps = kept_holds w (reached events begin w (subst IsKept (sym new) (first_kept size least most)) steps)
every size begin events w least most (inr old) steps = kept_holds w (reached events begin w (subst IsKept (sym old.2) (old_kept size least most old.0 old.1)) steps)
