-- How turns of the flusher follow one another.
use Rattle.std.proofs.Common.{◌≡◌, ◌≢◌, ◌++◌, ◌∷◌, ◌+◌, ◌-◌, ◌≤◌, ℕ, List, [], None, Bool, true, false, Err, refl, sym, ap, ◌∙◌, append_assoc, append-nil, arith, subst, inl, inr, length, take}
use Rattle.std.proofs.lemmas.Bool.{cases_lt}
use Rattle.command_core.specs.Commands.{CommandValue}
use Rattle.command_core.specs.Entries.{EntryValue}
use Rattle.outbox_core.specs.Boxes.{SenderValue}
use Rattle.area_core.specs.Areas.{commands, records}
use Rattle.broker_core.specs.States.{State}
use Rattle.claim_core.specs.Seats.{FlushSeatValue, next_ticket}
use Rattle.flush_core.specs.Batches.{from_on, state_at}
use Rattle.flush_core.specs.Flusher.{Flushed, IsFlusher, Latest, state_stored}
use Rattle.flush_core.specs.Room.{IsTooLong, used_afresh}
use Rattle.flush_core.proofs.TakenCommands.{at_more, length_from}
use Rattle.disk_core.specs.declared.disk.Disk.{Ghosts}
use Rattle.flush_core.specs.Backlogs.{IsLight}
use Rattle.flush_core.specs.FlusherCalls.{MayCompact, StoresNext, is_compacted, is_left, is_too_long}
use Rattle.flush_core.specs.FlusherOutcomes.{Falls, IsOutcome, IsTurned, IsTurn, TurnFalls}
use Rattle.flush_core.specs.declared.faults.FlushFault.{FlushFault}
use Rattle.flush_core.specs.declared.faults.FlushFault.TheVariants.{Device, Full, Broken, Memory}
use Rattle.engine_core.specs.Flushes.{Flushes, NoneWaits}

pub none : {D : Type 0} (f : Flushed D) → Flushes f f
none f = record {
  ring = refl;
  base = refl;
  seats = refl;
  taken = ([], sym (append-nil f.seat.taken));
  raised = omega arith;
  opening = refl;
  broken = λ e. e;
  executed = λ e. e;
  caught_up = λ e b. e;
  left = λ e b. e;
  none_waits = λ e b. e;
}

pub more : {D : Type 0} (f g h : Flushed D) → Flushes f g → Flushes g h → Flushes f h
more f g h a b = record {
  ring = b.ring ∙ a.ring;
  base = b.base ∙ a.base;
  seats = b.seats ∙ a.seats;
  taken = (a.taken.0 ++ b.taken.0, b.taken.1 ∙ ap (λ l. l ++ b.taken.0) a.taken.1 ∙ append_assoc f.seat.taken a.taken.0 b.taken.0);
  raised = omega (arith, a.raised, b.raised);
  opening = b.opening ∙ a.opening;
  broken = λ e. b.broken (a.broken e);
  executed = λ e. b.executed (a.executed e);
  caught_up = λ e whole. b.caught_up (a.caught_up e (was_whole g.broken h.broken b.broken whole)) whole;
  left = λ e whole. b.left (a.left e (was_whole g.broken h.broken b.broken whole)) whole;
  none_waits = λ e whole. b.none_waits (a.none_waits e (was_whole g.broken h.broken b.broken whole)) whole;
}
  where
    was_whole : (x y : Bool) → (x ≡ true → y ≡ true) → y ≡ false → x ≡ false
    was_whole false y e w = refl
    was_whole true y e w = let k = e refl in cc

-- ── what waits ──

still_waits : {D : Type 0} (f g : Flushed D) → g.seat ≡ f.seat → g.opening ≡ f.opening → g.stored ≡ f.stored → g.size ≡ f.size → g.last.block ≡ f.last.block → NoneWaits f → NoneWaits g
still_waits f g seat opening stored size block (inl all) = inl (stored ∙ (all ∙ ap next_ticket (sym seat)))
still_waits f g seat opening stored size block (inr lacks) = inr (record {
  before = omega (arith, lacks.before, stored, block);
  long = subst (λ (z : ℕ × State × FlushSeatValue × ℕ × ℕ). IsTooLong z.0 (used_afresh (state_at z.1 z.2 z.4)) (take (z.3 - z.4 + 1) (from_on z.2 z.4)))
      (sym (λ i. (size i, opening i, seat i, stored i, block i))) lacks.long;
})

-- a block that does not fit has the longest part that does
waits_afresh : {D : Type 0} (disk : Ghosts D) (old mid : Flushed D) → state_at mid.opening mid.seat old.stored ≡ state_stored old → StoresNext disk old mid mid → old.stored ≤ mid.stored
    → old.stored + length (from_on mid.seat old.stored) ≡ next_ticket mid.seat → from_on mid.seat old.stored ≢ [] → IsTooLong old.size old.used (from_on mid.seat old.stored) → NoneWaits mid
waits_afresh {D} disk old mid state stores less all some long =
    let longest = (stores.afresh long some).longest in
    let count = mid.stored - old.stored in
    let cs = from_on mid.seat old.stored in
    elim (cases_lt count (length cs)) [
      | inl fewer ↦
          let block : mid.last.block ≡ old.stored = ap (λ (l : Latest). l.block) (stores.afresh long some).last_is in
          inr (record {
            before = omega (arith, less, block);
            long = subst (λ (n : ℕ). IsTooLong mid.size (used_afresh (state_at mid.opening mid.seat n)) (take (mid.stored - n + 1) (from_on mid.seat n))) (sym block)
                (subst (λ (z : ℕ × State). IsTooLong z.0 (used_afresh z.1) (take (count + 1) cs)) (sym (λ i. (stores.size i, state i))) (longest.more fewer));
          })
      | inr most ↦ inl (omega (arith, less, all, most, longest.within))
    ]

waits_some : {D : Type 0} (disk : Ghosts D) (old mid : Flushed D) (cs : List CommandValue) → cs ≡ from_on mid.seat old.stored → state_at mid.opening mid.seat old.stored ≡ state_stored old → StoresNext disk old mid mid
    → old.stored ≤ mid.stored → mid.stored ≤ next_ticket mid.seat → old.stored + length (from_on mid.seat old.stored) ≡ next_ticket mid.seat → NoneWaits mid
waits_some disk old mid [] is state stores less most all = inl (omega (arith, less, most, all, ap (λ (l : List CommandValue). length l) is))
waits_some disk old mid (c ∷ cs) is state stores less most all =
    let some : from_on mid.seat old.stored ≢ [] = λ none. let e : c ∷ cs ≡ [] = is ∙ none in cc in
    elim (cases_lt old.size (old.used + 9 + length (records (from_on mid.seat old.stored)))) [
      | inl long ↦ waits_afresh disk old mid state stores less all some long
      | inr fits ↦ inl (stores.behind fits some).0
    ]

-- a turn stores all that it takes, as far as there is room
as_turned : {D : Type 0} (disk : Ghosts D) (old mid : Flushed D) (cs : List (EntryValue SenderValue)) → IsFlusher disk.honest disk.images old → IsTurned old mid cs → StoresNext disk old mid mid → NoneWaits mid
as_turned disk old mid cs kept t stores =
    let base : mid.seat.base ≡ old.seat.base = ap (λ (s : FlushSeatValue). s.base) t.seat in
    let state : state_at mid.opening mid.seat old.stored ≡ state_stored old =
    (λ i. state_at (t.opening i) (t.seat i) old.stored) ∙ at_more old.opening old.seat (commands cs) old.stored kept.stored in
    waits_some disk old mid (from_on mid.seat old.stored) refl state stores t.within.0 t.within.1
    (length_from mid.seat old.stored (omega (arith, base, kept.begun, kept.marked, kept.executed)) (omega (arith, t.within.0, t.within.1)))

-- a turn, whose outputs are then taken away, and which is then asked what it won
pub turned : {D : Type 0} (disk : Ghosts D) (old mid : Flushed D) (cs : List (EntryValue SenderValue))
    → IsFlusher disk.honest disk.images old → old.broken ≡ false → IsTurned old mid cs → StoresNext disk old mid mid → Flushes old (record mid { left = []; last = record mid.last { won = None } })
turned disk old mid cs kept whole t stores =
    let published : mid.seat.published ≡ mid.stored = ap (λ (s : FlushSeatValue). s.published) t.seat in
    record {
      ring = ap (λ (s : FlushSeatValue). s.ring) t.seat;
      base = ap (λ (s : FlushSeatValue). s.base) t.seat;
      seats = ap (λ (s : FlushSeatValue). s.seats) t.seat;
      taken = (commands cs, ap (λ (s : FlushSeatValue). s.taken) t.seat);
      raised = omega (arith, published, t.within.0, kept.marked, kept.executed);
      opening = t.opening;
      broken = λ e. cc;
      executed = λ e b. t.executed;
      caught_up = λ e b. sym published;
      left = λ e b. refl;
      none_waits = λ e b. still_waits mid (record mid { left = []; last = record mid.last { won = None } }) refl refl refl refl refl (as_turned disk old mid cs kept t stores);
    }

falls : {D : Type 0} (old new : Flushed D) → TurnFalls old new → Flushes old new
falls old new t = record {
  ring = t.ring;
  base = t.base;
  seats = t.seats;
  taken = t.taken;
  raised = omega (arith, t.published);
  opening = t.opening;
  broken = λ e. t.now;
  executed = λ e b. let n = t.now in cc;
  caught_up = λ e b. let n = t.now in cc;
  left = λ e b. let n = t.now in cc;
  none_waits = λ e b. let n = t.now in cc;
}

-- a turn that failed
pub failed : {D : Type 0} (X : Type 0) (old new : Flushed D) (fault : FlushFault) → IsTurn {X = X} old new (Err fault) → Flushes old new
failed X old new Broken t = let At : Flushed _ → Type 0 = λ f. Flushes old f in subst At (sym t.1) (none old)
failed X old new Device t = falls old new t
failed X old new Full t = falls old new t
failed X old new (Memory refused) t = falls old new t

-- the same, as a turn's clauses have it
pub passed : {D : Type 0} (disk : Ghosts D) (old mid dropped new : Flushed D) (cs : List (EntryValue SenderValue))
    → IsFlusher disk.honest disk.images old → old.broken ≡ false → IsTurned old mid cs → StoresNext disk old mid mid → dropped ≡ record mid { left = [] } → new ≡ record dropped { last = record dropped.last { won = None } } → Flushes old new
passed {D} disk old mid dropped new cs kept whole t stores taken told =
    let At : Flushed _ → Type 0 = λ f. Flushes old f in subst At (sym (told ∙ ap (λ (f : Flushed D). record f { last = record f.last { won = None } }) taken)) (turned disk old mid cs kept whole t stores)

-- neither the seat nor a number has changed
unmoved : {D : Type 0} (f g : Flushed D) → g.seat ≡ f.seat → g.opening ≡ f.opening → g.broken ≡ f.broken → g.stored ≡ f.stored → g.executed ≡ f.executed → g.left ≡ f.left → g.size ≡ f.size → g.last.block ≡ f.last.block → Flushes f g
unmoved f g seat opening broken stored executed left size block = record {
  ring = ap (λ (s : FlushSeatValue). s.ring) seat;
  base = ap (λ (s : FlushSeatValue). s.base) seat;
  seats = ap (λ (s : FlushSeatValue). s.seats) seat;
  taken = ([], ap (λ (s : FlushSeatValue). s.taken) seat ∙ sym (append-nil f.seat.taken));
  raised = omega (arith, ap (λ (s : FlushSeatValue). s.published) seat);
  opening = opening;
  broken = λ e. broken ∙ e;
  executed = λ e whole. executed ∙ (e (sym broken ∙ whole) ∙ sym stored);
  caught_up = λ e whole. stored ∙ (e ∙ sym (ap (λ (s : FlushSeatValue). s.published) seat));
  left = λ e whole. left ∙ e;
  none_waits = λ e whole. still_waits f g seat opening stored size block e;
}

-- what was won is forgotten
pub forgotten : {D : Type 0} (f g : Flushed D) → g ≡ record f { last = record f.last { won = None } } → Flushes f g
forgotten {D} f g is =
    unmoved f g (ap (λ (x : Flushed D). x.seat) is) (ap (λ (x : Flushed D). x.opening) is) (ap (λ (x : Flushed D). x.broken) is) (ap (λ (x : Flushed D). x.stored) is) (ap (λ (x : Flushed D). x.executed) is) (ap (λ (x : Flushed D). x.left) is) (ap (λ (x : Flushed D). x.size) is) (ap (λ (x : Flushed D). x.last.block) is)

pub still_light : {D : Type 0} (f g : Flushed D) → g ≡ record f { last = record f.last { won = None } } → IsLight f → IsLight g
still_light f g is light = subst (λ (x : Flushed _). IsLight x) (sym is) light

-- the journal may have been compacted
pub may_flush : {D : Type 0} (disk : Ghosts D) (old new : Flushed D) → MayCompact disk old new → Flushes old new
may_flush {D} disk old new (is_left same) = let At : Flushed D → Type 0 = λ f. Flushes old f in subst At (sym same) (none old)
may_flush {D} disk old new (is_compacted did) =
    let is = did.compacted_is in
    unmoved old new (ap (λ (x : Flushed D). x.seat) is) (ap (λ (x : Flushed D). x.opening) is) (ap (λ (x : Flushed D). x.broken) is) (ap (λ (x : Flushed D). x.stored) is) (ap (λ (x : Flushed D). x.executed) is) (ap (λ (x : Flushed D). x.left) is) (ap (λ (x : Flushed D). x.size) is) (ap (λ (x : Flushed D). x.last.block) is)
may_flush {D} disk old new (is_too_long none is) =
    unmoved old new (ap (λ (x : Flushed D). x.seat) is) (ap (λ (x : Flushed D). x.opening) is) (ap (λ (x : Flushed D). x.broken) is) (ap (λ (x : Flushed D). x.stored) is) (ap (λ (x : Flushed D). x.executed) is) (ap (λ (x : Flushed D). x.left) is) (ap (λ (x : Flushed D). x.size) is) (ap (λ (x : Flushed D). x.last.block) is)

-- a step that failed
fell : {D : Type 0} (old new : Flushed D) → Falls old new → Flushes old new
fell old new t = record {
  ring = ap (λ (s : FlushSeatValue). s.ring) t.seat;
  base = ap (λ (s : FlushSeatValue). s.base) t.seat;
  seats = ap (λ (s : FlushSeatValue). s.seats) t.seat;
  taken = ([], ap (λ (s : FlushSeatValue). s.taken) t.seat ∙ sym (append-nil old.seat.taken));
  raised = omega (arith, ap (λ (s : FlushSeatValue). s.published) t.seat);
  opening = t.opening;
  broken = λ e. t.now;
  executed = λ e b. let n = t.now in cc;
  caught_up = λ e b. let n = t.now in cc;
  left = λ e b. let n = t.now in cc;
  none_waits = λ e b. let n = t.now in cc;
}

pub fell_flush : {D : Type 0} (old new : Flushed D) (fault : FlushFault) → IsOutcome {X = Unit {0}} old new (Err fault) → Flushes old new
fell_flush {D} old new Broken t = let At : Flushed D → Type 0 = λ f. Flushes old f in subst At (sym t.1) (none old)
fell_flush old new Device t = fell old new t
fell_flush old new Full t = fell old new t
fell_flush old new (Memory refused) t = fell old new t
