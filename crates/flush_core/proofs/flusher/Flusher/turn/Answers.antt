use Rattle.std.proofs.Common.{◌∙◌, ◌≡◌, [], ℕ, List, Result, Err, ap, arith, length, refl, subst, sym, true}
use Rattle.std.specs.Prelude.{IfOk, OnOk}
use Rattle.std.proofs.lemmas.Result.{err_from_is_err_and}
use Rattle.std.proofs.lemmas.Bool.{false≢true}
use Rattle.claim_core.specs.Seats.{FlushSeatValue, next_ticket}
use Rattle.command_core.specs.Commands.{CommandValue}
use Rattle.disk_core.specs.Calls.{Lasts}
use Rattle.flush_core.specs.declared.faults.FlushFault.{FlushFault}
use Rattle.flush_core.specs.Batches.{IsBatch, block_bytes}
use Rattle.flush_core.specs.FlusherCalls.{HasTurned, RefusesTurn, TurnBreaks}
use Rattle.flush_core.specs.Flusher.{Flushed, gathered}
use Rattle.flush_core.proofs.DiskCalls.{lasts_more, lasts_same}
use Rattle.flush_core.proofs.StoreFaults.{caused_none, needs_memory}
use Rattle.flush_core.proofs.Room.{came_afresh, came_behind, gathered_stays, none_won, refuses_turn, still_published, still_unexecuted, taken_stays}
use Rattle.flush_core.proofs.FlusherTurns.{failed_keeps, fallen_midway, gather_breaks, midway_fails, midway_falls, next_none, next_taken, refuses_none, stands_so, store_breaks, stored, turned, unstored}
use Rattle.flush_core.proofs.flusher.Flusher.turn.Goals as goal

pub returns-then-is_broken-clause-any_moment : goal.returns-then-is_broken-clause-any_moment
returns-then-is_broken-clause-any_moment g c =
    let broken : c.args.self.now.broken ≡ true = sym c.is_broken.ensures.value ∙ c.if-is_broken.true in
    λ h whole. absurd (cc (broken, whole))

pub returns-then-is_broken-clause-turns : goal.returns-then-is_broken-clause-turns
returns-then-is_broken-clause-turns g c = tt

pub returns-then-is_broken-clause-nothing : goal.returns-then-is_broken-clause-nothing
returns-then-is_broken-clause-nothing g c = λ none. refl

pub returns-then-is_broken-clause-refuses : goal.returns-then-is_broken-clause-refuses
returns-then-is_broken-clause-refuses g c = record {
  room = record { full = λ is. absurd (cc is); no_room = λ honest is. absurd (cc is) };
  batch = λ is. absurd (cc is);
}

pub returns-then-is_broken-clause-breaks : goal.returns-then-is_broken-clause-breaks
returns-then-is_broken-clause-breaks g c =
    let broken : c.args.self.now.broken ≡ true = sym c.is_broken.ensures.value ∙ c.if-is_broken.true in
    record { outcome = (broken, refl); unpublished = tt; stops = (broken, c.is_broken.ensures.kept.stopped broken); cause = refl }

pub returns-then-is_broken-clause-lasts : goal.returns-then-is_broken-clause-lasts
returns-then-is_broken-clause-lasts g c = lasts_same g.D.Disk c.args.self.now.disk c.args.self.now.disk refl

pub returns-in_err-count-clause-any_moment : goal.returns-in_err-count-clause-any_moment
returns-in_err-count-clause-any_moment g c honest whole =
    let now = c.args.self.now in
    let new = c.take_batch.new.self in
    let same = failed_keeps ℕ now new _ c.in_err-count.ensures.breaks.outcome in
    let p = err_from_is_err_and c.from_residual.result c.from_residual.ensures.1 in
    let is : c.from_residual.result ≡ Err c.in_err-count.field-0.0 = cc (p.1, p.2) in
    record {
      number = now.stored;
      next = next_none g.D.Disk now new.seat (omega (arith, c.is_broken.ensures.kept.stored, same.2, ap (λ (l : List CommandValue). length l) same.1));
      end = subst (λ (r : Result ℕ FlushFault). OnOk r (now.stored ≡ new.stored)) (sym is) tt;
      leaves = unstored g.D.Disk now new.disk _ c.is_broken.ensures.kept whole (g.met.D.Disk.only_now now.disk) c.in_err-count.ensures.untouched.0 honest;
    }

pub returns-in_err-count-clause-turns : goal.returns-in_err-count-clause-turns
returns-in_err-count-clause-turns g c =
    let p = err_from_is_err_and c.from_residual.result c.from_residual.ensures.1 in
    let is : c.from_residual.result ≡ Err c.in_err-count.field-0.0 = cc (p.1, p.2) in
    subst (λ (r : Result ℕ FlushFault). IfOk r (HasTurned g.D.Disk g.W.Width.COMMANDS g.W.Width.BYTES c.args.self.now c.take_batch.new.self)) (sym is) tt

pub returns-in_err-count-clause-nothing : goal.returns-in_err-count-clause-nothing
returns-in_err-count-clause-nothing g c = λ none. c.in_err-count.ensures.untouched.0

pub returns-in_err-count-clause-refuses : goal.returns-in_err-count-clause-refuses
returns-in_err-count-clause-refuses g c =
    let now = c.args.self.now in
    let new = c.take_batch.new.self in
    let p = err_from_is_err_and c.from_residual.result c.from_residual.ensures.1 in
    let is : c.from_residual.result ≡ Err c.in_err-count.field-0.0 = cc (p.1, p.2) in
    subst (λ (r : Result ℕ FlushFault). RefusesTurn g.D.Disk g.W.Width.COMMANDS g.W.Width.BYTES now new r) (sym is)
    (refuses_none g.D.Disk ℕ g.W.Width.COMMANDS g.W.Width.BYTES now new c.in_err-count.field-0.0 c.in_err-count.ensures.breaks.fault)

pub returns-in_err-count-clause-breaks : goal.returns-in_err-count-clause-breaks
returns-in_err-count-clause-breaks g c =
    let now = c.args.self.now in
    let new = c.take_batch.new.self in
    let p = err_from_is_err_and c.from_residual.result c.from_residual.ensures.1 in
    let is : c.from_residual.result ≡ Err c.in_err-count.field-0.0 = cc (p.1, p.2) in
    subst (λ (r : Result ℕ FlushFault). TurnBreaks g.D.Disk now new r) (sym is)
    (gather_breaks g.D.Disk now new c.in_err-count.field-0.0 c.in_err-count.ensures.breaks.fault c.in_err-count.ensures.untouched.0 c.in_err-count.ensures.breaks.outcome c.in_err-count.ensures.breaks.stops)

pub returns-in_err-count-clause-lasts : goal.returns-in_err-count-clause-lasts
returns-in_err-count-clause-lasts g c = lasts_same g.D.Disk c.args.self.now.disk c.take_batch.new.self.disk c.in_err-count.ensures.untouched.0

pub store_gathered-requires-clause-ring : goal.store_gathered-requires-clause-ring
store_gathered-requires-clause-ring g c = ap (λ (f : Flushed g.row.D.Denot). f.seat.ring) c.in_ok-count.ensures.taken.2 ∙ c.requires.ring

pub take_batch-requires-clause-whole : goal.take_batch-requires-clause-whole
take_batch-requires-clause-whole g c = sym c.is_broken.ensures.value ∙ c.if-is_broken.false

pub settle_in_portions-requires-clause-whole : goal.settle_in_portions-requires-clause-whole
settle_in_portions-requires-clause-whole g c = c.in_ok-store_gathered.ensures.breaks.outcome.1

pub store_gathered-requires-clause-done : goal.store_gathered-requires-clause-done
store_gathered-requires-clause-done g c = (
  c.in_ok-count.ensures.breaks.outcome.1,
  subst (λ (f : Flushed g.row.D.Denot). f.executed ≡ f.stored) (sym c.in_ok-count.ensures.taken.2) (c.requires.executed c.in_ok-count.ensures.breaks.outcome.0),
)

pub returns-in_err-store_gathered-clause-any_moment : goal.returns-in_err-store_gathered-clause-any_moment
returns-in_err-store_gathered-clause-any_moment g c honest whole =
    let now = c.args.self.now in
    let took = c.in_ok-count.ensures.taken in
    let there = c.store_gathered.ensures.any_moment (subst (λ (f : Flushed g.row.D.Denot). g.D.Disk.honest f.disk) (sym took.2) honest) c.in_ok-count.ensures.breaks.outcome.1 in
    let new = c.store_gathered.new.self in
    let same = failed_keeps (Unit {0}) c.take_batch.new.self new _ c.in_err-store_gathered.ensures.breaks.outcome in
    let p = err_from_is_err_and c.from_residual-in_err-store_gathered.result c.from_residual-in_err-store_gathered.ensures.1 in
    let is : c.from_residual-in_err-store_gathered.result ≡ Err c.in_err-store_gathered.field-0.0 = cc (p.1, p.2) in
    record {
      number = there.number;
      next = next_taken g.D.Disk now c.take_batch.new.self took.0 there.number new.seat c.is_broken.ensures.kept took.2 same.1 same.2 there.next;
      end = subst (λ (r : Result ℕ FlushFault). OnOk r (there.number ≡ new.stored)) (sym is) tt;
      leaves = stored g.D.Disk now c.take_batch.new.self took.0 there.number new.disk new.disk new.opening new.seat c.is_broken.ensures.kept whole took.2 (λ h w. there.leaves) refl same.0 same.1 same.2 honest;
    }

pub returns-in_err-store_gathered-clause-turns : goal.returns-in_err-store_gathered-clause-turns
returns-in_err-store_gathered-clause-turns g c =
    let p = err_from_is_err_and c.from_residual-in_err-store_gathered.result c.from_residual-in_err-store_gathered.ensures.1 in
    let is : c.from_residual-in_err-store_gathered.result ≡ Err c.in_err-store_gathered.field-0.0 = cc (p.1, p.2) in
    subst (λ (r : Result ℕ FlushFault). IfOk r (HasTurned g.D.Disk g.W.Width.COMMANDS g.W.Width.BYTES c.args.self.now c.store_gathered.new.self)) (sym is) tt

pub returns-in_err-store_gathered-clause-nothing : goal.returns-in_err-store_gathered-clause-nothing
returns-in_err-store_gathered-clause-nothing g c none =
    let took = c.in_ok-count.ensures.taken in
    let waits : gathered c.take_batch.new.self ≡ [] = gathered_stays g.D.Disk c.args.self.now c.take_batch.new.self c.store_gathered.new.self took.0 _ c.is_broken.ensures.kept took.2 c.in_err-store_gathered.ensures.breaks.outcome ∙ none in
    absurd (false≢true (c.in_err-store_gathered.ensures.refuses.nothing c.in_ok-count.ensures.breaks.outcome.1 waits).0)

pub returns-in_err-store_gathered-clause-refuses : goal.returns-in_err-store_gathered-clause-refuses
returns-in_err-store_gathered-clause-refuses g c =
    let took = c.in_ok-count.ensures.taken in
    let now = c.args.self.now in
    let new = c.store_gathered.new.self in
    let p = err_from_is_err_and c.from_residual-in_err-store_gathered.result c.from_residual-in_err-store_gathered.ensures.1 in
    let is : c.from_residual-in_err-store_gathered.result ≡ Err c.in_err-store_gathered.field-0.0 = cc (p.1, p.2) in
    subst (λ (r : Result ℕ FlushFault). RefusesTurn g.D.Disk g.W.Width.COMMANDS g.W.Width.BYTES now new r) (sym is)
    (refuses_turn g.D.Disk now c.take_batch.new.self new took.0 c.in_err-store_gathered.field-0.0 c.is_broken.ensures.kept took.2 c.in_err-store_gathered.ensures.breaks.outcome g.W.Width.COMMANDS g.W.Width.BYTES
    c.in_ok-count.ensures.breaks.outcome.1 c.in_ok-count.ensures.batch c.in_err-store_gathered.ensures.refuses)

pub returns-in_err-store_gathered-clause-breaks : goal.returns-in_err-store_gathered-clause-breaks
returns-in_err-store_gathered-clause-breaks g c =
    let took = c.in_ok-count.ensures.taken in
    let now = c.args.self.now in
    let new = c.store_gathered.new.self in
    let p = err_from_is_err_and c.from_residual-in_err-store_gathered.result c.from_residual-in_err-store_gathered.ensures.1 in
    let is : c.from_residual-in_err-store_gathered.result ≡ Err c.in_err-store_gathered.field-0.0 = cc (p.1, p.2) in
    subst (λ (r : Result ℕ FlushFault). TurnBreaks g.D.Disk now new r) (sym is)
    (store_breaks g.D.Disk now c.take_batch.new.self new took.0 c.in_err-store_gathered.field-0.0 c.in_ok-count.ensures.breaks.outcome.0 c.in_ok-count.ensures.breaks.outcome.1 took.2 c.in_err-store_gathered.ensures.breaks)

pub returns-in_err-store_gathered-clause-lasts : goal.returns-in_err-store_gathered-clause-lasts
returns-in_err-store_gathered-clause-lasts g c = subst (λ (f : Flushed g.row.D.Denot). Lasts g.D.Disk f.disk c.store_gathered.new.self.disk) c.in_ok-count.ensures.taken.2 c.store_gathered.ensures.lasts

pub returns-in_err-settle_in_portions-clause-any_moment : goal.returns-in_err-settle_in_portions-clause-any_moment
returns-in_err-settle_in_portions-clause-any_moment g c honest whole =
    let now = c.args.self.now in
    let took = c.in_ok-count.ensures.taken in
    let there = c.store_gathered.ensures.any_moment (subst (λ (f : Flushed g.row.D.Denot). g.D.Disk.honest f.disk) (sym took.2) honest) c.in_ok-count.ensures.breaks.outcome.1 in
    let new = c.settle_in_portions.new.self in
    let did = c.in_ok-store_gathered.ensures.stores.stored in
    let failed = fallen_midway c.store_gathered.new.self new c.in_err-settle_in_portions.ensures.falls in
    let opened : new.opening ≡ c.take_batch.new.self.opening = failed.0 ∙ ap (λ (f : Flushed g.row.D.Denot). f.opening) did in
    let taken : new.seat.taken ≡ c.take_batch.new.self.seat.taken = failed.1 ∙ ap (λ (f : Flushed g.row.D.Denot). f.seat.taken) did in
    let base : new.seat.base ≡ c.take_batch.new.self.seat.base = failed.2 ∙ ap (λ (f : Flushed g.row.D.Denot). f.seat.base) did in
    let p = err_from_is_err_and c.from_residual-in_err-settle_in_portions.result c.from_residual-in_err-settle_in_portions.ensures.1 in
    let is : c.from_residual-in_err-settle_in_portions.result ≡ Err c.in_err-settle_in_portions.field-0.0 = cc (p.1, p.2) in
    record {
      number = there.number;
      next = next_taken g.D.Disk now c.take_batch.new.self took.0 there.number new.seat c.is_broken.ensures.kept took.2 taken base there.next;
      end = subst (λ (r : Result ℕ FlushFault). OnOk r (there.number ≡ new.stored)) (sym is) tt;
      leaves = stored g.D.Disk now c.take_batch.new.self took.0 there.number c.store_gathered.new.self.disk new.disk new.opening new.seat c.is_broken.ensures.kept whole took.2 (λ h w. there.leaves) c.settle_in_portions.ensures.untouched opened taken base honest;
    }

pub returns-in_err-settle_in_portions-clause-turns : goal.returns-in_err-settle_in_portions-clause-turns
returns-in_err-settle_in_portions-clause-turns g c =
    let p = err_from_is_err_and c.from_residual-in_err-settle_in_portions.result c.from_residual-in_err-settle_in_portions.ensures.1 in
    let is : c.from_residual-in_err-settle_in_portions.result ≡ Err c.in_err-settle_in_portions.field-0.0 = cc (p.1, p.2) in
    subst (λ (r : Result ℕ FlushFault). IfOk r (HasTurned g.D.Disk g.W.Width.COMMANDS g.W.Width.BYTES c.args.self.now c.settle_in_portions.new.self)) (sym is) tt

pub returns-in_err-settle_in_portions-clause-nothing : goal.returns-in_err-settle_in_portions-clause-nothing
returns-in_err-settle_in_portions-clause-nothing g c none =
    let took = c.in_ok-count.ensures.taken in
    still_unexecuted c.args.self.now c.take_batch.new.self c.store_gathered.new.self took.0 _ _ _ _ _ took.2 c.in_ok-store_gathered.ensures.stores.stored (λ waits. (c.store_gathered.ensures.refuses.nothing c.in_ok-count.ensures.breaks.outcome.1 waits).1)
    c.settle_in_portions.new.self c.in_err-settle_in_portions.ensures.falls c.settle_in_portions.ensures.untouched none

pub returns-in_err-settle_in_portions-clause-refuses : goal.returns-in_err-settle_in_portions-clause-refuses
returns-in_err-settle_in_portions-clause-refuses g c =
    let now = c.args.self.now in
    let new = c.settle_in_portions.new.self in
    let p = err_from_is_err_and c.from_residual-in_err-settle_in_portions.result c.from_residual-in_err-settle_in_portions.ensures.1 in
    let is : c.from_residual-in_err-settle_in_portions.result ≡ Err c.in_err-settle_in_portions.field-0.0 = cc (p.1, p.2) in
    subst (λ (r : Result ℕ FlushFault). RefusesTurn g.D.Disk g.W.Width.COMMANDS g.W.Width.BYTES now new r) (sym is)
    (refuses_none g.D.Disk (Unit {0}) g.W.Width.COMMANDS g.W.Width.BYTES now new c.in_err-settle_in_portions.field-0.0 (needs_memory c.in_err-settle_in_portions.field-0.0 c.in_err-settle_in_portions.ensures.fault))

pub returns-in_err-settle_in_portions-clause-breaks : goal.returns-in_err-settle_in_portions-clause-breaks
returns-in_err-settle_in_portions-clause-breaks g c =
    let took = c.in_ok-count.ensures.taken in
    let now = c.args.self.now in
    let new = c.settle_in_portions.new.self in
    let fault = c.in_err-settle_in_portions.field-0.0 in
    let p = err_from_is_err_and c.from_residual-in_err-settle_in_portions.result c.from_residual-in_err-settle_in_portions.ensures.1 in
    let is : c.from_residual-in_err-settle_in_portions.result ≡ Err c.in_err-settle_in_portions.field-0.0 = cc (p.1, p.2) in
    let fell = c.in_err-settle_in_portions.ensures.falls in
    let memory = c.in_err-settle_in_portions.ensures.fault in
    let midway = midway_fails (Unit {0}) now new fault memory (midway_falls now c.take_batch.new.self c.store_gathered.new.self new took.0 _ _ _ _ _ c.in_ok-count.ensures.breaks.outcome.0 took.2 c.in_ok-store_gathered.ensures.stores.stored fell) in
    subst (λ (r : Result ℕ FlushFault). TurnBreaks g.D.Disk now new r) (sym is) (record {
      outcome = midway.0;
      unpublished = midway.1;
      stops = (fell.now, ap (λ (s : FlushSeatValue). s.stopped) fell.seat);
      cause = caused_none (Unit {0}) ℕ fault (g.D.Disk.failures now.disk) (g.D.Disk.failures new.disk) (needs_memory fault memory)
          (ap (λ d. g.D.Disk.failures d) c.settle_in_portions.ensures.untouched ∙ (c.in_ok-store_gathered.ensures.breaks.cause ∙ ap (λ (f : Flushed g.row.D.Denot). g.D.Disk.failures f.disk) took.2));
    })

pub returns-in_err-settle_in_portions-clause-lasts : goal.returns-in_err-settle_in_portions-clause-lasts
returns-in_err-settle_in_portions-clause-lasts g c =
    lasts_more g.D.Disk c.args.self.now.disk c.store_gathered.new.self.disk c.settle_in_portions.new.self.disk (subst (λ (f : Flushed g.row.D.Denot). Lasts g.D.Disk f.disk c.store_gathered.new.self.disk) c.in_ok-count.ensures.taken.2 c.store_gathered.ensures.lasts)
    (lasts_same g.D.Disk c.store_gathered.new.self.disk c.settle_in_portions.new.self.disk c.settle_in_portions.ensures.untouched)

pub returns-clause-any_moment : goal.returns-clause-any_moment
returns-clause-any_moment g c honest whole =
    let now = c.args.self.now in
    let took = c.in_ok-count.ensures.taken in
    let there = c.in_ok-store_gathered.ensures.any_moment (subst (λ (f : Flushed g.row.D.Denot). g.D.Disk.honest f.disk) (sym took.2) honest) c.in_ok-count.ensures.breaks.outcome.1 in
    let new = c.publish.new.self in
    let did = c.in_ok-store_gathered.ensures.stores.stored in
    let executed = c.in_ok-settle_in_portions.ensures.executed in
    let published = c.publish.ensures.published in
    let opened : new.opening ≡ c.take_batch.new.self.opening = ap (λ (f : Flushed g.row.D.Denot). f.opening) published ∙ (ap (λ (f : Flushed g.row.D.Denot). f.opening) executed.is ∙ ap (λ (f : Flushed g.row.D.Denot). f.opening) did) in
    let taken : new.seat.taken ≡ c.take_batch.new.self.seat.taken = ap (λ (f : Flushed g.row.D.Denot). f.seat.taken) published ∙ (ap (λ (f : Flushed g.row.D.Denot). f.seat.taken) executed.is ∙ ap (λ (f : Flushed g.row.D.Denot). f.seat.taken) did) in
    let base : new.seat.base ≡ c.take_batch.new.self.seat.base = ap (λ (f : Flushed g.row.D.Denot). f.seat.base) published ∙ (ap (λ (f : Flushed g.row.D.Denot). f.seat.base) executed.is ∙ ap (λ (f : Flushed g.row.D.Denot). f.seat.base) did) in
    let number : new.stored ≡ c.store_gathered.new.self.stored = ap (λ (f : Flushed g.row.D.Denot). f.stored) published ∙ ap (λ (f : Flushed g.row.D.Denot). f.stored) executed.is in
    record {
      number = there.number;
      next = next_taken g.D.Disk now c.take_batch.new.self took.0 there.number new.seat c.is_broken.ensures.kept took.2 taken base there.next;
      end = there.end ∙ sym number;
      leaves = stored g.D.Disk now c.take_batch.new.self took.0 there.number c.store_gathered.new.self.disk new.disk new.opening new.seat c.is_broken.ensures.kept whole took.2 (λ h w. there.leaves)
          (ap (λ (f : Flushed g.row.D.Denot). f.disk) published ∙ c.settle_in_portions.ensures.untouched) opened taken base honest;
    }

pub returns-clause-turns : goal.returns-clause-turns
returns-clause-turns g c =
    let took = c.in_ok-count.ensures.taken in
    let now = c.args.self.now in
    let new = c.publish.new.self in
    let whole = c.in_ok-count.ensures.breaks.outcome.0 in
    let did = c.in_ok-store_gathered.ensures.stores in
    let executed = c.in_ok-settle_in_portions.ensures.executed in
    let published = c.publish.ensures.published in
    let before = ap (λ (f : Flushed g.row.D.Denot). f.stored) took.2 in
    let end = ap (λ (f : Flushed g.row.D.Denot). next_ticket f.seat) took.2 in
    record {
      more = took.0;
      many = took.1;
      turned = turned g.D.Disk now c.take_batch.new.self c.store_gathered.new.self c.settle_in_portions.new.self new took.0 c.store_gathered.new.self.stored c.store_gathered.new.self.disk c.store_gathered.new.self.size c.store_gathered.new.self.used c.store_gathered.new.self.last
          (c.requires.executed whole) (omega (arith, before, did.within.0)) (omega (arith, end, did.within.1)) took.2 did.stored executed published c.publish.ensures.given;
      batch = subst (λ (l : List CommandValue). IsBatch g.W.Width.COMMANDS (block_bytes now.size g.W.Width.BYTES) l) (taken_stays c.args.self.now c.take_batch.new.self c.store_gathered.new.self took.0 _ _ _ _ _ took.2 did.stored (λ waits. (c.store_gathered.ensures.refuses.nothing c.in_ok-count.ensures.breaks.outcome.1 waits).1) c.settle_in_portions.new.self c.publish.new.self executed published) c.in_ok-count.ensures.batch;
      stores = record {
        stands = λ honest. stands_so g.D.Disk c.take_batch.new.self c.store_gathered.new.self c.settle_in_portions.new.self new c.store_gathered.new.self.stored _ _ _ _ did.stored executed c.settle_in_portions.ensures.untouched published
            (did.next.stands (subst (λ (f : Flushed g.row.D.Denot). g.D.Disk.honest f.disk) (sym took.2) honest));
        behind = came_behind c.args.self.now c.take_batch.new.self c.store_gathered.new.self took.0 _ _ _ _ _ took.2 did.stored (λ waits. (c.store_gathered.ensures.refuses.nothing c.in_ok-count.ensures.breaks.outcome.1 waits).1) c.settle_in_portions.new.self c.publish.new.self executed published did.next.behind;
        afresh = came_afresh c.args.self.now c.take_batch.new.self c.store_gathered.new.self took.0 _ _ _ _ _ took.2 did.stored (λ waits. (c.store_gathered.ensures.refuses.nothing c.in_ok-count.ensures.breaks.outcome.1 waits).1) c.settle_in_portions.new.self c.publish.new.self executed published c.is_broken.ensures.kept.stored did.next.afresh;
        size = ap (λ (f : Flushed g.row.D.Denot). f.size) published ∙ (ap (λ (f : Flushed g.row.D.Denot). f.size) executed.is ∙ (did.next.size ∙ ap (λ (f : Flushed g.row.D.Denot). f.size) took.2));
      };
      idle = none_won c.args.self.now c.take_batch.new.self c.store_gathered.new.self took.0 _ _ _ _ _ took.2 did.stored (λ waits. (c.store_gathered.ensures.refuses.nothing c.in_ok-count.ensures.breaks.outcome.1 waits).1) c.settle_in_portions.new.self c.publish.new.self executed published;
    }

pub returns-clause-nothing : goal.returns-clause-nothing
returns-clause-nothing g c none =
    let took = c.in_ok-count.ensures.taken in
    still_published c.args.self.now c.take_batch.new.self c.store_gathered.new.self took.0 _ _ _ _ _ took.2 c.in_ok-store_gathered.ensures.stores.stored (λ waits. (c.store_gathered.ensures.refuses.nothing c.in_ok-count.ensures.breaks.outcome.1 waits).1)
    c.settle_in_portions.new.self c.publish.new.self c.in_ok-settle_in_portions.ensures.executed c.settle_in_portions.ensures.untouched c.publish.ensures.published none

pub returns-clause-refuses : goal.returns-clause-refuses
returns-clause-refuses g c = record {
  room = record { full = λ is. absurd (cc is); no_room = λ honest is. absurd (cc is) };
  batch = λ is. absurd (cc is);
}

pub returns-clause-breaks : goal.returns-clause-breaks
returns-clause-breaks g c =
    let took = c.in_ok-count.ensures.taken in
    let published = c.publish.ensures.published in
    record {
      outcome = (c.in_ok-count.ensures.breaks.outcome.0, ap (λ (f : Flushed g.row.D.Denot). f.broken) published ∙ (ap (λ (f : Flushed g.row.D.Denot). f.broken) c.in_ok-settle_in_portions.ensures.executed.is ∙ c.in_ok-store_gathered.ensures.breaks.outcome.1));
      unpublished = tt;
      stops = tt;
      cause = ap (λ d. g.D.Disk.failures d) (ap (λ (f : Flushed g.row.D.Denot). f.disk) c.publish.ensures.published ∙ c.settle_in_portions.ensures.untouched) ∙ (c.in_ok-store_gathered.ensures.breaks.cause ∙ ap (λ (f : Flushed g.row.D.Denot). g.D.Disk.failures f.disk) took.2);
    }

pub returns-clause-lasts : goal.returns-clause-lasts
returns-clause-lasts g c =
    lasts_more g.D.Disk c.args.self.now.disk c.store_gathered.new.self.disk c.publish.new.self.disk (subst (λ (f : Flushed g.row.D.Denot). Lasts g.D.Disk f.disk c.store_gathered.new.self.disk) c.in_ok-count.ensures.taken.2 c.store_gathered.ensures.lasts)
    (lasts_same g.D.Disk c.store_gathered.new.self.disk c.publish.new.self.disk (ap (λ (f : Flushed g.row.D.Denot). f.disk) c.publish.ensures.published ∙ c.settle_in_portions.ensures.untouched))
