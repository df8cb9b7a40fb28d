use Rattle.std.proofs.Common.{◌≡◌, ◌∙◌, arith, Err, OnOk, Result, inl, refl, subst, sym, List, ℕ}
use Rattle.std.proofs.lemmas.Result.{err_from_is_err_and, on_ok_weaker}
use Rattle.disk_core.proofs.Runs.{joined, weaker}
use Rattle.recover_core.specs.Standing.{Stands}
use Rattle.flush_core.specs.declared.faults.FlushFault.{FlushFault}
use Rattle.flush_core.specs.Batches.{state_at}
use Rattle.flush_core.specs.FlusherCalls.{FlushBreaks, RefusesToStore, StoresFirst, StoresGathered}
use Rattle.flush_core.proofs.DiskCalls.{lasts_more, lasts_same}
use Rattle.flush_core.proofs.BatchFitsThen.{breaks_so, refuses_so, still_executed, still_gathered, still_ring, still_whole, stores_so, storing_so, unwon}
use Rattle.flush_core.proofs.FlusherTurns.{next_none, unstored}
use Rattle.flush_core.proofs.flusher.Flusher.store_gathered.Goals as goal

pub win_room-requires-clause-ring : goal.win_room-requires-clause-ring
win_room-requires-clause-ring g c = c.requires.ring

pub fitting-count-requires-clause-whole : goal.fitting-count-requires-clause-whole
fitting-count-requires-clause-whole g c = still_whole g.D.Disk c.args.self.now c.win_room.new.self c.in_ok-win_room.ensures.wins.made c.requires.done.0

pub fitting-count-requires-clause-some : goal.fitting-count-requires-clause-some
fitting-count-requires-clause-some g c = λ none. c.has_none.ensures.some c.if-has_none.false (sym (still_gathered g.D.Disk c.args.self.now c.win_room.new.self c.in_ok-win_room.ensures.wins.made) ∙ none)

pub win_room-requires-clause-done : goal.win_room-requires-clause-done
win_room-requires-clause-done g c = c.requires.done

pub append-requires-clause-done : goal.append-requires-clause-done
append-requires-clause-done g c = (still_whole g.D.Disk c.args.self.now c.win_room.new.self c.in_ok-win_room.ensures.wins.made c.requires.done.0, still_executed g.D.Disk c.args.self.now c.win_room.new.self c.in_ok-win_room.ensures.wins.made c.requires.done.1)

pub append-requires-clause-count : goal.append-requires-clause-count
append-requires-clause-count g c = (c.fitting-count.ensures.some, c.fitting-count.ensures.within)

pub append-requires-clause-ring : goal.append-requires-clause-ring
append-requires-clause-ring g c = still_ring g.D.Disk c.args.self.now c.win_room.new.self c.in_ok-win_room.ensures.wins.made ∙ c.requires.ring

pub returns-then-has_none-clause-any_moment : goal.returns-then-has_none-clause-any_moment
returns-then-has_none-clause-any_moment g c = λ honest whole.
    let now = c.args.self.now in
    record {
      number = now.stored;
      next = next_none g.D.Disk now now.seat c.has_none.ensures.kept.stored;
      end = refl;
      leaves = unstored g.D.Disk now now.disk _ c.has_none.ensures.kept whole (g.met.D.Disk.only_now now.disk) refl honest;
    }

pub returns-then-has_none-clause-stores : goal.returns-then-has_none-clause-stores
returns-then-has_none-clause-stores g c =
    let none = c.has_none.ensures.none c.if-has_none.true in
    let kept = c.has_none.ensures.kept in
    record {
      stored = refl;
      within = (omega arith, kept.stored);
      next = record {
        stands = λ honest. (kept.running c.requires.done.0).stands honest;
        behind = λ fits some. absurd (some none);
        afresh = λ long some. absurd (some none);
        size = refl;
      };
    }

pub returns-then-has_none-clause-refuses : goal.returns-then-has_none-clause-refuses
returns-then-has_none-clause-refuses g c = record {
  room = record { full = λ is. absurd (cc is); no_room = λ honest is. absurd (cc is) };
  memory = λ fits. tt;
  nothing = λ whole none. (refl, refl);
}

pub returns-then-has_none-clause-breaks : goal.returns-then-has_none-clause-breaks
returns-then-has_none-clause-breaks g c = record { outcome = (c.requires.done.0, c.requires.done.0); stops = tt; cause = refl }

pub returns-then-has_none-clause-lasts : goal.returns-then-has_none-clause-lasts
returns-then-has_none-clause-lasts g c = lasts_same g.D.Disk c.args.self.now.disk c.args.self.now.disk refl

pub returns-in_err-win_room-clause-any_moment : goal.returns-in_err-win_room-clause-any_moment
returns-in_err-win_room-clause-any_moment g c honest whole =
    let now = c.args.self.now in
    let p = err_from_is_err_and c.from_residual.result c.from_residual.ensures.1 in
    let is : c.from_residual.result ≡ Err c.in_err-win_room.field-0.0 = cc (p.1, p.2) in
    record {
      number = now.stored;
      next = next_none g.D.Disk now now.seat c.has_none.ensures.kept.stored;
      end = subst (λ (r : Result (Unit {0}) FlushFault). OnOk r (now.stored ≡ c.win_room.new.self.stored)) (sym is) tt;
      leaves = weaker g.D.Disk now.disk c.win_room.new.self.disk _ _ (c.win_room.ensures.any_moment honest whole)
          (λ (image : List ℕ) (st : Stands image (state_at now.opening now.seat now.stored)). ∣ inl st ∣₁);
    }

pub returns-in_err-win_room-clause-stores : goal.returns-in_err-win_room-clause-stores
returns-in_err-win_room-clause-stores g c =
    let p = err_from_is_err_and c.from_residual.result c.from_residual.ensures.1 in
    let is : c.from_residual.result ≡ Err c.in_err-win_room.field-0.0 = cc (p.1, p.2) in
    subst (λ (r : Result (Unit {0}) FlushFault). OnOk r (StoresGathered g.D.Disk c.args.self.now c.win_room.new.self)) (sym is) tt

pub returns-in_err-win_room-clause-refuses : goal.returns-in_err-win_room-clause-refuses
returns-in_err-win_room-clause-refuses g c =
    let p = err_from_is_err_and c.from_residual.result c.from_residual.ensures.1 in
    let is : c.from_residual.result ≡ Err c.in_err-win_room.field-0.0 = cc (p.1, p.2) in
    subst (λ (r : Result (Unit {0}) FlushFault). RefusesToStore g.D.Disk c.args.self.now c.win_room.new.self r) (sym is)
    (unwon g.D.Disk c.args.self.now c.win_room.new.self c.in_err-win_room.field-0.0 (c.has_none.ensures.some c.if-has_none.false) c.in_err-win_room.ensures.wins c.in_err-win_room.ensures.refuses)

pub returns-in_err-win_room-clause-breaks : goal.returns-in_err-win_room-clause-breaks
returns-in_err-win_room-clause-breaks g c =
    let p = err_from_is_err_and c.from_residual.result c.from_residual.ensures.1 in
    let is : c.from_residual.result ≡ Err c.in_err-win_room.field-0.0 = cc (p.1, p.2) in
    subst (λ (r : Result (Unit {0}) FlushFault). FlushBreaks g.D.Disk c.args.self.now c.win_room.new.self r) (sym is) c.in_err-win_room.ensures.breaks

pub returns-in_err-win_room-clause-lasts : goal.returns-in_err-win_room-clause-lasts
returns-in_err-win_room-clause-lasts g c = c.win_room.ensures.lasts

pub returns-clause-any_moment : goal.returns-clause-any_moment
returns-clause-any_moment g c honest whole =
    let now = c.args.self.now in
    let fits = c.fitting-count.ensures in
    storing_so g.D.Disk c.args.self.now c.win_room.new.self c.in_ok-win_room.ensures.wins.made c.has_none.ensures.kept c.requires.done.0 (c.has_none.ensures.some c.if-has_none.false) c.fitting-count.result fits.within fits.some fits.one fits.more c.append.new.self c.append.result (joined g.D.Disk)
    (weaker g.D.Disk now.disk c.win_room.new.self.disk _ _ (c.win_room.ensures.any_moment honest whole)
    (λ (image : List ℕ) (st : Stands image (state_at now.opening now.seat now.stored)). ∣ inl st ∣₁))
    c.append.ensures.any_moment (c.win_room.ensures.lasts.honest honest) c.append.ensures.stores

pub returns-clause-stores : goal.returns-clause-stores
returns-clause-stores g c =
    let fits = c.fitting-count.ensures in
    on_ok_weaker c.append.result
    (λ (did : StoresFirst g.D.Disk c.win_room.new.self c.append.new.self c.fitting-count.result). stores_so g.D.Disk c.args.self.now c.win_room.new.self c.in_ok-win_room.ensures.wins.made c.has_none.ensures.kept c.requires.done.0 (c.has_none.ensures.some c.if-has_none.false) c.fitting-count.result fits.within fits.some fits.one fits.more c.append.new.self did c.win_room.ensures.lasts.honest)
    c.append.ensures.stores

pub returns-clause-refuses : goal.returns-clause-refuses
returns-clause-refuses g c =
    let fits = c.fitting-count.ensures in
    refuses_so g.D.Disk c.args.self.now c.win_room.new.self c.in_ok-win_room.ensures.wins.made c.has_none.ensures.kept c.requires.done.0 (c.has_none.ensures.some c.if-has_none.false) c.fitting-count.result fits.within fits.some fits.one fits.more c.append.new.self c.append.result
    (λ honest. g.met.D.Disk.reads c.win_room.new.self.disk (c.win_room.ensures.lasts.honest honest)) c.append.ensures.refuses

pub returns-clause-breaks : goal.returns-clause-breaks
returns-clause-breaks g c = breaks_so g.D.Disk c.args.self.now c.win_room.new.self c.in_ok-win_room.ensures.wins.made c.append.new.self c.append.result c.in_ok-win_room.ensures.calm c.append.ensures.breaks

pub returns-clause-lasts : goal.returns-clause-lasts
returns-clause-lasts g c = lasts_more g.D.Disk c.args.self.now.disk c.win_room.new.self.disk c.append.new.self.disk c.win_room.ensures.lasts c.append.ensures.lasts
