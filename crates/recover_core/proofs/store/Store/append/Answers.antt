use Rattle.std.proofs.Common.{◌≡◌, true, sym, ◌∙◌, ap, arith, ⊎_elim}
use Rattle.std.proofs.lemmas.Result.{on_ok_weaker}
use Rattle.area_core.specs.Areas.{commands, number}
use Rattle.area_core.specs.Calls.{Adds}
use Rattle.disk_core.proofs.Overwritten.{ok_or_err}
use Rattle.disk_core.proofs.Runs.{weaker}
use Rattle.recover_core.proofs.Stores.{either, all_after, is_two, sound_on}
use Rattle.recover_core.proofs.store.Store.append.Goals as goal

pub invariant_of-self : goal.invariant_of-self
invariant_of-self g c = record {
  version = ap (λ v. number v) c.append.ensures.place.version ∙ c.args.self.now.version;
  room = omega (arith, c.args.self.now.room, c.append.ensures.place.size, c.append.ensures.lasts.size);
  sound = λ honest shut.
      let it = c.args.self.now in
      let was = c.append.ensures.lasts.was_honest honest in
      ⊎_elim
      (λ after. sound_on it.area c.append.new.self (g.D.Disk.images it.disk) (g.D.Disk.images c.append.new.disk) (commands c.args.batch.now) (it.sound was (sym c.is_broken.ensures ∙ c.if-is_broken.false)) after)
      (λ (broken : c.append.new.self.broken ≡ true). absurd (cc (shut, broken)))
      (ok_or_err c.append.result _ _ (on_ok_weaker c.append.result (λ (adds : Adds g.D.Disk it.area c.append.new.self it.disk c.append.new.disk (commands c.args.batch.now)). adds.behind was) c.append.ensures.adds) c.append.ensures.breaks.err);
}

pub returns-clause-any_moment : goal.returns-clause-any_moment
returns-clause-any_moment g c s stand honest =
    let it = c.args.self.now in
    weaker g.D.Disk it.disk c.append.new.disk _ _ (c.append.ensures.any_moment honest)
    (either it.area (g.D.Disk.images it.disk) (g.D.Disk.content it.disk) (g.met.D.Disk.reads it.disk honest) (it.sound honest (sym c.is_broken.ensures ∙ c.if-is_broken.false)) s stand (is_two it.area.version it.version) (commands c.args.batch.now))

pub returns-clause-adds : goal.returns-clause-adds
returns-clause-adds g c =
    let it = c.args.self.now in
    on_ok_weaker c.append.result
    (λ (adds : Adds g.D.Disk it.area c.append.new.self it.disk c.append.new.disk (commands c.args.batch.now)). record {
      stands = λ honest s stand.
          all_after it.area (g.D.Disk.images it.disk) (g.D.Disk.content it.disk) (g.met.D.Disk.reads it.disk honest) (it.sound honest (sym c.is_broken.ensures ∙ c.if-is_broken.false)) s stand (is_two it.area.version it.version) c.append.new.self c.append.ensures.place.version (commands c.args.batch.now) (g.D.Disk.images c.append.new.disk) (adds.behind honest);
      used = omega (arith, adds.used);
    })
    c.append.ensures.adds

pub returns-clause-refuses : goal.returns-clause-refuses
returns-clause-refuses g c = record {
  full = λ is. let told = c.append.ensures.refuses.full is in (omega (arith, told.0), told.1);
  memory = c.append.ensures.refuses.memory;
}
