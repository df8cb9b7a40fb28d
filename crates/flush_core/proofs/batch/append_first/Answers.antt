use Rattle.std.proofs.Common.{Err, List, subst, arith, inl, refl, take, ◌∙◌, ◌≡◌, ℕ}
use Rattle.disk_core.specs.declared.disk.Disk.{Ghosts}
use Rattle.disk_core.specs.Calls.{Throughout}
use Rattle.command_core.specs.Commands.{CommandValue}
use Rattle.command_core.specs.Entries.{EntryValue}
use Rattle.area_core.specs.Areas.{commands}
use Rattle.area_core.specs.declared.faults.AreaFault.{AreaFault}
use Rattle.area_core.specs.declared.faults.AreaFault.TheVariants as area
use Rattle.broker_core.specs.Steps.{state_after}
use Rattle.recover_core.specs.declared.store.Store.{Store}
use Rattle.recover_core.specs.Calls.{StandsThroughout, StoreAdds, StoreBreaks, StoreRefuses}
use Rattle.recover_core.specs.Standing.{StandsForEither}
use Rattle.recover_core.specs.Stores.{disk_of, size_of, used_of}
use Rattle.flush_core.specs.FlusherCalls.{RefusesFirst}
use Rattle.flush_core.specs.Room.{Fits}
use Rattle.flush_core.proofs.DiskCalls.{lasts_same}
use Rattle.flush_core.proofs.batch.append_first.Goals as goal

module _ {D : Type 0} (disk : Ghosts D) where
  -- a store stands for what it did if its disk is not called
  stands_still : (store : Store D disk) (batch : List CommandValue) → ((c : List ℕ) → disk.images_since store.disk (disk.moment store.disk) c → disk.images store.disk c) → StandsThroughout disk store store batch
  stands_still store batch only s stand honest = record {
    later = omega arith;
    each = λ c since. ∣ inl (stand c (only c since)) ∣₁;
    before = λ t c le since. inl since;
  }

  -- a block was refused, where another answer was due
  refuses_as : {B T : Type 0} (old new : Store D disk) (es fs : List (EntryValue B)) (fault : AreaFault) → es ≡ fs
      → StoreRefuses {T = Unit {0}} disk old new (commands es) (Err fault) → StoreBreaks {T = Unit {0}} disk old new (Err fault)
      → RefusesFirst {B = B} {T = T} disk old new fs (Err fault)
  refuses_as {B} {T} old new es fs fault same refuses breaks =
      subst (λ (l : List (EntryValue B)). RefusesFirst {B = B} {T = T} disk old new l (Err fault)) same (so fault refuses breaks)
    where
      so : (fault : AreaFault) → StoreRefuses {T = Unit {0}} disk old new (commands es) (Err fault) → StoreBreaks {T = Unit {0}} disk old new (Err fault) → RefusesFirst {B = B} {T = T} disk old new es (Err fault)
      so area.Device refuses breaks = record { block = record { full = λ is. absurd (cc is); memory = tt }; sound = λ is. absurd (cc is); cause = breaks.cause }
      so area.Full refuses breaks = record { block = record { full = λ is. refuses.full refl; memory = tt }; sound = λ is. absurd (cc is); cause = breaks.cause }
      so area.Broken refuses breaks = record { block = record { full = λ is. absurd (cc is); memory = tt }; sound = λ is. breaks.sound refl; cause = breaks.cause }
      so (area.Memory refused) refuses breaks = record { block = record { full = λ is. absurd (cc is); memory = refuses.memory }; sound = λ is. absurd (cc is); cause = breaks.cause }

pub returns-in-Err-clause-any_moment : goal.returns-in-Err-clause-any_moment
returns-in-Err-clause-any_moment g c = stands_still g.D.Disk c.args.journal.now (commands (take c.args.count c.args.batch.now.items)) (g.met.D.Disk.only_now c.args.journal.now.disk)

pub returns-in-Err-clause-adds : goal.returns-in-Err-clause-adds
returns-in-Err-clause-adds g c = tt

pub returns-in-Err-clause-refuses : goal.returns-in-Err-clause-refuses
returns-in-Err-clause-refuses g c = record {
  block = record { full = λ is. absurd (cc is); memory = refl };
  sound = λ is. absurd (cc is);
  cause = refl;
}

pub returns-in-Err-clause-size : goal.returns-in-Err-clause-size
returns-in-Err-clause-size g c = refl

pub returns-in-Err-clause-lasts : goal.returns-in-Err-clause-lasts
returns-in-Err-clause-lasts g c = lasts_same g.D.Disk c.args.journal.now.disk c.args.journal.now.disk refl

pub returns-in-Ok-append-clause-any_moment : goal.returns-in-Ok-append-clause-any_moment
returns-in-Ok-append-clause-any_moment g c = λ s stand.
    subst (λ es. Throughout g.D.Disk (disk_of c.args.journal.now) (disk_of c.append.new.self) (StandsForEither s (state_after s (commands es))))
    (c.deref.ensures.value ∙ c.in-Ok.ensures.items) (c.append.ensures.any_moment s stand)

pub returns-in-Ok-append-clause-adds : goal.returns-in-Ok-append-clause-adds
returns-in-Ok-append-clause-adds g c = record {
  first_is = c.in-Ok.ensures.items;
  rest_is = c.in-Ok.ensures.tail;
  adds = subst (λ (l : List (EntryValue g.row.B.Denot)). StoreAdds g.D.Disk c.args.journal.now c.append.new.self (commands l)) (c.deref.ensures.value ∙ c.in-Ok.ensures.items) c.in-Ok-append.ensures.adds;
  fits = subst (λ (l : List (EntryValue g.row.B.Denot)). Fits (size_of c.args.journal.now) (used_of c.args.journal.now) (commands l)) (c.deref.ensures.value ∙ c.in-Ok.ensures.items)
      (omega (arith, c.in-Ok-append.ensures.adds.used, c.append.new.self.area.within, c.append.ensures.keeps.size));
  whole = c.in-Ok-append.ensures.breaks.ok;
}

pub returns-in-Ok-append-clause-refuses : goal.returns-in-Ok-append-clause-refuses
returns-in-Ok-append-clause-refuses g c = record {
  block = record { full = λ is. absurd (cc is); memory = tt };
  sound = λ is. absurd (cc is);
  cause = c.in-Ok-append.ensures.breaks.cause;
}

pub returns-in-Ok-append-clause-size : goal.returns-in-Ok-append-clause-size
returns-in-Ok-append-clause-size g c = c.append.ensures.keeps.size

pub returns-in-Ok-append-clause-lasts : goal.returns-in-Ok-append-clause-lasts
returns-in-Ok-append-clause-lasts g c = c.append.ensures.lasts

pub returns-in-Err-append-clause-any_moment : goal.returns-in-Err-append-clause-any_moment
returns-in-Err-append-clause-any_moment g c = λ s stand.
    subst (λ es. Throughout g.D.Disk (disk_of c.args.journal.now) (disk_of c.append.new.self) (StandsForEither s (state_after s (commands es))))
    (c.deref.ensures.value ∙ c.in-Ok.ensures.items) (c.append.ensures.any_moment s stand)

pub returns-in-Err-append-clause-adds : goal.returns-in-Err-append-clause-adds
returns-in-Err-append-clause-adds g c = tt

pub returns-in-Err-append-clause-refuses : goal.returns-in-Err-append-clause-refuses
returns-in-Err-append-clause-refuses g c =
    refuses_as g.D.Disk c.args.journal.now c.append.new.self c.deref.result.now _ c.in-Err-append.fault (c.deref.ensures.value ∙ c.in-Ok.ensures.items) c.in-Err-append.ensures.refuses c.in-Err-append.ensures.breaks

pub returns-in-Err-append-clause-size : goal.returns-in-Err-append-clause-size
returns-in-Err-append-clause-size g c = c.append.ensures.keeps.size

pub returns-in-Err-append-clause-lasts : goal.returns-in-Err-append-clause-lasts
returns-in-Err-append-clause-lasts g c = c.append.ensures.lasts
