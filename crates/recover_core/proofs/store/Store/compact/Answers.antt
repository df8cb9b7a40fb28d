use Rattle.std.proofs.Common.{rules, ◌≡◌, inl, ℕ, false, arith, subst}
use Rattle.std.proofs.lemmas.Result.{on_ok_weaker}
use Rattle.disk_core.proofs.Runs.{weaker}
use Rattle.disk_core.proofs.Torn.{torn_same}
use Rattle.area_core.specs.Journals.{is_odd, other, start}
use Rattle.area_core.proofs.Unwritten.{untouched}
use Rattle.recover_core.specs.Calls.{HasRoomFor, IsCompacting, WritesState}
use Rattle.recover_core.proofs.Compacts.{alone_as, sound_after, stands_as, two_as}
use Rattle.recover_core.proofs.store.Store.compact.Goals as goal

pub invariant_of-self : goal.invariant_of-self
invariant_of-self g c = record {
  version = c.write_state.ensures.kind.version c.args.self.now.version;
  room = omega (arith, c.write_state.ensures.kind.size, c.write_state.ensures.lasts.size, c.args.self.now.room);
  sound = λ honest whole.
      let was = c.write_state.ensures.lasts.was_honest honest in
      let old = c.args.self.now in
      let unbroken : old.area.broken ≡ false = search rules in
      sound_after g.D.Disk.images old.area c.write_state.new.area old.disk c.write_state.new.disk c.args.broker.now.state c.write_state.result (old.sound was unbroken)
      (on_ok_weaker c.write_state.result (λ (it : WritesState g.D.Disk old.area c.write_state.new.area old.disk c.write_state.new.disk c.args.broker.now.state). it.written was) c.write_state.ensures.writes) c.write_state.ensures.breaks.kept whole;
}

pub returns-clause-any_moment : goal.returns-clause-any_moment
returns-clause-any_moment g c whole honest =
    let old = c.args.self.now in
    let images = g.D.Disk.images old.disk in
    let s = c.args.broker.now.state in
    weaker g.D.Disk old.disk c.write_state.new.disk _ _ (c.write_state.ensures.any_moment honest)
    (λ image is. record {
      stands = stands_as old.area images (g.D.Disk.content old.disk) (g.met.D.Disk.reads old.disk honest) (old.sound honest whole) s (c.requires.stands honest whole) image is.stands;
      two = two_as old.area images (g.D.Disk.content old.disk) (g.met.D.Disk.reads old.disk honest) (old.sound honest whole) s (c.requires.stands honest whole) image is.two;
    })

pub returns-clause-compacts : goal.returns-clause-compacts
returns-clause-compacts g c =
    let old = c.args.self.now in
    let unbroken : old.area.broken ≡ false = search rules in
    on_ok_weaker c.write_state.result
    (λ (it : WritesState g.D.Disk old.area c.write_state.new.area old.disk c.write_state.new.disk c.args.broker.now.state). record {
      alone = λ honest. alone_as old.area c.write_state.new.area (g.D.Disk.images old.disk) (g.D.Disk.images c.write_state.new.disk) c.args.broker.now.state (old.sound honest unbroken) (it.written honest);
      used = omega (arith, it.used);
    })
    c.write_state.ensures.writes

pub write_state-requires-clause-room : goal.write_state-requires-clause-room
write_state-requires-clause-room g c =
    let same : c.size.result ≡ c.args.self.now.area.size = search rules in
    subst (λ (n : ℕ). HasRoomFor n c.args.broker.now.state) same (c.has_room_for.ensures.yes (search rules))

pub returns-then-not-has_room_for-clause-any_moment : goal.returns-then-not-has_room_for-clause-any_moment
returns-then-not-has_room_for-clause-any_moment g c whole honest =
    let old = c.args.self.now in
    let idle = start old.area.size (other (is_odd old.area.selector)) in
    untouched g.D.Disk old.disk (g.met.D.Disk.only_now old.disk) (IsCompacting g.D.Disk old c.args.broker.now.state)
    (λ image is. record { stands = c.requires.stands honest whole image is; two = ∣ inl (image, is, torn_same idle old.area.size image) ∣₁ })
