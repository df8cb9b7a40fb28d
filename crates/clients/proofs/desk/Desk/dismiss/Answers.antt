use Rattle.std.proofs.Common.{◌≡◌, ap, arith, refl, set, subst, sym, true}
use Rattle.std.specs.Prelude.{IsSome}
use Rattle.clients.specs.Places.{is_over_at, progress_at}
use Rattle.clients.proofs.FootprintSums.{as_it_was, counted_left, counted_same, counted_trimmed, fits_less, its_counted, less_by}
use Rattle.clients.proofs.DeskPlaces.{same_desk, sits_there, unmoved}
use Rattle.clients.proofs.PlacesTrimmed.{leaves_so, left_desk}
use Rattle.clients.proofs.desk.Desk.dismiss.Goals as goal

pub invariant_of-self : goal.invariant_of-self
invariant_of-self g c = (
  unmoved c.self.inside.before.value c.self.inside.seat c.self.inside.places.items c.args.at c.index_mut.result.now c.vacate.new.place
      (omega (arith, c.if-at-len.false, c.len.ensures)) c.index_mut.ensures.value (ap progress_at (c.in_err-client.ensures.left refl)) c.self.invariant.0,
  counted_same c.self.inside.limit c.self.inside.counted c.self.inside.places.items c.args.at c.index_mut.result.now c.vacate.new.place
      (omega (arith, c.if-at-len.false, c.len.ensures)) c.index_mut.ensures.value (as_it_was c.index_mut.result.now c.vacate.new.place (c.in_err-client.ensures.left refl)) c.self.invariant.1,
)

pub invariant_of-self-2 : goal.invariant_of-self-2
invariant_of-self-2 g c = (
  left_desk c.self.inside.before.value c.self.inside.seat c.self.inside.places.items c.trim.new.places.items c.args.at c.index_mut.result.now c.vacate.new.place
      (omega (arith, c.if-at-len.false, c.len.ensures)) c.index_mut.ensures.value (c.in_ok-client.ensures.taken refl).1 c.trim.ensures.trims c.self.invariant.0,
  counted_trimmed c.self.inside.limit _ (set c.self.inside.places.items c.args.at c.vacate.new.place) c.trim.new.places.items c.trim.ensures.trims
      (counted_left c.self.inside.limit c.self.inside.counted _ c.self.inside.places.items c.args.at c.index_mut.result.now c.vacate.new.place c.in_ok-client.field-0
      (omega (arith, c.if-at-len.false, c.len.ensures)) c.index_mut.ensures.value (sym (c.in_ok-client.ensures.taken refl).0) (c.in_ok-client.ensures.taken refl).1 (less_by c.self.inside.counted c.in_ok-client.field-0.client.footprint.counted c.counted.result c.counted.ensures.value (its_counted c.self.inside.limit c.self.inside.counted c.self.inside.places.items c.args.at c.index_mut.result.now c.in_ok-client.field-0 (omega (arith, c.if-at-len.false, c.len.ensures)) c.index_mut.ensures.value (sym (c.in_ok-client.ensures.taken refl).0) c.self.invariant.1)) c.self.invariant.1),
)

pub returns-clause-left : goal.returns-clause-left
returns-clause-left g c =
    let taken = c.in_ok-client.ensures.taken refl in
    leaves_so c.args.self.now c.self.inside.limit c.self.inside.before.value c.self.inside.seat c.self.inside.places.items c.trim.new.places.items c.args.at c.index_mut.result.now c.vacate.new.place c.in_ok-client.field-0
    c.self.view_is (omega (arith, c.if-at-len.false, c.len.ensures)) c.index_mut.ensures.value (sym taken.0) taken.1 taken.2 c.trim.ensures.trims

pub returns-in_err-client-clause-none : goal.returns-in_err-client-clause-none
returns-in_err-client-clause-none g c = λ none.
    same_desk c.args.self.now c.self.inside.limit c.self.inside.before.value c.self.inside.seat c.self.inside.seat c.self.inside.places.items c.args.at c.index_mut.result.now c.vacate.new.place
    c.self.view_is c.index_mut.ensures.value (c.in_err-client.ensures.left refl) refl

pub returns-in_err-client-clause-some : goal.returns-in_err-client-clause-some
returns-in_err-client-clause-some g c = λ over.
    subst (λ o. IsSome o) (sym c.from_residual.ensures) (c.in_err-client.ensures.over
    (subst (λ o. is_over_at o ≡ true) (sits_there c.args.self.now c.self.inside.limit c.self.inside.before.value c.self.inside.seat c.self.inside.places.items c.args.at c.index_mut.result.now
    c.self.view_is (omega (arith, c.if-at-len.false, c.len.ensures)) c.index_mut.ensures.value) over))

pub overflow_sub-self : goal.overflow_sub-self
overflow_sub-self g c =
    fits_less c.self.inside.counted _ c.counted.result c.counted.ensures.value
    (its_counted c.self.inside.limit c.self.inside.counted c.self.inside.places.items c.args.at c.index_mut.result.now c.in_ok-client.field-0 (omega (arith, c.if-at-len.false, c.len.ensures)) c.index_mut.ensures.value (sym (c.in_ok-client.ensures.taken refl).0) c.self.invariant.1)
