use Rattle.std.proofs.Common.{◌∙◌, List, ℕ, ap, arith, length, refl, slice_get, subst, sym}
use Rattle.std.proofs.lemmas.Option.{slice_get_read}
use Rattle.line_core.specs.declared.message.Message.{Message}
use Rattle.line_core.specs.Flights.{IsOver}
use Rattle.broker_core.specs.Prechecks.{sized}
use Rattle.broker_core.proofs.Flights.{over_before}
use Rattle.broker_core.proofs.precheck.sizes_of.Goals as goal

pub add-requires : goal.add-requires
add-requires c =
    let item = c.loop-delivery-item.result in
    let items = c.as_slice-delivery-items.result.now in
    let at = c.loop-delivery.delivery-index in
    let found = ap (λ (l : List (ℕ × Message)). slice_get l at) (sym c.as_slice-delivery-items.ensures.value) ∙ slice_get_read items (length items) at item refl (omega arith) c.loop-delivery-item.is in
    subst (IsOver item.0) (sym c.loop-delivery.invariant) (over_before (sized c.args.own) c.args.flight.now c.loop-delivery.delivery-index item c.as_slice-delivery-items.ensures.rising found)
