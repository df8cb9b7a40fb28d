use Rattle.std.proofs.Common.{◌∙◌, [], ℕ, List, ap, length, map}
use Rattle.std.specs.Vec.{with_items}
use Rattle.std.proofs.lemmas.List.{length-map, with_items_is}
use Rattle.broker_core.specs.States.{BrokerValue}
use Rattle.area_core.specs.Areas.{commands}
use Rattle.world_core.specs.declared.seat.Seat.{Seat}
use Rattle.world_core.specs.Parts.{value_of}
use Rattle.world_core.proofs.Calling.{begins}
use Rattle.world_core.proofs.parts.Parts.begin.Goals as goal

pub returns : goal.returns
returns c =
    let old = c.args.self.now in
    let anew : (n : ℕ) (l : List Seat) → List Seat = λ n l. map (λ (seat : Seat). record { own = []; seen = n }) l in
    let many = ap (λ (l : List Seat). length l) c.renew.ensures ∙ length-map c.deref_mut.result.now (λ (seat : Seat). record { own = []; seen = c.count-count.result }) ∙ c.deref_mut.ensures.len in
    let seats = with_items_is old.seats c.renew.new.seats many ∙ c.renew.ensures ∙ ap (λ (l : List Seat). anew c.count-count.result l) c.deref_mut.ensures.value
    ∙ ap (λ (n : ℕ). anew n old.seats.items) c.count-count.ensures in
    begins (value_of old) c.args.broker.now.state c.of.result.value.state c.count-count.result (commands c.clear.new.self.items) c.clear-2.new.self.items (with_items old.seats c.renew.new.seats).items c.clear-3.new.self.items
    c.count-count.ensures (ap (λ (b : BrokerValue). b.state) c.of.ensures) (ap (λ es. commands es) c.clear.ensures.items) c.clear-2.ensures.items seats c.clear-3.ensures.items
