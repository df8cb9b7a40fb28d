use Rattle.std.proofs.Common.{◌≡◌, ◌+◌, ◌∙◌, ℕ, List, [], ◌∷◌, ◌++◌, Bool, false, length, slice_set, ap, arith}
use Rattle.std.proofs.lemmas.List.{length-map}
use Rattle.area_core.specs.Areas.{commands}
use Rattle.world_core.specs.Events.{claims}
use Rattle.world_core.specs.Parts.{value_of}
use Rattle.world_core.specs.Worlds.{claimed}
use Rattle.world_core.proofs.Telling.{on_err, same_seat, seat_changes}
use Rattle.world_core.proofs.parts.Parts.note_claim.Goals as goal

pub overflow_add-number : goal.overflow_add-number
overflow_add-number c = omega (arith, c.requires.kept.low)

pub returns-in_err-add-clause-err : goal.returns-in_err-add-clause-err
returns-in_err-add-clause-err c =
    let old = c.args.self.now in
    let seat = c.index_mut.result.now in
    let history = ap (λ es. commands es) c.in_ok-reserve.ensures.items in
    let seats = ap (λ (own : List ℕ). slice_set old.seats.items c.args.j (record { own = own; seen = seat.seen })) c.in_err-add.ensures.err ∙ same_seat old.seats.items c.args.j seat c.index_mut.ensures.value in
    on_err c.from_residual-in_err-add.result _ (λ i. record (value_of old) { history = history i; ready = c.in_ok-reserve-2.ensures.items i; seats = seats i })

pub returns-clause-ok : goal.returns-clause-ok
returns-clause-ok c =
    let old = c.args.self.now in
    let w = value_of old in
    let seat = c.index_mut.result.now in
    let history = ap (λ es. commands es) c.in_ok-reserve.ensures.items in
    let ready = c.push_reserved.ensures.items ∙ ap (λ (l : List Bool). l ++ false ∷ []) c.in_ok-reserve-2.ensures.items in
    let number : old.base + c.len.result ≡ claimed w = omega (arith, c.len.ensures, ap (λ es. length es) c.in_ok-reserve.ensures.items, length-map old.history.items (λ entry. entry.command)) in
    let own = c.in_ok-add.ensures.ok ∙ ap (λ (n : ℕ). seat.own ++ n ∷ []) number in
    let seats = ap (λ (own : List ℕ). slice_set old.seats.items c.args.j (record { own = own; seen = seat.seen })) own ∙ seat_changes (claims (claimed w)) old.seats.items c.args.j seat c.requires.seat c.index_mut.ensures.value in
    λ i. record w { history = history i; ready = ready i; seats = seats i }
