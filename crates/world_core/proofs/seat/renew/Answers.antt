-- One seat more begins anew.
use Rattle.std.proofs.Common.{◌≡◌, ℕ, ◌+◌, ◌<◌, List, [], ◌∷◌, ◌++◌, length, get_or, set, map, take, drop, sym, ◌∙◌, ap, arith, append_assoc}
use Rattle.std.proofs.lemmas.List.{drop_more, take_more, map_push, set_at, length-map, length-take-le}
use Rattle.world_core.specs.declared.seat.Seat.{Seat}
use Rattle.world_core.proofs.seat.renew.Goals as goal

one_more : (s xs : List Seat) (i seen : ℕ) (own : List ℕ) → i < length s → own ≡ [] → xs ≡ map (λ (x : Seat). record { own = []; seen = seen }) (take i s) ++ drop i s
    → set xs i (record { own = own; seen = seen }) ≡ map (λ (x : Seat). record { own = []; seen = seen }) (take (i + 1) s) ++ drop (i + 1) s
one_more s xs i seen own low none is =
    let y : Seat = record { own = []; seen = seen } in
    let x = get_or s i y in
    let m = map (λ (x : Seat). record { own = []; seen = seen }) (take i s) in
    let rest = drop (i + 1) s in
    let size : length m ≡ i = length-map (take i s) (λ (x : Seat). record { own = []; seen = seen }) ∙ length-take-le i s (omega arith) in
    ap (λ (o : List ℕ). set xs i (record { own = o; seen = seen })) none
    ∙ ap (λ (l : List Seat). set l i y) (is ∙ ap (λ (l : List Seat). m ++ l) (drop_more s i y low))
    ∙ set_at m x rest y i size
    ∙ sym (ap (λ (l : List Seat). map (λ (x : Seat). record { own = []; seen = seen }) l ++ rest) (take_more s i y low)
    ∙ ap (λ (l : List Seat). l ++ rest) (map_push (λ (x : Seat). record { own = []; seen = seen }) (take i s) x)
    ∙ append_assoc m (y ∷ []) rest)

pub loop-seat-preserved : goal.loop-seat-preserved
loop-seat-preserved c = one_more c.args.seats.now c.loop-seat.seats c.loop-seat.seat-index c.args.seen c.clear.new.self (omega arith) c.clear.ensures c.loop-seat.invariant
