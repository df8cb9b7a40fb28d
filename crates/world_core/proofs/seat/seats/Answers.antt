use Rattle.std.proofs.Common.{◌∙◌, [], ◌∷◌, ◌++◌}
use Rattle.std.proofs.lemmas.List.{replicate_more}
use Rattle.world_core.specs.declared.seat.Seat.{Seat}
use Rattle.world_core.proofs.seat.seats.Goals as goal

pub loop-i-preserved : goal.loop-i-preserved
loop-i-preserved c =
    let first : Seat = record { own = []; seen = c.args.seen } in
    c.in_ok-push.ensures.items ∙ (λ i. c.loop-i.invariant i ++ c.new.ensures i ∷ []) ∙ replicate_more c.loop-i.i first
