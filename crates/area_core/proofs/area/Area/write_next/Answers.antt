use Rattle.std.proofs.Common.{◌≡◌, ℕ, List, length, take, ◌∙◌, ap, arith}
use Rattle.area_core.specs.Closing.{closing}
use Rattle.area_core.proofs.Closings.{length-piece}
use Rattle.area_core.proofs.area.Area.write_next.Goals as goal

pub write_piece-requires-clause-within : goal.write_piece-requires-clause-within
write_piece-requires-clause-within g c =
    let stream = closing c.args.at c.args.total (g.P.Pieces.coming c.args.pieces.now) in
    let are : c.deref.result.now ≡ take 65536 stream = c.deref.ensures.value ∙ c.in-Ok.ensures.piece in
    omega (arith, ap (λ (l : List ℕ). length l) are, length-piece 65536 stream, c.requires.within)
