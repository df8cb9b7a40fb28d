use Rattle.std.proofs.Common.{◌≡◌, ◌++◌, ◌-◌, ℕ, length, take, ◌∙◌, ap, arith, rules}
use Rattle.area_core.specs.Closing.{heading}
use Rattle.area_core.proofs.Closings.{length-heading, piece_cut}
use Rattle.area_core.proofs.closing.next_closed.Goals as goal

pub returns-clause-piece : goal.returns-clause-piece
returns-clause-piece g c =
    let h = heading c.args.at c.args.total in
    let room : c.len-room.result ≡ length h = search rules in
    let piece : c.in_ok-next.next.items ≡ take (65536 - length h) (g.P.Pieces.coming c.args.pieces.now) = c.in_ok-next.ensures.piece ∙ ap (λ (n : ℕ). take (65536 - n) (g.P.Pieces.coming c.args.pieces.now)) room in
    let out : c.extend_from_slice.new.self.items ≡ h ++ c.in_ok-next.next.items = search rules in
    c.in_ok-close.ensures
    ∙ piece_cut 65536 c.len.result (65536 - c.len-room.result) h (g.P.Pieces.coming c.args.pieces.now) c.in_ok-next.next.items c.extend_from_slice.new.self.items
    (omega (arith, length-heading c.args.at c.args.total)) piece (search rules) (ap (λ (n : ℕ). 65536 - n) room) out
