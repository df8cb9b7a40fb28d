use Rattle.std.proofs.Common.{◌++◌, ◌∷◌, [], List, ℕ, subst}
use Rattle.client_core.specs.Listening.{MayEnd}
use Rattle.client_core.specs.Talks.{Adds, Heard}
use Rattle.client_core.proofs.Leaving.{ends, goes_on, none_late}
use Rattle.client_core.proofs.listening.hear_receipt.Goals as goal

pub loop-piece-init : goal.loop-piece-init
loop-piece-init g c = none_late c.args.reader.now.rest (g.P.Peer.talk c.args.peer.now)

pub returns-in-Ok-true : goal.returns-in-Ok-true
returns-in-Ok-true g c =
    let talk = g.P.Peer.talk in
    let heard = subst
    (λ is_over. (piece : List ℕ) × Adds (Heard piece ∷ []) (talk c.loop-piece.peer) (talk c.hear_last.new.peer) × MayEnd (c.loop-piece.reader.rest ++ piece) c.hear_last.new.reader.rest is_over)
    c.in-Ok-true.field-0-test c.in-Ok-true.ensures in
    ends c.args.reader.now.rest (talk c.args.peer.now) (talk c.loop-piece.peer) (talk c.hear_last.new.peer) c.loop-piece.reader.rest c.hear_last.new.reader.rest c.loop-piece.invariant heard

pub loop-piece-preserved : goal.loop-piece-preserved
loop-piece-preserved g c =
    let talk = g.P.Peer.talk in
    let heard = subst
    (λ is_over. (piece : List ℕ) × Adds (Heard piece ∷ []) (talk c.loop-piece.peer) (talk c.hear_last.new.peer) × MayEnd (c.loop-piece.reader.rest ++ piece) c.hear_last.new.reader.rest is_over)
    c.in-Ok-false.field-0-test c.in-Ok-false.ensures in
    goes_on c.args.reader.now.rest (talk c.args.peer.now) (talk c.loop-piece.peer) (talk c.hear_last.new.peer) c.loop-piece.reader.rest c.hear_last.new.reader.rest c.loop-piece.invariant heard
