use Rattle.std.proofs.Common.{◌≡◌, ◌++◌, ◌∷◌, ◌⊎◌, [], List, ℕ, subst, sym}
use Rattle.client_core.specs.Lines.{Misses}
use Rattle.client_core.specs.Talks.{Adds, Heard, IsOfPeer}
use Rattle.client_core.proofs.lines.hear_receipts.Goals as goal

pub returns-in-Err-clause-fault : goal.returns-in-Err-clause-fault
returns-in-Err-clause-fault g c =
    let talk = g.P.Peer.talk in
    let after = c.hear_piece.new in
    subst
    (λ cause. (IsOfPeer cause × (after.window ≡ c.args.window.now))
    ⊎ ((piece : List ℕ) × Adds (Heard piece ∷ []) (talk c.args.peer.now) (talk after.peer) × Misses (c.args.reader.now.rest ++ piece) c.args.window.now after.window cause))
    (sym c.unreceipted.ensures.cause) c.in-Err.ensures.cause
