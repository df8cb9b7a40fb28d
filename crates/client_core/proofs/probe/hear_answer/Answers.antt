use Rattle.std.proofs.Common.{◌++◌, ◌∷◌, [], List, ℕ, subst}
use Rattle.client_core.specs.Answers.{Hears}
use Rattle.client_core.specs.Talks.{Adds, Heard}
use Rattle.client_core.proofs.Turns.{breaks, comes, goes_on}
use Rattle.client_core.proofs.probe.hear_answer.Goals as goal

pub returns-in-Ok-true-clause-ok : goal.returns-in-Ok-true-clause-ok
returns-in-Ok-true-clause-ok g c =
    let talk = g.P.Peer.talk in
    let heard = subst
    (λ is_answered. (piece : List ℕ) × Adds (Heard piece ∷ []) (talk c.loop-piece.peer) (talk c.hear_one.new.peer)
    × Hears c.args.probe (c.loop-piece.reader.rest ++ piece) c.hear_one.new.reader.rest is_answered)
    c.in-Ok-true.field-0-test c.in-Ok-true.ensures.heard in
    comes c.args.probe (talk c.args.peer.now) (talk c.loop-piece.peer) (talk c.hear_one.new.peer) c.loop-piece.reader.rest c.hear_one.new.reader.rest c.loop-piece.invariant.heard heard

pub returns-in-Err-clause-cause : goal.returns-in-Err-clause-cause
returns-in-Err-clause-cause g c =
    let talk = g.P.Peer.talk in
    breaks c.args.probe (talk c.args.peer.now) (talk c.loop-piece.peer) (talk c.hear_one.new.peer) c.loop-piece.reader.rest c.in-Err.cause c.loop-piece.invariant.heard c.in-Err.ensures.cause

pub loop-piece-preserved : goal.loop-piece-preserved
loop-piece-preserved g c =
    let talk = g.P.Peer.talk in
    let heard = subst
    (λ is_answered. (piece : List ℕ) × Adds (Heard piece ∷ []) (talk c.loop-piece.peer) (talk c.hear_one.new.peer)
    × Hears c.args.probe (c.loop-piece.reader.rest ++ piece) c.hear_one.new.reader.rest is_answered)
    c.in-Ok-false.field-0-test c.in-Ok-false.ensures.heard in
    record {
      unfailed = c.in-Ok-false.ensures.unfailed;
      heard = goes_on c.args.probe (talk c.args.peer.now) (talk c.loop-piece.peer) (talk c.hear_one.new.peer) c.loop-piece.reader.rest c.hear_one.new.reader.rest c.loop-piece.invariant.heard heard;
    }
