use Rattle.std.proofs.Common.{◌+◌, ℕ, List, ap, sym, ◌∙◌}
use Rattle.std.specs.Prelude.{drop}
use Rattle.std.proofs.lemmas.List.{drop_more}
use Rattle.outbox_core.specs.Giving.{Kept, without}
use Rattle.outbox_core.proofs.boxes.Boxes.let_go.Goals as goal

pub loop-session-preserved : goal.loop-session-preserved
loop-session-preserved g c =
    let at = c.loop-session.session-index in
    let sessions = c.args.sessions.now in
    ap (λ (boxes : Kept). without boxes (drop (at + 1) sessions)) c.remove.ensures.entries
    ∙ (ap (λ (l : List ℕ). without c.loop-session.self-inside.all.entries l) (sym (drop_more sessions at 0 c.loop-session-test.true)) ∙ c.loop-session.invariant)
