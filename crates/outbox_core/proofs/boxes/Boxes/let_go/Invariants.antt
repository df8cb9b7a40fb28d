use Rattle.std.proofs.Common.{◌≡◌}
use Rattle.std.specs.Prelude.{drop}
use Rattle.outbox_core.specs.Giving.{without}
use Rattle.outbox_core.proofs.boxes.Boxes.let_go.Given as goal

abbrev pub invariant-loop-session : goal.invariant-loop-session
invariant-loop-session g l = without l.self-inside.all.entries (drop l.session-index l.sessions) ≡ without l.fn.self l.sessions
