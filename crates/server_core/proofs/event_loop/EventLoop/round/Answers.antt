use Rattle.std.proofs.Common.{rules}
use Rattle.server_core.proofs.event_loop.EventLoop.round.Goals as goal

pub invariant_of-self : goal.invariant_of-self
invariant_of-self g c =
    (c.part_all.ensures.ring _ (c.serve_all.ensures.ring _ (c.report_events.ensures.ring _ c.self.invariant.0)), c.self.invariant.1, search rules)

pub invariant_of-self-else-has_end_begun : goal.invariant_of-self-else-has_end_begun
invariant_of-self-else-has_end_begun g c =
    (c.serve_all.ensures.ring _ (c.report_events.ensures.ring _ c.self.invariant.0), c.self.invariant.1, search rules)

pub invariant_of-self-else-is_none : goal.invariant_of-self-else-is_none
invariant_of-self-else-is_none g c =
    (c.serve_all.ensures.ring _ (c.report_events.ensures.ring _ c.self.invariant.0), c.self.invariant.1, search rules)
