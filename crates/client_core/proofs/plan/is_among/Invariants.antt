use Rattle.std.proofs.Common.{◌≡◌, drop}
use Rattle.client_core.specs.Courses.{is_among}
use Rattle.client_core.proofs.plan.is_among.Given as goal

abbrev pub invariant-loop-one : goal.invariant-loop-one
invariant-loop-one l = is_among l.id (drop l.one-index l.ids) ≡ is_among l.fn.id l.fn.ids
