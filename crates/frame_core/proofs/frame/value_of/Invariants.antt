use Rattle.std.proofs.Common.{◌≡◌, drop}
use Rattle.frame_core.specs.Writable.{first_of}
use Rattle.frame_core.proofs.frame.value_of.Given as goal

abbrev pub invariant-loop-key : goal.invariant-loop-key
invariant-loop-key l =
    first_of l.name (drop l.key-index l.headers) ≡ first_of l.name l.headers
