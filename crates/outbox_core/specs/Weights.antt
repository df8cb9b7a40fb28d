-- What outputs count for while they wait, and how much of that a box has room for.
use Rattle.std.specs.Prelude.{◌+◌, ◌*◌, ◌<◌, ◌≤◌, ◌⊎◌, List, ℕ, length}
use Rattle.std.specs.List.{sum_by}
use Rattle.command_core.specs.Outs.{OutValue, weight_of}
use Rattle.outbox_core.specs.declared.sender.BoxSize.{BoxSize}

-- the bytes that several outputs count for
abbrev pub weight : List OutValue → ℕ
weight outs = sum_by weight_of outs

-- the bytes that what waits in a box of that size takes at most: 512 for each output, and what these count for
abbrev pub most_waiting : BoxSize → ℕ
most_waiting size = size.bytes + 512 * size.outputs

-- a box of that size has room for them
pub record Fits (size : BoxSize) (outs : List OutValue) : Type 0 where
  pub few : length outs ≤ size.outputs
  pub light : weight outs ≤ size.bytes

-- the box has no room for them: they are too many, or too heavy
abbrev pub Overfill : BoxSize → List OutValue → Type 0
Overfill size outs = (size.outputs < length outs) ⊎ (size.bytes < weight outs)
