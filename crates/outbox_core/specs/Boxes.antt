-- What contracts see of an outbox's two ends.
use Rattle.std.specs.Prelude.{◌≡◌, ◌⊎◌, List, [], ◌∷◌, ◌++◌, Bool, true}
use denote.RawPtr.{Ptr, null_ptr}
use Rattle.command_core.specs.Outs.{OutValue}
use Rattle.rtrb.specs.Shared.{Names}
use Rattle.outbox_core.specs.declared.sender.BoxSize.{BoxSize}

-- which ring it is: where it lies, and its name
pub record RingId : Type 0 where
  pub words : Ptr
  pub slots : Ptr
  pub names : Names

-- which box it is: the ring that outputs go through, and the ring by which the taker reports how much it took
pub record BoxId : Type 0 where
  pub outputs : RingId
  pub credits : RingId

-- The sending end: which box it is of; how much that has room for; all that was given, in order; and whether the box is
-- cut. A cut is for good. Of a box whose taker was gone when it was cut, nothing more is known.
pub record SenderValue : Type 0 where
  pub box : BoxId
  pub size : BoxSize
  pub given : List OutValue
  pub cut : Bool

-- The taking end: which box it is of; how much that has room for; all that was taken, in order; and what was seen to wait, and so comes
-- next.
pub record TakerValue : Type 0 where
  pub box : BoxId
  pub size : BoxSize
  pub taken : List OutValue
  pub seen : List OutValue

-- A sending end that is open, or has finished: which box it is of, how much that has room for, and all that was given.
pub record GivenValue : Type 0 where
  pub box : BoxId
  pub size : BoxSize
  pub given : List OutValue

-- one more output is given
abbrev pub with_given : SenderValue → OutValue → SenderValue
with_given s out = record s { given = s.given ++ out ∷ [] }

-- the box is cut
abbrev pub when_cut : SenderValue → SenderValue
when_cut s = record s { cut = true }

-- no ring
abbrev pub no_ring : RingId
no_ring = record { words = null_ptr; slots = null_ptr; names = (0, (0, 0)) }

-- a box that is cut and whose taker is gone
abbrev pub gone : SenderValue
gone = record { box = record { outputs = no_ring; credits = no_ring }; size = record { outputs = 0; bytes = 0 }; given = []; cut = true }

-- the box is cut now, or was before
abbrev pub CutsOff : SenderValue → SenderValue → Type 0
CutsOff old new = (new ≡ when_cut old) ⊎ (new ≡ gone)
