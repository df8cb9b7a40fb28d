-- The ends of an outbox by the ends of the two rings below.
use Rattle.std.specs.Prelude.{◌≡◌, ◌+◌, ◌≤◌, ℕ}
use Rattle.std.specs.List.{sum}
use Rattle.std.specs.declared.alloc.Global.{Global}
use Rattle.command_core.specs.Outs.{OutValue}
use Rattle.rtrb.specs.Ends.{capacity_of}
use Rattle.rtrb.specs.Ring.{consumer_capacity, producer_capacity, sent, received, known_items, all_sent}
use Rattle.rtrb.specs.declared.consumer.Consumer.{Consumer}
use Rattle.rtrb.specs.declared.end.End.{End}
use Rattle.rtrb.specs.declared.finished.Finished.{Finished}
use Rattle.rtrb.specs.declared.producer.Producer.{Producer}
use Rattle.outbox_core.specs.declared.sender.BoxSize.{BoxSize}
use Rattle.outbox_core.specs.Boxes.{BoxId, GivenValue, RingId, TakerValue}
use Rattle.outbox_core.specs.Weights.{weight}

abbrev pub ring_of : {T P : Type 0} → End T Global P → RingId
ring_of end = record { words = end.words; slots = end.slots; names = end.names }

module _ {P Q : Type 0} where
  abbrev pub box_of : End OutValue Global P → End ℕ Global Q → BoxId
  box_of outputs credits = record { outputs = ring_of outputs; credits = ring_of credits }

  abbrev pub open_value : Producer OutValue Global P → Consumer ℕ Global Q → BoxSize → GivenValue
  open_value outputs credits size = record { box = box_of outputs.end credits.end; size = size; given = sent outputs }

  abbrev pub finished_value : Finished OutValue Global P → Consumer ℕ Global Q → BoxSize → GivenValue
  finished_value outputs credits size = record { box = box_of outputs.end credits.end; size = size; given = all_sent outputs }

  abbrev pub taker_value : Consumer OutValue Global P → Producer ℕ Global Q → ℕ → TakerValue
  taker_value outputs credits bytes =
      record { box = box_of outputs.end credits.end; size = record { outputs = consumer_capacity outputs; bytes = bytes }; taken = received outputs; seen = known_items outputs }

  -- How many bytes of an open box are free. What was given and the free bytes are together no fewer than the box's bytes, and no more than
  -- these with all credits.
  pub record HasFree (outputs : Producer OutValue Global P) (credits : Consumer ℕ Global Q) (size : BoxSize) (free : ℕ) : Type 0 where
    pub places : producer_capacity outputs ≡ size.outputs
    pub part : free ≤ size.bytes
    pub least : size.bytes ≤ weight (sent outputs) + free
    pub most : weight (sent outputs) + free ≤ size.bytes + sum (received credits)

  -- what was given to a finished box is no more than its bytes with all credits
  pub record HadRoom (outputs : Finished OutValue Global P) (credits : Consumer ℕ Global Q) (size : BoxSize) : Type 0 where
    pub places : capacity_of outputs.end ≡ size.outputs
    pub most : weight (all_sent outputs) ≤ size.bytes + sum (received credits)

  -- what is credited and what is owed are together no more than was taken
  abbrev pub Owes : Consumer OutValue Global P → Producer ℕ Global Q → ℕ → Type 0
  Owes outputs credits owed = sum (sent credits) + owed ≤ weight (received outputs)
