-- What a flusher's fields are, and what contracts see of them.
use Rattle.std.specs.Prelude.{◌≡◌, ◌++◌, ℕ, false, length, vec_capacity}
use Rattle.disk_core.specs.declared.disk.Disk.{Ghosts}
use Rattle.area_core.specs.Areas.{commands}
use Rattle.recover_core.specs.Stores.{disk_of, is_broken, size_of, used_of}
use Rattle.flush_core.specs.declared.flusher.Flusher.TheInside.{Inside}
use Rattle.flush_core.specs.Backlogs.{IsCounted}
use Rattle.flush_core.specs.Batches.{IsBatch, block_bytes}
use Rattle.flush_core.specs.Flusher.{Flushed, IsFlusher, IsHeld, IsSpare}

module _ {D B W : Type 0} {disk : Ghosts D} where
  -- the flusher that has these fields
  abbrev pub flushed_of : Inside D B W disk → Flushed D
  flushed_of a = record {
    disk = disk_of a.journal;
    size = size_of a.journal;
    used = used_of a.journal;
    seat = a.seat;
    opening = a.opening.value.state;
    stored = a.stored;
    executed = a.executed;
    brought = a.done.items ++ a.batch.items;
    broker = a.broker;
    boxes = a.outlet.boxes;
    ended = a.outlet.ended.items;
    past = a.outlet.past.items;
    waiting = a.outlet.waiting.items;
    left = a.outlet.left.items;
    broken = a.broken;
    last = record { won = a.won; since = a.since; counted = a.counted_from; block = a.block };
  }

  -- What the fields keep. The numbers of commands and of bytes are those that its width has for a block.
  abbrev pub Keeps : (most most_bytes : ℕ) → Inside D B W disk → Type 0
  Keeps most most_bytes a = IsFlusher disk.honest disk.images (flushed_of a)
      × (a.broken ≡ false → IsHeld a.seat a.stored a.executed (is_broken a.journal) a.batch.items a.done.items a.bytes (length a.outlet.left.items) (length a.outlet.waiting.items) (vec_capacity a.outlet.left))
      × (a.broken ≡ false → IsSpare (length a.outlet.spare.items) (length a.outlet.waiting.items) (vec_capacity a.outlet.spare))
      × (a.broken ≡ false → IsBatch most (block_bytes (size_of a.journal) most_bytes) (commands a.batch.items))
      × (a.broken ≡ false → IsCounted a.opening.value.state a.seat a.counted_from a.executed a.counted)
