use Rattle.std.proofs.Common.{◌∙◌, ap, sym, rules}
use Rattle.disk_core.specs.declared.memory.MemDisk.{MemDisk}
use Rattle.flush_core.specs.Flusher.{Flushed}
use Rattle.engine_core.proofs.Resting.{new_rest, new_seats}
use Rattle.engine_core.proofs.journal.with_ring.Goals as goal

pub invariant_of-result : goal.invariant_of-result
invariant_of-result c = λ whole.
    let made = c.new-in-Ok.ensures in
    new_rest c.in-Ok.ring c.in-Ok.seats.items c.new-in-Ok.result _ _ (new_seats c.in-Ok.ring _ c.in-Ok.seats.items c.in-Ok.ensures.seats)
    (ap (λ (f : Flushed MemDisk). f.seat) made ∙ c.in-Ok.ensures.flush) (ap (λ (f : Flushed MemDisk). f.broken) made)
    (ap (λ (f : Flushed MemDisk). f.stored) made ∙ sym (ap (λ (f : Flushed MemDisk). f.seat.base) made)) (ap (λ (f : Flushed MemDisk). f.executed) made ∙ sym (ap (λ (f : Flushed MemDisk). f.seat.base) made))
    (ap (λ (f : Flushed MemDisk). f.waiting) made) (ap (λ (f : Flushed MemDisk). f.left) made) (ap (λ (f : Flushed MemDisk). f.opening) made ∙ sym (ap (λ (f : Flushed MemDisk). f.broker.state) made))

pub new-requires-in-Ok-clause-count : goal.new-requires-in-Ok-clause-count
new-requires-in-Ok-clause-count c = search rules
