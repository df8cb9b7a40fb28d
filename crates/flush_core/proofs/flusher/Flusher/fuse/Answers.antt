use Rattle.std.proofs.Common.{sym, subst, ◌∙◌, ◌≡◌}
use Rattle.recover_core.specs.Standing.{StandFor}
use Rattle.flush_core.specs.Batches.{IsBatch, state_at, block_bytes}
use Rattle.area_core.specs.Areas.{commands}
use Rattle.flush_core.specs.Flusher.{HoldBetween}
use Rattle.flush_core.proofs.flusher.Flusher.fuse.Goals as goal

pub invariant_of-result : goal.invariant_of-result
invariant_of-result g c =
    let it = c.self.inside in
    let kept = c.self.invariant.0 in
    let opening = it.opening.value.state in
    let same : c.fuse.result.disk.disk ≡ it.journal.disk = c.fuse.ensures.disk in (
      record {
        begun = kept.begun;
        marked = kept.marked;
        executed = kept.executed;
        stored = kept.stored;
        opened = kept.opened;
        sound = kept.sound;
        each = subst (λ (d : g.row.D.Denot). g.D.Disk.honest d → HoldBetween (g.D.Disk.images d) opening it.seat) (sym same) kept.each;
        under = kept.under;
        stopped = kept.stopped;
        running = λ whole. let run = kept.running whole in record {
          stands = subst (λ (d : g.row.D.Denot). g.D.Disk.honest d → StandFor (g.D.Disk.images d) (state_at opening it.seat it.stored)) (sym same) run.stands;
          broker = run.broker;
          brought = run.brought;
          waiting = run.waiting;
        };
      },
      λ whole. let held = c.self.invariant.1 whole in record {
        whole = c.fuse.ensures.whole ∙ held.whole;
        batch_is = held.batch_is;
        bytes_is = held.bytes_is;
        done_is = held.done_is;
        few = held.few;
        room_is = held.room_is;
      },
      c.self.invariant.2,
      λ w. subst (λ n. IsBatch g.W.Width.COMMANDS (block_bytes n g.W.Width.BYTES) (commands it.batch.items)) (sym c.fuse.ensures.size) (c.self.invariant.3 w),
      c.self.invariant.4,
    )
