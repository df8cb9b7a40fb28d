use Rattle.std.proofs.Common.{arith, ap, length, ◌∙◌, ◌++◌, List}
use Rattle.outbox_core.proofs.Gifts.{left_few}
use Rattle.command_core.specs.Outs.{OutValue}
use Rattle.flush_core.proofs.outlet.Outlet.give_portion.Goals as goal

pub leave-requires : goal.leave-requires
leave-requires g c =
    let it = c.args.self.now in
    record {
      room = λ some. omega (
        arith,
        c.requires.room.behind some,
        left_few it.boxes it.waiting.items,
        ap (λ (l : List OutValue). length l) c.give_waiting.ensures.unboxed,
      );
    }

pub returns-clause-left : goal.returns-clause-left
returns-clause-left g c =
    let it = c.args.self.now in
    c.leave.ensures.left ∙ ap (λ (l : List OutValue). it.left.items ++ l) c.give_waiting.ensures.unboxed

pub give_waiting-requires-clause-none : goal.give_waiting-requires-clause-none
give_waiting-requires-clause-none g c = c.requires.room.none

pub give_waiting-requires-clause-room : goal.give_waiting-requires-clause-room
give_waiting-requires-clause-room g c = c.requires.room.beside
