use Rattle.std.proofs.Common.{subst, ◌∙◌, ◌++◌, List}
use Rattle.command_core.specs.Outs.{OutValue}
use Rattle.outbox_core.specs.Giving.{AreGiven, Kept, unboxed}
use Rattle.flush_core.proofs.PublishedPortions.{gives_all, gives_none}
use Rattle.flush_core.proofs.outlet.Outlet.publish_portion.Goals as goal

pub returns-then-since-lt-COMMANDS-clause-gives : goal.returns-then-since-lt-COMMANDS-clause-gives
returns-then-since-lt-COMMANDS-clause-gives g c =
    let it = c.args.self.now in
    gives_none c.args.mark c.args.seat.now it.waiting.items it.boxes it.left.items c.requires.mark.0

pub returns-clause-gives : goal.returns-clause-gives
returns-clause-gives g c =
    let it = c.args.self.now in
    let new = c.give_portion.new.self in
    let room = c.make_room.ensures in
    gives_all c.args.mark c.args.seat.now c.raise.new.seat it.waiting.items new.waiting.items it.boxes new.boxes it.left.items new.left.items c.raise.ensures c.requires.mark.0 c.requires.under
    (subst (λ (z : List OutValue × Kept). AreGiven z.0 z.1 new.boxes) (λ i. ((room.outs.0 i).items, room.boxes i)) c.give_portion.ensures.given)
    c.give_portion.ensures.none.0
    (c.give_portion.ensures.left ∙ (λ i. room.outs.1 i ++ unboxed (room.boxes i) (room.outs.0 i).items))
