use Rattle.std.proofs.Common.{List, IfOk, IsOk, Result, arith, subst}
use Rattle.command_core.specs.Commands.{CommandValue}
use Rattle.claim_core.specs.Endings.{Ends}
use Rattle.claim_core.specs.Seats.{SessionSeatValue}
use Rattle.engine_core.proofs.Shown.{counted, seated}
use Rattle.engine_core.proofs.hub.end_ring.Goals as goal

pub close-requires : goal.close-requires
close-requires g c =
    let all_is = c.in-Ok.ensures.all in (
      omega arith,
      (
        omega arith,
        (
          c.requires.flusher,
          (
            seated c.args.ring c.args.own.items c.args.given.items c.in-Ok.all.items c.requires.own c.requires.given all_is,
            counted c.args.own.items c.args.given.items c.in-Ok.all.items c.args.seat.seats all_is c.requires.all,
          ),
        ),
      ),
    )

pub returns-in-Ok-clause-ends : goal.returns-in-Ok-clause-ends
returns-in-Ok-clause-ends g c =
    subst (λ (l : List SessionSeatValue). IfOk c.close.result (λ end. (history : List CommandValue) × Ends l c.args.seat history end)) c.in-Ok.ensures.all c.close.ensures.ended

pub returns-in-Err-clause-room : goal.returns-in-Err-clause-room
returns-in-Err-clause-room g c few =
    subst (λ (r : Result _ _). IsOk r) c.in-Err.is (c.join.ensures.room (omega (arith, few, c.requires.all)))
