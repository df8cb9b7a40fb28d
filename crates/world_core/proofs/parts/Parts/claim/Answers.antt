use Rattle.std.proofs.Common.{◌∙◌, refl, ap}
use Rattle.command_core.specs.Commands.{CommandValue}
use Rattle.world_core.specs.declared.event.Event.TheVariants.{Claim}
use Rattle.world_core.specs.Events.{CanClaim, MayClaim, after}
use Rattle.world_core.specs.Parts.{value_of}
use Rattle.world_core.proofs.Telling.{fails_where, holds_where, seat_there}
use Rattle.world_core.proofs.parts.Parts.claim.Goals as goal

pub returns-then-not-can_claim-clause-ok : goal.returns-then-not-can_claim-clause-ok
returns-then-not-can_claim-clause-ok c r x =
    (λ may. fails_where c.can_claim.result (CanClaim (value_of c.args.self.now) c.args.j) c.can_claim.ensures c.if-not-can_claim.true may.0, refl)

pub returns-then-not-can_claim-clause-err : goal.returns-then-not-can_claim-clause-err
returns-then-not-can_claim-clause-err c = tt

pub put_claim-requires-clause-kept : goal.put_claim-requires-clause-kept
put_claim-requires-clause-kept c = c.requires

pub put_claim-requires-clause-seat : goal.put_claim-requires-clause-seat
put_claim-requires-clause-seat c =
    let w = value_of c.args.self.now in
    seat_there (MayClaim w) w.seats c.args.j (holds_where c.can_claim.result (CanClaim w c.args.j) c.can_claim.ensures c.if-not-can_claim.false).1

pub returns-clause-err : goal.returns-clause-err
returns-clause-err c = tt

pub returns-clause-ok : goal.returns-clause-ok
returns-clause-ok c r x =
    let w = value_of c.args.self.now in (
      (holds_where c.can_claim.result (CanClaim w c.args.j) c.can_claim.ensures c.if-not-can_claim.false, c.in_ok-entry.ensures.form),
      c.in_ok-put_claim.ensures.ok r ∙ ap (λ (command : CommandValue). after w r (Claim c.args.j command)) c.in_ok-entry.ensures.command,
    )
