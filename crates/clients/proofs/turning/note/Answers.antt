use Rattle.std.proofs.Common.{ap, refl, subst, sym}
use Rattle.clients.specs.Connections.{standing}
use Rattle.clients.specs.Histories.{HasTold}
use Rattle.clients.proofs.ConnectionLife.{gives_up, same_stage, sends_so}
use Rattle.clients.proofs.turning.note.Goals as goal

pub returns-in-Sent-clause-rest : goal.returns-in-Sent-clause-rest
returns-in-Sent-clause-rest c one = sends_so (standing one c.args.progress.now c.args.last_receipt c.args.stage.now) c.sent.new.progress c.sent.new.stage c.in-Sent.number c.in-Sent.verb (subst HasTold (sym c.requires) tt) c.sent.ensures

pub returns-in-Cut-clause-rest : goal.returns-in-Cut-clause-rest
returns-in-Cut-clause-rest c one =
    let was = standing one c.args.progress.now c.args.last_receipt c.args.stage.now in
    gives_up was _ (ap (λ x. record was { stage = x }) c.given_up.ensures)

pub returns-in-Waits-clause-rest : goal.returns-in-Waits-clause-rest
returns-in-Waits-clause-rest c one = same_stage _ _ refl
