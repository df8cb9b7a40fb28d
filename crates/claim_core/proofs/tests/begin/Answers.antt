use Rattle.std.proofs.Common.{ap, ◌∙◌, ◌%◌, ◌∷◌, [], ◌++◌, None, Some}
use Rattle.claim_core.specs.declared.views.View.TheVariants.{Claims}
use Rattle.claim_core.specs.Steps.{claimer}
use Rattle.claim_core.specs.Seats.{claimer_from}
use Rattle.claim_core.proofs.tests.begin.Goals as goal

pub returns-clause-pending : goal.returns-clause-pending
returns-clause-pending c = let told = c.claim-ticket.ensures.told in let knows = c.into_table_seat-table_seat.ensures.knows in let new = c.requires.new in
    let view = (told.2 (claimer_from c.args.seat) (ap (λ m. m.0) knows)).0 ∙ (λ i. Claims (claimer (new.0 i ++ (c.claim-ticket.result, c.args.entry.now.command) ∷ []) (Some c.claim-ticket.result) (new.1 i) (new.2 i))) in
    let out = told.0 ∙ (λ i. (c.claim-ticket.result % c.ring.invariant.slots i, None) ∷ ap (λ m. m.1) knows i) in λ i. (view i, out i)
