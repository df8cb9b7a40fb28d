use Rattle.std.proofs.Common.{arith}
use Rattle.std.proofs.lemmas.Bool.Decides.{nat_tests}
use Rattle.broker_state.proofs.part_checks.names_are_few.Goals as goal

pub returns : goal.returns
returns c =
    let len = c.len.ensures.len in
    (λ yes. grind (arith, nat_tests), λ few. grind (arith, nat_tests))
