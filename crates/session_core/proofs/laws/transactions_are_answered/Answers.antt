use Rattle.std.proofs.Common.{◌≡◌, ◌∷◌, [], Some, Option, ℕ, ap, arith, refl, sym, codes}
use Rattle.std.proofs.lemmas.Fmt.{decimal_digit}
use Rattle.command_core.specs.declared.command.Member.TheVariants as members
use Rattle.session_core.specs.Numbers.{decimal_value}
use Rattle.session_core.specs.ReadFrames.{number_or_fault}
use Rattle.session_core.specs.Requests.{joins}
use Rattle.session_core.specs.Sessions.{Heard, answered}
use Rattle.session_core.proofs.Decimals.{has_value}
use Rattle.session_core.proofs.laws.transactions_are_answered.Goals as goal

seven : decimal_value (codes "7") ≡ Some 7
seven = has_value (codes "7") 7 (omega arith) (sym (decimal_digit 7 (omega arith)))

-- what is heard of the ACK, by the number that its id is
abbrev acked : Option ℕ → Heard
acked id = answered ((codes "t", []) ∷ []) (joins members.Ack (number_or_fault id) (Some (codes "t"))) (Some (codes "r"))

pub returns-clause-begins : goal.returns-clause-begins
returns-clause-begins c = refl

pub returns-clause-begun : goal.returns-clause-begun
returns-clause-begun c = refl

pub returns-clause-commits : goal.returns-clause-commits
returns-clause-commits c = refl

pub returns-clause-committed : goal.returns-clause-committed
returns-clause-committed c = refl

pub returns-clause-aborts : goal.returns-clause-aborts
returns-clause-aborts c = refl

pub returns-clause-joins : goal.returns-clause-joins
returns-clause-joins c = ap (λ (id : Option ℕ). (acked id).acts) seven

pub returns-clause-joined : goal.returns-clause-joined
returns-clause-joined c = ap (λ (id : Option ℕ). (acked id).phase) seven
