use Rattle.std.proofs.Common.{Result, Ok, Err, IfOk}

-- what follows from a value holds where there is one
pub if_ok : {A E : Type 0} (P Q : A → Type 0) → ((x : A) → P x → Q x) → (r : Result A E) → IfOk r P → IfOk r Q
if_ok P Q follows (Ok x) holds = follows x holds
if_ok P Q follows (Err e) holds = tt
