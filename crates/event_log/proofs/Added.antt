-- What is added to an object, token by token.
use Rattle.std.proofs.Common.{◌≡◌, ◌∙◌, ◌++◌, List, Result, Ok, Err, OnOk, ap, append_assoc}
use Rattle.json.specs.Token.{Token}
use Rattle.json.specs.Written.{Written}
use Rattle.json_line.specs.Objects.{Adds}

-- members behind others
both : (old one two a b : List Token) → one ≡ old ++ a → two ≡ one ++ b → two ≡ old ++ (a ++ b)
both old one two a b first second = second ∙ ap (λ t. t ++ b) first ∙ append_assoc old a b

on_ok : {E : Type 0} (r : Result (Unit {0}) E) (P Q : Type 0) → OnOk r P → (P → Q) → OnOk r Q
on_ok (Ok _) P Q holds follows = follows holds
on_ok (Err _) P Q holds follows = tt

pub two_added : {E : Type 0} (r : Result (Unit {0}) E) (old mid new : Written) (a b : List Token)
    → (mid.before ≡ old.before) × (mid.tokens ≡ old.tokens ++ a) → Adds r mid new b → Adds r old new (a ++ b)
two_added r old mid new a b first second = (second.0 ∙ first.0, on_ok r _ _ second.1 (λ last. both _ _ _ _ _ first.1 last))
