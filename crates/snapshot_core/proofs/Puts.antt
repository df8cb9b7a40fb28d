use Rattle.std.proofs.Common.{◌≡◌, ◌∙◌, ℕ, List, ◌++◌, Result, OnOk, ap, append_assoc}
use Rattle.std.proofs.lemmas.Result.{on_ok_weaker}

-- what stands behind what was there, once more stands behind it
pub then_put : (old p q mid now : List ℕ) → mid ≡ old ++ p → now ≡ mid ++ q → now ≡ old ++ (p ++ q)
then_put old p q mid now first put = put ∙ ap (λ bytes. bytes ++ q) first ∙ append_assoc old p q

pub last_put : {T E : Type 0} (r : Result T E) (old p q mid now : List ℕ) → mid ≡ old ++ p → OnOk r (now ≡ mid ++ q) → OnOk r (now ≡ old ++ (p ++ q))
last_put r old p q mid now first put = on_ok_weaker r (then_put old p q mid now first) put
