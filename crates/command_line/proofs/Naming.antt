-- Headers that may be given.
use Rattle.std.proofs.Common.{◌≡◌, ◌++◌, List, [], ◌∷◌, ℕ, Bor, subst, sym}
use Rattle.std.specs.List.{AllByRecursion}
use Rattle.command_line.specs.Calls.{MayBeGiven}

abbrev MayStand : Bor (List ℕ) × Bor (List ℕ) → Type 0
MayStand header = MayBeGiven header.0.now

push : (headers : List (Bor (List ℕ) × Bor (List ℕ))) (header : Bor (List ℕ) × Bor (List ℕ)) → AllByRecursion MayStand headers → MayStand header → AllByRecursion MayStand (headers ++ header ∷ [])
push [] header all is = (is, tt)
push (h ∷ headers) header all is = (all.0, push headers header all.1 is)

-- one more
pub given_more : (headers more : List (Bor (List ℕ) × Bor (List ℕ))) (header : Bor (List ℕ) × Bor (List ℕ)) → more ≡ headers ++ header ∷ [] → AllByRecursion MayStand headers → MayStand header → AllByRecursion MayStand more
given_more headers more header are all is = subst (AllByRecursion MayStand) (sym are) (push headers header all is)
