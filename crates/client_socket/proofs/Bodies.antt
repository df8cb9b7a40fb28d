-- A body is all that a stream has, if that is not too much. One byte more than a body may have is asked for.
use Rattle.std.proofs.Common.{◌≡◌, ◌∙◌, ◌≤◌, ◌++◌, List, [], ℕ, IfSome, None, Option, Some, ap, arith, length, subst, take}
use Rattle.std.specs.Option.{option_map}
use Rattle.std.proofs.lemmas.List.{length-take, take_all}

-- what was read is the front of all that there is
module _ {I : Type 0} (remaining : I → Option (List ℕ)) (inner input : I) (same : inner ≡ input) (limit : ℕ) (is : limit ≡ 65537) (old body : List ℕ) (empty : old ≡ []) where
  front : (all : Option (List ℕ)) → IfSome (option_map (take limit) all) (λ first. body ≡ old ++ first) → IfSome all (λ all. body ≡ take limit all)
  front None read = tt
  front (Some all) read = read ∙ ap (λ l. l ++ take limit all) empty

  whole : (all : Option (List ℕ)) → IfSome all (λ all. body ≡ take limit all) → length body ≤ 65536 → IfSome all (λ all. body ≡ all)
  whole None first few = tt
  whole (Some all) first few =
      let size = ap length first in
      let within : length all ≤ limit = omega (arith, size, length-take limit all, is, few) in
      first ∙ take_all limit all within

  pub all_of_it : IfSome (option_map (take limit) (remaining inner)) (λ first. body ≡ old ++ first) → length body ≤ 65536 → IfSome (remaining input) (λ all. body ≡ all)
  all_of_it read few = subst (λ i. IfSome (remaining i) (λ all. body ≡ all)) same (whole (remaining inner) (front (remaining inner) read) few)
