-- What words give, one after another.
use Rattle.std.proofs.Common.{◌≡◌, ◌++◌, Bor, List, [], ◌∷◌, ℕ, None, Option, Some, ap, arith, drop, false, length, map, nat_eq, refl, subst, sym, true}
use Rattle.std.proofs.lemmas.Str.Pattern.{starts_text}
use Rattle.std.specs.List.{starts_with}
use Rattle.std.specs.Option.{IfSome, IsNone, MatchOption}
use Rattle.std.specs.Str.{IsCharBoundary}
use Rattle.std.specs.Str.Pattern.{FindsTextPrefix, StripsPrefix}

module _ {A B : Type 0} (f : A → B) where
  -- one more at the end of some, and one at the front of the rest
  pub pushed : (xs : List A) (x : A) (ys : List B) → map f (xs ++ x ∷ []) ++ ys ≡ map f xs ++ f x ∷ ys
  pushed [] x ys = refl
  pushed (z ∷ xs) x ys = ap (λ l. f z ∷ l) (pushed xs x ys)

-- what stripping an option off the front of a word leaves
pub stripped : (word option : List ℕ) (r : Option (Bor (List ℕ))) → MatchOption r (FindsTextPrefix option word None) (λ x. StripsPrefix (FindsTextPrefix option) word x.now) → IfSome r (λ x. (starts_with nat_eq word option ≡ true) × (x.now ≡ drop (length option) word))
stripped word option None found = tt
stripped word option (Some x) found =
    (sym (starts_text true option word (found.0, found.1, subst (λ n. IsCharBoundary word n) (sym found.1.0) found.1.2)), subst (λ n. x.now ≡ drop n word) found.1.0 found.2)

-- the word does not begin with an option that can't be stripped off it
pub not_stripped : (word option : List ℕ) (r : Option (Bor (List ℕ))) → MatchOption r (FindsTextPrefix option word None) (λ x. StripsPrefix (FindsTextPrefix option) word x.now) → IsNone r → starts_with nat_eq word option ≡ false
not_stripped word option None lacks none = sym (starts_text false option word lacks)
not_stripped word option (Some x) found none = absurd (grind (arith, none))
