-- Facts of each element, at a place and up to a place.
use Rattle.std.proofs.Common.{◌≡◌, ◌<◌, ◌+◌, ℕ, suc, List, [], ◌∷◌, ◌++◌, length, take, get_or, flat_map, subst, sym, ap, ◌∙◌, append_assoc}
use Rattle.std.proofs.lemmas.List.{take_more, flat_map_more}
use Rattle.std.specs.List.{AllByRecursion}
use Rattle.std.proofs.lemmas.List.Elements.{All-from_recursion, All-more, recursion_from_All}
use Rattle.command_core.specs.PartSpellings.{AreBytes}

-- what holds of each holds of the one at a place
pub all_at : {X : Type 0} (P : X → Type 0) (xs : List X) (i : ℕ) (x : X) → i < length xs → x ≡ get_or xs i x → AllByRecursion P xs → P x
all_at P xs i x lt is each = subst P (sym is) (All-from_recursion P xs each i x lt)

-- and one more
pub all_more : {X : Type 0} (P : X → Type 0) (xs : List X) (i : ℕ) (x : X) → i < length xs → x ≡ get_or xs i x → AllByRecursion P (take i xs) → P x → AllByRecursion P (take (i + 1) xs)
all_more P xs i x lt is each here =
    recursion_from_All P _ (All-more P xs i x lt (All-from_recursion P (take i xs) each) (subst P is here))

pub bytes_are : (bytes : List ℕ) → ((i : ℕ) → get_or bytes i 0 < 256) → AreBytes bytes
bytes_are [] fits = tt
bytes_are (b ∷ bytes) fits = (fits 0, bytes_are bytes (λ i. fits (suc i)))

-- three put behind one another
pub put_three : (old one two now a b c : List ℕ) → one ≡ old ++ a → two ≡ one ++ b → now ≡ two ++ c → now ≡ old ++ (a ++ b ++ c)
put_three old one two now a b c p q r = r ∙ ap (λ bytes. bytes ++ c) (q ∙ ap (λ bytes. bytes ++ b) p ∙ append_assoc old a b) ∙ append_assoc old (a ++ b) c

-- what stands behind what was there, of the elements so far, and of one more
pub put_more : {X : Type 0} (f : X → List ℕ) (old head front now : List ℕ) (xs : List X) (i : ℕ) (x : X) → i < length xs → x ≡ get_or xs i x → front ≡ old ++ (head ++ flat_map f (take i xs)) → now ≡ front ++ f x
    → now ≡ old ++ (head ++ flat_map f (take (i + 1) xs))
put_more f old head front now xs i x lt is so_far put =
    let one : take (i + 1) xs ≡ take i xs ++ x ∷ [] = take_more xs i x lt ∙ ap (λ y. take i xs ++ y ∷ []) (sym is) in
    put ∙ ap (λ bytes. bytes ++ f x) so_far ∙ append_assoc old (head ++ flat_map f (take i xs)) (f x) ∙ ap (λ bytes. old ++ bytes) (flat_map_more f head (take i xs) x)
    ∙ ap (λ ys. old ++ (head ++ flat_map f ys)) (sym one)
