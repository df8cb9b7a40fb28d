-- A list with other elements written over it.
use Rattle.std.proofs.Common.{◌≡◌, ◌⊎◌, inl, inr, ℕ, ◌+◌, ◌-◌, ◌<◌, ◌≤◌, List, ◌++◌, length, get_or, take, drop, sym, ◌∙◌, ap, arith, append_assoc, length-append, length-drop}
use Rattle.std.proofs.lemmas.List.{length-take-le, drop-drop, get_or_append_left, get_or-append_right, get_or-take, get_or-drop}
use borrow.Rule.Slice.PartMut.{put_mid}
use Rattle.disk_core.specs.Images.{patched}

-- as a write to a part of a slice gives it
pub put_mid-patched : {X : Type 0} (a k : ℕ) (xs ys : List X) → length ys ≡ k → put_mid a k xs ys ≡ patched a ys xs
put_mid-patched {X} a k xs ys h =
    ap (λ (l : List X). take a xs ++ (ys ++ l)) (drop-drop k a xs ∙ ap (λ n. drop (a + n) xs) (sym h))
    ∙ sym (append_assoc (take a xs) ys (drop (a + length ys) xs))

pub front : {X : Type 0} (a : ℕ) (ys xs : List X) → a + length ys ≤ length xs → length (take a xs ++ ys) ≡ a + length ys
front a ys xs h = omega (arith, length-append (take a xs) ys, length-take-le a xs (omega arith))

pub length-patched : {X : Type 0} (a : ℕ) (ys xs : List X) → a + length ys ≤ length xs → length (patched a ys xs) ≡ length xs
length-patched a ys xs h = omega (arith, length-append (take a xs ++ ys) (drop (a + length ys) xs), front a ys xs h, length-drop (a + length ys) xs)

pub patched_in : {X : Type 0} (a : ℕ) (ys xs : List X) (i : ℕ) (d : X) → a + length ys ≤ length xs → a ≤ i → i < a + length ys → get_or (patched a ys xs) i d ≡ get_or ys (i - a) d
patched_in a ys xs i d h from to =
    let size = front a ys xs h in
    get_or_append_left (take a xs ++ ys) (drop (a + length ys) xs) d i (omega arith)
    ∙ get_or-append_right (take a xs) ys a i d (length-take-le a xs (omega arith)) from

patched_below : {X : Type 0} (a : ℕ) (ys xs : List X) (i : ℕ) (d : X) → a + length ys ≤ length xs → i < a → get_or (patched a ys xs) i d ≡ get_or xs i d
patched_below a ys xs i d h below =
    let size = front a ys xs h in
    let start = length-take-le a xs (omega arith) in
    get_or_append_left (take a xs ++ ys) (drop (a + length ys) xs) d i (omega arith)
    ∙ get_or_append_left (take a xs) ys d i (omega arith)
    ∙ get_or-take a xs i d below

patched_above : {X : Type 0} (a : ℕ) (ys xs : List X) (i : ℕ) (d : X) → a + length ys ≤ length xs → a + length ys ≤ i → get_or (patched a ys xs) i d ≡ get_or xs i d
patched_above a ys xs i d h above =
    let again : a + length ys + (i - (a + length ys)) ≡ i = omega arith in
    get_or-append_right (take a xs ++ ys) (drop (a + length ys) xs) (a + length ys) i d (front a ys xs h) above
    ∙ get_or-drop (a + length ys) xs (i - (a + length ys)) d
    ∙ ap (λ n. get_or xs n d) again

pub patched_out : {X : Type 0} (a : ℕ) (ys xs : List X) (i : ℕ) (d : X) → a + length ys ≤ length xs → (i < a) ⊎ (a + length ys ≤ i) → get_or (patched a ys xs) i d ≡ get_or xs i d
patched_out a ys xs i d h (inl below) = patched_below a ys xs i d h below
patched_out a ys xs i d h (inr above) = patched_above a ys xs i d h above
