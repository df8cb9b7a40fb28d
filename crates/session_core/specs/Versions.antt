use Rattle.std.specs.Prelude.{List, [], ◌∷◌, ℕ, Bool, ◌==◌, ◌&&◌, if◌then◌else◌, codes, drop, nat_eq}
use Rattle.std.specs.List.{list_any, list_all, slice_split, starts_with}

-- the items between commas
abbrev pub items_of : List ℕ → List (List ℕ)
items_of text = slice_split (λ b. b == 44) text

-- without the blanks at the front
abbrev pub without_blanks : List ℕ → List ℕ
without_blanks [] = []
without_blanks (b ∷ text) = if b == 32 then without_blanks text else b ∷ text

-- blanks, `1.2` and blanks
abbrev pub is_version : List ℕ → Bool
is_version item = starts_with nat_eq (without_blanks item) (codes "1.2") && list_all (λ b. b == 32) (drop 3 (without_blanks item))

-- an `accept-version` that has `1.2` among its items (STOMP 1.2, "Protocol Negotiation")
abbrev pub offers : List ℕ → Bool
offers text = list_any is_version (items_of text)
