-- What is added to an object, token by token.
use Rattle.std.proofs.Common.{◌≡◌, ◌∙◌, ◌++◌, ◌∷◌, [], List, ℕ, ap, append_assoc}
use Rattle.json.specs.Token.{Token, begin_array, end_array, key}
use Rattle.json_line.specs.Objects.{list_member}

-- a list: its name and its beginning, its items, and its end
pub list_added : (old one two three items : List Token) (name : List ℕ) → one ≡ old ++ (key name ∷ begin_array ∷ []) → two ≡ one ++ items → three ≡ two ++ (end_array ∷ []) → three ≡ old ++ list_member name items
list_added old one two three items name first second third =
    third ∙ ap (λ t. t ++ (end_array ∷ [])) (second ∙ ap (λ t. t ++ items) first)
    ∙ append_assoc (old ++ (key name ∷ begin_array ∷ [])) items (end_array ∷ [])
    ∙ append_assoc old (key name ∷ begin_array ∷ []) (items ++ end_array ∷ [])

-- three groups of members, one behind the other
pub three_added : (old one two three a b d : List Token) → one ≡ old ++ a → two ≡ one ++ b → three ≡ two ++ d → three ≡ old ++ (a ++ (b ++ d))
three_added old one two three a b d first second third =
    third ∙ ap (λ t. t ++ d) (second ∙ ap (λ t. t ++ b) first) ∙ append_assoc (old ++ a) b d ∙ append_assoc old a (b ++ d)
