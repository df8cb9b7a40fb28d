-- Which subprotocol a handshake answers.
use Rattle.std.specs.Prelude.{List, [], ◌∷◌, ℕ, Bool, ◌==◌, ◌&&◌, ◌||◌, cond, if◌then◌else◌, codes, drop, length, nat_eq}
use Rattle.std.specs.List.{list_any, list_all, slice_split, starts_with}
use Rattle.ws_core.specs.declared.handshake.Choice.{Choice}
use Rattle.ws_core.specs.declared.handshake.Choice.TheVariants.{Stomp, Nothing, Refuse}

-- the items between commas
abbrev pub items_of : List ℕ → List (List ℕ)
items_of offer = slice_split (λ b. b == 44) offer

-- a blank or a tab
abbrev pub is_blank : ℕ → Bool
is_blank b = b == 32 || b == 9

-- without the blanks at the front
abbrev pub without_blanks : List ℕ → List ℕ
without_blanks [] = []
without_blanks (b ∷ text) = if is_blank b then without_blanks text else b ∷ text

-- blanks, `v12.stomp` and blanks
abbrev pub is_stomp : List ℕ → Bool
is_stomp item = starts_with nat_eq (without_blanks item) (codes "v12.stomp") && list_all is_blank (drop 9 (without_blanks item))

-- an offer with `v12.stomp` among its items (RFC 6455, sections 4.1 and 11.3.4)
unfoldable pub has_stomp : List ℕ → Bool
has_stomp offer = list_any is_stomp (items_of offer)

-- the answer to all offers of a request: `v12.stomp` if one has it, nothing if there is none
abbrev pub choice_of : List (List ℕ) → Choice
choice_of offers = cond (list_any has_stomp offers) Stomp (cond (length offers == 0) Nothing Refuse)
