use Rattle.std.specs.Prelude.{◌<◌, ◌≤◌, List, [], ◌∷◌, ℕ, Bool, not, IsTrue, filter, length, codes}
use Rattle.std.specs.List.{AllByRecursion, list_any}
use Rattle.std.specs.Str.{bytes_eq}
use Rattle.command_core.specs.Texts.{IsHeaderText}
use Rattle.command_core.specs.Destinations.{IsDestination}

-- the names of the headers that the broker has used up, or writes itself
abbrev pub own_names : List (List ℕ)
own_names =
    codes "destination" ∷ codes "receipt" ∷ codes "transaction" ∷ codes "content-length" ∷ codes "subscription" ∷ codes "message-id" ∷ codes "ack" ∷ []

-- whether a message keeps the headers of that name
abbrev pub is_kept : List ℕ → Bool
is_kept name = not (list_any (bytes_eq name) own_names)

-- the headers that a message keeps, in their order
abbrev pub kept_headers : List (List ℕ × List ℕ) → List (List ℕ × List ℕ)
kept_headers headers = filter (λ (h : List ℕ × List ℕ). is_kept h.0) headers

-- a header that a message keeps
pub record IsKept (h : List ℕ × List ℕ) : Type 0 where
  pub named : 0 < length h.0
  pub name : IsHeaderText h.0
  pub value : IsHeaderText h.1
  pub kept : IsTrue (is_kept h.0)

-- what is sent where
pub record SendingValue : Type 0 where
  pub destination : List ℕ
  pub headers : List (List ℕ × List ℕ)
  pub body : List ℕ

-- the form of what is sent: a valid destination, at most 64 kept headers, at most 65,536 bytes of body
pub record IsSending (s : SendingValue) : Type 0 where
  pub destination : IsDestination s.destination
  pub few : length s.headers ≤ 64
  pub each : AllByRecursion IsKept s.headers
  pub short : length s.body ≤ 65536
