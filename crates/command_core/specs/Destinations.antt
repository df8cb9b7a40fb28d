use Rattle.std.specs.Prelude.{◌≡◌, ◌==◌, ◌&&◌, ◌||◌, List, ℕ, Bool, true, codes, drop, length, nat_eq, nat_le}
use Rattle.std.specs.List.{list_all, starts_with}

-- an ASCII letter, a digit, `.`, `-`, `_` or `/`
abbrev pub is_destination_byte : ℕ → Bool
is_destination_byte b =
    (nat_le 97 b && nat_le b 122) || (nat_le 65 b && nat_le b 90) || (nat_le 48 b && nat_le b 57) || (b == 46) || (b == 45) || (b == 95) || (b == 47)

-- 1 to 200 such bytes
abbrev pub is_name : List ℕ → Bool
is_name name = nat_le 1 (length name) && nat_le (length name) 200 && list_all is_destination_byte name

-- whether it is a topic's
abbrev pub is_topic : List ℕ → Bool
is_topic destination = starts_with nat_eq destination (codes "/topic/")

-- whether it is a queue's
abbrev pub is_queue : List ℕ → Bool
is_queue destination = starts_with nat_eq destination (codes "/queue/")

-- whether it is a valid destination: `/topic/` or `/queue/`, and a name
abbrev pub is_destination : List ℕ → Bool
is_destination destination = (is_topic destination || is_queue destination) && is_name (drop 7 destination)

-- a valid destination
pub record IsDestination (destination : List ℕ) : Type 0 where
  pub valid : is_destination destination ≡ true
