-- Where a server is, as words say it.
use Rattle.std.specs.Prelude.{◌≡◌, ◌<◌, ◌^◌, List, [], ◌∷◌, ℕ, Bool, ◌==◌, ◌&&◌, ◌||◌, codes, drop, if◌then◌else◌, length, nat_eq, nat_lt, not, true}
use Rattle.std.specs.List.{list_all, starts_with}
use Rattle.client_core.specs.declared.peer.Address.{Address}
use Rattle.client_core.specs.declared.peer.Address.TheVariants.{Port, Url}
use Rattle.command_line.specs.Numbers.{IsNumber}
use Rattle.command_line.specs.Origins.{is_host_byte}

-- what follows the bytes of a host and its port at the front
abbrev pub after_host : List ℕ → List ℕ
after_host [] = []
after_host (b ∷ text) = if is_host_byte b then after_host text else b ∷ text

-- printable ASCII, except what begins a fragment
abbrev pub is_path_byte : ℕ → Bool
is_path_byte b = nat_lt 32 b && nat_lt b 127 && not (b == 35)

-- nothing, or a slash and what may follow it
abbrev pub is_path : List ℕ → Bool
is_path text = length text == 0 || (starts_with nat_eq text (codes "/") && list_all is_path_byte (drop 1 text))

-- a host, perhaps with a port, and perhaps a path
abbrev pub names_place : List ℕ → Bool
names_place text = nat_lt (length (after_host text)) (length text) && is_path (after_host text)

-- `ws://HOST:PORT/PATH` (RFC 6455, section 3), with no capital letter before the path
abbrev pub is_url : List ℕ → Bool
is_url text = nat_lt 5 (length text) && starts_with nat_eq text (codes "ws://") && names_place (drop 5 text)

-- the text means a port of this machine, or it is a URL
abbrev pub IsAddress : List ℕ → Address → Type 0
IsAddress text (Port port) = IsNumber text port × (0 < port) × (port < 2 ^ 16)
IsAddress text (Url url) = (url.now ≡ text) × (is_url text ≡ true)
