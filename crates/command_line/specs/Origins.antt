-- The origins of pages.
use Rattle.std.specs.Prelude.{List, [], ◌∷◌, ℕ, Bool, ◌==◌, ◌&&◌, ◌||◌, bytes_eq, codes, drop, if◌then◌else◌, length, nat_eq, nat_lt}
use Rattle.std.specs.List.{list_all, starts_with}

-- a lower-case letter or a digit
abbrev pub is_lower_or_digit : ℕ → Bool
is_lower_or_digit b = (nat_lt 96 b && nat_lt b 123) || (nat_lt 47 b && nat_lt b 58)

-- a byte of a scheme: a lower-case letter, a digit, or one of + - .
abbrev pub is_scheme_byte : ℕ → Bool
is_scheme_byte b = is_lower_or_digit b || b == 43 || b == 45 || b == 46

-- a byte of a host or its port: a lower-case letter, a digit, or one of - . : [ ] _
abbrev pub is_host_byte : ℕ → Bool
is_host_byte b = is_lower_or_digit b || b == 45 || b == 46 || b == 58 || b == 91 || b == 93 || b == 95

-- what follows the bytes of a scheme at the front
abbrev pub after_scheme : List ℕ → List ℕ
after_scheme [] = []
after_scheme (b ∷ text) = if is_scheme_byte b then after_scheme text else b ∷ text

-- it begins with `://`, and a host follows, perhaps with a port, and nothing else
abbrev pub names_host : List ℕ → Bool
names_host rest = starts_with nat_eq rest (codes "://") && nat_lt 3 (length rest) && list_all is_host_byte (drop 3 rest)

-- What a browser sends as the origin of a page (RFC 6454, section 6.2): `null`, or a scheme, `://`, and a host, perhaps with a port.
-- There is no path in it, no slash at its end, and no capital letter.
abbrev pub is_origin : List ℕ → Bool
is_origin text = bytes_eq text (codes "null") || (nat_lt (length (after_scheme text)) (length text) && names_host (after_scheme text))
