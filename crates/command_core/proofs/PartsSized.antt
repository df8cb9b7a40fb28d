-- The sizes of the parts of records are those of their spellings.
use Rattle.std.proofs.Common.{◌≡◌, ◌+◌, ℕ, List, [], ◌∷◌, ◌++◌, Option, None, Some, length, flat_map, refl, length-append, arith}
use Rattle.std.specs.List.{sum_by}
use Rattle.std.proofs.lemmas.List.Sums.{sum_by-cons}
use Rattle.command_core.specs.Sendings.{SendingValue}
use Rattle.command_core.specs.PartSizes.{sending_size, headers_size, option_size, pair_size}
use Rattle.command_core.specs.PartSpellings as records

-- pieces one after the other
pub each_sized : {X : Type 0} (size : X → ℕ) (f : X → List ℕ) → ((x : X) → size x ≡ length (f x)) → (xs : List X) → sum_by size xs ≡ length (flat_map f xs)
each_sized size f same [] = refl
each_sized size f same (x ∷ xs) =
    let rest = each_sized size f same xs in
    let here = same x in
    omega (arith, sum_by-cons size x xs, length-append (f x) (flat_map f xs))

pub optional_sized : (text : Option (List ℕ)) → option_size text ≡ length (records.optional text)
optional_sized None = refl
optional_sized (Some text) = omega arith

-- a text before other bytes
pub before : (text more : List ℕ) → length (records.counted text ++ more) ≡ 4 + length text + length more
before text more = omega (arith, length-append text more)

pub pair_sized : (h : List ℕ × List ℕ) → pair_size h ≡ length (records.pair h)
pair_sized h = omega (arith, before h.0 (records.counted h.1))

pub headers_sized : (hs : List (List ℕ × List ℕ)) → headers_size hs ≡ length (records.headers hs)
headers_sized hs =
    let each = each_sized pair_size records.pair pair_sized hs in
    omega arith

pub sending_sized : (s : SendingValue) → sending_size s ≡ length (records.sending s)
sending_sized s =
    let within = headers_sized s.headers in
    let front = before s.destination (records.headers s.headers) in
    let whole : length (records.sending s) ≡ length (records.counted s.destination ++ records.headers s.headers) + length (records.counted s.body) = length-append (records.counted s.destination ++ records.headers s.headers) (records.counted s.body) in
    omega (arith, within, front, whole)
