-- Pieces of a snapshot, one behind the other.
use Rattle.std.proofs.Common.{◌≡◌, ℕ, ◌+◌, ◌-◌, ◌<◌, ◌≤◌, ◌^◌, List, [], ◌++◌, length, take, drop, sym, ◌∙◌, ap, arith, length-append, length-drop, take-append-drop}
use Rattle.std.proofs.lemmas.List.{take_at, length-take-le}
use Rattle.std.proofs.Math.Seq.{take-add, take-length}
use Rattle.disk_core.specs.Images.{Torn, patched}
use Rattle.disk_core.proofs.Torn.{drop_after, take_before}
use Rattle.area_core.specs.declared.version.Version.TheVariants.{Two}
use Rattle.area_core.specs.Areas.{IsArea, closed_snapshot}
use Rattle.area_core.proofs.Areas.{fresh}
use Rattle.area_core.proofs.Ranges.{patched_from}

pub torn_back : (at n : ℕ) (d c : List ℕ) → Torn at n d c → Torn at n c d
torn_back at n d c torn = record { size = sym torn.size; before = sym torn.before; after = sym torn.after }

pub torn_on : (at n : ℕ) (a b c : List ℕ) → Torn at n a b → Torn at n b c → Torn at n a c
torn_on at n a b c first second = record { size = second.size ∙ first.size; before = second.before ∙ first.before; after = second.after ∙ first.after }

-- what is torn within a range is torn there
pub torn_within : (base from n m : ℕ) (d c : List ℕ) → from + n ≤ m → Torn (base + from) n d c → Torn base m d c
torn_within base from n m d c le torn = record {
  size = torn.size;
  before = take_before (base + from) n base d c torn (omega arith);
  after = drop_after (base + from) n (base + m) d c torn (omega (arith, le));
}

pub piece_size : (from to : ℕ) (bytes : List ℕ) → from ≤ to → to ≤ length bytes → length (take (to - from) (drop from bytes)) ≡ to - from
piece_size from to bytes le most = length-take-le (to - from) (drop from bytes) (omega (arith, length-drop from bytes, le, most))

-- where the first bytes stand, and the next are written behind them, they all do
pub piece_there : (base from to : ℕ) (bytes content : List ℕ) → from ≤ to → to ≤ length bytes → base + to ≤ length content → take from (drop base content) ≡ take from bytes
    → take to (drop base (patched (base + from) (take (to - from) (drop from bytes)) content)) ≡ take to bytes
piece_there base from to bytes content le most fits there =
    let part = take (to - from) (drop from bytes) in
    let l = drop base content in
    let size = piece_size from to bytes le most in
    let moved : drop base (patched (base + from) part content) ≡ patched from part l = patched_from base from part content (omega (arith, le, fits)) in
    let front : length (take from l ++ part) ≡ to =
    length-append (take from l) part ∙ omega (arith, size, length-take-le from l (omega (arith, length-drop base content, le, fits)), le) in
    let back : from + (to - from) ≡ to = omega (arith, le) in
    ap (λ (x : List ℕ). take to x) moved
    ∙ take_at (take from l ++ part) (drop (from + length part) l) to front
    ∙ ap (λ (x : List ℕ). x ++ part) there
    ∙ sym (take-add from (to - from) bytes)
    ∙ ap (λ (n : ℕ). take n bytes) back

-- once all of it stands there, it is the area's
pub all_there : (size all : ℕ) (next l : List ℕ) → length next < 2 ^ 56 → length next + 9 ≤ size → all ≡ length (closed_snapshot Two next) → take all l ≡ take all (closed_snapshot Two next) → IsArea Two size next [] l
all_there size all next l seven room whole there =
    let is : take all l ≡ closed_snapshot Two next = there ∙ ap (λ (n : ℕ). take n (closed_snapshot Two next)) whole ∙ take-length (closed_snapshot Two next) in
    fresh Two size next (drop all l) l seven room (sym (take-append-drop all l) ∙ ap (λ (x : List ℕ). x ++ drop all l) is)
