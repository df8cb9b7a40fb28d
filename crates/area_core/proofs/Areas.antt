-- A block more in an area.
use Rattle.std.proofs.Common.{◌≡◌, ◌⊎◌, inl, inr, ℕ, ◌+◌, ◌<◌, ◌≤◌, ◌^◌, List, [], ◌∷◌, ◌++◌, length, refl, sym, ◌∙◌, ap, arith, append_assoc, length-append, take, drop, take-append-drop}
use Rattle.std.specs.Int.{w64, to_be_bytes}
use Rattle.std.specs.List.{AllByRecursion, flat_map}
use Rattle.std.proofs.lemmas.Bool.{cases_eq}
use Rattle.std.proofs.lemmas.List.{append-nil, drop_at, drop-drop}
use Rattle.command_core.specs.Commands.{CommandValue}
use Rattle.area_core.specs.declared.version.Version.{Version}
use Rattle.area_core.specs.Areas.{counted, closed, closed_snapshot, block, front, headed, records, word_of, IsBlock, IsArea}

pub all_push : {X : Type 0} (P : X → Type 0) (xs : List X) (x : X) → AllByRecursion P xs → P x → AllByRecursion P (xs ++ x ∷ [])
all_push P [] x all p = (p, tt)
all_push P (y ∷ xs) x all p = (all.0, all_push P xs x all.1 p)

pub flat_pushed : {X : Type 0} (f : X → List ℕ) (bs : List X) (b : X) (rest : List ℕ) → flat_map f (bs ++ b ∷ []) ++ rest ≡ flat_map f bs ++ (f b ++ rest)
flat_pushed f [] b rest = ap (λ (l : List ℕ). l ++ rest) (append-nil (f b))
flat_pushed f (x ∷ bs) b rest =
    append_assoc (f x) (flat_map f (bs ++ b ∷ [])) rest
    ∙ ap (λ (l : List ℕ). f x ++ l) (flat_pushed f bs b rest)
    ∙ sym (append_assoc (f x) (flat_map f bs) (f b ++ rest))

behind_flat : {X : Type 0} (f : X → List ℕ) (p : List ℕ) (bs : List X) (b : X) (rest : List ℕ) → (p ++ flat_map f (bs ++ b ∷ [])) ++ rest ≡ (p ++ flat_map f bs) ++ (f b ++ rest)
behind_flat f p bs b rest =
    append_assoc p (flat_map f (bs ++ b ∷ [])) rest
    ∙ ap (λ (l : List ℕ). p ++ l) (flat_pushed f bs b rest)
    ∙ sym (append_assoc p (flat_map f bs) (f b ++ rest))

pub pushed : (version : Version) (snapshot : List ℕ) (bs : List (List CommandValue)) (b : List CommandValue) (rest : List ℕ) → front version snapshot (bs ++ b ∷ []) ++ rest ≡ front version snapshot bs ++ (block b ++ rest)
pushed version snapshot bs b rest = behind_flat block (headed version snapshot) bs b rest

pub length-counted : (b : List ℕ) → length (counted b) ≡ 8 + length b
length-counted b = length-append (to_be_bytes w64 (length b)) b

pub length-headed : (version : Version) (snapshot : List ℕ) → length (headed version snapshot) ≡ 8 + length snapshot
length-headed version snapshot = length-append (to_be_bytes w64 (word_of version (length snapshot))) snapshot

pub length-sealed : (version : Version) (snapshot : List ℕ) → length (closed_snapshot version snapshot) ≡ 9 + length snapshot
length-sealed version snapshot = omega (arith, length-append (headed version snapshot) (0 ∷ []), length-headed version snapshot)

pub length-block : (b : List CommandValue) → length (block b) ≡ 9 + length (records b)
length-block b = omega (arith, length-counted (records b))

pub length-closed : (b : List ℕ) → length (closed b) ≡ 9 + length b
length-closed b = omega (arith, length-append (counted b) (0 ∷ []), length-counted b)

pub length-pushed : (version : Version) (snapshot : List ℕ) (bs : List (List CommandValue)) (b : List CommandValue) → length (front version snapshot (bs ++ b ∷ [])) ≡ length (front version snapshot bs) + (9 + length (records b))
length-pushed version snapshot bs b =
    ap (λ (l : List ℕ). length l) (sym (append-nil (front version snapshot (bs ++ b ∷ []))) ∙ pushed version snapshot bs b [] ∙ ap (λ (l : List ℕ). front version snapshot bs ++ l) (append-nil (block b)))
    ∙ length-append (front version snapshot bs) (block b)
    ∙ ap (λ (n : ℕ). length (front version snapshot bs) + n) (length-block b)

-- behind an open gate stand a block and a closed gate
pub opened : (version : Version) (snapshot : List ℕ) (bs : List (List CommandValue)) (b : List CommandValue) (rest : List ℕ) → front version snapshot bs ++ 1 ∷ (closed (records b) ++ rest) ≡ front version snapshot (bs ++ b ∷ []) ++ 0 ∷ rest
opened version snapshot bs b rest =
    ap (λ (l : List ℕ). front version snapshot bs ++ 1 ∷ l) (append_assoc (counted (records b)) (0 ∷ []) rest) ∙ sym (pushed version snapshot bs b (0 ∷ rest))

-- with this gate open the block is read too
pub with_block : (version : Version) (size : ℕ) (snapshot : List ℕ) (bs : List (List CommandValue)) (b : List CommandValue) (rest bytes : List ℕ) → length snapshot < 2 ^ 56 → AllByRecursion IsBlock bs → IsBlock b → length (front version snapshot bs) + 10 + length (records b) ≤ size
    → bytes ≡ front version snapshot bs ++ 1 ∷ (closed (records b) ++ rest) → IsArea version size snapshot (bs ++ b ∷ []) bytes
with_block version size snapshot bs b rest bytes seven each form room is = record {
  gate = 0;
  rest = rest;
  whole = is ∙ opened version snapshot bs b rest;
  shut = omega arith;
  fits = omega (arith, room, length-pushed version snapshot bs b);
  seven = seven;
  each = all_push IsBlock bs b each form;
}

-- whatever the gate is
pub with_gate : (version : Version) (size : ℕ) (snapshot : List ℕ) (bs : List (List CommandValue)) (b : List CommandValue) (rest bytes : List ℕ) (y : ℕ) → length snapshot < 2 ^ 56 → AllByRecursion IsBlock bs → IsBlock b → length (front version snapshot bs) + 10 + length (records b) ≤ size
    → bytes ≡ front version snapshot bs ++ y ∷ (closed (records b) ++ rest) → IsArea version size snapshot bs bytes ⊎ IsArea version size snapshot (bs ++ b ∷ []) bytes
with_gate version size snapshot bs b rest bytes y seven each form room is = elim (cases_eq y 1) [
  | inl open_gate ↦ inr (with_block version size snapshot bs b rest bytes seven each form room (is ∙ ap (λ (g : ℕ). front version snapshot bs ++ g ∷ (closed (records b) ++ rest)) open_gate))
  | inr shut ↦ inl (record { gate = y; rest = closed (records b) ++ rest; whole = is; shut = shut; fits = omega (arith, room); seven = seven; each = each })
]

-- a snapshot that was just written
pub fresh : (version : Version) (size : ℕ) (snapshot rest bytes : List ℕ) → length snapshot < 2 ^ 56 → length snapshot + 9 ≤ size → bytes ≡ closed_snapshot version snapshot ++ rest → IsArea version size snapshot [] bytes
fresh version size snapshot rest bytes seven room is =
    let no_blocks : front version snapshot [] ≡ headed version snapshot = append-nil (headed version snapshot) in
    record {
      gate = 0;
      rest = rest;
      whole = is ∙ append_assoc (headed version snapshot) (0 ∷ []) rest ∙ ap (λ (l : List ℕ). l ++ 0 ∷ rest) (sym no_blocks);
      shut = omega arith;
      fits = omega (arith, room, ap (λ (l : List ℕ). length l) no_blocks, length-headed version snapshot);
      seven = seven;
      each = tt;
    }

pub length-fresh : (version : Version) (snapshot : List ℕ) → length (front version snapshot []) ≡ 8 + length snapshot
length-fresh version snapshot = ap (λ (l : List ℕ). length l) (append-nil (headed version snapshot)) ∙ length-headed version snapshot

-- a block that was read in three parts: its gate, how many bytes, and these
pub block_read : (base gate : ℕ) (p rest content v : List ℕ) → drop base content ≡ p ++ rest → gate ≡ length p → take 1 (drop (base + gate) content) ≡ 1 ∷ []
    → take 8 (drop (base + gate + 1) content) ≡ to_be_bytes w64 (length v) → take (length v) (drop (base + gate + 9) content) ≡ v → rest ≡ 1 ∷ (counted v ++ drop (9 + length v) rest)
block_read base gate p rest content v whole at first second third =
    let from : (k : ℕ) → drop (base + gate + k) content ≡ drop k rest = λ k.
    let e : base + gate + k ≡ base + (length p + k) = omega (arith, at) in
    ap (λ (m : ℕ). drop m content) e ∙ sym (drop-drop (length p + k) base content) ∙ ap (λ (l : List ℕ). drop (length p + k) l) whole ∙ sym (drop-drop k (length p) (p ++ rest)) ∙ ap (λ (l : List ℕ). drop k l) (drop_at p rest (length p) refl) in
    let none : base + gate ≡ base + gate + 0 = omega arith in
    let one : take 1 rest ≡ 1 ∷ [] = sym (ap (λ (m : ℕ). take 1 (drop m content)) none ∙ ap (λ (l : List ℕ). take 1 l) (from 0)) ∙ first in
    let eight : take 8 (drop 1 rest) ≡ to_be_bytes w64 (length v) = sym (ap (λ (l : List ℕ). take 8 l) (from 1)) ∙ second in
    let others : take (length v) (drop 9 rest) ≡ v = sym (ap (λ (l : List ℕ). take (length v) l) (from 9)) ∙ third in
    sym (take-append-drop 1 rest)
    ∙ ap (λ (l : List ℕ). l ++ drop 1 rest) one
    ∙ ap (λ (l : List ℕ). 1 ∷ l) (sym (take-append-drop 8 (drop 1 rest)))
    ∙ ap (λ (l : List ℕ). 1 ∷ (l ++ drop 8 (drop 1 rest))) eight
    ∙ ap (λ (l : List ℕ). 1 ∷ (to_be_bytes w64 (length v) ++ l)) (drop-drop 8 1 rest ∙ sym (take-append-drop (length v) (drop 9 rest)))
    ∙ ap (λ (l : List ℕ). 1 ∷ (to_be_bytes w64 (length v) ++ (l ++ drop (length v) (drop 9 rest)))) others
    ∙ ap (λ (l : List ℕ). 1 ∷ (to_be_bytes w64 (length v) ++ (v ++ l))) (drop-drop (length v) 9 rest)
    ∙ ap (λ (l : List ℕ). 1 ∷ l) (sym (append_assoc (to_be_bytes w64 (length v)) v (drop (9 + length v) rest)))
