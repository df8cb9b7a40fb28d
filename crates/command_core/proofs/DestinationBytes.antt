-- What holds of each byte that a destination may have.
use Rattle.std.proofs.Common.{◌≡◌, ◌≢◌, rules, zero, suc, ◌∷◌, ◌&&◌, ◌||◌, ◌⊎◌, [], Bool, false, true, List, ℕ, codes, drop, inl, inr, length, nat_eq, nat_le, refl, sym, subst}
use Rattle.std.specs.List.{AllByRecursion, list_all, starts_with}
use Rattle.std.proofs.lemmas.Bool.{and_parts}
use Rattle.std.proofs.lemmas.Bool.Decides.{Decides-eqb}
use Rattle.std.proofs.lemmas.Slice.Eq.{starts_is}
use Rattle.frame_core.proofs.Lists.{all_append}
use Rattle.frame_core.specs.Writable.{HasNoNul}
use Rattle.command_core.specs.Destinations.{IsDestination, is_destination_byte, is_name, is_queue, is_topic}

in_name : (P : ℕ → Type 0) → ((b : ℕ) → is_destination_byte b ≡ true → P b) → (name : List ℕ) → list_all is_destination_byte name ≡ true → AllByRecursion P name
in_name P may [] h = tt
in_name P may (b ∷ name) h =
    let p = and_parts (is_destination_byte b) (list_all is_destination_byte name) h in
    (may b p.0, in_name P may name p.1)

behind_prefix : (P : ℕ → Type 0) (p d : List ℕ) → AllByRecursion P p → starts_with nat_eq d p ≡ true → AllByRecursion P (drop (length p) d) → AllByRecursion P d
behind_prefix P p d plain starts rest = subst (AllByRecursion P) (sym ((starts_is Decides-eqb d p _ refl).0 starts)) (all_append P p _ plain rest)

either_true : (x y : Bool) → (x || y) ≡ true → (x ≡ true) ⊎ (y ≡ true)
either_true true y h = inl refl
either_true false y h = inr h

by_kind : (P : ℕ → Type 0) → AllByRecursion P (codes "/topic/") → AllByRecursion P (codes "/queue/") → (d : List ℕ) → (is_topic d ≡ true) ⊎ (is_queue d ≡ true) → AllByRecursion P (drop 7 d) → AllByRecursion P d
by_kind P topics queues d (inl topic) rest = behind_prefix P (codes "/topic/") d topics topic rest
by_kind P topics queues d (inr queue) rest = behind_prefix P (codes "/queue/") d queues queue rest

-- what holds of each byte that a name may have, and of the prefixes, holds of a destination
pub each_byte : (P : ℕ → Type 0) → ((b : ℕ) → is_destination_byte b ≡ true → P b) → AllByRecursion P (codes "/topic/") → AllByRecursion P (codes "/queue/") → (d : List ℕ) → IsDestination d → AllByRecursion P d
each_byte P may topics queues d h =
    let p = and_parts (is_topic d || is_queue d) (is_name (drop 7 d)) h.valid in
    let name = and_parts (nat_le 1 (length (drop 7 d)) && nat_le (length (drop 7 d)) 200) (list_all is_destination_byte (drop 7 d)) p.1 in
    by_kind P topics queues d (either_true (is_topic d) (is_queue d) p.0) (in_name P may (drop 7 d) name.1)

-- what may stand in a destination is no NUL
byte_is_no_nul : (b : ℕ) → is_destination_byte b ≡ true → b ≢ 0
byte_is_no_nul zero h = absurd cc
byte_is_no_nul (suc b) h = λ e. cc

pub dest_no_nul : (d : List ℕ) → IsDestination d → HasNoNul d
dest_no_nul d h = each_byte (λ b. b ≢ 0) byte_is_no_nul (search rules) (search rules) d h
