-- What texts don't mean.
use Rattle.std.proofs.Common.{◌≡◌, ◌∙◌, ◌<◌, ◌≤◌, ◌^◌, List, [], ◌∷◌, ℕ, None, Option, Some, ap, arith, false, length, subst, sym}
use Rattle.client_core.specs.declared.peer.Address.{Address}
use Rattle.client_core.specs.declared.peer.Address.TheVariants.{Port, Url}
use Rattle.command_line.specs.Addresses.{IsAddress, is_url}
use Rattle.command_line.specs.CommandLines.{AskForMemory, AskForNew}
use Rattle.command_line.specs.Numbers.{IsNumber}
use Rattle.command_line.specs.Sizes.{IsSize}

-- what is no port, and no URL, is no address
pub no_place : (text : List ℕ) → ((port : ℕ) → IsNumber text port → 0 < port → 2 ^ 16 ≤ port) → is_url text ≡ false → (address : Address) → IsAddress text address → ⊥
no_place text large other (Port port) is = let most = large port is.0 is.1 in omega (arith, most, is.2)
no_place text large other (Url url) is = let yes = is.1 in absurd (cc (yes, other))

-- a text means one size
pub one_size : (text : List ℕ) (n m : ℕ) → IsSize text n → IsSize text m → n ≡ m
one_size text n m a b =
    let u : a.unit ≡ b.unit = let s = sym a.has_unit ∙ b.has_unit in cc in
    let c : a.count ≡ b.count = a.number.1 ∙ sym b.number.1 in
    cc (a.is, b.is, u, c)

-- if that is too small, it means none that isn't
pub too_small : (text : List ℕ) (number : ℕ) → IsSize text number → number < 16777216 → (n : ℕ) → IsSize text n → 16777216 ≤ n → 2 ^ 64 ≤ n
too_small text number is few n found least = let same = one_size text n number found is in absurd (omega (arith, same, few, least))

-- nor does the only text of some ask for memory then
pub no_memory : (texts : List (List ℕ)) (text : List ℕ) → texts ≡ text ∷ [] → ((n : ℕ) → IsSize text n → 16777216 ≤ n → 2 ^ 64 ≤ n) → (memory : Option ℕ) → AskForMemory texts memory → ⊥
no_memory texts text are large None asked = let l = ap length (sym are ∙ asked) in omega (arith, l)
no_memory texts text are large (Some n) asked =
    let e : text ∷ [] ≡ asked.0.0 ∷ [] = sym are ∙ asked.0.1 in
    let t : asked.0.0 ≡ text = cc in
    let most = large n (subst (λ x. IsSize x n) t asked.0.2) asked.1 in omega (arith, most, asked.2)

-- nor for a new journal, if it means no size
pub no_new : (texts : List (List ℕ)) (text : List ℕ) → texts ≡ text ∷ [] → ((n : ℕ) → IsSize text n → 2 ^ 64 ≤ n) → (new : Option ℕ) → AskForNew texts new → ⊥
no_new texts text are large None asked = let l = ap length (sym are ∙ asked) in omega (arith, l)
no_new texts text are large (Some n) asked =
    let e : text ∷ [] ≡ asked.0.0 ∷ [] = sym are ∙ asked.0.1 in
    let t : asked.0.0 ≡ text = cc in
    let most = large n (subst (λ x. IsSize x n) t asked.0.2) in omega (arith, most, asked.1)
