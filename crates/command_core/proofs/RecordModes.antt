-- Kinds and modes in records.
use Rattle.std.proofs.Common.{◌≡◌, ◌<◌, ◌++◌, ◌∷◌, [], ℕ, Bool, true, false, cond, eqb, List, Option, Some, None, refl, subst}
use Rattle.std.proofs.lemmas.Bool.{eqb-true}
use Rattle.command_core.specs.declared.command.AckMode.{AckMode}
use Rattle.command_core.specs.declared.command.AckMode.TheVariants.{Auto, Client, ClientIndividual}
use Rattle.command_core.specs.PartSpellings.{AreBytes, mode_byte}
use Rattle.command_core.specs.PartReading.{byte_at, mode_at}
pub use Rattle.command_core.specs.Formats.{Always, mode_bytes}
use Rattle.command_core.proofs.Formats.{Takes, Format, first_takes, last_takes, byte}

chosen_by : {A : Type 0} (b k : ℕ) (t : Bool) (x y : Option A) (z : A) (P : Type 0) → eqb b k ≡ t → (b ≡ k → x ≡ Some z → P) → (y ≡ Some z → P) → cond t x y ≡ Some z → P
chosen_by b k true x y z P is when otherwise e = when (eqb-true b k is) e
chosen_by b k false x y z P is when otherwise e = otherwise e

-- what is read behind a kind, by whether it is that one
pub chosen : {A : Type 0} (b k : ℕ) (x y : Option A) (z : A) (P : Type 0) → (b ≡ k → x ≡ Some z → P) → (y ≡ Some z → P) → cond (eqb b k) x y ≡ Some z → P
chosen b k x y z P when otherwise e = chosen_by b k (eqb b k) x y z P refl when otherwise e

-- a kind that is read as that one
pub kind_is : (bytes rest : List ℕ) (b k : ℕ) → Takes bytes (b ∷ []) rest → b ≡ k → Takes bytes (k ∷ []) rest
kind_is bytes rest b k taken is = subst (λ (n : ℕ). Takes bytes (n ∷ []) rest) is taken

mode_takes : (bytes : List ℕ) (m : AckMode) (rest : List ℕ) → AreBytes bytes → mode_at bytes ≡ Some (m, rest) → Takes bytes (mode_bytes m) rest × Always m
unfolding mode_at
mode_takes bytes m rest fits e =
    let b = first_takes (λ (b : ℕ). b ∷ []) (λ b. b < 256) byte_at byte (λ mode. cond (eqb mode.0 0) (Some (Auto, mode.1)) (cond (eqb mode.0 1) (Some (Client, mode.1)) (cond (eqb mode.0 2) (Some (ClientIndividual, mode.1)) None))) bytes (m, rest) fits e in
    let P = Takes bytes (mode_bytes m) rest × Always m in
    chosen b.value 0 _ _ (m, rest) P (λ is e. last_takes mode_bytes Always bytes (Auto, b.rest) (m, rest) e (kind_is bytes b.rest b.value 0 b.taken is, tt))
    (chosen b.value 1 _ _ (m, rest) P (λ is e. last_takes mode_bytes Always bytes (Client, b.rest) (m, rest) e (kind_is bytes b.rest b.value 1 b.taken is, tt))
    (chosen b.value 2 _ _ (m, rest) P (λ is e. last_takes mode_bytes Always bytes (ClientIndividual, b.rest) (m, rest) e (kind_is bytes b.rest b.value 2 b.taken is, tt)) (λ e. absurd cc))) b.then

mode_again : (m : AckMode) (rest : List ℕ) → Always m → mode_at (mode_bytes m ++ rest) ≡ Some (m, rest)
unfolding mode_at
mode_again Auto rest form = refl
mode_again Client rest form = refl
mode_again ClientIndividual rest form = refl

pub mode_format : Format mode_bytes Always mode_at
mode_format = record { takes = mode_takes; again = mode_again }
