-- Records read one behind the other.
use Rattle.std.proofs.Common.{◌≡◌, ◌≢◌, ◌<◌, ◌+◌, ◌==◌, false, ℕ, List, [], ◌∷◌, ◌++◌, length, take, drop, refl, sym, ◌∙◌, ap, subst, arith, length-drop, take-append-drop}
use Rattle.std.proofs.lemmas.List.{append-nil, length-take-le}
use Rattle.std.specs.List.{AllByRecursion}
use Rattle.command_core.specs.declared.decoding.DecodeFault.{DecodeFault}
use Rattle.command_core.specs.declared.decoding.DecodeFault.TheVariants.{NoSpelling, Memory}
use Rattle.command_core.specs.Commands.{CommandValue}
use Rattle.command_core.specs.Spellings.{record_of}
use Rattle.area_core.specs.Areas.{HasRecord, records}
use Rattle.area_core.specs.Damage.{IsNoRecordAt, IsRecordRead, IsRecordTold, told_of}
use Rattle.area_core.proofs.Areas.{all_push, flat_pushed}
use Rattle.area_core.proofs.Batches.{carried}
use Rattle.area_core.proofs.Single.{some_byte}

module _ (bytes rest : List ℕ) (size : ℕ) (old new : List CommandValue) (read : IsRecordRead rest size old new) where
  pub record_more : bytes ≡ records old ++ rest → bytes ≡ records new ++ drop size rest
  record_more whole =
      whole
      ∙ ap (λ (l : List ℕ). records old ++ l) (sym (take-append-drop size rest) ∙ ap (λ (l : List ℕ). l ++ drop size rest) read.spelled.spelled)
      ∙ sym (flat_pushed record_of old read.command (drop size rest))
      ∙ ap (λ (cs : List CommandValue). records cs ++ drop size rest) (sym read.added)

  pub each_more : AllByRecursion HasRecord old → AllByRecursion HasRecord new
  each_more each = subst (λ (cs : List CommandValue). AllByRecursion HasRecord cs) (sym read.added) (all_push HasRecord old read.command each (carried (take size rest) read.command read.spelled))

  pub less_left : length (drop size rest) < length rest
  less_left = omega (arith, read.within, length-drop size rest, length-take-le size rest read.within, ap (λ (l : List ℕ). length l) read.spelled.spelled, some_byte read.command)

pub no_rest : (rest : List ℕ) → length rest ≡ 0 → rest ≡ []
no_rest [] none = refl
no_rest (x ∷ rest) none = absurd (omega (arith, none))

pub some_rest : (rest : List ℕ) → false ≡ (length rest == 0) → rest ≢ []
some_rest [] more none = cc
some_rest (x ∷ rest) more none = cc

pub all_read : (bytes rest : List ℕ) (cs : List CommandValue) → length rest ≡ 0 → bytes ≡ records cs ++ rest → bytes ≡ records cs
all_read bytes rest cs none whole = whole ∙ ap (λ (l : List ℕ). records cs ++ l) (no_rest rest none) ∙ append-nil (records cs)

-- what is told is so
pub told_so : (fault : DecodeFault) (at place offset : ℕ) (bytes : List ℕ) → at ≡ place + offset → (fault ≡ NoSpelling → IsNoRecordAt bytes offset) → IsRecordTold (told_of fault at) place bytes
told_so NoSpelling at place offset bytes is none = (offset, is, none refl)
told_so (Memory refused) at place offset bytes is none = tt
