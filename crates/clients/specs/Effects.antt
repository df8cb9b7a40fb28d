-- What is done of what acts ask for.
use Rattle.std.specs.Prelude.{◌≡◌, ◌⊎◌, ◌∷◌, ℕ, List, []}
use Rattle.frame_core.specs.declared.frame.Frame.{Frame}
use Rattle.claim_core.specs.Counts.{Pair}
use Rattle.session_core.specs.declared.session.Act.{Act}
use Rattle.session_core.specs.declared.session.Act.TheVariants.{Do, Direct, Close}
use Rattle.clients.specs.Progress.{IsNext, after, asked, role_of}
use Rattle.clients.specs.declared.progress.Progress.{Progress}

-- A command was appended with its ticket; a frame was told at once; or a frame was not told, because the link was over.
pub data Effect : Type 0 where
  Said : Pair → Effect
  Told : Frame → Effect
  Untold : Frame → Effect

abbrev pub commands_of : List Effect → List Pair
commands_of [] = []
commands_of (Said p ∷ effects) = p ∷ commands_of effects
commands_of (Told frame ∷ effects) = commands_of effects
commands_of (Untold frame ∷ effects) = commands_of effects

abbrev pub told_of : List Effect → List Frame
told_of [] = []
told_of (Said p ∷ effects) = told_of effects
told_of (Told frame ∷ effects) = frame ∷ told_of effects
told_of (Untold frame ∷ effects) = told_of effects

abbrev pub untold_of : List Effect → List Frame
untold_of [] = []
untold_of (Said p ∷ effects) = untold_of effects
untold_of (Told frame ∷ effects) = untold_of effects
untold_of (Untold frame ∷ effects) = frame ∷ untold_of effects

-- what becomes of a frame that is to be told
abbrev pub Tells : Frame → Effect → Type 0
Tells frame effect = (effect ≡ Told frame) ⊎ (effect ≡ Untold frame)

-- What acts ask for is done by these effects, in their order, while a conversation comes from one progress to another. Each command is
-- appended, and each frame told, once. A command that may not be the next of the conversation is none of them, and a close is none.
abbrev pub Does : Progress → List Act → List Effect → Progress → Type 0
Does p [] effects q = (effects ≡ []) × (q ≡ p)
Does p (Do op receipt ∷ acts) effects q =
    ((ticket : ℕ) × (rest : List Effect) × (effects ≡ Said (ticket, asked p op receipt) ∷ rest) × IsNext p (asked p op receipt) × Does (after p (role_of op) ticket) acts rest q)
    ⊎ ((IsNext p (asked p op receipt) → ⊥) × Does p acts effects q)
Does p (Direct frame ∷ acts) effects q = (effect : Effect) × (rest : List Effect) × Tells frame effect × (effects ≡ effect ∷ rest) × Does p acts rest q
Does p (Close code ∷ acts) effects q = Does p acts effects q
