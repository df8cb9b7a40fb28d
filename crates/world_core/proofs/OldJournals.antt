-- The bytes of commands in one block.
use Rattle.std.proofs.Common.{◌≡◌, ◌==◌, ◌<◌, ◌+◌, false, ℕ, List, [], ◌∷◌, ◌++◌, get_or, length, take, sym, ◌∙◌, ap, subst}
use Rattle.std.specs.List.{AllByRecursion, flat_map}
use Rattle.std.proofs.lemmas.Grind.{flat_map-append}
use Rattle.std.proofs.lemmas.List.{append-nil, take_more}
use Rattle.command_core.specs.Commands.{CommandValue}
use Rattle.command_core.specs.Spellings.{record_of}
use Rattle.area_core.specs.Areas.{HasRecord, block, records}
use Rattle.area_core.proofs.Areas.{all_push}
use Rattle.world_core.specs.Schedules.{one_block}

module _ (commands : List CommandValue) (i : ℕ) (command : CommandValue) (within : i < length commands) (is : command ≡ get_or commands i command) where
  one_more : take (i + 1) commands ≡ take i commands ++ command ∷ []
  one_more = take_more commands i command within ∙ ap (λ (c : CommandValue). take i commands ++ c ∷ []) (sym is)

  pub records_more : (out spelling new : List ℕ) → out ≡ records (take i commands) → spelling ≡ record_of command → new ≡ out ++ spelling → new ≡ records (take (i + 1) commands)
  records_more out spelling new so_far spelled added =
      added
      ∙ (λ j. so_far j ++ spelled j)
      ∙ ap (λ (l : List ℕ). records (take i commands) ++ l) (sym (append-nil (record_of command)))
      ∙ sym (flat_map-append record_of (take i commands) (command ∷ []))
      ∙ ap records (sym one_more)

  pub forms_more : AllByRecursion HasRecord (take i commands) → HasRecord command → AllByRecursion HasRecord (take (i + 1) commands)
  forms_more each form = subst (λ (cs : List CommandValue). AllByRecursion HasRecord cs) (sym one_more) (all_push HasRecord (take i commands) command each form)

-- some commands are one block
pub block_of_some : (commands : List CommandValue) → false ≡ (length commands == 0) → flat_map block (one_block commands) ≡ block commands
block_of_some [] some = absurd (cc some)
block_of_some (c ∷ cs) some = append-nil (block (c ∷ cs))
