use Rattle.std.proofs.Common.{◌&&◌, ◌∙◌, ap, is_some, not, sym}
use Rattle.std.proofs.lemmas.Map.Text.{is_eq-slice_cmp}
use Rattle.std.specs.Str.{bytes_eq}
use Rattle.command_core.specs.Destinations.{is_queue}
use Rattle.broker_state.proofs.part_checks.queue_of.Goals as goal

pub returns-in-None : goal.returns-in-None
returns-in-None c =
    let destination = c.args.sub.now.destination in
    λ to. ap (λ o. not (is_some o) && is_queue destination && bytes_eq to destination) c.in-None.is ∙ ap (λ b. b && bytes_eq to destination) (sym c.is_queue.ensures ∙ c.if-is_queue.true) ∙ sym (is_eq-slice_cmp to destination)
