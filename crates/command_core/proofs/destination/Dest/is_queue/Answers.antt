use Rattle.std.proofs.Common.{◌≡◌, ℕ, List, ap, ◌∙◌}
use Rattle.command_core.specs.Destinations.{is_queue}
use Rattle.command_core.proofs.destination.Dest.is_queue.Goals as goal

pub returns : goal.returns
returns c =
    let text : c.as_bytes.result.now ≡ c.args.self.now = c.as_bytes.ensures.value ∙ c.as_str.ensures ∙ c.self.view_is in
    c.starts_with.ensures.value ∙ ap (λ (t : List ℕ). is_queue t) text
