use Rattle.std.proofs.Common.{◌≡◌, ◌∙◌, ap, rules, sym}
use Rattle.frame_core.specs.declared.frame.Frame.{Frame}
use Rattle.frame_core.specs.Written.{written}
use Rattle.command_core.proofs.ready.Ready.written.Goals as goal

pub returns-clause-bytes : goal.returns-clause-bytes
returns-clause-bytes c =
    let same : c.in_ok-bytes.bytes ≡ c.self.inside.wire = search rules in
    same ∙ (c.self.invariant.wire ∙ ap (λ (f : Frame). written f) c.self.view_is)
