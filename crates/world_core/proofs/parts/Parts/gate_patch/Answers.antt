use Rattle.std.proofs.Common.{◌∙◌, ◌+◌, Bool, ap, arith}
use Rattle.area_core.specs.Journals.{start}
use Rattle.world_core.specs.Parts.{value_of}
use Rattle.world_core.proofs.Patching.{gate_patch_is}
use Rattle.world_core.proofs.parts.Parts.gate_patch.Goals as goal

pub returns : goal.returns
returns c =
    let begins = c.area_begins-begins.ensures.at ∙ ap (λ (b : Bool). start c.args.self.now.size b) c.is_second_live.ensures in
    gate_patch_is (value_of c.args.self.now) c.args.to c.in_ok-gate.gate (c.area_begins-begins.result + c.in_ok-gate.gate) c.in_ok-bytes.bytes.items c.in_ok-gate.ensures.is (omega (arith, begins)) c.in_ok-bytes.ensures.items
