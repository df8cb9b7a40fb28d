-- A journal of the first version is kept.
use Rattle.std.proofs.Common.{◌≡◌, List, ℕ, length, ◌∙◌, ap, arith}
use Rattle.world_core.specs.Parts.{value_of}
use Rattle.world_core.specs.Schedules.{FitsOld, old_area}
use Rattle.world_core.proofs.Answered.{old_is_kept}
use Rattle.world_core.proofs.world.World.new_v1.Goals as goal

pub invariant_of-result : goal.invariant_of-result
invariant_of-result c =
    let commands = c.args.commands.now in
    let bytes : c.in_ok-area.area.items ≡ old_area commands = c.in_ok-area.ensures.bytes in
    let fits : FitsOld c.args.area_bytes commands = record {
      each = c.in_ok-area.ensures.each;
      fits = omega (arith, c.if-len-area_bytes.false, c.len.ensures, c.requires.most, ap (λ (l : List ℕ). length l) bytes);
    } in
    old_is_kept c.args.area_bytes (value_of c.in_ok-parts.field-0) commands c.requires.least c.requires.most fits (c.in_ok-parts.ensures commands fits (c.deref.ensures.value ∙ bytes))
