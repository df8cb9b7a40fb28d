use Rattle.std.proofs.Common.{◌∙◌, ◌-◌, ℕ, List, ap, arith, drop, length, take}
use Rattle.world_core.specs.Calls.{done_at}
use Rattle.world_core.specs.Parts.{value_of}
use Rattle.world_core.proofs.Patching.{copy_bytes_of, copy_is, here}
use Rattle.world_core.proofs.parts.Parts.copy_patch.Goals as goal

pub returns-clause-some : goal.returns-clause-some
returns-clause-some c =
    let w = value_of c.args.self.now in
    let bytes = copy_bytes_of c.in_ok-bytes.field-0 c.in-Some.bytes c.args.self.now.size c.args.self.now.content.items c.in-Some.is c.in_ok-bytes.ensures.some in
    copy_is w c.args.done c.args.all c.in_ok-patch.field-0.at c.in-Some.bytes.items c.in_ok-patch.field-0.bytes.items bytes c.in_ok-patch.ensures.at
    (c.in_ok-patch.ensures.bytes ∙ ap (λ (l : List ℕ). take (c.args.done - done_at w.place) (drop (done_at w.place) l)) c.deref.ensures.value)

pub piece-patch-requires-clause-there : goal.piece-patch-requires-clause-there
piece-patch-requires-clause-there c =
    let x = here (value_of c.args.self.now) c.requires.kept in
    let bytes = copy_bytes_of c.in_ok-bytes.field-0 c.in-Some.bytes c.args.self.now.size c.args.self.now.content.items c.in-Some.is c.in_ok-bytes.ensures.some x.reading x.is_read in
    let due = c.requires.due x.reading x.is_read in
    (due.0, omega (arith, due.1, ap (λ (l : List ℕ). length l) (c.deref.ensures.value ∙ bytes.1)))
