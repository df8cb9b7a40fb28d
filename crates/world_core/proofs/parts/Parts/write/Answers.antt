use Rattle.std.proofs.Common.{◌∙◌, length, ℕ, List, ap, arith}
use Rattle.world_core.specs.Calls.{patch, with_disk, wrote}
use Rattle.world_core.specs.Parts.{value_of}
use Rattle.world_core.proofs.Calling.{fits_there, found_patch, wrote_it, wrote_nothing}
use Rattle.world_core.proofs.parts.Parts.write.Goals as goal

pub returns-in_default-clause-ok : goal.returns-in_default-clause-ok
returns-in_default-clause-ok c = wrote_nothing (value_of c.args.self.now) c.args.ok c.args.to (c.in_ok-patch.ensures.none c.in_default.is)

pub put-requires-clause-within : goal.put-requires-clause-within
put-requires-clause-within c =
    let w = value_of c.args.self.now in
    let is = found_patch c.in_ok-patch.field-0 c.in-Some.patch w c.args.to c.in-Some.is c.in_ok-patch.ensures.some in
    omega (arith, fits_there w c.requires.kept c.args.to c.in-Some.patch.at c.in-Some.patch.bytes.items c.requires.due is, ap (λ (l : List ℕ). length l) c.deref.ensures.value)

pub returns-clause-ok : goal.returns-clause-ok
returns-clause-ok c =
    let w = value_of c.args.self.now in
    let p = c.in-Some.patch in
    let is = found_patch c.in_ok-patch.field-0 p w c.args.to c.in-Some.is c.in_ok-patch.ensures.some in
    wrote_it w (value_of c.put.new.self) c.args.ok c.args.to p.at p.bytes.items is (c.put.ensures ∙ ap (λ (l : List ℕ). with_disk w (wrote w.disk (patch p.at l))) c.deref.ensures.value)
