use Rattle.std.proofs.Common.{◌∙◌, [], ◌∷◌, ◌++◌, ap, arith}
use Rattle.std.proofs.lemmas.List.{map_push}
use Rattle.area_core.specs.Areas.{commands}
use Rattle.world_core.specs.Parts.{value_of}
use Rattle.world_core.specs.Worlds.{WorldValue}
use Rattle.world_core.proofs.parts.Parts.put_claim.Goals as goal

pub note_claim-requires-clause-kept : goal.note_claim-requires-clause-kept
note_claim-requires-clause-kept c = c.requires.kept

pub note_claim-requires-clause-seat : goal.note_claim-requires-clause-seat
note_claim-requires-clause-seat c = c.requires.seat

pub push_reserved-requires : goal.push_reserved-requires
push_reserved-requires c = omega (arith, c.in-Ok.ensures.room)

pub returns-in-Ok-clause-ok : goal.returns-in-Ok-clause-ok
returns-in-Ok-clause-ok c r =
    let noted = c.note_claim.new.self in
    let longer = ap (λ es. commands es) c.push_reserved.ensures.items ∙ map_push (λ entry. entry.command) noted.history.items c.args.entry in
    (λ i. record (value_of noted) { history = longer i }) ∙ ap (λ (w : WorldValue). record w { history = w.history ++ c.args.entry.command ∷ [] }) c.in-Ok.ensures.ok

pub returns-in-Err-clause-err : goal.returns-in-Err-clause-err
returns-in-Err-clause-err c = c.in-Err.ensures.err
