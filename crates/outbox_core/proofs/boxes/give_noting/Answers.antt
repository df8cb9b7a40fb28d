use Rattle.std.proofs.Common.{◌∷◌, ◌∙◌, [], sym, subst}
use Rattle.outbox_core.specs.Boxes.{SenderValue}
use Rattle.outbox_core.specs.Giving.{IsGiven}
use Rattle.outbox_core.proofs.Gifts.{answered}
use Rattle.outbox_core.proofs.boxes.give_noting.Goals as goal

pub returns-then-was_cut : goal.returns-then-was_cut
returns-then-was_cut g c = answered c.put.result c.args.sender.now c.put.new.self c.args.out c.put.ensures.given c.put.ensures.full c.put.ensures.back

pub returns-then-not-note : goal.returns-then-not-note
returns-then-not-note g c =
    subst (λ (s : SenderValue). IsGiven (c.args.out ∷ []) c.args.sender.now s) (sym c.note.ensures)
    (answered c.put.result c.args.sender.now c.put.new.self c.args.out c.put.ensures.given c.put.ensures.full c.put.ensures.back)

pub returns-then-len-capacity : goal.returns-then-len-capacity
returns-then-len-capacity g c =
    subst (λ (s : SenderValue). IsGiven (c.args.out ∷ []) c.args.sender.now s) (sym (c.note_crowded.ensures ∙ c.note.ensures))
    (answered c.put.result c.args.sender.now c.put.new.self c.args.out c.put.ensures.given c.put.ensures.full c.put.ensures.back)

pub returns-else-len-capacity : goal.returns-else-len-capacity
returns-else-len-capacity g c =
    subst (λ (s : SenderValue). IsGiven (c.args.out ∷ []) c.args.sender.now s) (sym (c.note_crowded.ensures ∙ c.note.ensures))
    (answered c.put.result c.args.sender.now c.put.new.self c.args.out c.put.ensures.given c.put.ensures.full c.put.ensures.back)
