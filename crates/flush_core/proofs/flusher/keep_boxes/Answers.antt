use Rattle.std.proofs.Common.{arith, ap, length-append, sym, ◌∙◌, ◌++◌, ◌∷◌, []}
use Rattle.command_core.specs.Entries.{EntryValue}
use Rattle.outbox_core.specs.Boxes.{SenderValue}
use Rattle.flush_core.specs.Sessions.{opened}
use Rattle.flush_core.proofs.SessionBoxes.{boxes_entries}
use Rattle.flush_core.proofs.TakenCommands.{commands_more}
use Rattle.flush_core.proofs.flusher.keep_boxes.Goals as goal

pub loop-entry-preserved : goal.loop-entry-preserved
loop-entry-preserved g c =
    let so_far = c.loop-entry.yielded in
    let entry = c.in-Some.entry in
    let was = c.loop-entry.invariant in
    let is = c.into_parts-command.ensures in
    record {
      boxes = c.in_ok-boxed.ensures
          ∙ (ap (λ (e : EntryValue SenderValue). opened c.loop-entry.boxes c.loop-entry.number e) (sym is)
          ∙ ((λ i. opened (was.boxes i) (was.number i) entry) ∙ sym (boxes_entries so_far entry c.args.first c.args.boxes.now)));
      number = omega (arith, was.number, length-append so_far (entry ∷ []));
      kept = c.in_ok-push.ensures.items ∙ ((λ i. was.kept i ++ (sym is i).command ∷ []) ∙ sym (commands_more so_far entry));
    }
