use Rattle.std.proofs.Common.{◌≡◌, ◌+◌, ◌++◌, ◌∙◌, OnOk, arith, ap, length, string_bytes, subst, IfSome, Option, Some}
use Rattle.std.proofs.lemmas.Result.{on_ok_weaker}
use Rattle.std.specs.List.{flat_map}
use Rattle.disk_core.specs.Memory.{Memory}
use Rattle.broker_core.specs.States.{State}
use Rattle.broker_core.specs.Steps.{outs_of}
use Rattle.flush_core.proofs.TakenCommands.{count_after}
use Rattle.engine_core.specs.Journals.{JournalValue}
use Rattle.engine_core.specs.Placed.{commands_of}
use Rattle.engine_core.proofs.Placing.{commands_length}
use Rattle.engine_core.specs.Queues.{QueueOnDisk, flush_text, line_of_out}
use Rattle.engine_core.proofs.command_queue.CommandQueue.flush.Goals as goal

at_some : {X : Type 0} (P : X → Type 0) (o : Option X) (x : X) → o ≡ Some x → IfSome o P → P x
at_some {X} P o x is there = subst (λ (o : Option X). IfSome o P) is there

pub invariant_of-self : goal.invariant_of-self
invariant_of-self c = λ durable.
    let ws = c.replace-waiting.result.items in
    let made = at_some _ _ _ c.in-Ok-Some.field-0-is c.in-Ok-Some.ensures.records in
    let counted : c.print_outs.new.journal.state.count ≡ c.self.inside.journal.state.count + length (commands_of ws) =
    ap (λ (s : State). s.count) c.print_outs.ensures.same.0 ∙ ap (λ (j : JournalValue Memory). j.state.count) made.state ∙ count_after (commands_of ws) c.self.inside.journal.state in
    omega (arith, counted, commands_length ws, c.self.invariant c.in-Ok-Some.ensures.keeps.durable, ap (λ w. length w.items) c.replace-waiting.ensures.value, ap (λ w. length w.items) c.replace-waiting.ensures.after, ap length c.new.ensures.items)

pub returns-in-Ok-Some-clause-text : goal.returns-in-Ok-Some-clause-text
returns-in-Ok-Some-clause-text c =
    let inside = c.self.inside in
    let before = string_bytes c.args.text.now in
    let given = (at_some _ _ _ c.in-Ok-Some.field-0-is c.in-Ok-Some.ensures.records).outs_are in
    let outs = given ∙ ap (λ w. outs_of inside.journal.state (commands_of w.items)) c.replace-waiting.ensures.value in
    subst (λ (q : QueueOnDisk). OnOk c.print_outs.result (string_bytes c.print_outs.new.text ≡ before ++ flush_text q.queue)) c.self.view_is
    (on_ok_weaker c.print_outs.result (λ printed. printed ∙ ap (λ os. before ++ flat_map (line_of_out inside.openers.entries) os) outs) c.print_outs.ensures.text)
