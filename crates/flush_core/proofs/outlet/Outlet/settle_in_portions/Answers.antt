use Rattle.std.proofs.Common.{rules, arith, ap, length, length-append, subst, sym, ◌∙◌, ◌++◌, ◌∷◌, ◌+◌, ◌≡◌, [], ℕ, List}
use mathlib.Core.List.{map-id}
use Rattle.std.proofs.lemmas.Iterator.Consumers.{YieldsList-end, YieldsList-turn}
use Rattle.std.proofs.lemmas.Iterator.Adapters.{YieldsList-from_vec}
use Rattle.area_core.specs.Areas.{commands}
use Rattle.broker_core.specs.States.{BrokerValue}
use Rattle.claim_core.specs.Seats.{next_ticket}
use Rattle.command_core.specs.Commands.{CommandValue}
use Rattle.command_core.specs.Outs.{OutValue}
use Rattle.outbox_core.specs.Giving.{Kept, without}
use Rattle.flush_core.specs.FlusherCalls.{ExecutesInPortions, RaisesUpTo}
use Rattle.flush_core.specs.Sessions.{boxes_after, ended_by}
use Rattle.flush_core.proofs.PublishedPortions.{executes_given, executes_more, executes_none, raises_both, raises_further, raises_none, waits_under}
use Rattle.flush_core.proofs.TakenCommands.{count_after, length_commands}
use Rattle.flush_core.proofs.outlet.Outlet.settle_in_portions.Goals as goal

pub loop-command-init : goal.loop-command-init
loop-command-init g c =
    let it = c.args.self.now in
    let b = c.args.broker.now in
    let kept : Kept = without (boxes_after b.state.count it.boxes c.args.done.now.items) it.past.items in
    let go = c.let_past_go.ensures in
    let boxes : c.let_past_go.new.self.boxes ≡ kept = go.boxes ∙ ((λ i. without (c.in_ok-commands.ensures.boxes i) it.past.items) ∙ (λ i. without (boxes_after (c.count-first.ensures i) it.boxes c.args.done.now.items) it.past.items)) in
    record {
      did = subst (λ (z : List OutValue × (List ℕ × (Kept × List OutValue))). ExecutesInPortions [] b b it.waiting.items z.0 it.ended.items z.1.0 kept z.1.1.0 it.left.items z.1.1.1 0)
          (λ i. ((sym go.outs.0 i).items, ((sym go.ended i).items, (sym boxes i, (sym go.outs.1 i).items))))
          (executes_none b it.waiting.items it.ended.items kept it.left.items c.requires.ready.whole);
      raised = subst (λ (l : List OutValue). RaisesUpTo (b.state.count + 0) c.args.seat.now c.args.seat.now it.left.items l) (λ i. (sym go.outs.1 i).items)
          (raises_none (b.state.count + 0) c.args.seat.now it.left.items (omega (arith, c.requires.ready.marked)));
      past = go.past;
      none = (λ i. length (go.outs.2 i).items) ∙ c.requires.ready.none;
    }

pub publish_portion-requires-clause-mark : goal.publish_portion-requires-clause-mark
publish_portion-requires-clause-mark g c =
    let was = c.loop-command.invariant in
    let h = c.into_iter-command-iterator.ensures.into_iter_gives in
    let t = YieldsList-turn (YieldsList-from_vec {s = c.into_iter-command-iterator.result} c.in_ok-commands.commands.items h.0 (search rules)) c.loop-command.yielded c.loop-command.command-iterator c.loop-command.yielded_by c.next.result c.next.new.self c.in-Some.command c.in-Some.is c.next.ensures.steps in
    let number : c.loop-command.broker.state.count ≡ c.args.broker.now.state.count + length c.loop-command.yielded = ap (λ (b : BrokerValue). b.state.count) was.did.broker ∙ count_after c.loop-command.yielded c.args.broker.now.state in
    (omega (arith, c.count.ensures, number, was.raised.within), omega (arith, c.count.ensures, number, t.0, ap (λ (l : List CommandValue). length l) c.in_ok-commands.ensures.commands, length_commands c.args.done.now.items, c.requires.ready.taken, ap next_ticket was.raised.seat))

pub publish_portion-requires-clause-under : goal.publish_portion-requires-clause-under
publish_portion-requires-clause-under g c =
    let it = c.args.self.now in
    let kept : Kept = without (boxes_after c.args.broker.now.state.count it.boxes c.args.done.now.items) it.past.items in
    let now = c.loop-command.self in
    let did = c.loop-command.invariant.did in
    let number : c.loop-command.broker.state.count ≡ c.args.broker.now.state.count + length c.loop-command.yielded = ap (λ (b : BrokerValue). b.state.count) did.broker ∙ count_after c.loop-command.yielded c.args.broker.now.state in
    waits_under c.args.broker.now it.waiting.items it.ended.items kept it.left.items c.loop-command.yielded c.loop-command.broker now.waiting.items now.ended.items now.boxes now.left.items c.loop-command.many did
    c.count.result c.requires.ready.order c.requires.ready.under (omega (arith, c.count.ensures, number))

pub execute-requires-clause-whole : goal.execute-requires-clause-whole
execute-requires-clause-whole g c = ap (λ (b : BrokerValue). b.broken) c.loop-command.invariant.did.broker

pub execute-requires-clause-count : goal.execute-requires-clause-count
execute-requires-clause-count g c =
    let h = c.into_iter-command-iterator.ensures.into_iter_gives in
    let t = YieldsList-turn (YieldsList-from_vec {s = c.into_iter-command-iterator.result} c.in_ok-commands.commands.items h.0 (search rules)) c.loop-command.yielded c.loop-command.command-iterator c.loop-command.yielded_by c.next.result c.next.new.self c.in-Some.command c.in-Some.is c.next.ensures.steps in
    let number : c.loop-command.broker.state.count ≡ c.args.broker.now.state.count + length c.loop-command.yielded = ap (λ (b : BrokerValue). b.state.count) c.loop-command.invariant.did.broker ∙ count_after c.loop-command.yielded c.args.broker.now.state in
    omega (arith, number, t.0, ap (λ (l : List CommandValue). length l) c.in_ok-commands.ensures.commands, length_commands c.args.done.now.items, c.requires.ready.few)

pub returns-in_err-made-clause-raised : goal.returns-in_err-made-clause-raised
returns-in_err-made-clause-raised g c =
    let was = c.loop-command.invariant in
    let new = c.publish_portion.new in
    let h = c.into_iter-command-iterator.ensures.into_iter_gives in
    let t = YieldsList-turn (YieldsList-from_vec {s = c.into_iter-command-iterator.result} c.in_ok-commands.commands.items h.0 (search rules)) c.loop-command.yielded c.loop-command.command-iterator c.loop-command.yielded_by c.next.result c.next.new.self c.in-Some.command c.in-Some.is c.next.ensures.steps in
    let number : c.loop-command.broker.state.count ≡ c.args.broker.now.state.count + length c.loop-command.yielded = ap (λ (b : BrokerValue). b.state.count) was.did.broker ∙ count_after c.loop-command.yielded c.args.broker.now.state in
    let most : ℕ = c.args.broker.now.state.count + length c.args.done.now.items in
    let could = c.args.self.now.left.items in
    subst (λ (l : List OutValue). RaisesUpTo most c.args.seat.now new.seat could l) (λ i. (sym c.execute.ensures.same i).left.items)
    (raises_further c.count.result most c.args.seat.now new.seat could new.self.left.items (omega (arith, c.count.ensures, number, t.0, ap (λ (l : List CommandValue). length l) c.in_ok-commands.ensures.commands, length_commands c.args.done.now.items))
    (raises_both _ c.count.result c.args.seat.now c.loop-command.seat new.seat could c.loop-command.self.left.items new.self.left.items was.raised c.in-Ok.ensures.gives.raised))

pub loop-command-preserved : goal.loop-command-preserved
loop-command-preserved g c =
    let it = c.args.self.now in
    let kept : Kept = without (boxes_after c.args.broker.now.state.count it.boxes c.args.done.now.items) it.past.items in
    let was = c.loop-command.invariant in
    let now = c.loop-command.self in
    let b = c.loop-command.broker in
    let so_far = c.loop-command.yielded in
    let command = c.in-Some.command in
    let new = c.publish_portion.new in
    let end = c.execute.new in
    let gives = c.in-Ok.ensures.gives in
    let same = c.publish_portion.ensures.same in
    let stays = c.execute.ensures.same in
    let did = c.in_ok-made.ensures in
    let number : b.state.count ≡ c.args.broker.now.state.count + length so_far = ap (λ (b : BrokerValue). b.state.count) was.did.broker ∙ count_after so_far c.args.broker.now.state in
    let more = executes_more c.args.broker.now it.waiting.items it.ended.items kept it.left.items so_far b new.self.waiting.items now.ended.items new.self.boxes new.self.left.items c.loop-command.many
    (executes_given c.args.broker.now it.waiting.items it.ended.items kept it.left.items so_far b now.waiting.items now.ended.items now.boxes now.left.items c.loop-command.many was.did
    c.count.result c.loop-command.seat new.seat new.self.boxes new.self.waiting.items new.self.left.items gives)
    command end.broker end.self.waiting.items end.self.ended.items c.in_ok-made.made c.saturating_add-many.result
    did.done.broker did.done.outputs (did.done.ended_are ∙ (λ i. (same.0 i).items ++ ended_by b.state command)) did.many c.saturating_add-many.ensures in
    record {
      did = subst (λ (z : Kept × List OutValue). ExecutesInPortions (so_far ++ command ∷ []) c.args.broker.now end.broker it.waiting.items end.self.waiting.items it.ended.items end.self.ended.items kept z.0 it.left.items z.1 c.saturating_add-many.result)
          (λ i. ((sym stays i).boxes, (sym stays i).left.items)) more;
      raised = subst (λ (l : List OutValue). RaisesUpTo (c.args.broker.now.state.count + length (so_far ++ command ∷ [])) c.args.seat.now new.seat it.left.items l) (λ i. (sym stays i).left.items)
          (raises_further c.count.result (c.args.broker.now.state.count + length (so_far ++ command ∷ [])) c.args.seat.now new.seat it.left.items new.self.left.items (omega (arith, c.count.ensures, number, length-append so_far (command ∷ [])))
          (raises_both _ c.count.result c.args.seat.now c.loop-command.seat new.seat it.left.items now.left.items new.self.left.items was.raised gives.raised));
      past = (λ i. (stays i).past.items) ∙ ((λ i. (same.1 i).items) ∙ was.past);
      none = (λ i. length (stays i).spare.items) ∙ same.2;
    }

pub returns-clause-done : goal.returns-clause-done
returns-clause-done g c =
    let it = c.args.self.now in
    let b = c.args.broker.now in
    let kept : Kept = without (boxes_after b.state.count it.boxes c.args.done.now.items) it.past.items in
    let room = c.make_room.ensures in
    let h = c.into_iter-command-iterator.ensures.into_iter_gives in
    let t = YieldsList-end (YieldsList-from_vec {s = c.into_iter-command-iterator.result} c.in_ok-commands.commands.items h.0 (search rules)) c.loop-command.yielded c.loop-command.command-iterator c.loop-command.yielded_by c.next.result c.next.new.self c.in-None.is c.next.ensures.steps in
    let all : c.loop-command.yielded ≡ commands c.args.done.now.items = sym (map-id c.loop-command.yielded) ∙ (t.0 ∙ c.in_ok-commands.ensures.commands) in
    subst (λ (z : List CommandValue × (List OutValue × (List ℕ × (Kept × List OutValue)))). ExecutesInPortions z.0 b c.loop-command.broker it.waiting.items z.1.0 it.ended.items z.1.1.0 kept z.1.1.1.0 it.left.items z.1.1.1.1 c.loop-command.many)
    (λ i. (all i, ((sym room.outs.0 i).items, ((sym room.ended.0 i).items, (sym room.boxes i, sym room.outs.1 i)))))
    c.loop-command.invariant.did

pub returns-clause-raised : goal.returns-clause-raised
returns-clause-raised g c =
    let it = c.args.self.now in
    let h = c.into_iter-command-iterator.ensures.into_iter_gives in
    let t = YieldsList-end (YieldsList-from_vec {s = c.into_iter-command-iterator.result} c.in_ok-commands.commands.items h.0 (search rules)) c.loop-command.yielded c.loop-command.command-iterator c.loop-command.yielded_by c.next.result c.next.new.self c.in-None.is c.next.ensures.steps in
    let all : c.loop-command.yielded ≡ commands c.args.done.now.items = sym (map-id c.loop-command.yielded) ∙ (t.0 ∙ c.in_ok-commands.ensures.commands) in
    let number : length c.loop-command.yielded ≡ length c.args.done.now.items = omega (arith, ap (λ (l : List CommandValue). length l) all, length_commands c.args.done.now.items) in
    subst (λ (z : ℕ × List OutValue). RaisesUpTo (c.args.broker.now.state.count + z.0) c.args.seat.now c.loop-command.seat it.left.items z.1)
    (λ i. (number i, sym c.make_room.ensures.outs.1 i))
    c.loop-command.invariant.raised

pub returns-clause-room : goal.returns-clause-room
returns-clause-room g c = record {
  behind = c.in_ok-make_room.ensures.left;
  none = ap (λ (l : List OutValue). length l) c.make_room.ensures.outs.2 ∙ c.loop-command.invariant.none;
  beside = c.in_ok-make_room.ensures.spare;
}
