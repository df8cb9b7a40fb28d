use Rattle.std.proofs.Common.{rules, arith, false, ap, length, sym, refl, ◌∙◌, ◌++◌, ◌≡◌, ℕ, List}
use mathlib.Core.List.{map-id}
use Rattle.std.proofs.lemmas.Iterator.Consumers.{YieldsList-end, YieldsList-turn}
use Rattle.std.proofs.lemmas.List.{append-nil, append_assoc}
use Rattle.std.proofs.lemmas.Iterator.Adapters.{YieldsList-from_vec}
use Rattle.area_core.specs.Areas.{commands}
use Rattle.broker_core.specs.States.{BrokerValue, State}
use Rattle.command_core.specs.Commands.{CommandValue}
use Rattle.command_core.specs.Outs.{OutValue}
use Rattle.broker_core.specs.Steps.{outs, outs_of, state_after, step}
use Rattle.flush_core.specs.Sessions.{boxes_after, ended_by, ended_of}
use Rattle.flush_core.proofs.SessionBoxes.{ended_commands}
use Rattle.flush_core.proofs.TakenCommands.{count_after, length_commands, outs_commands, state_commands}
use Rattle.flush_core.proofs.outlet.Outlet.execute_all.Goals as goal

pub loop-command-init : goal.loop-command-init
loop-command-init g c =
    let it = c.args.self.now in
    record {
      did = record {
        broker = λ i. record { state = c.args.broker.now.state; broken = c.requires.whole i };
        outs = sym (append-nil it.waiting.items);
        ended_are = sym (append-nil it.ended.items);
      };
      boxes = c.in_ok-commands.ensures.boxes ∙ (λ i. boxes_after (c.count-first.ensures i) it.boxes c.args.done.now.items);
      past = refl;
      left = refl;
      none = c.requires.none;
    }

pub execute-requires-clause-whole : goal.execute-requires-clause-whole
execute-requires-clause-whole g c = ap (λ (b : BrokerValue). b.broken) c.loop-command.invariant.did.broker

pub execute-requires-clause-count : goal.execute-requires-clause-count
execute-requires-clause-count g c =
    let h = c.into_iter-command-iterator.ensures.into_iter_gives in
    let t = YieldsList-turn (YieldsList-from_vec {s = c.into_iter-command-iterator.result} c.in_ok-commands.commands.items h.0 (search rules)) c.loop-command.yielded c.loop-command.command-iterator c.loop-command.yielded_by c.next.result c.next.new.self c.in-Some.command c.in-Some.is c.next.ensures.steps in
    let number : c.loop-command.broker.state.count ≡ (state_after c.args.broker.now.state c.loop-command.yielded).count = ap (λ (b : BrokerValue). b.state.count) c.loop-command.invariant.did.broker in
    omega (arith, number, count_after c.loop-command.yielded c.args.broker.now.state, t.0, ap (λ (l : List CommandValue). length l) c.in_ok-commands.ensures.commands, length_commands c.args.done.now.items, c.requires.count)

pub loop-command-preserved : goal.loop-command-preserved
loop-command-preserved g c =
    let it = c.args.self.now in
    let before = c.args.broker.now.state in
    let so_far = c.loop-command.yielded in
    let command = c.in-Some.command in
    let inv = c.loop-command.invariant in
    let was : c.loop-command.broker.state ≡ state_after before so_far = ap (λ (b : BrokerValue). b.state) inv.did.broker in
    let did = c.in_ok-execute.ensures.done in
    let same = c.execute.ensures.same in
    record {
      did = record {
        broker = did.broker ∙ ap (λ (s : State). record { state = s; broken = false }) (ap (λ (s : State). step s command) was ∙ sym (state_commands so_far before command));
        outs = did.outputs
            ∙ ((λ i. inv.did.outs i ++ outs (was i) command)
            ∙ (append_assoc it.waiting.items (outs_of before so_far) (outs (state_after before so_far) command)
            ∙ ap (λ (l : List OutValue). it.waiting.items ++ l) (sym (outs_commands so_far before command))));
        ended_are = did.ended_are
            ∙ ((λ i. inv.did.ended_are i ++ ended_by (was i) command)
            ∙ (append_assoc it.ended.items (ended_of before so_far) (ended_by (state_after before so_far) command)
            ∙ ap (λ (l : List ℕ). it.ended.items ++ l) (sym (ended_commands so_far before command))));
      };
      boxes = (λ i. (same i).boxes) ∙ inv.boxes;
      past = (λ i. (same i).past) ∙ inv.past;
      left = (λ i. (same i).left) ∙ inv.left;
      none = (λ i. length (same i).spare.items) ∙ inv.none;
    }

pub returns-in_err-execute-clause-same : goal.returns-in_err-execute-clause-same
returns-in_err-execute-clause-same g c =
    let inv = c.loop-command.invariant in
    let same = c.execute.ensures.same in
    (c.keep_boxes.ensures.none, (λ i. (same i).past) ∙ inv.past, (λ i. (same i).left.items) ∙ (λ i. (inv.left i).items))

pub returns-in_err-make_room-clause-same : goal.returns-in_err-make_room-clause-same
returns-in_err-make_room-clause-same g c =
    let inv = c.loop-command.invariant in
    (c.keep_boxes.ensures.none, c.make_room.ensures.ended.1 ∙ inv.past, c.make_room.ensures.outs.1 ∙ (λ i. (inv.left i).items))

pub returns-clause-done : goal.returns-clause-done
returns-clause-done g c =
    let it = c.args.self.now in
    let before = c.args.broker.now.state in
    let did = c.loop-command.invariant.did in
    let h = c.into_iter-command-iterator.ensures.into_iter_gives in
    let t = YieldsList-end (YieldsList-from_vec {s = c.into_iter-command-iterator.result} c.in_ok-commands.commands.items h.0 (search rules)) c.loop-command.yielded c.loop-command.command-iterator c.loop-command.yielded_by c.next.result c.next.new.self c.in-None.is c.next.ensures.steps in
    let all : c.loop-command.yielded ≡ commands c.args.done.now.items = sym (map-id c.loop-command.yielded) ∙ (t.0 ∙ c.in_ok-commands.ensures.commands) in
    record {
      broker = did.broker ∙ ap (λ (l : List CommandValue). record { state = state_after before l; broken = false }) all;
      outs = (λ i. (c.make_room.ensures.outs.0 i).items) ∙ (did.outs ∙ ap (λ (l : List CommandValue). it.waiting.items ++ outs_of before l) all);
      ended_are = (λ i. (c.make_room.ensures.ended.0 i).items) ∙ (did.ended_are ∙ ap (λ (l : List CommandValue). it.ended.items ++ ended_of before l) all);
    }

pub returns-clause-boxes : goal.returns-clause-boxes
returns-clause-boxes g c = c.make_room.ensures.boxes ∙ c.loop-command.invariant.boxes

pub returns-clause-same : goal.returns-clause-same
returns-clause-same g c =
    let inv = c.loop-command.invariant in
    (c.keep_boxes.ensures.none, c.make_room.ensures.ended.1 ∙ inv.past, c.make_room.ensures.outs.1 ∙ (λ i. (inv.left i).items))

pub returns-clause-room : goal.returns-clause-room
returns-clause-room g c = record {
  behind = c.in_ok-make_room.ensures.left;
  none = ap (λ (l : List OutValue). length l) c.make_room.ensures.outs.2 ∙ c.loop-command.invariant.none;
  beside = c.in_ok-make_room.ensures.spare;
}
