use Rattle.std.proofs.Common.{◌≡◌, ◌-◌, ℕ, arith, suc, subst, sym}
use Rattle.line_core.specs.declared.message.Message.{Message}
use Rattle.broker_tables.specs.AtOnce.{GoesToEach}
use Rattle.broker_tables.proofs.Turning.{IsTurning, begins_turning, goes_to_each, none_ready_then, some_left, turned}
use Rattle.broker_tables.proofs.stock.Stock.hand_to_each.Goals as goal

pub loop-left-init : goal.loop-left-init
loop-left-init c =
    let a = c.args in (
      subst (λ (m : Message). IsTurning a.number a.group m a.self.now a.answers.now a.count a.self.now a.answers.now) (sym c.in_ok-told.ensures)
          (begins_turning a.number a.group a.count a.message a.self.now a.answers.now c.requires.swift c.requires.stocked c.requires.none),
      tt,
    )

pub turn-requires-clause-some : goal.turn-requires-clause-some
turn-requires-clause-some c =
    some_left c.args.number c.args.group c.in_ok-told.told c.args.self.now c.args.answers.now c.loop-left.left c.loop-left.self c.loop-left.answers (omega (arith, c.loop-left-test.true)) c.loop-left.invariant.0

pub turn-requires-clause-number : goal.turn-requires-clause-number
turn-requires-clause-number c = omega (arith, c.loop-left.invariant.0.numbers)

pub turn-requires-clause-stocked : goal.turn-requires-clause-stocked
turn-requires-clause-stocked c = c.loop-left.invariant.0.whole

pub loop-left-preserved : goal.loop-left-preserved
loop-left-preserved c =
    let a = c.args in
    let more : c.loop-left.left ≡ suc (c.loop-left.left - 1) = omega (arith, c.loop-left-test.true) in
    let t = subst (λ (n : ℕ). IsTurning a.number a.group c.in_ok-told.told a.self.now a.answers.now n c.loop-left.self c.loop-left.answers) more c.loop-left.invariant.0 in
    (turned a.number a.group c.in_ok-told.told a.self.now a.answers.now (c.loop-left.left - 1) c.loop-left.self c.loop-left.answers c.turn.new.self c.turn.new.answers t c.in_ok-turn.ensures.turns, c.in_ok-turn.ensures.told)

pub returns : goal.returns
returns c =
    let a = c.args in
    let none : c.loop-left.left ≡ 0 = omega (arith, c.loop-left-test.false) in
    let t = subst (λ (n : ℕ). IsTurning a.number a.group c.in_ok-told.told a.self.now a.answers.now n c.loop-left.self c.loop-left.answers) none c.loop-left.invariant.0 in
    record {
      each = subst (λ (m : Message). GoesToEach a.number m a.self.now a.answers.now c.loop-left.self c.loop-left.answers) c.in_ok-told.ensures (goes_to_each a.number a.group c.in_ok-told.told a.self.now a.answers.now c.loop-left.self c.loop-left.answers t);
      stocked = c.loop-left.invariant.0.whole;
      none = none_ready_then a.number a.group c.in_ok-told.told a.self.now a.answers.now c.loop-left.self c.loop-left.answers t;
    }
