use Rattle.std.proofs.Common.{arith}
use Rattle.broker_state.specs.States.{bytes, one}
use Rattle.broker_state.proofs.Places.{sum_by-first}
use Rattle.broker_tables.proofs.tables.let_line_go.Goals as goal

pub overflow_sub-held : goal.overflow_sub-held
overflow_sub-held c =
    omega (arith, sum_by-first one c.loop-message.line c.take.new.self c.in-Some.message c.in-Some.ensures.first c.take.ensures.rest)

pub overflow_sub-held-in-Some : goal.overflow_sub-held-in-Some
overflow_sub-held-in-Some c =
    omega (arith, sum_by-first bytes c.loop-message.line c.take.new.self c.in-Some.message c.in-Some.ensures.first c.take.ensures.rest)

pub loop-message-preserved : goal.loop-message-preserved
loop-message-preserved c = record {
  messages = omega (arith, sum_by-first one c.loop-message.line c.take.new.self c.in-Some.message c.in-Some.ensures.first c.take.ensures.rest);
  bytes = omega (arith, sum_by-first bytes c.loop-message.line c.take.new.self c.in-Some.message c.in-Some.ensures.first c.take.ensures.rest);
}
