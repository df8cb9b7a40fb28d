use Rattle.std.proofs.Common.{◌∙◌, ◌+◌, ◌++◌, ap}
use Rattle.broker_state.specs.HandOut.{Settling}
use Rattle.broker_state.specs.Steps.{answers}
use Rattle.broker_state.proofs.Heard.{closed_answers, closed_leads}
use Rattle.broker_state.proofs.laws.closed_sessions_change_nothing.Goals as goal

pub returns : goal.returns
returns c = record {
  state = λ rule s d other closed. ap (λ (r : Settling). record r.state { count = s.count + 1 }) (closed_leads rule s d.session d.op other closed);
  outputs = λ rule s d other closed.
      ap (λ (r : Settling). r.outs ++ answers rule s d.session d.receipt d.op) (closed_leads rule s d.session d.op other closed) ∙ closed_answers rule s d.session d.receipt d.op other closed;
}
