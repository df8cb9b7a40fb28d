use Rattle.engine_core.proofs.Desks.{all_by_session}
use Rattle.engine_core.proofs.Histories.{takes_as_said, takes_none}
use Rattle.engine_core.proofs.hub.sessions_take_what_they_add.Goals as goal

pub returns : goal.returns
returns c = record {
  most = λ rule s commands n sound none. takes_as_said rule s commands n sound.order sound.subscriptions none;
  closed = λ s n sound closed. takes_none s n sound.subscriptions closed;
  all = λ s sound. all_by_session s sound.subscriptions;
}
