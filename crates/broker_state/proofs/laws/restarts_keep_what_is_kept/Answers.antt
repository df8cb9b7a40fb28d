use Rattle.std.proofs.Common.{refl}
use Rattle.broker_state.proofs.Restarts.{kept_in_queues, kept_under_names}
use Rattle.broker_state.proofs.laws.restarts_keep_what_is_kept.Goals as goal

pub returns : goal.returns
returns c = record {
  again = λ s. refl;
  numbers = λ s. (refl, refl);
  names = λ s. refl;
  queues = λ s to. kept_in_queues to s;
  under = λ s name. kept_under_names name s;
}
