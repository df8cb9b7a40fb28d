use Rattle.broker_state.proofs.NothingLost.{names_stay, queues_stay, settled_stand, subscriptions_after, waiting_stay, weight_stays}
use Rattle.broker_state.proofs.laws.refusals_lose_nothing_else.Goals as goal

pub returns : goal.returns
returns c s t session member delivery is = record {
  settled = λ sub others found. settled_stand s t session member delivery sub others found is;
  waiting = λ m. waiting_stay s t session member delivery m is;
  subscriptions = subscriptions_after s t session member delivery is;
  names = names_stay s t session member delivery is;
  queues = λ to. queues_stay s t session member delivery to is;
  weight = λ weight alike order sub others found. weight_stays weight alike s t session member delivery sub others order found is;
}
