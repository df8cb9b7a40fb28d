use Rattle.std.proofs.Common.{◌≡◌, ◌∙◌, Option, None, Some, ap, refl}
use Rattle.broker_state.specs.declared.subscription.Subscription.{Subscription}
use Rattle.broker_state.specs.Names.{Name}
use Rattle.broker_state.specs.Waiting.{Shared, returned_from}
use Rattle.broker_tables.specs.Returns.{returned_to}
use Rattle.broker_tables.proofs.shared_lines.SharedLines.take_back.Goals as goal

by_name : (shared : Shared) (sub : Subscription) (durable : Option Name) → returned_to shared durable sub.destination sub.unacknowledged ≡ returned_from shared sub durable
by_name shared sub None = refl
by_name shared sub (Some name) = refl

pub returns-in-Ok-clause-shared : goal.returns-in-Ok-clause-shared
returns-in-Ok-clause-shared c =
    let sub = c.args.sub in
    c.in-Ok.ensures.shared ∙ ap (returned_to c.args.self.now sub.durable sub.destination) c.into_vec.ensures.value ∙ by_name c.args.self.now sub sub.durable
