use Rattle.broker_state.specs.declared.parts.Parts.{Parts}
use Rattle.broker_state.specs.States.{State}

-- the state that has those parts
abbrev pub state_of_parts : Parts → State
state_of_parts p = record {
  count = p.count;
  next_delivery = p.next_delivery;
  sessions = p.sessions.entries;
  durables = p.durables.entries;
  shared = record { names = p.names.entries; queues = p.queues.entries };
  subscriptions = p.subscriptions.items;
}
