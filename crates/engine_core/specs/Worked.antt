use Rattle.std.specs.Prelude.{[], ◌∷◌, Some, None, true, codes}
use Rattle.command_core.specs.declared.command.Op.TheVariants as ops
use Rattle.broker_core.specs.States.{empty_state}
use Rattle.engine_core.specs.Queues.{QueueValue}

-- connection 0 has asked for a session
abbrev pub waiting_open : QueueValue
waiting_open = record {
  waiting = record { connection = 0; command = record { session = 0; op = ops.Open None; receipt = None } } ∷ [];
  openers = (0, 0) ∷ [];
  state = empty_state;
  durable = true;
}

-- and has it
abbrev pub opened_queue : QueueValue
opened_queue = record {
  waiting = [];
  openers = (0, 0) ∷ [];
  state = record { count = 1; next_delivery = 0; sessions = (0, None) ∷ []; durables = []; shared = record { names = []; queues = [] }; subscriptions = [] };
  durable = true;
}

-- and has sent `hi` to `/queue/a`, and asked for a receipt
abbrev pub waiting_send : QueueValue
waiting_send = record opened_queue {
  waiting = record {
    connection = 0;
    command = record {
      session = 0;
      op = ops.Send (record { destination = codes "/queue/a"; headers = []; body = codes "hi" });
      receipt = Some (codes "r1");
    };
  } ∷ [];
}
