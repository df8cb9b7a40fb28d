use Rattle.std.proofs.Common.{◌≡◌, ◌++◌, string_bytes}
use Rattle.std.specs.List.{fold, AllByRecursion}
use Rattle.session_core.specs.Sessions.{HasForm}
use Rattle.engine_core.specs.Queues.{IsTooFar, acted, progress_of}
use Rattle.engine_core.proofs.Counting.{ComeToNone}
use Rattle.engine_core.proofs.running_script.do_acts.Given as goal

abbrev pub invariant-loop-act : goal.invariant-loop-act
invariant-loop-act l = record {
  done : progress_of l.number l.queue.queue (string_bytes l.text) ≡ fold (acted l.connection) (progress_of l.fn.number l.fn.queue.queue (string_bytes l.fn.text)) l.yielded;
  within : ComeToNone l.connection IsTooFar (progress_of l.fn.number l.fn.queue.queue (string_bytes l.fn.text)) l.yielded;
  durable : l.queue.queue.durable ≡ l.fn.queue.queue.durable;
  calm : l.queue.disk.failures ≡ l.fn.queue.disk.failures;
  whole : l.fn.acts.items ≡ l.yielded ++ l.act-iterator.rest.items;
  rest : AllByRecursion HasForm l.act-iterator.rest.items;
}
