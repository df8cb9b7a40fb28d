use Rattle.std.proofs.Common.{rules}
use Rattle.clients.proofs.client.Client.held.Goals as goal

pub returns : goal.returns
returns g c = record {
  waiting = c.waiting.result;
  waits = search rules;
  sum = search rules;
}
