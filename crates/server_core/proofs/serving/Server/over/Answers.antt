use Rattle.std.proofs.Common.{rules}
use Rattle.server_core.proofs.serving.Server.over.Goals as goal

pub invariant_of-result : goal.invariant_of-result
invariant_of-result g c = record {
  server_is = (record { ring_is = search rules; executed = search rules }, search rules);
  desks = search rules;
  empty = search rules;
  promised = search rules;
  count = search rules;
}
