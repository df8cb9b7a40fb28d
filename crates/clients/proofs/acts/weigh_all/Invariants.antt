use Rattle.std.proofs.Common.{◌≡◌, ◌≤◌, ◌*◌, ◌^◌, take}
use Rattle.clients.specs.Weights.{weight_of_all}
use Rattle.clients.proofs.acts.weigh_all.Given as goal

abbrev pub invariant-loop-act : goal.invariant-loop-act
invariant-loop-act l = (l.bytes ≡ weight_of_all (take l.act-index l.acts)) × (l.bytes ≤ 2 ^ 32 * l.act-index)
