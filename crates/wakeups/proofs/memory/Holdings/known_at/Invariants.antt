use Rattle.std.proofs.Common.{◌≡◌, ◌<◌, ◌≤◌, ◌-◌, ◌^◌, ◌⊎◌, ℕ, length, min, take}
use Rattle.wakeups.specs.Budgets.{count_clients, counts_there}
use Rattle.wakeups.proofs.memory.Holdings.known_at.Given as goal

abbrev pub invariant-loop-at : goal.invariant-loop-at
invariant-loop-at l = record {
  bytes : (l.holdings.budget ≡ l.fn.budget) × (l.holdings.total ≡ l.fn.total);
  clients : l.holdings.clients ≡ min (count_clients (take l.at l.desks)) (2 ^ 64 - 1);
  least : (at : ℕ) → at < l.at → counts_there l.desk at l.desks ≤ l.holdings.elsewhere;
  reached : (l.holdings.elsewhere ≡ 0) ⊎ ((at : ℕ) × (at < length l.desks) × (l.holdings.elsewhere ≡ counts_there l.desk at l.desks));
}
