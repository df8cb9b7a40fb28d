use Rattle.std.proofs.Common.{◌≡◌, ◌++◌, List, ℕ}
use Rattle.broker_state.specs.Names.{text_cmp}
use Rattle.broker_tables.specs.Topics.{names_at, names_of}
use Rattle.broker_tables.proofs.durable_names.group.Given as goal

abbrev pub invariant-loop-name : goal.invariant-loop-name
invariant-loop-name l =
    (to : List ℕ) → names_of to l.topics.entries ≡ names_at text_cmp l.groups.entries to ++ names_of to l.name-iterator
