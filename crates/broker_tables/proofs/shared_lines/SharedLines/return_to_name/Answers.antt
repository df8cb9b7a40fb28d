use Rattle.std.proofs.Common.{◌∙◌, ℕ, ap, arith}
use Rattle.std.specs.List.{sum_by}
use Rattle.line_core.specs.declared.message.Message.{Message}
use Rattle.broker_state.specs.Names.{Name, name_cmp}
use Rattle.broker_state.specs.Waiting.{Lines, Shared, weight_of_shared, with_deliveries}
use Rattle.broker_state.proofs.Keys.{same_names}
use Rattle.broker_tables.proofs.shared_lines.SharedLines.return_to_name.Goals as goal
use Rattle.broker_tables.proofs.shared_lines.SharedLines.return_to_name.Goals.{in-Ok, in-Err}

pub put_back-requires-clause-same : goal.put_back-requires-clause-same
put_back-requires-clause-same c = same_names

pub returns-clause-shared : goal.returns-clause-shared
returns-clause-shared c =
    let view : Shared = record { names = c.self.inside.names.entries; queues = c.self.inside.queues.entries } in
    elim c.match-put_back.branch [
      | in-Ok w ↦ rw w.result-is
          (ap (λ (l : Lines Name). record view { names = l }) w.in-Ok.ensures.entries
          ∙ ap (λ (s : Shared). record s { names = with_deliveries name_cmp c.args.name.now c.args.deliveries.items s.names }) c.self.view_is)
      | in-Err w ↦ rw w.result-is tt
    ]

pub returns-clause-weight : goal.returns-clause-weight
returns-clause-weight c =
    elim c.match-put_back.branch [
      | in-Ok w ↦ rw w.result-is
          (λ weight. omega (arith, w.in-Ok.ensures.weight weight, ap (weight_of_shared weight) c.self.view_is, ap (sum_by (λ (delivery : ℕ × Message). weight delivery.1)) w.new.ensures.items))
      | in-Err w ↦ rw w.result-is tt
    ]
