use Rattle.std.proofs.Common.{ap, arith}
use Rattle.std.specs.List.{sum_by}
use Rattle.broker_state.specs.Names.{Name, name_cmp}
use Rattle.broker_state.specs.Waiting.{Lines, weight_of_lines, weight_of_shared}
use Rattle.broker_state.proofs.KeyedLines.{weight-removed}
use Rattle.broker_tables.proofs.shared_lines.SharedLines.forget.Goals as goal

pub returns-clause-weight : goal.returns-clause-weight
returns-clause-weight c =
    λ weight. let left = ap (λ (l : Lines Name). weight_of_lines weight l) c.take_line.ensures.others in
    let out = ap (sum_by weight) c.take_line.ensures.line in
    let all = ap (weight_of_shared weight) c.self.view_is in
    omega (arith, left, out, all, weight-removed weight name_cmp c.args.name.now c.self.inside.names.entries)
