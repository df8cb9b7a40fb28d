use Rattle.std.proofs.Common.{◌≡◌, ◌∙◌, List, Option, ap, rules, unwrap_or}
use Rattle.std.specs.BTreeMap.{is_at}
use Rattle.std.specs.Map.{lookup}
use Rattle.std.proofs.lemmas.Result.{on_ok_weaker}
use Rattle.line_core.specs.declared.message.Message.{Message}
use Rattle.broker_state.specs.Waiting.{line_at, weight_of_lines}
use Rattle.broker_state.proofs.KeyedLines.{weight-with_message}
use Rattle.broker_tables.proofs.KeptLines.{more_in, removed_over}
use Rattle.broker_tables.proofs.shared_lines.put_at.Goals as goal

pub returns-clause-entries : goal.returns-clause-entries
returns-clause-entries g c =
    let cmp = g.K.Ord.cmp in
    let es = c.args.lines.now.entries in
    let line : List Message = c.or_insert-line.result.now in
    let found : line ≡ line_at cmp c.args.key es = c.or_insert-line.ensures.value ∙ ap (λ (o : Option (List Message)). unwrap_or o c.new.result) c.in-Ok.ensures.value ∙ ap (λ (d : List Message). unwrap_or (lookup (is_at (cmp c.args.key)) es) d) c.new.ensures in
    on_ok_weaker c.put_into.result (λ put. more_in cmp g.met.K.Ord.total c.requires.same c.args.key c.args.message line c.put_into.new.line es _ c.entry.ensures.ordered found put (search rules)) c.put_into.ensures.ok

pub returns-clause-others : goal.returns-clause-others
returns-clause-others g c =
    removed_over g.K.Ord.cmp g.met.K.Ord.total c.args.key c.put_into.new.line c.args.lines.now.entries _ c.entry.ensures.ordered (search rules)

pub returns-clause-weight : goal.returns-clause-weight
returns-clause-weight g c =
    let cmp = g.K.Ord.cmp in
    let es = c.args.lines.now.entries in
    on_ok_weaker c.put_into.result (λ is weight. ap (weight_of_lines weight) is ∙ weight-with_message cmp g.met.K.Ord.total c.requires.same weight c.args.key c.args.message es c.entry.ensures.ordered) (returns-clause-entries g c)
