use Rattle.std.proofs.Common.{◌≡◌, ◌==◌, ◌∙◌, List, None, Some, true, false, ap, drop, length, rules, sym}
use Rattle.std.specs.BTreeMap.{is_at}
use Rattle.std.specs.Map.{lookup, set_value}
use Rattle.line_core.specs.declared.message.Message.{Message}
use Rattle.broker_state.specs.Lists.{is_none}
use Rattle.broker_state.specs.Waiting.{line_at}
use Rattle.broker_tables.proofs.KeptLines.{line_lost, line_shorter, lines_weigh, none_left, nothing_taken}
use Rattle.broker_tables.proofs.shared_lines.take.Goals as goal

pub returns-in_default-clause-rest : goal.returns-in_default-clause-rest
returns-in_default-clause-rest g c =
    let es = c.args.lines.now.entries in
    let none : lookup (is_at (g.K.Ord.cmp c.args.key.now)) es ≡ None = search rules in
    let stays : c.get_mut.follows.lender-at-none.entries ≡ es = search rules in
    stays ∙ sym (nothing_taken g.K.Ord.cmp g.met.K.Ord.total c.requires c.args.key.now es c.get_mut.ensures.ordered none)

pub returns-in_default-clause-weight : goal.returns-in_default-clause-weight
returns-in_default-clause-weight g c =
    lines_weigh g.K.Ord.cmp g.met.K.Ord.total c.requires c.args.key.now c.args.lines.now.entries _ c.get_mut.ensures.ordered (returns-in_default-clause-rest g c)

pub returns-then-is_empty-clause-rest : goal.returns-then-is_empty-clause-rest
returns-then-is_empty-clause-rest g c =
    let cmp = g.K.Ord.cmp in
    let es = c.args.lines.now.entries in
    let line : List Message = c.in-Some.line.now in
    let left : c.take-message.new.self ≡ drop 1 line = c.take-message.ensures.rest in
    let found : Some line ≡ lookup (is_at (cmp c.args.key.now)) es = c.in-Some.ensures.value in
    let put : (c.get_mut.follows.lender c.take-message.new.self).entries ≡ set_value (is_at (cmp c.args.key.now)) es (drop 1 line) = search rules in
    let last : is_none (drop 1 line) ≡ true = sym (none_left (drop 1 line)) ∙ ap (λ (l : List Message). length l == 0) (sym left) ∙ sym c.is_empty.ensures.empty ∙ c.if-is_empty.true in
    line_lost cmp g.met.K.Ord.total c.requires c.args.key.now line es (c.get_mut.follows.lender c.take-message.new.self).entries c.remove.new.self.entries c.get_mut.ensures.ordered found last put c.remove.ensures.entries

pub returns-then-is_empty-clause-weight : goal.returns-then-is_empty-clause-weight
returns-then-is_empty-clause-weight g c =
    lines_weigh g.K.Ord.cmp g.met.K.Ord.total c.requires c.args.key.now c.args.lines.now.entries _ c.get_mut.ensures.ordered (returns-then-is_empty-clause-rest g c)

pub returns-else-is_empty-clause-rest : goal.returns-else-is_empty-clause-rest
returns-else-is_empty-clause-rest g c =
    let cmp = g.K.Ord.cmp in
    let es = c.args.lines.now.entries in
    let line : List Message = c.in-Some.line.now in
    let left : c.take-message.new.self ≡ drop 1 line = c.take-message.ensures.rest in
    let found : Some line ≡ lookup (is_at (cmp c.args.key.now)) es = c.in-Some.ensures.value in
    let put : (c.get_mut.follows.lender c.take-message.new.self).entries ≡ set_value (is_at (cmp c.args.key.now)) es (drop 1 line) = search rules in
    let some : is_none (drop 1 line) ≡ false = sym (none_left (drop 1 line)) ∙ ap (λ (l : List Message). length l == 0) (sym left) ∙ sym c.is_empty.ensures.empty ∙ c.if-is_empty.false in
    line_shorter cmp g.met.K.Ord.total c.requires c.args.key.now line es (c.get_mut.follows.lender c.take-message.new.self).entries c.get_mut.ensures.ordered found some put

pub returns-else-is_empty-clause-weight : goal.returns-else-is_empty-clause-weight
returns-else-is_empty-clause-weight g c =
    lines_weigh g.K.Ord.cmp g.met.K.Ord.total c.requires c.args.key.now c.args.lines.now.entries _ c.get_mut.ensures.ordered (returns-else-is_empty-clause-rest g c)
