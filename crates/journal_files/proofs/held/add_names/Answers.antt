use Rattle.std.proofs.Common.{◌≡◌, ◌∙◌, ◌++◌, ◌∷◌, [], ap, append_assoc, map, sym}
use Rattle.journal_files.specs.Held.{name_text, names_waiting, waits_at, waits_of}
use Rattle.broker_state.specs.Names.{name_cmp}
use Rattle.broker_state.specs.Waiting.{line_at}
use Rattle.journal_files.proofs.held.add_names.Goals as goal

pub loop-name-preserved : goal.loop-name-preserved
loop-name-preserved c =
    let lines = c.args.lines.now.entries in
    let before = map waits_of c.loop-name.lots.items in
    ap (λ waits. waits ++ names_waiting c.next.new.self lines) c.in_ok-add_name.ensures
    ∙ append_assoc before (waits_at (name_text c.in-Some.name.now) (line_at name_cmp c.in-Some.name.now lines) ∷ []) (names_waiting c.next.new.self lines)
    ∙ ap (λ rest. before ++ names_waiting rest lines) (sym c.in-Some.ensures.steps)
    ∙ c.loop-name.invariant
