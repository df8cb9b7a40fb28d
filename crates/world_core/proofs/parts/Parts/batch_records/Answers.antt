use Rattle.std.proofs.Common.{◌-◌, ◌∙◌, List, drop, take, ap, arith}
use Rattle.std.proofs.lemmas.List.{length-map}
use Rattle.command_core.specs.Commands.{CommandValue}
use Rattle.area_core.specs.Areas.{commands, records}
use Rattle.world_core.proofs.Patching.{batch_is}
use Rattle.world_core.proofs.parts.Parts.batch_records.Goals as goal

pub overflow_sub-from : goal.overflow_sub-from
overflow_sub-from c = omega (arith, c.requires.kept.begun, c.requires.kept.marked)

pub overflow_sub-to : goal.overflow_sub-to
overflow_sub-to c = omega (arith, c.requires.kept.begun, c.requires.kept.marked, c.requires.some)

pub slice_bounds-records_of-start : goal.slice_bounds-records_of-start
slice_bounds-records_of-start c = omega (arith, c.requires.some)

pub slice_bounds-records_of-end : goal.slice_bounds-records_of-end
slice_bounds-records_of-end c = omega (arith, c.requires.taken, c.requires.kept.taken, c.deref.ensures.len, length-map c.args.self.now.history.items (λ entry. entry.command))

pub returns : goal.returns
returns c =
    let s = c.args.self.now in
    let n = c.args.under - s.base - (s.stored - s.base) in
    c.in_ok-records.ensures
    ∙ ap (λ es. records (commands (take n (drop (s.stored - s.base) es)))) c.deref.ensures.value
    ∙ ap (λ (l : List CommandValue). records l) (batch_is s.base s.stored c.args.under n s.history.items (omega (arith, c.requires.kept.begun, c.requires.kept.marked, c.requires.some)))
