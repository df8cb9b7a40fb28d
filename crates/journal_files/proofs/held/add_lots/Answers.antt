use Rattle.std.proofs.Common.{◌∙◌, ◌++◌, ◌-◌, ◌^◌, ap, map, rules}
use Rattle.std.proofs.lemmas.List.Sorted.{IsNonDecreasingBy-from_sort_by_key}
use Rattle.journal_files.specs.declared.held.Lot.{Lot}
use Rattle.journal_files.specs.Held.{names_waiting, queues_waiting, waits_of}
use Rattle.journal_files.proofs.Gathered.{are_lots, on_ok}
use Rattle.journal_files.proofs.held.add_lots.Goals as goal

pub returns : goal.returns
returns c =
    let found = c.add_queues.new.lots.items in
    on_ok c.sort_by_key.result _ _ c.sort_by_key.ensures.sorted
    (λ sorted. are_lots c.args.broker.now.state c.args.lots.now.items c.add_names.new.lots.items found c.sort_by_key.new.self.items c.requires
    (c.in_ok-add_names.ensures ∙ ap (λ durables. map waits_of c.args.lots.now.items ++ names_waiting durables c.names.result.now.entries) c.durables.ensures
    ∙ ap (λ lines. map waits_of c.args.lots.now.items ++ names_waiting c.args.broker.now.state.durables lines) (c.names.ensures ∙ ap (λ shared. shared.names) c.shared-shared.ensures))
    (c.in_ok-add_queues.ensures ∙ ap (λ lines. map waits_of c.add_names.new.lots.items ++ queues_waiting lines) (c.queues.ensures ∙ ap (λ shared. shared.queues) c.shared-shared.ensures))
    c.sort_by_key.ensures.permutation
    (IsNonDecreasingBy-from_sort_by_key (λ (lot : Lot). 2 ^ 64 - 1 - lot.messages) c.sort_by_key.new.self.items sorted (λ a r f' k. search rules)))
