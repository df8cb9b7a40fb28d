use Rattle.std.proofs.Common.{◌∙◌, List, ap, if◌then◌else◌, sym}
use Rattle.std.specs.BTreeMap.{is_at}
use Rattle.std.specs.Set.{remove_key}
use Rattle.broker_state.specs.Names.{Name, name_cmp, text_cmp}
use Rattle.broker_state.proofs.Keys.{same_texts}
use Rattle.broker_tables.specs.Topics.{names_of}
use Rattle.broker_tables.proofs.Topics.{names_removed}
use Rattle.broker_tables.proofs.durable_names.DurableNames.forget.Goals as goal

pub leave-requires : goal.leave-requires
leave-requires c = same_texts

pub invariant_of-self : goal.invariant_of-self
invariant_of-self c to =
    let es = c.self.inside.topics.entries in
    let test = is_at (name_cmp c.args.name.now) in
    let t = c.in-Some.topic in
    c.leave.ensures to ∙ ap (λ (ks : List Name). if is_at (text_cmp t) to then remove_key test ks else ks) (c.self.invariant to)
    ∙ sym (names_removed test t to es (sym c.in-Some.ensures.value)) ∙ ap (names_of to) (sym c.in-Some.ensures.entries)
