use Rattle.std.proofs.Common.{◌≡◌, ◌∙◌, List, None, ap, if◌then◌else◌, rules, subst, sym}
use Rattle.std.specs.BTreeMap.{is_at}
use Rattle.std.specs.BTreeSet.{insert_key}
use Rattle.std.specs.Map.{remove_entry}
use Rattle.broker_state.specs.Names.{Name, name_cmp, text_cmp}
use Rattle.broker_state.specs.Operations.{topic_of}
use Rattle.broker_state.proofs.Keys.{same_texts}
use Rattle.broker_tables.specs.Topics.{names_of}
use Rattle.broker_tables.proofs.Topics.{Entry, names_inserted, undone}
use Rattle.broker_tables.proofs.durable_names.DurableNames.bind.Goals as goal

pub join-requires-clause-same : goal.join-requires-clause-same
join-requires-clause-same c = same_texts

pub invariant_of-self-in-Ok : goal.invariant_of-self-in-Ok
invariant_of-self-in-Ok c to =
    let es = c.self.inside.topics.entries in
    let n = c.args.name.now in
    let t = c.args.topic.now in
    let none = subst (λ (l : List Entry). topic_of n l ≡ None) (sym c.self.view_is) c.requires in
    let same : c.in_ok-copy.copy ≡ n = search rules in
    let joined = λ (ks : List Name) (k : Name). if is_at (text_cmp t) to then insert_key name_cmp ks k else ks in
    c.in-Ok.ensures.joined to ∙ ap (λ (ks : List Name). joined ks c.in_ok-copy.copy) (c.self.invariant to) ∙ ap (joined (names_of to es)) same
    ∙ sym (names_inserted n t to es none c.stand_in_order.ensures) ∙ ap (names_of to) (sym c.in_ok-bind_to.ensures.ok)

pub invariant_of-self-in-Err : goal.invariant_of-self-in-Err
invariant_of-self-in-Err c to =
    let es = c.self.inside.topics.entries in
    let n = c.args.name.now in
    let none = subst (λ (l : List Entry). topic_of n l ≡ None) (sym c.self.view_is) c.requires in
    let left = c.remove.ensures.entries ∙ ap (remove_entry (is_at (name_cmp n))) c.in_ok-bind_to.ensures.ok ∙ undone n c.args.topic.now es none in
    c.in-Err.ensures.same to ∙ c.self.invariant to ∙ ap (names_of to) (sym left)

pub returns-in-Err-clause-same : goal.returns-in-Err-clause-same
returns-in-Err-clause-same c =
    let es = c.self.inside.topics.entries in
    let n = c.args.name.now in
    let none = subst (λ (l : List Entry). topic_of n l ≡ None) (sym c.self.view_is) c.requires in
    c.remove.ensures.entries ∙ ap (remove_entry (is_at (name_cmp n))) c.in_ok-bind_to.ensures.ok ∙ undone n c.args.topic.now es none ∙ c.self.view_is
