use Rattle.std.proofs.Common.{◌≡◌, ◌∷◌, ◌++◌, ◌∙◌, List, ap, if◌then◌else◌, rules}
use Rattle.std.specs.BTreeMap.{is_at}
use Rattle.std.specs.BTreeSet.{insert_key}
use Rattle.broker_state.specs.Names.{Name, name_cmp, text_cmp}
use Rattle.broker_state.proofs.Keys.{same_texts}
use Rattle.broker_tables.specs.Topics.{names_at, names_of}
use Rattle.broker_tables.proofs.Topics.{Entry, one_grouped}
use Rattle.broker_tables.proofs.durable_names.group.Goals as goal

pub join-requires-clause-same : goal.join-requires-clause-same
join-requires-clause-same c = same_texts

pub loop-name-preserved : goal.loop-name-preserved
loop-name-preserved c to =
    let es = c.args.topics.now.entries in
    let n = c.in-Some.name.now in
    let t = c.in-Some.topic.now in
    let rest = c.next.new.self in
    let old = names_at text_cmp c.loop-name.groups.entries to in
    let first : c.loop-name.name-iterator ≡ (n, t) ∷ rest = search rules in
    let same : c.in_ok-name.name ≡ n = search rules in
    one_grouped to t n es rest old (names_at text_cmp c.join.new.groups.entries to) c.stand_in_order.ensures (c.loop-name.invariant to ∙ ap (λ (l : List Entry). old ++ names_of to l) first)
    (c.in_ok-join.ensures.joined to ∙ ap (λ (k : Name). if is_at (text_cmp t) to then insert_key name_cmp old k else old) same)
