-- The durable names that were read, and the tables that they make.
use Rattle.std.proofs.Common.{◌≡◌, ◌++◌, List, [], ◌∷◌, ℕ, map, sym, ap, subst, ◌∙◌}
use Rattle.std.specs.BTreeMap.{insert_entry}
use Rattle.std.specs.List.Sorted.{IsStrictlySortedBy}
use Rattle.std.specs.Map.{keys_of}
use Rattle.std.specs.Prelude.{if◌then◌else◌}
use Rattle.std.specs.declared.cmp.Ordering.TheVariants.{Less}
use Rattle.std.proofs.lemmas.Map.Made.{keys_of-map_values}
use Rattle.line_core.specs.declared.message.Message.{Message}
use Rattle.broker_core.specs.Lists.{is_none}
use Rattle.broker_core.specs.Names.{Name, name_cmp}
use Rattle.broker_core.specs.Waiting.{Lines}
use Rattle.broker_state.proofs.Alls.{all_given, each_given}
use Rattle.broker_state.proofs.Keys.{names_total}
use Rattle.snapshot_core.specs.Reading.{lines_of}
use Rattle.snapshot_core.proofs.Appended.{one_more}
use Rattle.snapshot_core.proofs.SnapshotEntries.{Entry}
use Rattle.snapshot_core.proofs.SnapshotNames.{all_lines, bound_in}

lines_sorted : (names : List Entry) → IsStrictlySortedBy name_cmp (keys_of names) → IsStrictlySortedBy name_cmp (keys_of (lines_of names))
unfolding IsStrictlySortedBy
lines_sorted [] sorted = tt
lines_sorted ((name, (to, [])) ∷ names) sorted = lines_sorted names sorted.1
lines_sorted ((name, (to, m ∷ line)) ∷ names) sorted =
    (all_given (λ other. name_cmp name other ≡ Less) (λ (l : Name × List Message). l.0) (lines_of names) (all_lines (λ (l : Name × List Message). name_cmp name l.0 ≡ Less) names (each_given (λ other. name_cmp name other ≡ Less) (λ (e : Entry). e.0) names sorted.0)), lines_sorted names sorted.1)

-- The next name has its topic put in, and its line where it has messages.
pub topics_more : (front after : List (Name × List ℕ)) (name : Name) (to : List ℕ) (line : List Message) (rest more all : List Entry) → IsStrictlySortedBy name_cmp (keys_of all) → front ++ map bound_in rest ≡ map bound_in all → rest ≡ (name, (to, line)) ∷ more → after ≡ insert_entry name_cmp front name to → after ++ map bound_in more ≡ map bound_in all
topics_more front after name to line rest more all sorted so_far is put =
    one_more name_cmp names_total front after name to (map bound_in rest) (map bound_in more) (map bound_in all) (subst (IsStrictlySortedBy name_cmp) (sym (keys_of-map_values (λ (v : List ℕ × List Message). v.0) all)) sorted) so_far (ap (map bound_in) is) put

pub lines_more : (front after : Lines Name) (name : Name) (to : List ℕ) (line : List Message) (rest more all : List Entry) → IsStrictlySortedBy name_cmp (keys_of all) → front ++ lines_of rest ≡ lines_of all → rest ≡ (name, (to, line)) ∷ more → after ≡ (if is_none line then front else insert_entry name_cmp front name line) → after ++ lines_of more ≡ lines_of all
lines_more front after name to [] rest more all sorted so_far is put =
    ap (λ (es : Lines Name). es ++ lines_of more) put ∙ ap (λ (es : List Entry). front ++ lines_of es) (sym is) ∙ so_far
lines_more front after name to (m ∷ line) rest more all sorted so_far is put =
    one_more name_cmp names_total front after name (m ∷ line) (lines_of rest) (lines_of more) (lines_of all) (lines_sorted all sorted) so_far (ap lines_of is) put
