-- Durable names with their topics and lines, as a snapshot has them, against the topics and the lines of a state.
use Rattle.std.proofs.Common.{◌≡◌, ℕ, Bool, true, false, cond, List, [], ◌∷◌, map, unwrap_or, IsSome, Some, refl, ap, sym, subst, ◌∙◌}
use Rattle.std.specs.BTreeMap.{is_at}
use Rattle.std.specs.List.{AllByRecursion}
use Rattle.std.specs.List.Sorted.{IsStrictlySortedBy}
use Rattle.std.specs.Map.{keys_of, lookup}
use Rattle.std.specs.Ordering.{is_eq}
use Rattle.std.specs.declared.cmp.Ordering.TheVariants.{Less}
use Rattle.frame_core.proofs.Lists.{all_both, all_weaker}
use Rattle.line_core.specs.declared.message.Message.{Message}
use Rattle.broker_core.specs.Lists.{is_none}
use Rattle.broker_core.specs.Names.{Name, name_cmp}
use Rattle.broker_core.specs.Operations.{topic_of}
use Rattle.broker_core.specs.Waiting.{Lines, line_at}
use Rattle.broker_state.proofs.Alls.{all_given, each_given}
use Rattle.broker_state.proofs.Keys.{name_itself, names_total, same_names}
use Rattle.broker_state.proofs.KeyedLines.{absent_behind}
use Rattle.broker_state.proofs.Lookups.{among_keys, is_equal, other_way}
use Rattle.snapshot_core.specs.Reading.{lines_of}
use Rattle.snapshot_core.proofs.SnapshotEntries.{Entry}

-- a name and its topic, with the line that stands there under the name; and those of an entry
abbrev pub entry_in : Lines Name → Name × List ℕ → Entry
entry_in names d = (d.0, (d.1, line_at name_cmp d.0 names))

abbrev pub bound_in : Entry → Name × List ℕ
bound_in e = (e.0, e.1.0)

none_is : (messages : List Message) → is_none messages ≡ true → messages ≡ []
none_is [] e = refl
none_is (m ∷ messages) e = absurd cc

-- ---- the line of a name

module _ (q : Name) (l : Name × List Message) (lines : Lines Name) where
  line_here : is_eq (name_cmp q l.0) ≡ true → line_at name_cmp q (l ∷ lines) ≡ l.1
  line_here is = ap (λ b. unwrap_or (cond b (Some l.1) (lookup (is_at (name_cmp q)) lines)) []) is

  line_behind : is_eq (name_cmp q l.0) ≡ false → line_at name_cmp q (l ∷ lines) ≡ line_at name_cmp q lines
  line_behind other = ap (λ b. unwrap_or (cond b (Some l.1) (lookup (is_at (name_cmp q)) lines)) []) other

-- a name that is below another is another
above_differs : (a b : Name) → name_cmp a b ≡ Less → is_eq (name_cmp b a) ≡ false
above_differs a b less = other_way name_cmp same_names a b (ap is_eq less)

-- a name below all that have lines has none
no_line : (q : Name) (lines : Lines Name) → AllByRecursion (λ l. name_cmp q l.0 ≡ Less) lines → line_at name_cmp q lines ≡ []
no_line q lines above =
    ap (λ o. unwrap_or o []) (absent_behind name_cmp names_total same_names q lines (all_given (λ k. name_cmp q k ≡ Less) (λ (l : Name × List Message). l.0) lines above))

-- ---- the lines of entries

-- what holds of each name and its line holds of the lines with messages
pub all_lines : (Q : Name × List Message → Type 0) (entries : List Entry) → AllByRecursion (λ e. Q (e.0, e.1.1)) entries → AllByRecursion Q (lines_of entries)
all_lines Q [] all = tt
all_lines Q (e ∷ entries) all =
    let rest = all_lines Q entries all.1 in
    elim (is_none e.1.1) as (λ b. AllByRecursion Q (cond b (lines_of entries) ((e.0, e.1.1) ∷ lines_of entries))) [ true ↦ rest | false ↦ (all.0, rest) ]

lines_by : (e : Entry) (entries : List Entry) (b : Bool) → is_none e.1.1 ≡ b → AllByRecursion (λ (x : Entry). name_cmp e.0 x.0 ≡ Less) entries → AllByRecursion (λ (x : Entry). line_at name_cmp x.0 (lines_of entries) ≡ x.1.1) entries
    → AllByRecursion (λ (x : Entry). line_at name_cmp x.0 (cond b (lines_of entries) ((e.0, e.1.1) ∷ lines_of entries)) ≡ x.1.1) (e ∷ entries)
lines_by e entries true is above rest =
    (no_line e.0 (lines_of entries) (all_lines (λ l. name_cmp e.0 l.0 ≡ Less) entries above) ∙ sym (none_is e.1.1 is), rest)
lines_by e entries false is above rest =
    let here : Name × List Message = (e.0, e.1.1) in
    (line_here e.0 here (lines_of entries) (name_itself e.0), all_both (λ (x : Entry). name_cmp e.0 x.0 ≡ Less) (λ (x : Entry). line_at name_cmp x.0 (lines_of entries) ≡ x.1.1) (λ (x : Entry). line_at name_cmp x.0 (here ∷ lines_of entries) ≡ x.1.1) (λ x less found. line_behind x.0 here (lines_of entries) (above_differs e.0 x.0 less) ∙ found) entries above rest)

-- under each name its own line stands there
each_line : (entries : List Entry) → IsStrictlySortedBy name_cmp (keys_of entries) → AllByRecursion (λ (e : Entry). line_at name_cmp e.0 (lines_of entries) ≡ e.1.1) entries
unfolding IsStrictlySortedBy
each_line [] sorted = tt
each_line (e ∷ entries) sorted =
    lines_by e entries (is_none e.1.1) refl (each_given (λ k. name_cmp e.0 k ≡ Less) (λ (x : Entry). x.0) entries sorted.0) (each_line entries sorted.1)

entries_are : (names : Lines Name) (entries : List Entry) → AllByRecursion (λ (e : Entry). line_at name_cmp e.0 names ≡ e.1.1) entries → map (entry_in names) (map bound_in entries) ≡ entries
entries_are names [] each = refl
entries_are names (e ∷ entries) each =
    ap (λ (messages : List Message). (e.0, (e.1.0, messages)) ∷ map (entry_in names) (map bound_in entries)) each.0 ∙ ap (λ (rest : List Entry). e ∷ rest) (entries_are names entries each.1)

-- entries are made again of their names, topics and lines
pub entries_again : (entries : List Entry) → IsStrictlySortedBy name_cmp (keys_of entries) → map (entry_in (lines_of entries)) (map bound_in entries) ≡ entries
entries_again entries sorted = entries_are (lines_of entries) entries (each_line entries sorted)

-- names with their topics are those of their entries
pub bound_again : (names : Lines Name) (durables : List (Name × List ℕ)) → map bound_in (map (entry_in names) durables) ≡ durables
bound_again names [] = refl
bound_again names (d ∷ durables) = ap (λ (rest : List (Name × List ℕ)). d ∷ rest) (bound_again names durables)

-- ---- the lines of a state

-- the entries of names without the first line, which is of none of them
entries_without : (l : Name × List Message) (lines : Lines Name) (durables : List (Name × List ℕ)) → AllByRecursion (λ (d : Name × List ℕ). is_eq (name_cmp d.0 l.0) ≡ false) durables → map (entry_in (l ∷ lines)) durables ≡ map (entry_in lines) durables
entries_without l lines [] others = refl
entries_without l lines (d ∷ durables) others =
    ap (λ (messages : List Message). (d.0, (d.1, messages)) ∷ map (entry_in (l ∷ lines)) durables) (line_behind d.0 l lines others.0) ∙ ap (λ (rest : List Entry). entry_in lines d ∷ rest) (entries_without l lines durables others.1)

-- lines under names that are bound, but not the first, are under the others
bound_behind : (d : Name × List ℕ) (durables : List (Name × List ℕ)) (lines : Lines Name) → AllByRecursion (λ (l : Name × List Message). is_eq (name_cmp l.0 d.0) ≡ false) lines → AllByRecursion (λ (l : Name × List Message). IsSome (topic_of l.0 (d ∷ durables))) lines → AllByRecursion (λ (l : Name × List Message). IsSome (topic_of l.0 durables)) lines
bound_behind d durables lines others bound =
    all_both (λ (l : Name × List Message). is_eq (name_cmp l.0 d.0) ≡ false) (λ (l : Name × List Message). IsSome (topic_of l.0 (d ∷ durables))) (λ (l : Name × List Message). IsSome (topic_of l.0 durables)) (λ l other some. subst (λ (b : Bool). IsSome (cond b (Some d.1) (topic_of l.0 durables))) other some) lines others bound

-- lines under rising names, each with messages, under names that are bound
pub record AreLinesOf (durables : List (Name × List ℕ)) (lines : Lines Name) : Type 0 where
  pub rising : IsStrictlySortedBy name_cmp (keys_of lines)
  pub some : AllByRecursion (λ (l : Name × List Message). is_none l.1 ≡ false) lines
  pub bound : AllByRecursion (λ (l : Name × List Message). IsSome (topic_of l.0 durables)) lines

above_first : (l : Name × List Message) (lines : Lines Name) → IsStrictlySortedBy name_cmp (keys_of (l ∷ lines)) → AllByRecursion (λ (x : Name × List Message). name_cmp l.0 x.0 ≡ Less) lines
unfolding IsStrictlySortedBy
above_first l lines rising = each_given (λ k. name_cmp l.0 k ≡ Less) (λ (x : Name × List Message). x.0) lines rising.0

rest_of : (d : Name × List ℕ) (durables : List (Name × List ℕ)) (l : Name × List Message) (lines : Lines Name) → d.0 ≡ l.0 → AreLinesOf (d ∷ durables) (l ∷ lines) → AreLinesOf durables lines
unfolding IsStrictlySortedBy
rest_of d durables l lines same are =
    let above = subst (λ (k : Name). AllByRecursion (λ (x : Name × List Message). name_cmp k x.0 ≡ Less) lines) (sym same) (above_first l lines are.rising) in
    let others = all_weaker (λ (x : Name × List Message). name_cmp d.0 x.0 ≡ Less) (λ (x : Name × List Message). is_eq (name_cmp x.0 d.0) ≡ false) (λ x less. above_differs d.0 x.0 less) lines above in
    record { rising = are.rising.1; some = are.some.1; bound = bound_behind d durables lines others are.bound.1 }

-- where the first name has no line, all that have one are above it
above_name : (d : Name × List ℕ) (durables : List (Name × List ℕ)) (l : Name × List Message) (lines : Lines Name) → is_eq (name_cmp d.0 l.0) ≡ false → AllByRecursion (λ (x : Name × List ℕ). name_cmp d.0 x.0 ≡ Less) durables → AreLinesOf (d ∷ durables) (l ∷ lines) → AllByRecursion (λ (x : Name × List Message). name_cmp d.0 x.0 ≡ Less) (l ∷ lines)
above_name d durables l lines other above are =
    let some : IsSome (topic_of l.0 durables) = subst (λ (b : Bool). IsSome (cond b (Some d.1) (topic_of l.0 durables))) (other_way name_cmp same_names d.0 l.0 other) are.bound.0 in
    let first : name_cmp d.0 l.0 ≡ Less = among_keys name_cmp same_names (λ k. name_cmp d.0 k ≡ Less) l.0 durables some above in
    (first, all_weaker (λ (x : Name × List Message). name_cmp l.0 x.0 ≡ Less) (λ (x : Name × List Message). name_cmp d.0 x.0 ≡ Less) (λ x less. names_total.trans d.0 l.0 x.0 first less) lines (above_first l lines are.rising))

-- the lines of the entries of all names are those that were there
pub lines_again : (durables : List (Name × List ℕ)) (lines : Lines Name) → IsStrictlySortedBy name_cmp (keys_of durables) → AreLinesOf durables lines → lines_of (map (entry_in lines) durables) ≡ lines
unfolding IsStrictlySortedBy
lines_again [] [] sorted are = refl
lines_again [] (l ∷ lines) sorted are = absurd cc
lines_again (d ∷ durables) [] sorted are = lines_again durables [] sorted.1 (record { rising = tt; some = tt; bound = tt })
lines_again (d ∷ durables) (l ∷ lines) sorted are = by (is_eq (name_cmp d.0 l.0)) refl (λ rest. lines_again durables lines sorted.1 rest) (λ rest. lines_again durables (l ∷ lines) sorted.1 rest)
  where
    above : AllByRecursion (λ (x : Name × List ℕ). name_cmp d.0 x.0 ≡ Less) durables
    above = each_given (λ k. name_cmp d.0 k ≡ Less) (λ (x : Name × List ℕ). x.0) durables sorted.0

    by : (b : Bool) → is_eq (name_cmp d.0 l.0) ≡ b → (AreLinesOf durables lines → lines_of (map (entry_in lines) durables) ≡ lines) → (AreLinesOf durables (l ∷ lines) → lines_of (map (entry_in (l ∷ lines)) durables) ≡ l ∷ lines) → lines_of (map (entry_in (l ∷ lines)) (d ∷ durables)) ≡ l ∷ lines
    by true is rest all =
        let same : d.0 ≡ l.0 = same_names d.0 l.0 (is_equal (name_cmp d.0 l.0) is) in
        let others = all_weaker (λ (x : Name × List ℕ). name_cmp d.0 x.0 ≡ Less) (λ (x : Name × List ℕ). is_eq (name_cmp x.0 l.0) ≡ false) (λ x less. subst (λ (k : Name). is_eq (name_cmp x.0 k) ≡ false) same (above_differs d.0 x.0 less)) durables above in
        let tail : lines_of (map (entry_in (l ∷ lines)) durables) ≡ lines = ap lines_of (entries_without l lines durables others) ∙ rest (rest_of d durables l lines same are) in
        ap (λ (messages : List Message). cond (is_none messages) (lines_of (map (entry_in (l ∷ lines)) durables)) ((d.0, messages) ∷ lines_of (map (entry_in (l ∷ lines)) durables))) (line_here d.0 l lines is)
        ∙ ap (λ (b : Bool). cond b (lines_of (map (entry_in (l ∷ lines)) durables)) ((d.0, l.1) ∷ lines_of (map (entry_in (l ∷ lines)) durables))) are.some.0
        ∙ ap (λ (k : Name). (k, l.1) ∷ lines_of (map (entry_in (l ∷ lines)) durables)) same ∙ ap (λ (more : Lines Name). l ∷ more) tail
    by false is rest all =
        let over = above_name d durables l lines is above are in
        let others = all_weaker (λ (x : Name × List Message). name_cmp d.0 x.0 ≡ Less) (λ (x : Name × List Message). is_eq (name_cmp x.0 d.0) ≡ false) (λ x less. above_differs d.0 x.0 less) (l ∷ lines) over in
        ap (λ (messages : List Message). cond (is_none messages) (lines_of (map (entry_in (l ∷ lines)) durables)) ((d.0, messages) ∷ lines_of (map (entry_in (l ∷ lines)) durables))) (no_line d.0 (l ∷ lines) over)
        ∙ all (record { rising = are.rising; some = are.some; bound = bound_behind d durables (l ∷ lines) others are.bound })
