use Rattle.std.proofs.Common.{◌≡◌, ◌&&◌, ◌||◌, ◌++◌, List, [], ◌∷◌, ℕ, Bool, true, false, true≢false, Some, None, cond, count_by, filter, fold, length, map, refl, sym, ap, subst, ◌∙◌, arith, if◌then◌else◌}
use Rattle.std.specs.BTreeMap.{insert_entry, is_at}
use Rattle.std.specs.BTreeSet.{insert_key}
use Rattle.std.specs.List.{AllByRecursion, list_any}
use Rattle.std.specs.List.Sorted.{IsStrictlySortedBy}
use Rattle.std.specs.Map.{keys_of, lookup, remove_entry}
use Rattle.std.specs.Ordering.{is_eq, match_ordering, ordering_reverse}
use Rattle.std.specs.Set.{remove_key}
use Rattle.std.specs.Str.{bytes_eq}
use Rattle.std.specs.declared.cmp.Ordering.{Ordering}
use Rattle.std.specs.declared.cmp.Ordering.TheVariants.{Less, Equal, Greater}
use Rattle.std.proofs.lemmas.List.{append_assoc}
use Rattle.std.proofs.lemmas.List.Sums.{sum_by-cons}
use Rattle.std.proofs.lemmas.Map.Keys.{sorted_head, sorted_tail}
use Rattle.std.proofs.lemmas.Map.Text.{is_eq-slice_cmp}
use Rattle.std.proofs.lemmas.Option.{none-some, same_Some}
use Rattle.line_core.specs.declared.message.Message.{Message}
use Rattle.broker_state.specs.declared.subscription.Subscription.{Subscription}
use Rattle.broker_state.specs.Names.{Name, name_cmp, text_cmp}
use Rattle.broker_state.specs.Operations.{copied_to_names, uses}
use Rattle.broker_state.specs.Waiting.{Lines, with_message}
use Rattle.broker_state.proofs.Keys.{name_itself, names_total}
use Rattle.broker_tables.specs.Topics.{names_of}

abbrev pub Entry : Type 0
Entry = Name × List ℕ

abbrev one : Bool → ℕ
one b = cond b 1 0

module _ (to : List ℕ) where
  abbrev is_to : Entry → Bool
  is_to e = bytes_eq e.1 to

  -- the names of some entries, once it is known whether the first is bound to the topic
  abbrev names_by : Bool → Entry → List Entry → List Name
  names_by b e es = map (λ (d : Entry). d.0) (cond b (e ∷ filter is_to es) (filter is_to es))

  pub is_bound : (e : Entry) (es : List Entry) → is_to e ≡ true → names_of to (e ∷ es) ≡ e.0 ∷ names_of to es
  is_bound e es is = ap (λ b. names_by b e es) is

  pub is_elsewhere : (e : Entry) (es : List Entry) → is_to e ≡ false → names_of to (e ∷ es) ≡ names_of to es
  is_elsewhere e es is = ap (λ b. names_by b e es) is

  -- there are as many as entries that are bound to it
  pub count_names : (es : List Entry) → count_by is_to es ≡ length (names_of to es)
  count_names [] = refl
  count_names (e ∷ es) = by (is_to e) refl (count_names es)
    where
      by : (b : Bool) → is_to e ≡ b → count_by is_to es ≡ length (names_of to es) → count_by is_to (e ∷ es) ≡ length (names_of to (e ∷ es))
      by true is rest =
          omega (arith, sum_by-cons (λ (d : Entry). one (is_to d)) e es, ap one is, ap length (is_bound e es is), rest)
      by false is rest =
          omega (arith, sum_by-cons (λ (d : Entry). one (is_to d)) e es, ap one is, ap length (is_elsewhere e es is), rest)

  -- a subscription that uses one of them
  pub any_names : (sub : Subscription) (es : List Entry) → list_any (λ durable. bytes_eq durable.1 to && uses durable.0 sub) es ≡ list_any (λ name. uses name sub) (names_of to es)
  any_names sub [] = refl
  any_names sub (e ∷ es) =
      let rest = any_names sub es in
      elim (is_to e) as (λ b. ((b && uses e.0 sub) || list_any (λ durable. bytes_eq durable.1 to && uses durable.0 sub) es) ≡ list_any (λ name. uses name sub) (names_by b e es)) [
        | true ↦ ap (λ r. uses e.0 sub || r) rest
        | false ↦ rest
      ]

  -- what holds of all names holds of those
  pub all_names : (P : Name → Type 0) (es : List Entry) → AllByRecursion P (keys_of es) → AllByRecursion P (names_of to es)
  all_names P [] all = tt
  all_names P (e ∷ es) all =
      let rest = all_names P es all.1 in
      elim (is_to e) as (λ b. AllByRecursion P (names_by b e es)) [ true ↦ (all.0, rest) | false ↦ rest ]

-- each name of the message's topic gets a copy
pub copied_names : (m : Message) (es : List Entry) (lines : Lines Name) → copied_to_names m es lines ≡ fold (λ more name. with_message name_cmp name m more) lines (names_of m.sending.destination es)
copied_names m [] lines = refl
copied_names m (e ∷ es) lines =
    let to = m.sending.destination in
    let more = with_message name_cmp e.0 m lines in
    let rest = λ (l : Lines Name). copied_names m es l in
    elim (bytes_eq e.1 to) as (λ b. copied_to_names m es (cond b more lines) ≡ fold (λ l name. with_message name_cmp name m l) lines (map (λ (d : Entry). d.0) (cond b (e ∷ filter (λ (d : Entry). bytes_eq d.1 to) es) (filter (λ (d : Entry). bytes_eq d.1 to) es)))) [
      | true ↦ rest more
      | false ↦ rest lines
    ]

-- A name that stands before all others, or behind them.
pub goes_first : (ks : List Name) (n : Name) → AllByRecursion (λ k. name_cmp n k ≡ Less) ks → insert_key name_cmp ks n ≡ n ∷ ks
goes_first [] n all = refl
goes_first (k ∷ ks) n all =
    ap (λ o. match_ordering o (n ∷ k ∷ ks) (k ∷ ks) (k ∷ insert_key name_cmp ks n)) all.0

pub goes_last : (ks : List Name) (n : Name) → AllByRecursion (λ k. name_cmp k n ≡ Less) ks → insert_key name_cmp ks n ≡ ks ++ n ∷ []
goes_last [] n all = refl
goes_last (k ∷ ks) n all =
    let over : name_cmp n k ≡ Greater = names_total.antisymm n k ∙ ap ordering_reverse all.0 in
    ap (λ o. match_ordering o (n ∷ k ∷ ks) (k ∷ ks) (k ∷ insert_key name_cmp ks n)) over ∙ ap (λ (l : List Name). k ∷ l) (goes_last ks n all.1)

-- A name that is not among the entries.
module _ (n : Name) (t : List ℕ) where
  abbrev is_n : Name → Bool
  is_n = is_at (name_cmp n)

  -- it is over the first entry or under it
  absent : (e : Entry) (es : List Entry) (o : Ordering) → name_cmp n e.0 ≡ o → lookup is_n (e ∷ es) ≡ None → (is_eq o ≡ false) × (lookup is_n es ≡ None)
  absent e es Less is none =
      (refl, sym (ap (λ p. cond (is_eq p) (Some e.1) (lookup is_n es)) is) ∙ none)
  absent e es Equal is none =
      absurd (none-some e.1 (sym none ∙ ap (λ p. cond (is_eq p) (Some e.1) (lookup is_n es)) is))
  absent e es Greater is none =
      (refl, sym (ap (λ p. cond (is_eq p) (Some e.1) (lookup is_n es)) is) ∙ none)

  abbrev inserted_by : Ordering → Entry → List Entry → List Entry
  inserted_by o e es = match_ordering o ((n, t) ∷ e ∷ es) ((e.0, t) ∷ es) (e ∷ insert_entry name_cmp es n t)

  -- taken out again, it leaves the entries as they were
  pub undone : (es : List Entry) → lookup is_n es ≡ None → remove_entry is_n (insert_entry name_cmp es n t) ≡ es
  undone [] none = ap (λ b. cond b [] ((n, t) ∷ [])) (name_itself n)
  undone (e ∷ es) none = by (name_cmp n e.0) refl (λ rest. undone es rest)
    where
      by : (o : Ordering) → name_cmp n e.0 ≡ o → (lookup is_n es ≡ None → remove_entry is_n (insert_entry name_cmp es n t) ≡ es) → remove_entry is_n (inserted_by o e es) ≡ e ∷ es
      by Less is rest =
          ap (λ b. cond b (e ∷ es) ((n, t) ∷ remove_entry is_n (e ∷ es))) (name_itself n)
      by Equal is rest = absurd (true≢false (absent e es Equal is none).0)
      by Greater is rest =
          ap (λ o. cond (is_eq o) (insert_entry name_cmp es n t) (e ∷ remove_entry is_n (insert_entry name_cmp es n t))) is
          ∙ ap (λ (l : List Entry). e ∷ l) (rest (absent e es Greater is none).1)

  module _ (to : List ℕ) where
    -- bound to another topic, it leaves the names of this one
    inserted_elsewhere : bytes_eq t to ≡ false → (es : List Entry) → lookup is_n es ≡ None → names_of to (insert_entry name_cmp es n t) ≡ names_of to es
    inserted_elsewhere other [] none = is_elsewhere to (n, t) [] other
    inserted_elsewhere other (e ∷ es) none =
        by (name_cmp n e.0) refl (λ rest. inserted_elsewhere other es rest)
      where
        by : (o : Ordering) → name_cmp n e.0 ≡ o → (lookup is_n es ≡ None → names_of to (insert_entry name_cmp es n t) ≡ names_of to es) → names_of to (inserted_by o e es) ≡ names_of to (e ∷ es)
        by Less is rest = is_elsewhere to (n, t) (e ∷ es) other
        by Equal is rest = absurd (true≢false (absent e es Equal is none).0)
        by Greater is rest =
            let behind = rest (absent e es Greater is none).1 in
            elim (bytes_eq e.1 to) as (λ b. names_by to b e (insert_entry name_cmp es n t) ≡ names_by to b e es) [
              | true ↦ ap (λ (l : List Name). e.0 ∷ l) behind
              | false ↦ behind
            ]

    -- bound to this one, it comes to its place among the names
    inserted_here : bytes_eq t to ≡ true → (es : List Entry) → lookup is_n es ≡ None → IsStrictlySortedBy name_cmp (keys_of es) → names_of to (insert_entry name_cmp es n t) ≡ insert_key name_cmp (names_of to es) n
    inserted_here own [] none sorted = is_bound to (n, t) [] own
    inserted_here own (e ∷ es) none sorted =
        by (name_cmp n e.0) refl (λ rest. inserted_here own es rest (sorted_tail name_cmp e.0 (keys_of es) sorted))
      where
        under : name_cmp n e.0 ≡ Less → (ks : List Name) → AllByRecursion (λ k. name_cmp e.0 k ≡ Less) ks → AllByRecursion (λ k. name_cmp n k ≡ Less) ks
        under less [] all = tt
        under less (k ∷ ks) all = (names_total.trans n e.0 k less all.0, under less ks all.1)

        by : (o : Ordering) → name_cmp n e.0 ≡ o → (lookup is_n es ≡ None → names_of to (insert_entry name_cmp es n t) ≡ insert_key name_cmp (names_of to es) n) → names_of to (inserted_by o e es) ≡ insert_key name_cmp (names_of to (e ∷ es)) n
        by Less is rest =
            is_bound to (n, t) (e ∷ es) own
            ∙ sym (goes_first (names_of to (e ∷ es)) n (all_names to (λ k. name_cmp n k ≡ Less) (e ∷ es) (is, under is (keys_of es) (sorted_head name_cmp e.0 (keys_of es) sorted))))
        by Equal is rest = absurd (true≢false (absent e es Equal is none).0)
        by Greater is rest =
            let behind = rest (absent e es Greater is none).1 in
            elim (bytes_eq e.1 to) as (λ b. names_by to b e (insert_entry name_cmp es n t) ≡ insert_key name_cmp (names_by to b e es) n) [
              | true ↦ ap (λ (l : List Name). e.0 ∷ l) behind ∙ sym (ap (λ o. match_ordering o (n ∷ e.0 ∷ names_of to es) (e.0 ∷ names_of to es) (e.0 ∷ insert_key name_cmp (names_of to es) n)) is)
              | false ↦ behind
            ]

    pub names_inserted : (es : List Entry) → lookup is_n es ≡ None → IsStrictlySortedBy name_cmp (keys_of es)
        → names_of to (insert_entry name_cmp es n t) ≡ (if is_at (text_cmp t) to then insert_key name_cmp (names_of to es) n else names_of to es)
    names_inserted es none sorted = by (bytes_eq t to) refl
      where
        by : (b : Bool) → bytes_eq t to ≡ b → names_of to (insert_entry name_cmp es n t) ≡ (if is_at (text_cmp t) to then insert_key name_cmp (names_of to es) n else names_of to es)
        by true own =
            inserted_here own es none sorted ∙ sym (ap (λ b. if b then insert_key name_cmp (names_of to es) n else names_of to es) (is_eq-slice_cmp t to ∙ own))
        by false other =
            inserted_elsewhere other es none ∙ sym (ap (λ b. if b then insert_key name_cmp (names_of to es) n else names_of to es) (is_eq-slice_cmp t to ∙ other))

-- An entry leaves, by its name.
module _ (test : Name → Bool) (t to : List ℕ) where
  abbrev removed_by : Bool → Entry → List Entry → List Entry
  removed_by b e es = cond b es (e ∷ remove_entry test es)

  found_by : (e : Entry) (es : List Entry) (b : Bool) → test e.0 ≡ b → lookup test (e ∷ es) ≡ Some t → cond b (Some e.1) (lookup test es) ≡ Some t
  found_by e es b is found = sym (ap (λ c. cond c (Some e.1) (lookup test es)) is) ∙ found

  removed_here : bytes_eq t to ≡ true → (es : List Entry) → lookup test es ≡ Some t → names_of to (remove_entry test es) ≡ remove_key test (names_of to es)
  removed_here own [] found = absurd (none-some t found)
  removed_here own (e ∷ es) found = by (test e.0) refl (λ rest. removed_here own es rest)
    where
      by : (b : Bool) → test e.0 ≡ b → (lookup test es ≡ Some t → names_of to (remove_entry test es) ≡ remove_key test (names_of to es)) → names_of to (removed_by b e es) ≡ remove_key test (names_of to (e ∷ es))
      by true is rest =
          let topic : bytes_eq e.1 to ≡ true = ap (λ (l : List ℕ). bytes_eq l to) (same_Some e.1 t (found_by e es true is found)) ∙ own in
          sym (ap (remove_key test) (is_bound to e es topic) ∙ ap (λ b. cond b (names_of to es) (e.0 ∷ remove_key test (names_of to es))) is)
      by false is rest =
          let behind = rest (found_by e es false is found) in
          elim (bytes_eq e.1 to) as (λ b. names_by to b e (remove_entry test es) ≡ remove_key test (names_by to b e es)) [
            | true ↦ ap (λ (l : List Name). e.0 ∷ l) behind ∙ sym (ap (λ b. cond b (names_of to es) (e.0 ∷ remove_key test (names_of to es))) is)
            | false ↦ behind
          ]

  removed_elsewhere : bytes_eq t to ≡ false → (es : List Entry) → lookup test es ≡ Some t → names_of to (remove_entry test es) ≡ names_of to es
  removed_elsewhere other [] found = absurd (none-some t found)
  removed_elsewhere other (e ∷ es) found = by (test e.0) refl (λ rest. removed_elsewhere other es rest)
    where
      by : (b : Bool) → test e.0 ≡ b → (lookup test es ≡ Some t → names_of to (remove_entry test es) ≡ names_of to es) → names_of to (removed_by b e es) ≡ names_of to (e ∷ es)
      by true is rest =
          let topic : bytes_eq e.1 to ≡ false = ap (λ (l : List ℕ). bytes_eq l to) (same_Some e.1 t (found_by e es true is found)) ∙ other in
          sym (is_elsewhere to e es topic)
      by false is rest =
          let behind = rest (found_by e es false is found) in
          elim (bytes_eq e.1 to) as (λ b. names_by to b e (remove_entry test es) ≡ names_by to b e es) [
            | true ↦ ap (λ (l : List Name). e.0 ∷ l) behind
            | false ↦ behind
          ]

  pub names_removed : (es : List Entry) → lookup test es ≡ Some t
      → names_of to (remove_entry test es) ≡ (if is_at (text_cmp t) to then remove_key test (names_of to es) else names_of to es)
  names_removed es found = by (bytes_eq t to) refl
    where
      by : (b : Bool) → bytes_eq t to ≡ b → names_of to (remove_entry test es) ≡ (if is_at (text_cmp t) to then remove_key test (names_of to es) else names_of to es)
      by true own =
          removed_here own es found ∙ sym (ap (λ b. if b then remove_key test (names_of to es) else names_of to es) (is_eq-slice_cmp t to ∙ own))
      by false other =
          removed_elsewhere other es found ∙ sym (ap (λ b. if b then remove_key test (names_of to es) else names_of to es) (is_eq-slice_cmp t to ∙ other))

-- Names come under their topics one after another, as they stand.
sorted_names : (to : List ℕ) (es : List Entry) → IsStrictlySortedBy name_cmp (keys_of es) → IsStrictlySortedBy name_cmp (names_of to es)
unfolding IsStrictlySortedBy
sorted_names to [] sorted = tt
sorted_names to (e ∷ es) sorted =
    let rest = sorted_names to es sorted.1 in
    elim (bytes_eq e.1 to) as (λ b. IsStrictlySortedBy name_cmp (names_by to b e es)) [ true ↦ (all_names to (λ k. name_cmp e.0 k ≡ Less) es sorted.0, rest) | false ↦ rest ]

among : {X : Type 0} (P : X → Type 0) (xs ys : List X) (x : X) → AllByRecursion P (xs ++ x ∷ ys) → P x
among P [] ys x all = all.0
among P (z ∷ xs) ys x all = among P xs ys x all.1

all_under : (ks rest : List Name) (n : Name) → IsStrictlySortedBy name_cmp (ks ++ n ∷ rest) → AllByRecursion (λ k. name_cmp k n ≡ Less) ks
unfolding IsStrictlySortedBy
all_under [] rest n sorted = tt
all_under (k ∷ ks) rest n sorted =
    (among (λ y. name_cmp k y ≡ Less) ks rest n sorted.0, all_under ks rest n sorted.1)

pub one_grouped : (to t : List ℕ) (n : Name) (es rest : List Entry) (old new : List Name) → IsStrictlySortedBy name_cmp (keys_of es)
    → names_of to es ≡ old ++ names_of to ((n, t) ∷ rest)
    → new ≡ (if is_at (text_cmp t) to then insert_key name_cmp old n else old)
    → names_of to es ≡ new ++ names_of to rest
one_grouped to t n es rest old new sorted was is = by (bytes_eq t to) refl
  where
    by : (b : Bool) → bytes_eq t to ≡ b → names_of to es ≡ new ++ names_of to rest
    by true own =
        let split = was ∙ ap (λ (l : List Name). old ++ l) (is_bound to (n, t) rest own) in
        let last = is ∙ ap (λ b. if b then insert_key name_cmp old n else old) (is_eq-slice_cmp t to ∙ own) ∙ goes_last old n (all_under old (names_of to rest) n (subst (IsStrictlySortedBy name_cmp) split (sorted_names to es sorted))) in
        split ∙ sym (append_assoc old (n ∷ []) (names_of to rest)) ∙ ap (λ (l : List Name). l ++ names_of to rest) (sym last)
    by false other =
        was ∙ ap (λ (l : List Name). old ++ l) (is_elsewhere to (n, t) rest other)
        ∙ ap (λ (l : List Name). l ++ names_of to rest) (sym (is ∙ ap (λ b. if b then insert_key name_cmp old n else old) (is_eq-slice_cmp t to ∙ other)))
