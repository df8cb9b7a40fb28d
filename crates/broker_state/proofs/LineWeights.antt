use Rattle.std.proofs.Common.{◌≡◌, ◌≤◌, ◌+◌, ◌&&◌, List, [], ◌∷◌, ℕ, Bool, true, false, Option, Some, None, cond, is_some, map, not, unwrap_or, refl, sym, ap, subst, ◌∙◌, arith, if◌then◌else◌}
use Rattle.std.specs.BTreeMap.{is_at}
use Rattle.std.specs.Cmp.{IsTotalOrder}
use Rattle.std.specs.List.{AllByRecursion, sum_by}
use Rattle.std.specs.List.Sorted.{IsStrictlySortedBy}
use Rattle.std.specs.Map.{keys_of, remove_entry}
use Rattle.std.specs.Ordering.{is_eq}
use Rattle.std.specs.Str.{bytes_eq}
use Rattle.std.specs.declared.cmp.Ordering.{Ordering}
use Rattle.std.specs.declared.cmp.Ordering.TheVariants.{Less}
use Rattle.std.proofs.lemmas.List.Sums.{sum_by-cons}
use Rattle.std.proofs.lemmas.Map.Text.{is_eq-slice_cmp}
use Rattle.command_core.specs.Destinations.{is_queue}
use Rattle.line_core.specs.declared.message.Message.{Message}
use Rattle.line_core.specs.Lines.{inserted}
use Rattle.line_core.proofs.Inserted.{sum_by-inserted}
use Rattle.broker_state.specs.declared.subscription.Subscription.{Subscription}
use Rattle.broker_state.specs.Kept.{takes_from, with_all}
use Rattle.broker_state.specs.Names.{AreSame, Name, name_cmp, text_cmp}
use Rattle.broker_state.specs.Operations.{copied_to_names, uses}
use Rattle.broker_state.specs.Waiting.{Lines, Shared, left_from, left_shared, line_at, line_for, line_from, returned, with_line, with_message}
use Rattle.broker_state.proofs.KeyedLines.{IsRising, absent-removed, other_line}
use Rattle.broker_state.proofs.Keys.{is_eq-name_cmp, names_total, same_names, same_texts, texts_total}
use Rattle.broker_state.proofs.Lookups.{is_equal, lookup_new, lookup_removed}
use Rattle.broker_state.proofs.Restarts.{message_put, name_back_from, queue_back_from, uses_by}
use Rattle.broker_state.proofs.SharedOrder.{AreRising}

-- What the line of one key weighs, after a line is changed.

-- a key that is the same as another is so as itself
same_itself : {K : Type 0} (cmp : K → K → Ordering) → AreSame cmp → (q key : K) → is_eq (cmp q key) ≡ true → is_eq (cmp key key) ≡ true
same_itself cmp same q key is =
    sym (ap (λ k. is_eq (cmp k key)) (same q key (is_equal (cmp q key) is))) ∙ is

module _ {K : Type 0} (cmp : K → K → Ordering) (total : IsTotalOrder cmp) (same : AreSame cmp) where
  -- a line has what is put there
  pub line_put : (key : K) (line : List Message) (lines : Lines K) → is_eq (cmp key key) ≡ true → IsRising cmp total lines → line_at cmp key (with_line cmp key line lines) ≡ line
  line_put key [] lines itself rising =
      ap (λ o. unwrap_or o []) (absent-removed cmp total same key lines rising)
  line_put key (m ∷ rest) lines itself rising =
      ap (λ o. unwrap_or o []) (lookup_new cmp key (m ∷ rest) (remove_entry (is_at (cmp key)) lines) itself)

  module _ (weight : Message → ℕ) where
    -- a line with one more message weighs what it does more, and another key's as much
    pub weight_put : (q key : K) (m : Message) (lines : Lines K) (b : Bool) → is_eq (cmp q key) ≡ b → sum_by weight (line_at cmp q (with_message cmp key m lines)) ≡ sum_by weight (line_at cmp q lines) + cond b (weight m) 0
    weight_put q key m lines true is =
        let it : q ≡ key = same q key (is_equal (cmp q key) is) in
        let put : sum_by weight (line_at cmp key (with_message cmp key m lines)) ≡ sum_by weight (line_at cmp key lines) + weight m = ap (λ l. sum_by weight l) (message_put cmp total same key m lines (same_itself cmp same q key is)) ∙ sum_by-inserted m weight (line_at cmp key lines) in
        subst (λ (k : K). sum_by weight (line_at cmp k (with_message cmp key m lines)) ≡ sum_by weight (line_at cmp k lines) + weight m) (sym it) put
    weight_put q key m lines false other =
        omega (arith, ap (λ l. sum_by weight l) (other_line cmp same q key other (inserted m (line_at cmp key lines)) lines))

    -- once a line is left without its first message
    pub weight_left : (q key : K) (m : Message) (rest : List Message) (lines : Lines K) (b : Bool) → is_eq (cmp q key) ≡ b → IsRising cmp total lines → line_at cmp key lines ≡ m ∷ rest → sum_by weight (line_at cmp q (with_line cmp key rest lines)) + cond b (weight m) 0 ≡ sum_by weight (line_at cmp q lines)
    weight_left q key m rest lines true is rising line =
        let it : q ≡ key = same q key (is_equal (cmp q key) is) in
        let left : sum_by weight (line_at cmp key (with_line cmp key rest lines)) ≡ sum_by weight rest = ap (λ l. sum_by weight l) (line_put key rest lines (same_itself cmp same q key is) rising) in
        let before : sum_by weight (line_at cmp key lines) ≡ sum_by weight (m ∷ rest) = ap (λ l. sum_by weight l) line in
        let now : sum_by weight (line_at cmp key (with_line cmp key rest lines)) + weight m ≡ sum_by weight (line_at cmp key lines) = omega (arith, left, before, sum_by-cons weight m rest) in
        subst (λ (k : K). sum_by weight (line_at cmp k (with_line cmp key rest lines)) + weight m ≡ sum_by weight (line_at cmp k lines)) (sym it) now
    weight_left q key m rest lines false other rising line =
        omega (arith, ap (λ l. sum_by weight l) (other_line cmp same q key other rest lines))

    -- and once one is removed
    pub weight_removed : (q key : K) (lines : Lines K) (b : Bool) → is_eq (cmp q key) ≡ b → IsRising cmp total lines → sum_by weight (line_at cmp q (remove_entry (is_at (cmp key)) lines)) ≤ sum_by weight (line_at cmp q lines)
    weight_removed q key lines true is rising =
        let it : q ≡ key = same q key (is_equal (cmp q key) is) in
        let none : sum_by weight (line_at cmp key (remove_entry (is_at (cmp key)) lines)) ≡ 0 = ap (λ o. sum_by weight (unwrap_or o [])) (absent-removed cmp total same key lines rising) in
        let now : sum_by weight (line_at cmp key (remove_entry (is_at (cmp key)) lines)) ≤ sum_by weight (line_at cmp key lines) = omega (arith, none) in
        subst (λ (k : K). sum_by weight (line_at cmp k (remove_entry (is_at (cmp key)) lines)) ≤ sum_by weight (line_at cmp k lines)) (sym it) now
    weight_removed q key lines false other rising =
        omega (arith, ap (λ o. sum_by weight (unwrap_or o [])) (lookup_removed cmp same q key other lines))

module _ (weight : Message → ℕ) where
  -- what unacknowledged messages weigh
  abbrev pub flying : List (ℕ × Message) → ℕ
  flying flight = sum_by (λ (d : ℕ × Message). weight d.1) flight

  with_all_weight : (line more : List Message) → sum_by weight (with_all line more) ≡ sum_by weight line + sum_by weight more
  with_all_weight line [] = omega arith
  with_all_weight line (m ∷ more) =
      omega (arith, with_all_weight (inserted m line) more, sum_by-inserted m weight line, sum_by-cons weight m more)

  pub flown : (flight : List (ℕ × Message)) → sum_by weight (map (λ (d : ℕ × Message). d.1) flight) ≡ flying flight
  flown [] = refl
  flown (d ∷ flight) =
      omega (arith, flown flight, sum_by-cons weight d.1 (map (λ (x : ℕ × Message). x.1) flight), sum_by-cons (λ (x : ℕ × Message). weight x.1) d flight)

  pub flown_where : (b : Bool) (flight : List (ℕ × Message)) → sum_by weight (if b then map (λ (d : ℕ × Message). d.1) flight else []) ≡ (if b then flying flight else 0)
  flown_where true flight = flown flight
  flown_where false flight = refl

  -- what a subscription has not acknowledged, where it is such
  abbrev pub part : (Subscription → Bool) → Subscription → ℕ
  part such sub = if such sub then flying sub.unacknowledged else 0

  module _ (shared : Shared) (sub : Subscription) where
    -- what a subscription had goes back into its line
    pub queue_back : (to : List ℕ) → sum_by weight (line_at text_cmp to (returned shared sub).queues) ≡ sum_by weight (line_at text_cmp to shared.queues) + part (takes_from to) sub
    queue_back to =
        omega (arith, ap (λ l. sum_by weight l) (queue_back_from to shared sub sub.durable), with_all_weight (line_at text_cmp to shared.queues) (if takes_from to sub then map (λ (d : ℕ × Message). d.1) sub.unacknowledged else []), flown_where (takes_from to sub) sub.unacknowledged)

    pub name_back : (name : Name) → sum_by weight (line_at name_cmp name (returned shared sub).names) ≡ sum_by weight (line_at name_cmp name shared.names) + part (uses name) sub
    name_back name =
        omega (arith, ap (λ l. sum_by weight l) (name_back_from name shared sub sub.durable), with_all_weight (line_at name_cmp name shared.names) (if uses name sub then map (λ (d : ℕ × Message). d.1) sub.unacknowledged else []), flown_where (uses name sub) sub.unacknowledged)

    module _ (rising : AreRising shared) (m : Message) (rest : List Message) where
      queue_left_by : (to : List ℕ) (kind : Bool) → (if kind then line_at text_cmp sub.destination shared.queues else sub.line) ≡ m ∷ rest → sum_by weight (line_at text_cmp to (if kind then record shared { queues = with_line text_cmp sub.destination rest shared.queues } else shared).queues) + (if kind && bytes_eq to sub.destination then weight m else 0) ≡ sum_by weight (line_at text_cmp to shared.queues)
      queue_left_by to true line =
          weight_left text_cmp texts_total same_texts weight to sub.destination m rest shared.queues (bytes_eq to sub.destination) (is_eq-slice_cmp to sub.destination) rising.queues line
      queue_left_by to false line = omega arith

      queue_left_from : (to : List ℕ) (o : Option Name) → line_from shared sub o ≡ m ∷ rest → sum_by weight (line_at text_cmp to (left_from shared sub rest o).queues) + (if not (is_some o) && is_queue sub.destination && bytes_eq to sub.destination then weight m else 0) ≡ sum_by weight (line_at text_cmp to shared.queues)
      queue_left_from to (Some name) line = omega arith
      queue_left_from to None line = queue_left_by to (is_queue sub.destination) line

      -- a message that is handed out leaves its line
      pub queue_left : (to : List ℕ) → line_for shared sub ≡ m ∷ rest → sum_by weight (line_at text_cmp to (left_shared shared sub rest).queues) + (if takes_from to sub then weight m else 0) ≡ sum_by weight (line_at text_cmp to shared.queues)
      queue_left to line = queue_left_from to sub.durable line

      name_left_by : (name : Name) (kind : Bool) → sum_by weight (line_at name_cmp name (if kind then record shared { queues = with_line text_cmp sub.destination rest shared.queues } else shared).names) + 0 ≡ sum_by weight (line_at name_cmp name shared.names)
      name_left_by name true = omega arith
      name_left_by name false = omega arith

      name_left_from : (name : Name) (o : Option Name) → line_from shared sub o ≡ m ∷ rest → sum_by weight (line_at name_cmp name (left_from shared sub rest o).names) + (if uses_by name o then weight m else 0) ≡ sum_by weight (line_at name_cmp name shared.names)
      name_left_from name (Some other) line =
          weight_left name_cmp names_total same_names weight name other m rest shared.names (bytes_eq name.0 other.0 && bytes_eq name.1 other.1) (is_eq-name_cmp name other) rising.names line
      name_left_from name None line = name_left_by name (is_queue sub.destination)

      pub name_left : (name : Name) → line_for shared sub ≡ m ∷ rest → sum_by weight (line_at name_cmp name (left_shared shared sub rest).names) + (if uses name sub then weight m else 0) ≡ sum_by weight (line_at name_cmp name shared.names)
      name_left name line = name_left_from name sub.durable line

  -- A message to a topic goes once into the line of a name.
  module _ (m : Message) (name : Name) where
    abbrev more : Name × List ℕ → Lines Name → Lines Name
    more durable names =
        if bytes_eq durable.1 m.sending.destination then with_message name_cmp durable.0 m names else names

    other_more : (durable : Name × List ℕ) (names : Lines Name) → is_eq (name_cmp name durable.0) ≡ false → line_at name_cmp name (more durable names) ≡ line_at name_cmp name names
    other_more durable names other = by (bytes_eq durable.1 m.sending.destination)
      where
        by : (b : Bool) → line_at name_cmp name (if b then with_message name_cmp durable.0 m names else names) ≡ line_at name_cmp name names
        by true =
            other_line name_cmp same_names name durable.0 other (inserted m (line_at name_cmp durable.0 names)) names
        by false = refl

    others_more : (some : List (Name × List ℕ)) → AllByRecursion (λ k. name_cmp name k ≡ Less) (keys_of some) → (names : Lines Name) → line_at name_cmp name (copied_to_names m some names) ≡ line_at name_cmp name names
    others_more [] all names = refl
    others_more (durable ∷ some) all names =
        others_more some all.1 (more durable names) ∙ other_more durable names (ap is_eq all.0)

    one_more : (durable : Name × List ℕ) (names : Lines Name) → is_eq (name_cmp name durable.0) ≡ true → sum_by weight (line_at name_cmp name (more durable names)) ≤ sum_by weight (line_at name_cmp name names) + weight m
    one_more durable names is = by (bytes_eq durable.1 m.sending.destination)
      where
        by : (b : Bool) → sum_by weight (line_at name_cmp name (if b then with_message name_cmp durable.0 m names else names)) ≤ sum_by weight (line_at name_cmp name names) + weight m
        by true = omega (arith, weight_put name_cmp names_total same_names weight name durable.0 m names true is)
        by false = omega arith

    pub name_copied : (some : List (Name × List ℕ)) → IsStrictlySortedBy name_cmp (keys_of some) → (names : Lines Name) → sum_by weight (line_at name_cmp name (copied_to_names m some names)) ≤ sum_by weight (line_at name_cmp name names) + weight m
    unfolding IsStrictlySortedBy
    name_copied [] sorted names = omega arith
    name_copied (durable ∷ some) sorted names =
        by (is_eq (name_cmp name durable.0)) refl (name_copied some sorted.1 (more durable names)) sorted.0
      where
        by : (b : Bool) → is_eq (name_cmp name durable.0) ≡ b → sum_by weight (line_at name_cmp name (copied_to_names m some (more durable names))) ≤ sum_by weight (line_at name_cmp name (more durable names)) + weight m → AllByRecursion (λ k. name_cmp durable.0 k ≡ Less) (keys_of some) → sum_by weight (line_at name_cmp name (copied_to_names m some (more durable names))) ≤ sum_by weight (line_at name_cmp name names) + weight m
        by true is rest above =
            let it : name ≡ durable.0 = same_names name durable.0 (is_equal (name_cmp name durable.0) is) in
            let all = subst (λ (k : Name). AllByRecursion (λ y. name_cmp k y ≡ Less) (keys_of some)) (sym it) above in
            omega (arith, one_more durable names is, ap (λ l. sum_by weight l) (others_more some all (more durable names)))
        by false other rest above =
            omega (arith, rest, ap (λ l. sum_by weight l) (other_more durable names other))
