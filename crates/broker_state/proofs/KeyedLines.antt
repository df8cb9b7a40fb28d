use Rattle.std.proofs.Common.{◌≡◌, ◌+◌, List, [], ◌∷◌, ℕ, Bool, true, false, Option, Some, None, cond, unwrap_or, drop, if◌then◌else◌, refl, ap, sym, subst, ◌∙◌, arith}
use Rattle.std.specs.BTreeMap.{insert_entry, is_at}
use Rattle.std.specs.Cmp.{IsTotalOrder}
use Rattle.std.specs.List.{AllByRecursion, sum_by}
use Rattle.std.specs.List.Sorted.{IsStrictlySortedBy}
use Rattle.std.specs.Map.{keys_of, lookup, remove_entry}
use Rattle.std.specs.Option.{option_map}
use Rattle.std.specs.Ordering.{is_eq}
use Rattle.std.specs.declared.cmp.Ordering.{Ordering}
use Rattle.std.specs.declared.cmp.Ordering.TheVariants.{Less}
use Rattle.std.proofs.lemmas.Map.Entries.{sum_by-remove_entry, sum_by-insert_entry}
use Rattle.std.proofs.lemmas.List.Sums.{sum_by-cons}
use Rattle.line_core.specs.declared.message.Message.{Message}
use Rattle.line_core.specs.Lines.{inserted}
use Rattle.broker_state.specs.Lists.{is_none}
use Rattle.broker_state.specs.Names.{AreSame}
use Rattle.broker_state.specs.Waiting.{Lines, line_at, weight_of_lines, with_deliveries, with_line, with_message}
use Rattle.broker_state.proofs.Lookups.{is_equal, lookup_inserted, lookup_removed}
use Rattle.broker_state.proofs.SortedEntries.{all_inserted, all_removed, sorted_inserted, sorted_removed}
use Rattle.line_core.proofs.Inserted.{sum_by-inserted}

module _ (weight : Message → ℕ) where
  weight_of_line : (o : Option (List Message)) → sum_by weight (unwrap_or o []) ≡ unwrap_or (option_map (λ line. sum_by weight line) o) 0
  weight_of_line None = refl
  weight_of_line (Some line) = refl

  -- lines without one weigh that much less
  pub weight-removed : {K : Type 0} (cmp : K → K → Ordering) (key : K) (lines : Lines K) → weight_of_lines weight (remove_entry (is_at (cmp key)) lines) + sum_by weight (line_at cmp key lines) ≡ weight_of_lines weight lines
  weight-removed cmp key lines =
      omega (arith, sum_by-remove_entry (λ (l : List Message). sum_by weight l) (is_at (cmp key)) lines, weight_of_line (lookup (is_at (cmp key)) lines))

  module _ {K : Type 0} (cmp : K → K → Ordering) (total : IsTotalOrder cmp) where
    -- another line instead of a key's: its weight comes for that of the old one
    pub weight_of-with_line : (key : K) (line : List Message) (lines : Lines K) → lookup (is_at (cmp key)) (remove_entry (is_at (cmp key)) lines) ≡ None → IsStrictlySortedBy cmp (keys_of (remove_entry (is_at (cmp key)) lines)) → weight_of_lines weight (with_line cmp key line lines) + sum_by weight (line_at cmp key lines) ≡ weight_of_lines weight lines + sum_by weight line
    weight_of-with_line key [] lines absent sorted =
        omega (arith, sum_by-remove_entry (λ (l : List Message). sum_by weight l) (is_at (cmp key)) lines, weight_of_line (lookup (is_at (cmp key)) lines))
    weight_of-with_line key (m ∷ line) lines absent sorted =
        let out = sum_by-remove_entry (λ (l : List Message). sum_by weight l) (is_at (cmp key)) lines in
        let into = sum_by-insert_entry (λ (l : List Message). sum_by weight l) total (remove_entry (is_at (cmp key)) lines) key (m ∷ line) sorted in
        let without = rw absent at into in
        omega (arith, out, without, weight_of_line (lookup (is_at (cmp key)) lines))

    -- one more message in a line weighs what it does
    pub weight_of-with_message : (key : K) (m : Message) (lines : Lines K) → lookup (is_at (cmp key)) (remove_entry (is_at (cmp key)) lines) ≡ None → IsStrictlySortedBy cmp (keys_of (remove_entry (is_at (cmp key)) lines)) → weight_of_lines weight (with_message cmp key m lines) ≡ weight_of_lines weight lines + weight m
    weight_of-with_message key m lines absent sorted =
        omega (arith, weight_of-with_line key (inserted m (line_at cmp key lines)) lines absent sorted, sum_by-inserted m weight (line_at cmp key lines))

module _ {K : Type 0} (cmp : K → K → Ordering) where
  -- the lines without one, and with what is left of it put in under its own key, are those with the rest of the line
  pub put_rest : (from key : K) (line rest : List Message) (lines others after : Lines K) → others ≡ remove_entry (is_at (cmp from)) lines → from ≡ key → Some line ≡ lookup (is_at (cmp from)) lines → rest ≡ drop 1 line → after ≡ (if is_none rest then others else insert_entry cmp others key rest) → after ≡ with_line cmp from (drop 1 (line_at cmp from lines)) lines
  put_rest from key line rest lines others after without same found left is =
      let rest_of : rest ≡ drop 1 (line_at cmp from lines) = left ∙ ap (λ o. drop 1 (unwrap_or o [])) found in
      is ∙ ap (λ (es : Lines K). if is_none rest then es else insert_entry cmp es key rest) without
      ∙ ap (λ (t : K). if is_none rest then remove_entry (is_at (cmp from)) lines else insert_entry cmp (remove_entry (is_at (cmp from)) lines) t rest) (sym same)
      ∙ ap (λ (l : List Message). with_line cmp from l lines) rest_of

  -- and with the line and one more message in it put in
  pub put_more : (key : K) (m : Message) (line more : List Message) (lines others after : Lines K) → others ≡ remove_entry (is_at (cmp key)) lines → line ≡ line_at cmp key lines → more ≡ inserted m line → after ≡ (if is_none more then others else insert_entry cmp others key more) → after ≡ with_message cmp key m lines
  put_more key m line more lines others after without found grown is =
      is ∙ ap (λ (es : Lines K). if is_none more then es else insert_entry cmp es key more) without
      ∙ ap (λ (l : List Message). with_line cmp key l lines) (grown ∙ ap (inserted m) found)

-- lines by rising key
module _ {K : Type 0} (cmp : K → K → Ordering) (total : IsTotalOrder cmp) where
  abbrev pub IsRising : Lines K → Type 0
  IsRising lines = IsStrictlySortedBy cmp (keys_of lines)

  pub rising-with_line : (key : K) (line : List Message) (lines : Lines K) → IsRising lines → IsRising (with_line cmp key line lines)
  rising-with_line key line lines rising =
      let others = sorted_removed cmp (is_at (cmp key)) lines rising in
      elim (is_none line) as (λ b. IsRising (cond b (remove_entry (is_at (cmp key)) lines) (insert_entry cmp (remove_entry (is_at (cmp key)) lines) key line))) [ true ↦ others | false ↦ sorted_inserted cmp total key line (remove_entry (is_at (cmp key)) lines) others ]

  pub rising-with_message : (key : K) (m : Message) (lines : Lines K) → IsRising lines → IsRising (with_message cmp key m lines)
  rising-with_message key m lines rising =
      rising-with_line key (inserted m (line_at cmp key lines)) lines rising

  module _ (same : AreSame cmp) where
    -- behind a key there is no other that is the same
    pub absent_behind : (key : K) (lines : Lines K) → AllByRecursion (λ k. cmp key k ≡ Less) (keys_of lines) → lookup (is_at (cmp key)) lines ≡ None
    absent_behind key [] all = refl
    absent_behind key (e ∷ lines) all =
        ap (λ o. cond (is_eq o) (Some e.1) (lookup (is_at (cmp key)) lines)) all.0 ∙ absent_behind key lines all.1

    absent_at : (key : K) (e : K × List Message) (lines : Lines K) (b : Bool) → is_at (cmp key) e.0 ≡ b → IsRising (e ∷ lines) → lookup (is_at (cmp key)) (remove_entry (is_at (cmp key)) lines) ≡ None → lookup (is_at (cmp key)) (cond b lines (e ∷ remove_entry (is_at (cmp key)) lines)) ≡ None
    unfolding IsStrictlySortedBy
    absent_at key e lines true is rising rest =
        let it : key ≡ e.0 = same key e.0 (is_equal (cmp key e.0) is) in
        absent_behind key lines (subst (λ (k : K). AllByRecursion (λ n. cmp k n ≡ Less) (keys_of lines)) (sym it) rising.0)
    absent_at key e lines false is rising rest =
        ap (λ b. cond b (Some e.1) (lookup (is_at (cmp key)) (remove_entry (is_at (cmp key)) lines))) is ∙ rest

    pub absent-removed : (key : K) (lines : Lines K) → IsRising lines → lookup (is_at (cmp key)) (remove_entry (is_at (cmp key)) lines) ≡ None
    unfolding IsStrictlySortedBy
    absent-removed key [] rising = refl
    absent-removed key (e ∷ lines) rising =
        absent_at key e lines (is_at (cmp key) e.0) refl rising (absent-removed key lines rising.1)

    -- another line weighs what it does instead of the old one, and one more message what it does
    pub weight-with_line : (weight : Message → ℕ) (key : K) (line : List Message) (lines : Lines K) → IsRising lines → weight_of_lines weight (with_line cmp key line lines) + sum_by weight (line_at cmp key lines) ≡ weight_of_lines weight lines + sum_by weight line
    weight-with_line weight key line lines rising =
        weight_of-with_line weight cmp total key line lines (absent-removed key lines rising) (sorted_removed cmp (is_at (cmp key)) lines rising)

    pub weight-with_message : (weight : Message → ℕ) (key : K) (m : Message) (lines : Lines K) → IsRising lines → weight_of_lines weight (with_message cmp key m lines) ≡ weight_of_lines weight lines + weight m
    weight-with_message weight key m lines rising =
        weight_of-with_message weight cmp total key m lines (absent-removed key lines rising) (sorted_removed cmp (is_at (cmp key)) lines rising)

    -- the messages of deliveries weigh what they do in their line
    pub with_deliveries_weight : (weight : Message → ℕ) (key : K) (deliveries : List (ℕ × Message)) (lines : Lines K) → IsRising lines → IsRising (with_deliveries cmp key deliveries lines) × (weight_of_lines weight (with_deliveries cmp key deliveries lines) ≡ weight_of_lines weight lines + sum_by (λ (d : ℕ × Message). weight d.1) deliveries)
    with_deliveries_weight weight key [] lines rising = (rising, omega arith)
    with_deliveries_weight weight key (d ∷ deliveries) lines rising =
        let rest = with_deliveries_weight weight key deliveries (with_message cmp key d.1 lines) (rising-with_message key d.1 lines rising) in
        (rest.0, omega (arith, rest.1, weight-with_message weight key d.1 lines rising, sum_by-cons (λ (x : ℕ × Message). weight x.1) d deliveries))

-- What each key has, it has where a line is changed whose key has it.
module _ {K : Type 0} (cmp : K → K → Ordering) (P : K → Type 0) (key : K) (new : P key) where
  pub keys-with_line : (line : List Message) (lines : Lines K) → AllByRecursion (λ (e : K × List Message). P e.0) lines → AllByRecursion (λ (e : K × List Message). P e.0) (with_line cmp key line lines)
  keys-with_line line lines all =
      let others = all_removed (λ (e : K × List Message). P e.0) (is_at (cmp key)) lines all in
      elim (is_none line) as (λ b. AllByRecursion (λ (e : K × List Message). P e.0) (cond b (remove_entry (is_at (cmp key)) lines) (insert_entry cmp (remove_entry (is_at (cmp key)) lines) key line))) [ true ↦ others | false ↦ all_inserted (λ (e : K × List Message). P e.0) cmp key line new (λ e has. has) (remove_entry (is_at (cmp key)) lines) others ]

  pub keys-with_message : (m : Message) (lines : Lines K) → AllByRecursion (λ (e : K × List Message). P e.0) lines → AllByRecursion (λ (e : K × List Message). P e.0) (with_message cmp key m lines)
  keys-with_message m lines all = keys-with_line (inserted m (line_at cmp key lines)) lines all

  pub keys-with_deliveries : (deliveries : List (ℕ × Message)) (lines : Lines K) → AllByRecursion (λ (e : K × List Message). P e.0) lines → AllByRecursion (λ (e : K × List Message). P e.0) (with_deliveries cmp key deliveries lines)
  keys-with_deliveries [] lines all = all
  keys-with_deliveries (d ∷ deliveries) lines all =
      keys-with_deliveries deliveries (with_message cmp key d.1 lines) (keys-with_message d.1 lines all)

-- Another key's line stays where one is changed.
module _ {K : Type 0} (cmp : K → K → Ordering) (same : AreSame cmp) (q d : K) (other : is_eq (cmp q d) ≡ false) where
  pub other_line : (line : List Message) (es : Lines K) → line_at cmp q (with_line cmp d line es) ≡ line_at cmp q es
  other_line [] es = ap (λ o. unwrap_or o []) (lookup_removed cmp same q d other es)
  other_line (m ∷ rest) es = ap (λ o. unwrap_or o []) (lookup_inserted cmp same q d other (m ∷ rest) (remove_entry (is_at (cmp d)) es) ∙ lookup_removed cmp same q d other es)
