-- A line that is changed where it stands, in lines by rising key.
use Rattle.std.proofs.Common.{◌≡◌, ◌==◌, ◌+◌, length, true≢false, drop, unwrap_or, arith, List, [], ◌∷◌, ℕ, Bool, true, false, Option, Some, None, cond, is_some, if◌then◌else◌, refl, ap, subst, sym, ◌∙◌}
use Rattle.std.proofs.lemmas.Bool.Decides.{nat_tests}
use Rattle.std.specs.BTreeMap.{insert_entry, is_at}
use Rattle.std.specs.Cmp.{IsTotalOrder}
use Rattle.std.specs.List.{AllByRecursion}
use Rattle.std.specs.List.Sorted.{IsStrictlySortedBy}
use Rattle.std.specs.Map.{keys_of, lookup, remove_entry, set_value}
use Rattle.std.specs.Ordering.{is_eq, match_ordering, ordering_reverse}
use Rattle.std.specs.declared.cmp.Ordering.{Ordering}
use Rattle.std.specs.declared.cmp.Ordering.TheVariants.{Less, Equal, Greater}
use Rattle.line_core.specs.declared.message.Message.{Message}
use Rattle.line_core.specs.Lines.{inserted}
use Rattle.broker_state.specs.Lists.{is_none}
use Rattle.broker_state.specs.Names.{AreSame}
use Rattle.broker_tables.specs.Returns.{LoseFirst}
use Rattle.broker_state.proofs.KeyedLines.{weight-with_line}
use Rattle.broker_state.proofs.Restarts.{some_in}
use Rattle.broker_state.specs.Waiting.{Lines, line_at, weight_of_lines, with_line, with_message}

itself : {K : Type 0} (cmp : K → K → Ordering) → IsTotalOrder cmp → (key : K) → cmp key key ≡ Equal
itself cmp total key = by (cmp key key) refl (total.antisymm key key)
  where
    by : (o : Ordering) → cmp key key ≡ o → cmp key key ≡ ordering_reverse (cmp key key) → cmp key key ≡ Equal
    by Less is turned = absurd (never Less is turned)
      where
        never : (o : Ordering) → cmp key key ≡ Less → cmp key key ≡ ordering_reverse (cmp key key) → ⊥
        never o is turned = cc
    by Equal is turned = is
    by Greater is turned = absurd cc

module _ {K X : Type 0} (cmp : K → K → Ordering) (total : IsTotalOrder cmp) (key : K) where
  abbrev AreBehind : List (K × X) → Type 0
  AreBehind es = AllByRecursion (λ k. cmp key k ≡ Less) (keys_of es)

  -- what is behind a key that is less than another is behind that too
  behind_less : (k : K) → cmp key k ≡ Less → (es : List (K × X)) → AllByRecursion (λ z. cmp k z ≡ Less) (keys_of es) → AreBehind es
  behind_less k less [] all = tt
  behind_less k less (e ∷ es) all = (total.trans key k e.0 less all.0, behind_less k less es all.1)

  -- where all are behind a key, it goes first, and nothing stands there
  goes_first : (w : X) (es : List (K × X)) → AreBehind es → insert_entry cmp es key w ≡ (key, w) ∷ es
  goes_first w [] all = refl
  goes_first w (e ∷ es) all = ap (λ o. match_ordering o ((key, w) ∷ e ∷ es) ((e.0, w) ∷ es) (e ∷ insert_entry cmp es key w)) all.0

  none_there : (es : List (K × X)) → AreBehind es → remove_entry (is_at (cmp key)) es ≡ es
  none_there [] all = refl
  none_there (e ∷ es) all =
      ap (λ o. cond (is_eq o) es (e ∷ remove_entry (is_at (cmp key)) es)) all.0 ∙ ap (λ l. e ∷ l) (none_there es all.1)

  -- An entry goes where one with its key is taken out first.
  inserted_at : AreSame cmp → (w : X) (e : K × X) (es : List (K × X)) (o : Ordering) → cmp key e.0 ≡ o → IsStrictlySortedBy cmp (keys_of (e ∷ es))
      → insert_entry cmp (remove_entry (is_at (cmp key)) es) key w ≡ insert_entry cmp es key w
      → insert_entry cmp (cond (is_eq o) es (e ∷ remove_entry (is_at (cmp key)) es)) key w ≡ match_ordering o ((key, w) ∷ e ∷ es) ((e.0, w) ∷ es) (e ∷ insert_entry cmp es key w)
  unfolding IsStrictlySortedBy
  inserted_at same w e es Less is rising rest =
      ap (λ o. match_ordering o ((key, w) ∷ e ∷ remove_entry (is_at (cmp key)) es) ((e.0, w) ∷ remove_entry (is_at (cmp key)) es) (e ∷ insert_entry cmp (remove_entry (is_at (cmp key)) es) key w)) is
      ∙ ap (λ l. (key, w) ∷ e ∷ l) (none_there es (behind_less e.0 is es rising.0))
  inserted_at same w e es Equal is rising rest =
      let it : key ≡ e.0 = same key e.0 is in
      goes_first w es (subst (λ (k : K). AllByRecursion (λ z. cmp k z ≡ Less) (keys_of es)) (sym it) rising.0) ∙ ap (λ k. (k, w) ∷ es) it
  inserted_at same w e es Greater is rising rest =
      ap (λ o. match_ordering o ((key, w) ∷ e ∷ remove_entry (is_at (cmp key)) es) ((e.0, w) ∷ remove_entry (is_at (cmp key)) es) (e ∷ insert_entry cmp (remove_entry (is_at (cmp key)) es) key w)) is
      ∙ ap (λ l. e ∷ l) rest

  pub inserted_over : AreSame cmp → (w : X) (es : List (K × X)) → IsStrictlySortedBy cmp (keys_of es) → insert_entry cmp (remove_entry (is_at (cmp key)) es) key w ≡ insert_entry cmp es key w
  unfolding IsStrictlySortedBy
  inserted_over same w [] rising = refl
  inserted_over same w (e ∷ es) rising = inserted_at same w e es (cmp key e.0) refl rising (inserted_over same w es rising.1)

  -- Taken out again, it leaves the others.
  removed_at : (w : X) (e : K × X) (es : List (K × X)) (o : Ordering) → cmp key e.0 ≡ o → IsStrictlySortedBy cmp (keys_of (e ∷ es))
      → remove_entry (is_at (cmp key)) (insert_entry cmp es key w) ≡ remove_entry (is_at (cmp key)) es
      → remove_entry (is_at (cmp key)) (match_ordering o ((key, w) ∷ e ∷ es) ((e.0, w) ∷ es) (e ∷ insert_entry cmp es key w)) ≡ cond (is_eq o) es (e ∷ remove_entry (is_at (cmp key)) es)
  unfolding IsStrictlySortedBy
  removed_at w e es Less is rising rest =
      ap (λ o. cond (is_eq o) (e ∷ es) ((key, w) ∷ remove_entry (is_at (cmp key)) (e ∷ es))) (itself cmp total key)
      ∙ ap (λ l. e ∷ l) (sym (none_there es (behind_less e.0 is es rising.0)))
  removed_at w e es Equal is rising rest =
      ap (λ o. cond (is_eq o) es ((e.0, w) ∷ remove_entry (is_at (cmp key)) es)) is
  removed_at w e es Greater is rising rest =
      ap (λ o. cond (is_eq o) (insert_entry cmp es key w) (e ∷ remove_entry (is_at (cmp key)) (insert_entry cmp es key w))) is
      ∙ ap (λ l. e ∷ l) rest

  pub removed_again : (w : X) (es : List (K × X)) → IsStrictlySortedBy cmp (keys_of es) → remove_entry (is_at (cmp key)) (insert_entry cmp es key w) ≡ remove_entry (is_at (cmp key)) es
  unfolding IsStrictlySortedBy
  removed_again w [] rising = ap (λ o. cond (is_eq o) [] ((key, w) ∷ [])) (itself cmp total key)
  removed_again w (e ∷ es) rising = removed_at w e es (cmp key e.0) refl rising (removed_again w es rising.1)

  -- Another value at a key that is there is the entry put in anew.
  set_at : (w : X) (e : K × X) (es : List (K × X)) (o : Ordering) → cmp key e.0 ≡ o → IsStrictlySortedBy cmp (keys_of (e ∷ es))
      → is_some (cond (is_eq o) (Some e.1) (lookup (is_at (cmp key)) es)) ≡ true
      → (is_some (lookup (is_at (cmp key)) es) ≡ true → set_value (is_at (cmp key)) es w ≡ insert_entry cmp es key w)
      → cond (is_eq o) ((e.0, w) ∷ es) (e ∷ set_value (is_at (cmp key)) es w) ≡ match_ordering o ((key, w) ∷ e ∷ es) ((e.0, w) ∷ es) (e ∷ insert_entry cmp es key w)
  unfolding IsStrictlySortedBy
  set_at w e es Less is rising there rest = absurd (nobody es (behind_less e.0 is es rising.0) there)
    where
      nobody : (ds : List (K × X)) → AreBehind ds → is_some (lookup (is_at (cmp key)) ds) ≡ true → ⊥
      nobody [] all found = cc
      nobody (d ∷ ds) all found = nobody ds all.1 (sym (ap (λ o. is_some (cond (is_eq o) (Some d.1) (lookup (is_at (cmp key)) ds))) all.0) ∙ found)
  set_at w e es Equal is rising there rest = refl
  set_at w e es Greater is rising there rest = ap (λ l. e ∷ l) (rest there)

  pub set_is : (w : X) (es : List (K × X)) → IsStrictlySortedBy cmp (keys_of es) → is_some (lookup (is_at (cmp key)) es) ≡ true → set_value (is_at (cmp key)) es w ≡ insert_entry cmp es key w
  unfolding IsStrictlySortedBy
  set_is w [] rising there = absurd cc
  set_is w (e ∷ es) rising there = set_at w e es (cmp key e.0) refl rising there (set_is w es rising.1)

-- A line that goes where it stood, with one more message, is the line with that message.
pub more_in : {K : Type 0} (cmp : K → K → Ordering) → IsTotalOrder cmp → AreSame cmp → (key : K) (m : Message) (line more : List Message) (es after : Lines K) → IsStrictlySortedBy cmp (keys_of es)
    → line ≡ line_at cmp key es → more ≡ inserted m line → after ≡ insert_entry cmp es key more → after ≡ with_message cmp key m es
more_in cmp total same key m line more es after rising found grown is =
    is ∙ sym (inserted_over cmp total key same more es rising)
    ∙ sym (ap (λ b. if b then remove_entry (is_at (cmp key)) es else insert_entry cmp (remove_entry (is_at (cmp key)) es) key more) (ap is_none grown ∙ some_in m line))
    ∙ ap (λ (l : List Message). with_line cmp key l es) (grown ∙ ap (inserted m) found)

pub removed_over : {K X : Type 0} (cmp : K → K → Ordering) → IsTotalOrder cmp → (key : K) (w : X) (es after : List (K × X)) → IsStrictlySortedBy cmp (keys_of es) → after ≡ insert_entry cmp es key w
    → remove_entry (is_at (cmp key)) after ≡ remove_entry (is_at (cmp key)) es
removed_over cmp total key w es after rising is = ap (remove_entry (is_at (cmp key))) is ∙ removed_again cmp total key w es rising

-- The line under a key after the first message was taken out of it.
module _ {K : Type 0} (cmp : K → K → Ordering) (total : IsTotalOrder cmp) (same : AreSame cmp) (key : K) where
  -- nothing stood there
  pub nothing_taken : (es : Lines K) → IsStrictlySortedBy cmp (keys_of es) → lookup (is_at (cmp key)) es ≡ None → with_line cmp key (drop 1 (line_at cmp key es)) es ≡ es
  nothing_taken es rising none =
      ap (λ (o : Option (List Message)). with_line cmp key (drop 1 (unwrap_or o [])) es) none ∙ absent_stays es none
    where
      absent_stays : (ds : Lines K) → lookup (is_at (cmp key)) ds ≡ None → remove_entry (is_at (cmp key)) ds ≡ ds
      absent_stays [] none = refl
      absent_stays (d ∷ ds) none = by (is_at (cmp key) d.0) refl none (absent_stays ds)
        where
          by : (b : Bool) → is_at (cmp key) d.0 ≡ b → cond b (Some d.1) (lookup (is_at (cmp key)) ds) ≡ None → (lookup (is_at (cmp key)) ds ≡ None → remove_entry (is_at (cmp key)) ds ≡ ds)
              → cond b ds (d ∷ remove_entry (is_at (cmp key)) ds) ≡ d ∷ ds
          by true is found rest = absurd (true≢false (ap is_some found))
          by false is found rest = ap (λ l. d ∷ l) (rest found)

  -- it had no other
  pub line_lost : (line : List Message) (es set after : Lines K) → IsStrictlySortedBy cmp (keys_of es) → Some line ≡ lookup (is_at (cmp key)) es → is_none (drop 1 line) ≡ true
      → set ≡ set_value (is_at (cmp key)) es (drop 1 line) → after ≡ remove_entry (is_at (cmp key)) set → after ≡ with_line cmp key (drop 1 (line_at cmp key es)) es
  line_lost line es set after rising found last put is =
      let there : is_some (lookup (is_at (cmp key)) es) ≡ true = ap is_some (sym found) in
      is ∙ ap (remove_entry (is_at (cmp key))) (put ∙ set_is cmp total key (drop 1 line) es rising there) ∙ removed_again cmp total key (drop 1 line) es rising
      ∙ sym (ap (λ b. if b then remove_entry (is_at (cmp key)) es else insert_entry cmp (remove_entry (is_at (cmp key)) es) key (drop 1 line)) last)
      ∙ ap (λ (o : Option (List Message)). with_line cmp key (drop 1 (unwrap_or o [])) es) found

  -- or it had
  pub line_shorter : (line : List Message) (es after : Lines K) → IsStrictlySortedBy cmp (keys_of es) → Some line ≡ lookup (is_at (cmp key)) es → is_none (drop 1 line) ≡ false
      → after ≡ set_value (is_at (cmp key)) es (drop 1 line) → after ≡ with_line cmp key (drop 1 (line_at cmp key es)) es
  line_shorter line es after rising found some is =
      let there : is_some (lookup (is_at (cmp key)) es) ≡ true = ap is_some (sym found) in
      is ∙ set_is cmp total key (drop 1 line) es rising there ∙ sym (inserted_over cmp total key same (drop 1 line) es rising)
      ∙ sym (ap (λ b. if b then remove_entry (is_at (cmp key)) es else insert_entry cmp (remove_entry (is_at (cmp key)) es) key (drop 1 line)) some)
      ∙ ap (λ (o : Option (List Message)). with_line cmp key (drop 1 (unwrap_or o [])) es) found

  -- What is left weighs less by that message.
  pub lines_weigh : (es after : Lines K) → IsStrictlySortedBy cmp (keys_of es) → after ≡ with_line cmp key (drop 1 (line_at cmp key es)) es → LoseFirst es after (line_at cmp key es)
  lines_weigh es after rising is weight =
      omega (arith, ap (weight_of_lines weight) is, weight-with_line cmp total same weight key (drop 1 (line_at cmp key es)) es rising)

-- a line of no messages is empty
pub none_left : {X : Type 0} (xs : List X) → (length xs == 0) ≡ is_none xs
none_left [] = refl
none_left (x ∷ xs) = grind (arith, nat_tests)
