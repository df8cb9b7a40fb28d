-- A restart is the end of each session in turn.
use Rattle.std.proofs.Common.{◌≡◌, ◌≤◌, ◌+◌, ◌==◌, ◌||◌, List, [], ◌∷◌, ℕ, Bool, true, false, true≢false, IfSome, Option, Some, None, cond, count_by, filter, fold, is_some, map, not, unwrap_or, refl, sym, ap, subst, ◌∙◌, arith, if◌then◌else◌}
use Rattle.std.specs.BTreeMap.{insert_entry, is_at}
use Rattle.std.specs.Cmp.{IsTotalOrder}
use Rattle.std.specs.List.{AllByRecursion, list_any}
use Rattle.std.specs.List.Sorted.{IsStrictlySortedBy}
use Rattle.std.specs.Map.{keys_of, lookup, remove_entry}
use Rattle.std.specs.Ordering.{is_eq, nat_cmp, ordering_reverse}
use Rattle.std.specs.declared.cmp.Ordering.{Ordering}
use Rattle.std.specs.declared.cmp.Ordering.TheVariants.{Less, Equal, Greater}
use Rattle.std.proofs.lemmas.Bool.Decides.{Decides-eqb}
use Rattle.std.proofs.lemmas.List.Sums.{sum_by-append, sum_by-cons}
use Rattle.std.proofs.lemmas.Map.Lookups.{exact_unsigned}
use Rattle.frame_core.proofs.Lists.{all_weaker}
use Rattle.command_core.specs.Destinations.{is_queue}
use Rattle.line_core.specs.declared.message.Message.{Message}
use Rattle.line_core.specs.declared.message.MessageNumber.{MessageNumber}
use Rattle.line_core.specs.Lines.{by_number, inserted, is_same}
use Rattle.line_core.proofs.Inserted.{inserted_twice}
use Rattle.line_core.proofs.RisingLines.{by_number-total}
use Rattle.broker_state.specs.declared.subscription.Subscription.{Subscription}
use Rattle.broker_state.specs.Kept.{takes_from, unacknowledged_by, with_all}
use Rattle.broker_state.specs.Lists.{is_none}
use Rattle.broker_state.specs.Names.{AreSame, Name, name_cmp, text_cmp}
use Rattle.broker_state.specs.Operations.{ended, is_of, restarted, topic_of, uses}
use Rattle.broker_state.specs.Sound.{AreOnce, AreTo, IsSound}
use Rattle.broker_state.specs.States.{State, is_open}
use Rattle.broker_state.specs.Waiting.{Lines, Shared, line_at, returned, returned_from, with_deliveries, with_message}
use Rattle.broker_state.proofs.Ending.{same_state}
use Rattle.broker_state.proofs.KeyedLines.{IsRising, absent_behind}
use Rattle.broker_state.proofs.Keys.{names_total, same_names, same_texts, texts_total}
use Rattle.broker_state.proofs.Lookups.{is_equal}
use Rattle.broker_state.proofs.SortedEntries.{all_inserted, all_removed}
use Rattle.broker_state.proofs.Restarts.{all_after, all_back, name_back_from, queue_back_from, some_in}
use Rattle.broker_state.proofs.SharedOrder.{AreRising, returned_weight}
use Rattle.broker_state.proofs.Walk.{first_removed}

-- in a total order each is the same as itself
pub itself : {K : Type 0} (cmp : K → K → Ordering) → IsTotalOrder cmp → (k : K) → is_eq (cmp k k) ≡ true
itself cmp total k = by (cmp k k) refl
  where
    by : (o : Ordering) → cmp k k ≡ o → is_eq (cmp k k) ≡ true
    by Less is =
        let turned : Less ≡ Greater = sym is ∙ total.antisymm k k ∙ ap ordering_reverse is in
        absurd cc
    by Equal is = ap is_eq is
    by Greater is =
        let turned : Greater ≡ Less = sym is ∙ total.antisymm k k ∙ ap ordering_reverse is in
        absurd cc

-- messages of which none has the number of another go in in any order

among : (m : Message) (more line : List Message) → AllByRecursion (λ (a : Message). is_same m.number a.number ≡ false) more → inserted m (with_all line more) ≡ with_all (inserted m line) more
among m [] line other = refl
among m (a ∷ more) line other =
    among m more (inserted a line) other.1 ∙ ap (λ l. with_all l more) (inserted_twice m a line other.0)

-- no number is that of a message of both
abbrev AreApart : List Message → List Message → Type 0
AreApart more less = AllByRecursion (λ (b : Message). AllByRecursion (λ (a : Message). is_same b.number a.number ≡ false) more) less

either_way : (more less line : List Message) → AreApart more less → with_all (with_all line more) less ≡ with_all (with_all line less) more
either_way more [] line apart = refl
either_way more (b ∷ less) line apart =
    ap (λ l. with_all l less) (among b more line apart.0) ∙ either_way more less (inserted b line) apart.1

abbrev numbered : MessageNumber → List Message → ℕ
numbered number messages = count_by (λ (m : Message). is_same number m.number) messages

abbrev counted : MessageNumber → Message → ℕ
counted number m = cond (is_same number m.number) 1 0

none_of : (number : MessageNumber) (more : List Message) → numbered number more ≤ 0 → AllByRecursion (λ (a : Message). is_same number a.number ≡ false) more
none_of number [] none = tt
none_of number (a ∷ more) none = by (is_same number a.number) refl (none_of number more)
  where
    all : numbered number (a ∷ more) ≡ counted number a + numbered number more
    all = sum_by-cons (counted number) a more

    by : (b : Bool) → is_same number a.number ≡ b → (numbered number more ≤ 0 → AllByRecursion (λ (x : Message). is_same number x.number ≡ false) more) → AllByRecursion (λ (x : Message). is_same number x.number ≡ false) (a ∷ more)
    by true is rest =
        let one : counted number a ≡ 1 = ap (λ b. cond b 1 0) is in
        absurd (omega (arith, all, one, none))
    by false is rest =
        let one : counted number a ≡ 0 = ap (λ b. cond b 1 0) is in
        (is, rest (omega (arith, all, one, none)))

apart : (more less : List Message) → ((number : MessageNumber) → numbered number less + numbered number more ≤ 1) → AreApart more less
apart more [] once = tt
apart more (b ∷ less) once =
    let all = λ (number : MessageNumber). sum_by-cons (counted number) b less in
    let one : counted b.number b ≡ 1 = ap (λ t. cond t 1 0) (itself by_number by_number-total b.number) in
    (none_of b.number more (omega (arith, all b.number, one, once b.number)), apart more less (λ number. omega (arith, all number, once number)))

-- what subscriptions that pass have not acknowledged, and then what the others have not, goes in as what all have not
module _ (such p : Subscription → Bool) where
  abbrev own : Subscription → List Message
  own sub = if such sub then map (λ (d : ℕ × Message). d.1) sub.unacknowledged else []

  both : (number : MessageNumber) (sub : Subscription) (subs : List Subscription) → numbered number (unacknowledged_by such (sub ∷ subs)) ≡ numbered number (own sub) + numbered number (unacknowledged_by such subs)
  both number sub subs = sum_by-append (counted number) (own sub) (unacknowledged_by such subs)

  fewer : (number : MessageNumber) (subs : List Subscription) → numbered number (unacknowledged_by such (filter p subs)) ≤ numbered number (unacknowledged_by such subs)
  fewer number [] = omega arith
  fewer number (sub ∷ subs) = by (p sub) (fewer number subs)
    where
      by : (b : Bool) → numbered number (unacknowledged_by such (filter p subs)) ≤ numbered number (unacknowledged_by such subs) → numbered number (unacknowledged_by such (cond b (sub ∷ filter p subs) (filter p subs))) ≤ numbered number (unacknowledged_by such (sub ∷ subs))
      by true rest = omega (arith, rest, both number sub subs, both number sub (filter p subs))
      by false rest = omega (arith, rest, both number sub subs)

  parted : (subs : List Subscription) (line : List Message) → AreOnce (unacknowledged_by such subs) → with_all (with_all line (unacknowledged_by such (filter p subs))) (unacknowledged_by such (filter (λ sub. not (p sub)) subs)) ≡ with_all line (unacknowledged_by such subs)
  parted [] line once = refl
  parted (sub ∷ subs) line once =
      by (p sub) (parted subs (with_all line (own sub)) (λ number. omega (arith, once number, both number sub subs)) ∙ all_after line (own sub) (unacknowledged_by such subs))
    where
      passing : List Message
      passing = unacknowledged_by such (filter p subs)

      others : List Message
      others = unacknowledged_by such (filter (λ x. not (p x)) subs)

      free : AreApart passing (own sub)
      free = apart passing (own sub) (λ number. omega (arith, once number, both number sub subs, fewer number subs))

      by : (b : Bool) → with_all (with_all (with_all line (own sub)) passing) others ≡ with_all line (unacknowledged_by such (sub ∷ subs)) → with_all (with_all line (unacknowledged_by such (cond b (sub ∷ filter p subs) (filter p subs)))) (unacknowledged_by such (cond (not b) (sub ∷ filter (λ x. not (p x)) subs) (filter (λ x. not (p x)) subs))) ≡ with_all line (unacknowledged_by such (sub ∷ subs))
      by true rest = ap (λ l. with_all l others) (sym (all_after line (own sub) passing)) ∙ rest
      by false rest =
          sym (all_after (with_all line passing) (own sub) others)
          ∙ ap (λ l. with_all l others) (either_way passing (own sub) line free) ∙ rest

-- the session of each subscription is one of these
abbrev AreAmong : List ℕ → List Subscription → Type 0
AreAmong sessions subs = AllByRecursion (λ (sub : Subscription). list_any (λ session. is_of session sub) sessions ≡ true) subs

nobody : (subs : List Subscription) → AreAmong [] subs → subs ≡ []
nobody [] all = refl
nobody (sub ∷ subs) all = absurd (true≢false (sym all.0))

left_among : (session : ℕ) (sessions : List ℕ) (subs : List Subscription) → AreAmong (session ∷ sessions) subs → AreAmong sessions (filter (λ sub. not (is_of session sub)) subs)
left_among session sessions [] all = tt
left_among session sessions (sub ∷ subs) all =
    by (is_of session sub) all.0 (left_among session sessions subs all.1)
  where
    others : List Subscription
    others = filter (λ x. not (is_of session x)) subs

    by : (b : Bool) → (b || list_any (λ k. is_of k sub) sessions) ≡ true → AreAmong sessions others → AreAmong sessions (cond (not b) (sub ∷ others) others)
    by true some rest = rest
    by false some rest = (some, rest)

-- an open session is among the keys
opened : {X : Type 0} (es : List (ℕ × X)) (sub : Subscription) → is_some (lookup (is_at (nat_cmp sub.session)) es) ≡ true → list_any (λ session. is_of session sub) (keys_of es) ≡ true
opened [] sub some = absurd cc
opened {X} (e ∷ es) sub some = by (is_eq (nat_cmp sub.session e.0)) refl some (opened es sub)
  where
    either : (b : Bool) → b ≡ true → (b || list_any (λ session. is_of session sub) (keys_of es)) ≡ true
    either true is = refl
    either false is = absurd (true≢false (sym is))

    second : (b r : Bool) → r ≡ true → (b || r) ≡ true
    second true r is = refl
    second false r is = is

    by : (b : Bool) → is_eq (nat_cmp sub.session e.0) ≡ b → is_some (cond b (Some e.1) (lookup (is_at (nat_cmp sub.session)) es)) ≡ true → (is_some (lookup (is_at (nat_cmp sub.session)) es) ≡ true → list_any (λ session. is_of session sub) (keys_of es) ≡ true) → list_any (λ session. is_of session sub) (keys_of (e ∷ es)) ≡ true
    by true is found rest =
        let same : sub.session ≡ e.0 = exact_unsigned sub.session e.0 (is_equal (nat_cmp sub.session e.0) is) in
        either (e.0 == sub.session) ((Decides-eqb e.0 sub.session).1 (sym same))
    by false is found rest = second (e.0 == sub.session) (list_any (λ session. is_of session sub) (keys_of es)) (rest found)

all_opened : (s : State) (subs : List Subscription) → AllByRecursion (λ (sub : Subscription). is_open s sub.session ≡ true) subs → AreAmong (keys_of s.sessions) subs
all_opened s [] all = tt
all_opened s (sub ∷ subs) all = (opened s.sessions sub all.0, all_opened s subs all.1)

-- what the ends of sessions in turn leave

counts : (sessions : List ℕ) (s : State) → (fold ended s sessions).count ≡ s.count
counts [] s = refl
counts (session ∷ sessions) s = counts sessions (ended s session)

deliveries : (sessions : List ℕ) (s : State) → (fold ended s sessions).next_delivery ≡ s.next_delivery
deliveries [] s = refl
deliveries (session ∷ sessions) s = deliveries sessions (ended s session)

durables : (sessions : List ℕ) (s : State) → (fold ended s sessions).durables ≡ s.durables
durables [] s = refl
durables (session ∷ sessions) s = durables sessions (ended s session)

closed : (es : List (ℕ × Option (List ℕ))) (s : State) → s.sessions ≡ es → (fold ended s (keys_of es)).sessions ≡ []
closed [] s is = is
closed (e ∷ es) s is =
    closed es (ended s e.0) (ap (remove_entry (is_at (nat_cmp e.0))) is ∙ first_removed e es)

gone : (sessions : List ℕ) (s : State) → AreAmong sessions s.subscriptions → (fold ended s sessions).subscriptions ≡ []
gone [] s all = nobody s.subscriptions all
gone (session ∷ sessions) s all =
    gone sessions (ended s session) (left_among session sessions s.subscriptions all)

module _ (line_of : Shared → List Message) (such : Subscription → Bool) (one_back : (shared : Shared) (sub : Subscription) → line_of (returned shared sub) ≡ with_all (line_of shared) (if such sub then map (λ (d : ℕ × Message). d.1) sub.unacknowledged else [])) where
  back : (sessions : List ℕ) (s : State) → AreAmong sessions s.subscriptions → AreOnce (unacknowledged_by such s.subscriptions) → line_of (fold ended s sessions).shared ≡ with_all (line_of s.shared) (unacknowledged_by such s.subscriptions)
  back [] s all once =
      ap (λ subs. with_all (line_of s.shared) (unacknowledged_by such subs)) (sym (nobody s.subscriptions all))
  back (session ∷ sessions) s all once =
      let others = filter (λ sub. not (is_of session sub)) s.subscriptions in
      let rest = back sessions (ended s session) (left_among session sessions s.subscriptions all) (λ number. omega (arith, once number, fewer such (λ sub. not (is_of session sub)) number s.subscriptions)) in
      rest
      ∙ ap (λ line. with_all line (unacknowledged_by such others)) (all_back line_of such one_back (filter (is_of session) s.subscriptions) s.shared)
      ∙ parted such (is_of session) s.subscriptions (line_of s.shared) once

  -- a line is what a restart leaves of it
  same_line : (sessions : List ℕ) (s : State) → AreAmong sessions s.subscriptions → AreOnce (unacknowledged_by such s.subscriptions) → line_of (fold ended s sessions).shared ≡ line_of (restarted s).shared
  same_line sessions s all once = back sessions s all once ∙ sym (all_back line_of such one_back s.subscriptions s.shared)

-- lines by rising key, of which none is empty, are known by what each key has
module _ {K : Type 0} (cmp : K → K → Ordering) (total : IsTotalOrder cmp) (same : AreSame cmp) where
  abbrev AreFull : Lines K → Type 0
  AreFull lines = AllByRecursion (λ (e : K × List Message). is_none e.1 ≡ false) lines

  first_line : (e : K × List Message) (lines : Lines K) → line_at cmp e.0 (e ∷ lines) ≡ e.1
  first_line e lines = ap (λ b. unwrap_or (cond b (Some e.1) (lookup (is_at (cmp e.0)) lines)) []) (itself cmp total e.0)

  below : (k : K) (e : K × List Message) (lines : Lines K) → cmp k e.0 ≡ Less → IsRising cmp total (e ∷ lines) → line_at cmp k (e ∷ lines) ≡ []
  unfolding IsStrictlySortedBy
  below k e lines less rising =
      ap (λ o. unwrap_or o []) (absent_behind cmp total same k (e ∷ lines) (less, all_less (keys_of lines) rising.0))
    where
      all_less : (keys : List K) → AllByRecursion (λ y. cmp e.0 y ≡ Less) keys → AllByRecursion (λ y. cmp k y ≡ Less) keys
      all_less [] all = tt
      all_less (key ∷ keys) all = (total.trans k e.0 key less all.0, all_less keys all.1)

  full_none : (line : List Message) → is_none line ≡ false → line ≡ [] → ⊥
  full_none line full none = true≢false (sym (ap is_none none) ∙ full)

  other_first : (q : K) (e : K × List Message) (lines : Lines K) → is_eq (cmp q e.0) ≡ false → line_at cmp q (e ∷ lines) ≡ line_at cmp q lines
  other_first q e lines other = ap (λ b. unwrap_or (cond b (Some e.1) (lookup (is_at (cmp q)) lines)) []) other

  nothing_at : (q : K) (e : K × List Message) (lines : Lines K) → is_eq (cmp q e.0) ≡ true → IsRising cmp total (e ∷ lines) → line_at cmp q lines ≡ []
  unfolding IsStrictlySortedBy
  nothing_at q e lines is rising =
      let it : q ≡ e.0 = same q e.0 (is_equal (cmp q e.0) is) in
      subst (λ (k : K). line_at cmp k lines ≡ []) (sym it) (ap (λ o. unwrap_or o []) (absent_behind cmp total same e.0 lines rising.0))

  pub known_by_lines : (a b : Lines K) → IsRising cmp total a → IsRising cmp total b → AreFull a → AreFull b → ((q : K) → line_at cmp q a ≡ line_at cmp q b) → a ≡ b
  unfolding IsStrictlySortedBy
  known_by_lines [] [] rising_a rising_b full_a full_b all = refl
  known_by_lines [] (e ∷ b) rising_a rising_b full_a full_b all =
      absurd (full_none e.1 full_b.0 (sym (first_line e b) ∙ sym (all e.0)))
  known_by_lines (d ∷ a) [] rising_a rising_b full_a full_b all =
      absurd (full_none d.1 full_a.0 (sym (first_line d a) ∙ all d.0))
  known_by_lines (d ∷ a) (e ∷ b) rising_a rising_b full_a full_b all =
      by (cmp d.0 e.0) refl (known_by_lines a b rising_a.1 rising_b.1 full_a.1 full_b.1)
    where
      others : d.0 ≡ e.0 → (q : K) → line_at cmp q a ≡ line_at cmp q b
      others key q = at (is_eq (cmp q d.0)) refl
        where
          at : (t : Bool) → is_eq (cmp q d.0) ≡ t → line_at cmp q a ≡ line_at cmp q b
          at true it =
              nothing_at q d a it rising_a
              ∙ sym (nothing_at q e b (sym (ap (λ k. is_eq (cmp q k)) key) ∙ it) rising_b)
          at false it =
              sym (other_first q d a it) ∙ all q
              ∙ other_first q e b (sym (ap (λ k. is_eq (cmp q k)) key) ∙ it)

      by : (o : Ordering) → cmp d.0 e.0 ≡ o → (((q : K) → line_at cmp q a ≡ line_at cmp q b) → a ≡ b) → (d ∷ a) ≡ (e ∷ b)
      by Less is rest_is = absurd (full_none d.1 full_a.0 (sym (first_line d a) ∙ all d.0 ∙ below d.0 e b is rising_b))
      by Equal is rest_is =
          let key : d.0 ≡ e.0 = same d.0 e.0 is in
          let line : d.1 ≡ e.1 = sym (first_line d a) ∙ all d.0 ∙ ap (λ k. line_at cmp k (e ∷ b)) key ∙ first_line e b in
          let rest : a ≡ b = rest_is (others key) in
          ap (λ k. (k, d.1) ∷ a) key ∙ ap (λ l. (e.0, l) ∷ a) line ∙ ap (λ es. e ∷ es) rest
      by Greater is rest_is =
          let turned : cmp e.0 d.0 ≡ Less = total.antisymm e.0 d.0 ∙ ap ordering_reverse is in
          absurd (full_none e.1 full_b.0 (sym (first_line e b) ∙ sym (all e.0) ∙ below e.0 d a turned rising_a))

  full_message : (key : K) (m : Message) (lines : Lines K) → AreFull lines → AreFull (with_message cmp key m lines)
  full_message key m lines full =
      let line = inserted m (line_at cmp key lines) in
      let others = all_removed (λ (e : K × List Message). is_none e.1 ≡ false) (is_at (cmp key)) lines full in
      let some : is_none line ≡ false = some_in m (line_at cmp key lines) in
      subst (λ b. AreFull (cond b (remove_entry (is_at (cmp key)) lines) (insert_entry cmp (remove_entry (is_at (cmp key)) lines) key line))) (sym some) (all_inserted (λ (e : K × List Message). is_none e.1 ≡ false) cmp key line some (λ e full_there. some) (remove_entry (is_at (cmp key)) lines) others)

  pub full_deliveries : (key : K) (back : List (ℕ × Message)) (lines : Lines K) → AreFull lines → AreFull (with_deliveries cmp key back lines)
  full_deliveries key [] lines full = full
  full_deliveries key (d ∷ back) lines full = full_deliveries key back (with_message cmp key d.1 lines) (full_message key d.1 lines full)

-- the lines that stay, by rising key, none of them empty
record IsTidy (shared : Shared) : Type 0 where
  pub rising : AreRising shared
  pub names : AllByRecursion (λ (e : Name × List Message). is_none e.1 ≡ false) shared.names
  pub queues : AllByRecursion (λ (e : List ℕ × List Message). is_none e.1 ≡ false) shared.queues

abbrev AreFullLines : Shared → Type 0
AreFullLines shared =
    AllByRecursion (λ (e : Name × List Message). is_none e.1 ≡ false) shared.names × AllByRecursion (λ (e : List ℕ × List Message). is_none e.1 ≡ false) shared.queues

tidy_returned : (shared : Shared) (sub : Subscription) → IsTidy shared → IsTidy (returned shared sub)
tidy_returned shared sub now =
    let full = by sub.durable in
    record { rising = (returned_weight shared now.rising sub (λ m. 0)).0; names = full.0; queues = full.1 }
  where
    in_queue : (kind : Bool) → AreFullLines (if kind then record shared { queues = with_deliveries text_cmp sub.destination sub.unacknowledged shared.queues } else shared)
    in_queue true = (now.names, full_deliveries text_cmp texts_total same_texts sub.destination sub.unacknowledged shared.queues now.queues)
    in_queue false = (now.names, now.queues)

    by : (o : Option Name) → AreFullLines (returned_from shared sub o)
    by (Some name) = (full_deliveries name_cmp names_total same_names name sub.unacknowledged shared.names now.names, now.queues)
    by None = in_queue (is_queue sub.destination)

tidy_all : (subs : List Subscription) (shared : Shared) → IsTidy shared → IsTidy (fold returned shared subs)
tidy_all [] shared now = now
tidy_all (sub ∷ subs) shared now = tidy_all subs (returned shared sub) (tidy_returned shared sub now)

tidy_ended : (sessions : List ℕ) (s : State) → IsTidy s.shared → IsTidy (fold ended s sessions).shared
tidy_ended [] s now = now
tidy_ended (session ∷ sessions) s now = tidy_ended sessions (ended s session) (tidy_all (filter (is_of session) s.subscriptions) s.shared now)

same_shared : (a b : Shared) → a.names ≡ b.names → a.queues ≡ b.queues → a ≡ b
same_shared a b names queues = ap (λ l. record a { names = l }) names ∙ ap (λ l. record b { queues = l }) queues

-- A restart is the end of each session in turn.
pub restarted_in_turn : (s : State) → IsSound s → restarted s ≡ fold ended s (keys_of s.sessions)
restarted_in_turn s sound =
    let sessions = keys_of s.sessions in
    let all = all_opened s s.subscriptions sound.subscriptions.of_open in
    let tidy : IsTidy s.shared = record { rising = record { names = sound.order.names; queues = sound.order.queues }; names = all_weaker (λ (e : Name × List Message). (is_none e.1 ≡ false) × IfSome (topic_of e.0 s.durables) (λ topic. AreTo topic e.1)) (λ (e : Name × List Message). is_none e.1 ≡ false) (λ e some. some.0) s.shared.names sound.lines.names; queues = all_weaker (λ (e : List ℕ × List Message). (is_queue e.0 ≡ true) × (is_none e.1 ≡ false) × AreTo e.0 e.1) (λ (e : List ℕ × List Message). is_none e.1 ≡ false) (λ e some. some.1) s.shared.queues sound.lines.queues } in
    let old = tidy_ended sessions s tidy in
    let new = tidy_all s.subscriptions s.shared tidy in
    let queues : (fold ended s sessions).shared.queues ≡ (restarted s).shared.queues = known_by_lines text_cmp texts_total same_texts (fold ended s sessions).shared.queues (restarted s).shared.queues old.rising.queues new.rising.queues old.queues new.queues (λ to. same_line (λ shared. line_at text_cmp to shared.queues) (takes_from to) (λ shared sub. queue_back_from to shared sub sub.durable) sessions s all (λ number. omega (arith, sound.lines.once_in_queues to number, sum_by-append (counted number) (line_at text_cmp to s.shared.queues) (unacknowledged_by (takes_from to) s.subscriptions)))) in
    let names : (fold ended s sessions).shared.names ≡ (restarted s).shared.names = known_by_lines name_cmp names_total same_names (fold ended s sessions).shared.names (restarted s).shared.names old.rising.names new.rising.names old.names new.names (λ name. same_line (λ shared. line_at name_cmp name shared.names) (uses name) (λ shared sub. name_back_from name shared sub sub.durable) sessions s all (λ number. omega (arith, sound.lines.once_under_names name number, sum_by-append (counted number) (line_at name_cmp name s.shared.names) (unacknowledged_by (uses name) s.subscriptions)))) in
    sym (same_state (fold ended s sessions) (restarted s) (counts sessions s) (deliveries sessions s) (closed s.sessions s refl) (durables sessions s) (same_shared (fold ended s sessions).shared (restarted s).shared names queues) (gone sessions s all))
