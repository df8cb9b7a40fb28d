use Rattle.std.proofs.Common.{◌≡◌, ◌&&◌, ◌++◌, List, [], ◌∷◌, ℕ, Bool, true, false, true≢false, IfSome, IsSome, Option, Some, None, cond, filter, is_some, map, not, unwrap_or, refl, sym, ap, subst, ◌∙◌, if◌then◌else◌}
use Rattle.std.specs.BTreeMap.{insert_entry, is_at}
use Rattle.std.specs.List.{AllByRecursion}
use Rattle.std.specs.List.Sorted.{IsStrictlySortedBy}
use Rattle.std.specs.Map.{keys_of, lookup, remove_entry}
use Rattle.std.specs.Ordering.{is_eq, match_ordering}
use Rattle.std.specs.Str.{bytes_eq}
use Rattle.std.specs.declared.cmp.Ordering.{Ordering}
use Rattle.std.specs.declared.cmp.Ordering.TheVariants.{Less, Equal, Greater}
use Rattle.std.proofs.lemmas.Bool.{and_parts}
use Rattle.std.proofs.lemmas.Slice.Eq.{bytes_eq-Decides}
use Rattle.frame_core.proofs.Lists.{all_append, all_both, all_left, all_push, all_right, all_weaker}
use Rattle.command_core.specs.Destinations.{is_queue}
use Rattle.line_core.specs.declared.message.Message.{Message}
use Rattle.line_core.specs.Flights.{settled, settles}
use Rattle.line_core.specs.Lines.{inserted}
use Rattle.line_core.proofs.Inserted.{all_inserted}
use Rattle.broker_state.specs.declared.subscription.Subscription.{Subscription}
use Rattle.broker_state.specs.Dead.{dead_queue, first_place, is_dropped, with_refused}
use Rattle.broker_state.specs.HandOut.{can_take, delivered, handed, is_auto}
use Rattle.broker_state.specs.Lists.{is_none, picked, with_first}
use Rattle.broker_state.specs.Names.{AreSame, Name, name_cmp, text_cmp}
use Rattle.broker_state.specs.Operations.{awaits, copied, copied_to_names, forgotten, message_of, settled_by, fanned_out, topic_of, without}
use Rattle.broker_state.specs.Sound.{AreTo, HasNames, OwnsName, had_by}
use Rattle.broker_state.specs.States.{State}
use Rattle.broker_state.specs.Waiting.{Lines, Shared, is_own, left_from, left_line, line_at, line_for, line_from, returned_from, with_deliveries, with_line, with_message}
use Rattle.broker_state.proofs.KeyedLines.{absent-removed}
use Rattle.broker_state.proofs.Keys.{name_itself, names_total, same_names, same_texts}
use Rattle.broker_state.proofs.Lookups.{is_equal, lookup_inserted, lookup_removed, none_found, other_way}
use Rattle.broker_state.proofs.Ordered.{IsOrdered}
use Rattle.broker_state.proofs.Picked.{all_picked, all_with_first}
use Rattle.broker_state.proofs.Refusals.{all_kept, kept_from, kept_in}
use Rattle.broker_state.proofs.Sendings.{fanned_out_by}
use Rattle.broker_state.proofs.SortedEntries.{all_removed}
use Rattle.broker_state.proofs.Walk.{Keeps, KeepsFrom}
use Rattle.broker_state.proofs.Weights.{all_mapped}

-- What each line has with its key, where one is changed.
module _ {K : Type 0} (cmp : K → K → Ordering) (same : AreSame cmp) (Q : K × List Message → Type 0) where
  entries_inserted : (k : K) (v : List Message) → Q (k, v) → (es : Lines K) → AllByRecursion Q es → AllByRecursion Q (insert_entry cmp es k v)
  entries_inserted k v new [] all = (new, tt)
  entries_inserted k v new (e ∷ es) all =
      by (cmp k e.0) refl (entries_inserted k v new es all.1)
    where
      by : (o : Ordering) → cmp k e.0 ≡ o → AllByRecursion Q (insert_entry cmp es k v) → AllByRecursion Q (match_ordering o ((k, v) ∷ e ∷ es) ((e.0, v) ∷ es) (e ∷ insert_entry cmp es k v))
      by Less is rest = (new, all)
      by Equal is rest = (subst (λ (x : K). Q (x, v)) (same k e.0 is) new, all.1)
      by Greater is rest = (all.0, rest)

  line_changed : (k : K) (line : List Message) (lines : Lines K) → (is_none line ≡ false → Q (k, line)) → AllByRecursion Q lines → AllByRecursion Q (with_line cmp k line lines)
  line_changed k [] lines new all = all_removed Q (is_at (cmp k)) lines all
  line_changed k (m ∷ line) lines new all =
      entries_inserted k (m ∷ line) (new refl) (remove_entry (is_at (cmp k)) lines) (all_removed Q (is_at (cmp k)) lines all)

  line_found : (P : List Message → Type 0) (k : K) → P [] → ((line : List Message) → Q (k, line) → P line) → (lines : Lines K) → AllByRecursion Q lines → P (line_at cmp k lines)
  line_found P k none read [] all = none
  line_found P k none read (e ∷ lines) all =
      by (is_eq (cmp k e.0)) refl (line_found P k none read lines all.1)
    where
      by : (b : Bool) → is_eq (cmp k e.0) ≡ b → P (line_at cmp k lines) → P (unwrap_or (cond b (Some e.1) (lookup (is_at (cmp k)) lines)) [])
      by true is rest =
          read e.1 (subst (λ (x : K). Q (x, e.1)) (sym (same k e.0 (is_equal (cmp k e.0) is))) all.0)
      by false is rest = rest

  -- The line of a key has messages to one destination.
  module _ (key : K) (to : List ℕ) (good : (line : List Message) → is_none line ≡ false → AreTo to line → Q (key, line)) (read : (line : List Message) → Q (key, line) → AreTo to line) where
    to_found : (lines : Lines K) → AllByRecursion Q lines → AreTo to (line_at cmp key lines)
    to_found lines all = line_found (AreTo to) key tt read lines all

    to_put : (m : Message) → m.sending.destination ≡ to → (lines : Lines K) → AllByRecursion Q lines → AllByRecursion Q (with_message cmp key m lines)
    to_put m is lines all =
        let line = line_at cmp key lines in
        line_changed key (inserted m line) lines (λ some. good (inserted m line) some (all_inserted m (λ x. x.sending.destination ≡ to) line is (to_found lines all))) all

    to_put_back : (deliveries : List (ℕ × Message)) → AreTo to (map (λ (d : ℕ × Message). d.1) deliveries) → (lines : Lines K) → AllByRecursion Q lines → AllByRecursion Q (with_deliveries cmp key deliveries lines)
    to_put_back [] are lines all = all
    to_put_back (d ∷ deliveries) are lines all =
        to_put_back deliveries are.1 (with_message cmp key d.1 lines) (to_put d.1 are.0 lines all)

    to_left : (m : Message) (rest : List Message) (lines : Lines K) → line_at cmp key lines ≡ m ∷ rest → AllByRecursion Q lines → AllByRecursion Q (with_line cmp key rest lines)
    to_left m rest lines line all =
        let are : AreTo to (m ∷ rest) = subst (AreTo to) line (to_found lines all) in
        line_changed key rest lines (λ some. good rest some are.1) all

-- a line of a queue, and one under a durable name
abbrev IsQueueLine : List ℕ × List Message → Type 0
IsQueueLine line = (is_queue line.0 ≡ true) × (is_none line.1 ≡ false) × AreTo line.0 line.1

abbrev IsNameLine : List (Name × List ℕ) → Name × List Message → Type 0
IsNameLine durables line =
    (is_none line.1 ≡ false) × IfSome (topic_of line.0 durables) (λ topic. AreTo topic line.1)

abbrev IsLineOwn : Subscription → Type 0
IsLineOwn sub = is_own sub ≡ false → sub.line ≡ []

abbrev HasTo : Subscription → Type 0
HasTo sub = AreTo sub.destination (had_by sub)

-- refused messages in the line of those
queues_refused : (messages : List Message) → AreTo dead_queue messages → (lines : Lines (List ℕ)) → AllByRecursion IsQueueLine lines → AllByRecursion IsQueueLine (with_refused messages lines)
queues_refused [] are lines all = all
queues_refused (m ∷ messages) are lines all =
    queues_refused messages are.1 (with_message text_cmp dead_queue m lines) (to_put text_cmp same_texts IsQueueLine dead_queue dead_queue (λ line some to. (refl, some, to)) (λ line has. has.2) m are.0 lines all)

-- No line that stays is empty, and messages are where they are sent to.
pub record IsPlaced (s : State) : Type 0 where
  pub queues : AllByRecursion IsQueueLine s.shared.queues
  pub names : AllByRecursion (IsNameLine s.durables) s.shared.names
  pub to : AllByRecursion HasTo s.subscriptions
  pub own : AllByRecursion IsLineOwn s.subscriptions

module _ (durables : List (Name × List ℕ)) (name : Name) (topic : List ℕ) (is : topic_of name durables ≡ Some topic) where
  name_good : (line : List Message) → is_none line ≡ false → AreTo topic line → IsNameLine durables (name, line)
  name_good line some are =
      (some, subst (λ (o : Option (List ℕ)). IfSome o (λ t. AreTo t line)) (sym is) are)

  name_read : (line : List Message) → IsNameLine durables (name, line) → AreTo topic line
  name_read line has = subst (λ (o : Option (List ℕ)). IfSome o (λ t. AreTo t line)) is has.1

-- the lines that stay are where they belong
record ArePlaced (durables : List (Name × List ℕ)) (shared : Shared) : Type 0 where
  pub queues : AllByRecursion IsQueueLine shared.queues
  pub names : AllByRecursion (IsNameLine durables) shared.names

module _ (durables : List (Name × List ℕ)) (shared : Shared) (now : ArePlaced durables shared) (sub : Subscription) where
  -- a durable name is bound to the topic of its subscription
  abbrev Owns : Option Name → Type 0
  Owns o = IfSome o (λ name. topic_of name durables ≡ Some sub.destination)

  module _ (are : AreTo sub.destination (map (λ (d : ℕ × Message). d.1) sub.unacknowledged)) where
    returned_queue : (kind : Bool) → is_queue sub.destination ≡ kind → ArePlaced durables (if kind then record shared { queues = with_deliveries text_cmp sub.destination sub.unacknowledged shared.queues } else shared)
    returned_queue true is = record {
      queues = to_put_back text_cmp same_texts IsQueueLine sub.destination sub.destination (λ line some to. (is, some, to)) (λ line has. has.2) sub.unacknowledged are shared.queues now.queues;
      names = now.names;
    }
    returned_queue false is = now

    placed_returned : (o : Option Name) → Owns o → ArePlaced durables (returned_from shared sub o)
    placed_returned (Some name) owns = record {
      queues = now.queues;
      names = to_put_back name_cmp same_names (IsNameLine durables) name sub.destination (name_good durables name sub.destination owns) (name_read durables name sub.destination owns) sub.unacknowledged are shared.names now.names;
    }
    placed_returned None owns = returned_queue (is_queue sub.destination) refl

  module _ (m : Message) (rest : List Message) where
    left_queue : (kind : Bool) → is_queue sub.destination ≡ kind → (if kind then line_at text_cmp sub.destination shared.queues else sub.line) ≡ m ∷ rest → ArePlaced durables (if kind then record shared { queues = with_line text_cmp sub.destination rest shared.queues } else shared)
    left_queue true is line = record {
      queues = to_left text_cmp same_texts IsQueueLine sub.destination sub.destination (λ l some to. (is, some, to)) (λ l has. has.2) m rest shared.queues line now.queues;
      names = now.names;
    }
    left_queue false is line = now

    placed_left : (o : Option Name) → Owns o → line_from shared sub o ≡ m ∷ rest → ArePlaced durables (left_from shared sub rest o)
    placed_left (Some name) owns line = record {
      queues = now.queues;
      names = to_left name_cmp same_names (IsNameLine durables) name sub.destination (name_good durables name sub.destination owns) (name_read durables name sub.destination owns) m rest shared.names line now.names;
    }
    placed_left None owns line = left_queue (is_queue sub.destination) refl line

  -- what a subscription is served from is to its destination
  served_queue : (kind : Bool) → is_queue sub.destination ≡ kind → AreTo sub.destination sub.line → AreTo sub.destination (if kind then line_at text_cmp sub.destination shared.queues else sub.line)
  served_queue true is own =
      to_found text_cmp same_texts IsQueueLine sub.destination sub.destination (λ line some to. (is, some, to)) (λ line has. has.2) shared.queues now.queues
  served_queue false is own = own

  served_to : (o : Option Name) → Owns o → AreTo sub.destination sub.line → AreTo sub.destination (line_from shared sub o)
  served_to (Some name) owns own =
      to_found name_cmp same_names (IsNameLine durables) name sub.destination (name_good durables name sub.destination owns) (name_read durables name sub.destination owns) shared.names now.names
  served_to None owns own = served_queue (is_queue sub.destination) refl own

-- A message to a topic goes into the lines of names of that topic.
module _ (durables : List (Name × List ℕ)) (m : Message) where
  names_copied : (some : List (Name × List ℕ)) → AllByRecursion (λ d. topic_of d.0 durables ≡ Some d.1) some → (names : Lines Name) → AllByRecursion (IsNameLine durables) names → AllByRecursion (IsNameLine durables) (copied_to_names m some names)
  names_copied [] known names all = all
  names_copied (d ∷ some) known names all =
      names_copied some known.1 (if bytes_eq d.1 m.sending.destination then with_message name_cmp d.0 m names else names) (by (bytes_eq d.1 m.sending.destination) refl)
    where
      by : (b : Bool) → bytes_eq d.1 m.sending.destination ≡ b → AllByRecursion (IsNameLine durables) (if b then with_message name_cmp d.0 m names else names)
      by true is =
          to_put name_cmp same_names (IsNameLine durables) d.0 d.1 (name_good durables d.0 d.1 known.0) (name_read durables d.0 d.1 known.0) m (sym ((bytes_eq-Decides d.1 m.sending.destination).0 is)) names all
      by false is = all

all_of_keys : {K X : Type 0} (P : K → Type 0) (es : List (K × X)) → AllByRecursion P (keys_of es) → AllByRecursion (λ (e : K × X). P e.0) es
all_of_keys P [] all = tt
all_of_keys P (e ∷ es) all = (all.0, all_of_keys P es all.1)

-- each durable name is bound to its own topic
each_bound : (es : List (Name × List ℕ)) → IsStrictlySortedBy name_cmp (keys_of es) → AllByRecursion (λ (d : Name × List ℕ). topic_of d.0 es ≡ Some d.1) es
unfolding IsStrictlySortedBy
each_bound [] sorted = tt
each_bound (e ∷ es) sorted =
    (ap (λ b. cond b (Some e.1) (topic_of e.0 es)) (name_itself e.0), all_both (λ (d : Name × List ℕ). name_cmp e.0 d.0 ≡ Less) (λ (d : Name × List ℕ). topic_of d.0 es ≡ Some d.1) (λ (d : Name × List ℕ). topic_of d.0 (e ∷ es) ≡ Some d.1) (λ d above is. ap (λ b. cond b (Some e.1) (topic_of d.0 es)) (other_way name_cmp same_names e.0 d.0 (ap is_eq above)) ∙ is) es (all_of_keys (λ y. name_cmp e.0 y ≡ Less) es sorted.0) (each_bound es sorted.1))

-- what a subscription has after fewer deliveries, or one more
fewer_to : (to : List ℕ) (test : ℕ × Message → Bool) (flight : List (ℕ × Message)) → AreTo to (map (λ (d : ℕ × Message). d.1) flight) → AreTo to (map (λ (d : ℕ × Message). d.1) (filter test flight))
fewer_to to test [] all = tt
fewer_to to test (d ∷ flight) all =
    elim (test d) as (λ b. AreTo to (map (λ (x : ℕ × Message). x.1) (cond b (d ∷ filter test flight) (filter test flight)))) [ true ↦ (all.0, fewer_to to test flight all.1) | false ↦ fewer_to to test flight all.1 ]

pushed_to : (to : List ℕ) (flight : List (ℕ × Message)) (n : ℕ) (m : Message) → AreTo to (map (λ (d : ℕ × Message). d.1) flight) → m.sending.destination ≡ to → AreTo to (map (λ (d : ℕ × Message). d.1) (flight ++ (n, m) ∷ []))
pushed_to to [] n m all is = (is, tt)
pushed_to to (d ∷ flight) n m all is = (all.0, pushed_to to flight n m all.1 is)

more_to : (to : List ℕ) (auto : Bool) (flight : List (ℕ × Message)) (n : ℕ) (m : Message) → AreTo to (map (λ (d : ℕ × Message). d.1) flight) → m.sending.destination ≡ to → AreTo to (map (λ (d : ℕ × Message). d.1) (if auto then flight else flight ++ (n, m) ∷ []))
more_to to true flight n m all is = all
more_to to false flight n m all is = pushed_to to flight n m all is

abbrev IsTo : List ℕ → Message → Type 0
IsTo to m = m.sending.destination ≡ to

abbrev flown : Subscription → List Message
flown sub = map (λ (d : ℕ × Message). d.1) sub.unacknowledged

line_to : (sub : Subscription) → HasTo sub → AreTo sub.destination sub.line
line_to sub all = all_left (IsTo sub.destination) sub.line (flown sub) all

flight_to : (sub : Subscription) → HasTo sub → AreTo sub.destination (flown sub)
flight_to sub all = all_right (IsTo sub.destination) sub.line (flown sub) all

both_to : (sub : Subscription) → AreTo sub.destination sub.line → AreTo sub.destination (flown sub) → HasTo sub
both_to sub line flight = all_append (IsTo sub.destination) sub.line (flown sub) line flight

-- what is known of a state: the order, and what is asked of durable names
abbrev pub IsNamed : ℕ → State → Type 0
IsNamed number s = IsOrdered number s × HasNames s

abbrev OwnsTopic : List (Name × List ℕ) → List ℕ → Option Name → Type 0
OwnsTopic durables to o = IfSome o (λ name. topic_of name durables ≡ Some to)

topic_owned : (P : Name → Type 0) (durables : List (Name × List ℕ)) (to : List ℕ) (o : Option Name) → IfSome o (λ name. P name × (topic_of name durables ≡ Some to)) → OwnsTopic durables to o
topic_owned P durables to None owns = tt
topic_owned P durables to (Some name) owns = owns.1

module _ (s : State) (now : IsPlaced s) where
  shared_now : ArePlaced s.durables s.shared
  shared_now = record { queues = now.queues; names = now.names }

  -- a subscription without messages begins
  placed_begun : (t : State) (sub : Subscription) → HasTo sub → IsLineOwn sub → t.shared ≡ s.shared → t.durables ≡ s.durables → t.subscriptions ≡ s.subscriptions ++ sub ∷ [] → IsPlaced t
  placed_begun t sub to own shared durables subs = record {
    queues = rw shared now.queues;
    names = rw (shared, durables) now.names;
    to = rw subs (all_push HasTo s.subscriptions sub now.to to);
    own = rw subs (all_push IsLineOwn s.subscriptions sub now.own own);
  }

  -- lines stay where they belong once another name is bound, or one is forgotten
  placed_bound : HasNames s → (name : Name) (to : List ℕ) → topic_of name s.durables ≡ None → AllByRecursion (IsNameLine (insert_entry name_cmp s.durables name to)) s.shared.names
  placed_bound known name to unknown =
      all_both (λ (line : Name × List Message). IsSome (topic_of line.0 s.durables)) (IsNameLine s.durables) (IsNameLine (insert_entry name_cmp s.durables name to)) (λ line some has. (has.0, subst (λ (o : Option (List ℕ)). IfSome o (λ t. AreTo t line.1)) (sym (lookup_inserted name_cmp same_names line.0 name (another line.0 some) to s.durables)) has.1)) s.shared.names known.lines now.names
    where
      another : (n : Name) → IsSome (topic_of n s.durables) → is_eq (name_cmp n name) ≡ false
      another n some = by (is_eq (name_cmp n name)) refl
        where
          by : (b : Bool) → is_eq (name_cmp n name) ≡ b → is_eq (name_cmp n name) ≡ false
          by true is =
              let none : is_some (topic_of n s.durables) ≡ false = ap (λ k. is_some (topic_of k s.durables)) (same_names n name (is_equal (name_cmp n name) is)) ∙ ap is_some unknown in
              absurd (true≢false (sym some ∙ none))
          by false other = other

  placed_forgotten : (number : ℕ) → IsOrdered number s → (name : Name) → IsPlaced (forgotten s name)
  placed_forgotten number known name = record {
    queues = now.queues;
    names = all_both (λ (line : Name × List Message). is_eq (name_cmp name line.0) ≡ false) (IsNameLine s.durables) (IsNameLine (remove_entry (is_at (name_cmp name)) s.durables)) (λ line other has. (has.0, subst (λ (o : Option (List ℕ)). IfSome o (λ t. AreTo t line.1)) (sym (lookup_removed name_cmp same_names line.0 name (other_way name_cmp same_names name line.0 other) s.durables)) has.1)) (remove_entry (is_at (name_cmp name)) s.shared.names) (none_found name_cmp name (remove_entry (is_at (name_cmp name)) s.shared.names) (absent-removed name_cmp names_total same_names name s.shared.names known.order.names)) (all_removed (IsNameLine s.durables) (is_at (name_cmp name)) s.shared.names now.names);
    to = now.to;
    own = now.own;
  }

  placed_acknowledged : (p : Subscription → Bool) (delivery : ℕ) → IsPlaced (record s { subscriptions = with_first p (settled_by delivery) s.subscriptions })
  placed_acknowledged p delivery = record {
    queues = now.queues;
    names = now.names;
    to = all_with_first p HasTo (settled_by delivery) (λ sub passes has. both_to (settled_by delivery sub) (line_to sub has) (fewer_to sub.destination (λ item. not (settles sub.mode delivery item.0)) sub.unacknowledged (flight_to sub has))) s.subscriptions now.to;
    own = all_with_first p IsLineOwn (settled_by delivery) (λ sub passes own. own) s.subscriptions now.own;
  }

  placed_refused : (session place delivery : ℕ) (sub : Subscription) → IsPlaced (kept_in s session place delivery sub)
  placed_refused session place delivery sub =
      let after = placed_acknowledged (awaits session delivery) delivery in
      let are = all_kept (is_dropped (is_own sub)) s.count (λ m. m.sending.destination ≡ dead_queue) (λ at m. refl) (first_place place) (settled sub.mode delivery sub.unacknowledged) in
      record {
        queues = queues_refused (kept_from s session place delivery sub) are s.shared.queues now.queues;
        names = after.names;
        to = after.to;
        own = after.own;
      }

  module _ (known : HasNames s) (p : Subscription → Bool) (sub : Subscription) (others : List Subscription) (is : picked p s.subscriptions ≡ Some (sub, others)) where
    to_parts : HasTo sub × AllByRecursion HasTo others
    to_parts = all_picked p s.subscriptions sub others is HasTo now.to

    own_parts : IsLineOwn sub × AllByRecursion IsLineOwn others
    own_parts = all_picked p s.subscriptions sub others is IsLineOwn now.own

    owned : OwnsTopic s.durables sub.destination sub.durable
    owned =
        topic_owned _ s.durables sub.destination sub.durable (all_picked p s.subscriptions sub others is (OwnsName s) known.own).0

    placed_without : IsPlaced (without s sub others)
    placed_without =
        let shared = placed_returned s.durables s.shared shared_now sub (flight_to sub to_parts.0) sub.durable owned in
        record { queues = shared.queues; names = shared.names; to = to_parts.1; own = own_parts.1 }

    module _ (m : Message) (rest : List Message) (line : line_for s.shared sub ≡ m ∷ rest) where
      abbrev after : Subscription
      after = delivered (left_line sub rest) s.next_delivery m

      line_is_to : AreTo sub.destination (m ∷ rest)
      line_is_to =
          subst (AreTo sub.destination) line (served_to s.durables s.shared shared_now sub sub.durable owned (line_to sub to_parts.0))

      rest_to : (b : Bool) → AreTo sub.destination (if b then rest else sub.line)
      rest_to true = line_is_to.1
      rest_to false = line_to sub to_parts.0

      placed_handed : IsPlaced (handed s sub others m rest).state
      placed_handed =
          let shared = placed_left s.durables s.shared shared_now sub m rest sub.durable owned line in
          record {
            queues = shared.queues;
            names = shared.names;
            to = all_push HasTo others after to_parts.1 (both_to after (rest_to (is_own sub)) (more_to sub.destination (is_auto sub.mode) sub.unacknowledged s.next_delivery m (flight_to sub to_parts.0) line_is_to.0));
            own = all_push IsLineOwn others after own_parts.1 (λ other. ap (λ b. if b then rest else sub.line) other ∙ own_parts.0 other);
          }

  module _ (m : Message) where
    copied_to : (sub : Subscription) → HasTo sub × IsLineOwn sub → HasTo (copied m sub) × IsLineOwn (copied m sub)
    copied_to sub has = by (is_own sub && bytes_eq sub.destination m.sending.destination) refl
      where
        more : Subscription
        more = record sub { line = inserted m sub.line }

        by : (b : Bool) → (is_own sub && bytes_eq sub.destination m.sending.destination) ≡ b → HasTo (cond b more sub) × IsLineOwn (cond b more sub)
        by true is =
            let parts = and_parts _ _ is in
            let same : m.sending.destination ≡ sub.destination = sym ((bytes_eq-Decides sub.destination m.sending.destination).0 parts.1) in
            (both_to more (all_inserted m (IsTo sub.destination) sub.line same (line_to sub has.0)) (flight_to sub has.0), λ other. absurd (true≢false (sym parts.0 ∙ other)))
        by false is = has

    placed_fanned_out : (number : ℕ) → IsOrdered number s → IsPlaced (fanned_out s m)
    placed_fanned_out number known = by (is_queue m.sending.destination) refl
      where
        Both : Subscription → Type 0
        Both sub = HasTo sub × IsLineOwn sub

        both : AllByRecursion Both (map (copied m) s.subscriptions)
        both =
            all_mapped Both (copied m) copied_to s.subscriptions (all_both HasTo IsLineOwn Both (λ sub to own. (to, own)) s.subscriptions now.to now.own)

        by : (b : Bool) → is_queue m.sending.destination ≡ b → IsPlaced (fanned_out_by s m b)
        by true is = record {
          queues = to_put text_cmp same_texts IsQueueLine m.sending.destination m.sending.destination (λ line some to. (is, some, to)) (λ line has. has.2) m refl s.shared.queues now.queues;
          names = now.names;
          to = now.to;
          own = now.own;
        }
        by false is = record {
          queues = now.queues;
          names = names_copied s.durables m s.durables (each_bound s.durables known.durables) s.shared.names now.names;
          to = all_weaker Both HasTo (λ sub has. has.0) (map (copied m) s.subscriptions) both;
          own = all_weaker Both IsLineOwn (λ sub has. has.1) (map (copied m) s.subscriptions) both;
        }

module _ (number : ℕ) where
  pub placed_changes : Keeps (IsNamed number) IsPlaced
  placed_changes = record {
    opened = λ s client_id earlier known now. record { queues = now.queues; names = now.names; to = now.to; own = now.own };
    begun = λ s session id to mode can known now. placed_begun s now _ _ tt (λ other. refl) refl refl refl;
    used = λ s session id to mode name can own topic free known now.
        placed_begun s now _ _ tt (λ other. refl) refl refl refl;
    bound = λ s session id to mode name can own unknown few known now. record {
      queues = now.queues;
      names = placed_bound s now known.1 name to unknown;
      to = all_push HasTo s.subscriptions _ now.to tt;
      own = all_push IsLineOwn s.subscriptions _ now.own (λ other. refl);
    };
    without = λ s passes sub others is known now. placed_without s now known.1 passes sub others is;
    closed = λ s session none known now. record { queues = now.queues; names = now.names; to = now.to; own = now.own };
    forgotten = λ s name free known now. placed_forgotten s now number known.0 name;
    acknowledged = λ s session delivery known now. placed_acknowledged s now (awaits session delivery) delivery;
    handed = λ s sub others m rest is line known now. placed_handed s now known.1 (can_take s) sub others is m rest line;
  }

  -- each change leaves messages where they are sent to
  pub placed_from : KeepsFrom (IsNamed number) (λ place. IsPlaced)
  placed_from = record {
    changes = λ place. placed_changes;
    next = λ place s known now. now;
    fanned_out = λ place s sending fits known now. placed_fanned_out s now (message_of s.count place sending) number known.0;
    refused = λ place s session delivery sub others is fits known now. placed_refused s now session place delivery sub;
  }
