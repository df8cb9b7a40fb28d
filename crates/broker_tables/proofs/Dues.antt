use Rattle.std.proofs.Common.{◌≡◌, ◌==◌, ◌≤◌, ◌+◌, ◌^◌, ◌&&◌, ◌||◌, ◌++◌, List, [], ◌∷◌, ℕ, suc, zero, Bool, true, false, Option, Some, None, cond, is_some, length, map, nat_lt, not, refl, remove, slice_get, sym, ap, subst, ◌∙◌, arith, if◌then◌else◌}
use Rattle.std.specs.BTreeMap.{is_at}
use Rattle.std.specs.List.{AllByRecursion, insert, list_any}
use Rattle.std.specs.Map.{remove_entry}
use Rattle.std.specs.Option.{option_map}
use Rattle.std.specs.Ordering.{is_eq}
use Rattle.std.specs.Str.{bytes_eq}
use Rattle.std.specs.declared.cmp.Ordering.{Ordering}
use Rattle.std.proofs.lemmas.Bool.{and_parts, lt-ltb, ltb-true}
use Rattle.std.proofs.lemmas.Map.Text.{is_eq-slice_cmp}
use Rattle.std.proofs.lemmas.Option.{none-some, same_Some}
use Rattle.std.proofs.lemmas.Slice.Eq.{bytes_eq-Decides}
use Rattle.command_core.specs.Destinations.{is_queue}
use Rattle.line_core.specs.declared.message.Message.{Message}
use Rattle.line_core.specs.Lines.{inserted}
use Rattle.broker_state.specs.declared.subscription.Subscription.{Subscription}
use Rattle.broker_state.specs.Dead.{dead_queue, with_refused}
use Rattle.broker_state.specs.HandOut.{can_take, hand_out, handed_from, handed_to, has_room}
use Rattle.broker_state.specs.Lists.{changed, is_none, picked}
use Rattle.broker_state.specs.Names.{AreSame, Name, name_cmp, text_cmp}
use Rattle.broker_state.specs.Operations.{copied, copied_to_names, fanned_out, is_of, uses}
use Rattle.broker_state.specs.States.{State}
use Rattle.std.proofs.lemmas.Bool.Decides.{nat_tests}
use Rattle.broker_state.specs.Waiting.{Lines, Shared, is_own, left_from, line_at, line_for, line_from, left_shared, returned, returned_from, with_deliveries, with_line, with_message}
use Rattle.broker_state.proofs.KeyedLines.{other_line}
use Rattle.broker_state.proofs.Keys.{is_eq-name_cmp, same_names, same_texts}
use Rattle.broker_state.proofs.Lookups.{is_equal, other_way}
use Rattle.broker_state.proofs.Sendings.{copied_other, copied_own, fanned_out_by}
use Rattle.waiting_order.specs.Directories.{is_plain_at}
use Rattle.broker_tables.specs.declared.due.Due.{Due}
use Rattle.broker_tables.specs.declared.due.Due.TheVariants.{Session, Destination, Durable}
use Rattle.broker_tables.proofs.Nexts.{plain_listens}
use Rattle.broker_tables.specs.Dues.{AreDue, due_from, is_due, is_under, line_due}

-- what was due is due still
abbrev pub Grows : List Due → List Due → Type 0
Grows d e = (sub : Subscription) → is_due d sub ≡ true → is_due e sub ≡ true

-- subscriptions of the same session, destination and durable name are under the same keys
pub same_keys : (a b : Subscription) → a.session ≡ b.session → a.destination ≡ b.destination → a.durable ≡ b.durable → (due : Due) → is_under due a ≡ is_under due b
same_keys a b session destination durable (Session q) = ap (λ n. q == n) session
same_keys a b session destination durable (Destination to) =
    ap (λ o. not (is_some o) && bytes_eq a.destination to) durable ∙ ap (λ (l : List ℕ). not (is_some b.durable) && bytes_eq l to) destination
same_keys a b session destination durable (Durable name) =
    ap (λ o. elim o as (λ p. Bool) [ None ↦ false | Some other ↦ bytes_eq name.0 other.0 && bytes_eq name.1 other.1 ]) durable

pub alike : (a b : Subscription) → ((due : Due) → is_under due a ≡ is_under due b) → (marks : List Due) → is_due marks a ≡ is_due marks b
alike a b same [] = refl
alike a b same (due ∷ marks) =
    ap (λ u. u || is_due marks a) (same due) ∙ ap (λ r. is_under due b || r) (alike a b same marks)

pub or_left : (a b : Bool) → a ≡ true → (a || b) ≡ true
or_left true b is = refl
or_left false b is = absurd cc

pub or_right : (a b : Bool) → b ≡ true → (a || b) ≡ true
or_right true b is = refl
or_right false b is = is

-- one more among others
module _ {X : Type 0} (p : X → Bool) (x : X) where
  pub any_kept : (xs : List X) (at : ℕ) → list_any p xs ≡ true → list_any p (insert xs at x) ≡ true
  any_kept xs zero is = or_right (p x) (list_any p xs) is
  any_kept [] (suc at) is = absurd cc
  any_kept (y ∷ ys) (suc at) is = by (p y) is (λ rest. any_kept ys at rest)
    where
      by : (b : Bool) → (b || list_any p ys) ≡ true → (list_any p ys ≡ true → list_any p (insert ys at x) ≡ true) → (b || list_any p (insert ys at x)) ≡ true
      by true so rest = refl
      by false so rest = rest so

  pub any_new : (xs : List X) (at : ℕ) → at ≤ length xs → p x ≡ true → list_any p (insert xs at x) ≡ true
  any_new xs zero within is = or_left (p x) (list_any p xs) is
  any_new [] (suc at) within is = absurd (omega (arith, within))
  any_new (y ∷ ys) (suc at) within is = or_right (p y) (list_any p (insert ys at x)) (any_new ys at (omega (arith, within)) is)

  pub any_there : (xs : List X) (at : ℕ) → slice_get xs at ≡ Some x → p x ≡ true → list_any p xs ≡ true
  any_there [] at is passes = absurd (none-some x is)
  any_there (y ∷ ys) zero is passes = or_left (p y) (list_any p ys) (ap p (same_Some y x is) ∙ passes)
  any_there (y ∷ ys) (suc at) is passes = or_right (p y) (list_any p ys) (any_there ys at is passes)

pub clash : (b : Bool) → b ≡ true → b ≡ false → ⊥
clash true is fails = absurd cc
clash false is fails = absurd cc

pub unless : (a b : Bool) → (a ≡ true → b ≡ true) → b ≡ false → a ≡ false
unless a b so fails = by a refl
  where
    by : (c : Bool) → a ≡ c → a ≡ false
    by true is = absurd (clash b (so is) fails)
    by false is = is

pub each_weaker : {X : Type 0} (P Q : X → Type 0) → ((x : X) → P x → Q x) → (xs : List X) → AllByRecursion P xs → AllByRecursion Q xs
each_weaker P Q f [] all = tt
each_weaker P Q f (x ∷ xs) all = (f x all.0, each_weaker P Q f xs all.1)

not_none : (b : Bool) → not b ≡ true → b ≡ false
not_none true is = absurd cc
not_none false is = refl

-- what it takes to be served
pub record CanTake (s : State) (sub : Subscription) : Type 0 where
  pub number : nat_lt s.next_delivery (2 ^ 63) ≡ true
  pub room : has_room sub ≡ true
  pub line : is_none (line_for s.shared sub) ≡ false

pub can_parts : (s : State) (sub : Subscription) → can_take s sub ≡ true → CanTake s sub
can_parts s sub can =
    let both = and_parts (nat_lt s.next_delivery (2 ^ 63) && has_room sub) (not (is_none (line_for s.shared sub))) can in
    let first = and_parts (nat_lt s.next_delivery (2 ^ 63)) (has_room sub) both.0 in
    record { number = first.0; room = first.1; line = not_none (is_none (line_for s.shared sub)) both.1 }

pub can_from : (s : State) (sub : Subscription) → CanTake s sub → can_take s sub ≡ true
can_from s sub can = rw (can.number, can.room, can.line) refl

-- who is not due has the line that it had
module _ (s t : State) (d e : List Due) (number : t.next_delivery ≡ s.next_delivery) (more : Grows d e) where
  pub moved : (x : Subscription) → (is_due e x ≡ false → line_for t.shared x ≡ line_for s.shared x) → (can_take s x ≡ true → is_due d x ≡ true) → can_take t x ≡ true → is_due e x ≡ true
  moved x same was can = by (is_due e x) refl
    where
      by : (b : Bool) → is_due e x ≡ b → is_due e x ≡ true
      by true is = is
      by false is =
          let parts = can_parts t x can in
          more x (was (can_from s x (record { number = ap (λ n. nat_lt n (2 ^ 63)) (sym number) ∙ parts.number; room = parts.room; line = ap is_none (sym (same is)) ∙ parts.line })))

  abbrev pub IsDueBefore : Subscription → Type 0
  IsDueBefore x = can_take s x ≡ true → is_due d x ≡ true

  abbrev pub IsDueAfter : Subscription → Type 0
  IsDueAfter x = can_take t x ≡ true → is_due e x ≡ true

  pub all_moved : ((x : Subscription) → is_due e x ≡ false → line_for t.shared x ≡ line_for s.shared x) → (xs : List Subscription) → AllByRecursion IsDueBefore xs → AllByRecursion IsDueAfter xs
  all_moved same xs all = each_weaker IsDueBefore IsDueAfter (λ x was. moved x (same x) was) xs all

-- The line of another queue or name stays where one is changed.
module _ (shared : Shared) (x : Subscription) where
  queue_from : (to : List ℕ) (line : List Message) (o : Option Name) → (not (is_some o) && bytes_eq x.destination to) ≡ false → line_from (record shared { queues = with_line text_cmp to line shared.queues }) x o ≡ line_from shared x o
  queue_from to line (Some name) other = refl
  queue_from to line None other =
      elim (is_queue x.destination) as (λ b. cond b (line_at text_cmp x.destination (with_line text_cmp to line shared.queues)) x.line ≡ cond b (line_at text_cmp x.destination shared.queues) x.line) [ true ↦ other_line text_cmp same_texts x.destination to (is_eq-slice_cmp x.destination to ∙ other) line shared.queues | false ↦ refl ]

  pub queue_elsewhere : (to : List ℕ) (line : List Message) → is_plain_at to x ≡ false → line_for (record shared { queues = with_line text_cmp to line shared.queues }) x ≡ line_for shared x
  queue_elsewhere to line other = queue_from to line x.durable other

  abbrev uses_by : Name → Option Name → Bool
  uses_by name o = elim o as (λ p. Bool) [ None ↦ false | Some other ↦ bytes_eq name.0 other.0 && bytes_eq name.1 other.1 ]

  name_from : (name : Name) (line : List Message) (o : Option Name) → uses_by name o ≡ false → line_from (record shared { names = with_line name_cmp name line shared.names }) x o ≡ line_from shared x o
  name_from name line (Some k) other =
      other_line name_cmp same_names k name (other_way name_cmp same_names name k (is_eq-name_cmp name k ∙ other)) line shared.names
  name_from name line None other = refl

  pub name_elsewhere : (name : Name) (line : List Message) → uses name x ≡ false → line_for (record shared { names = with_line name_cmp name line shared.names }) x ≡ line_for shared x
  name_elsewhere name line other = name_from name line x.durable other

-- and where messages come into it, one after another
pub queue_gets : (ds : List (ℕ × Message)) (shared : Shared) (x : Subscription) (to : List ℕ) → is_plain_at to x ≡ false → line_for (record shared { queues = with_deliveries text_cmp to ds shared.queues }) x ≡ line_for shared x
queue_gets [] shared x to other = refl
queue_gets (d ∷ ds) shared x to other =
    queue_gets ds (record shared { queues = with_message text_cmp to d.1 shared.queues }) x to other ∙ queue_elsewhere shared x to _ other

pub name_gets : (ds : List (ℕ × Message)) (shared : Shared) (x : Subscription) (name : Name) → uses name x ≡ false → line_for (record shared { names = with_deliveries name_cmp name ds shared.names }) x ≡ line_for shared x
name_gets [] shared x name other = refl
name_gets (d ∷ ds) shared x name other =
    name_gets ds (record shared { names = with_message name_cmp name d.1 shared.names }) x name other ∙ name_elsewhere shared x name _ other

-- What a subscription that has ended gives back comes into the line of its key, and into none where its line is its own.
module _ (shared : Shared) (sub x : Subscription) where
  back_from : (o : Option Name) → is_under (due_from sub o) x ≡ false → line_for (returned_from shared sub o) x ≡ line_for shared x
  back_from (Some name) other = name_gets sub.unacknowledged shared x name other
  back_from None other =
      elim (is_queue sub.destination) as (λ b. line_for (cond b (record shared { queues = with_deliveries text_cmp sub.destination sub.unacknowledged shared.queues }) shared) x ≡ line_for shared x) [ true ↦ queue_gets sub.unacknowledged shared x sub.destination other | false ↦ refl ]

  pub back_elsewhere : is_under (line_due sub) x ≡ false → line_for (returned shared sub) x ≡ line_for shared x
  back_elsewhere other = back_from sub.durable other

  own_from : (o : Option Name) → not (is_some o || is_queue sub.destination) ≡ true → returned_from shared sub o ≡ shared
  own_from (Some name) own = absurd cc
  own_from None own =
      ap (λ b. cond b (record shared { queues = with_deliveries text_cmp sub.destination sub.unacknowledged shared.queues }) shared) (not_none (is_queue sub.destination) own)

  pub own_gives_nothing : is_own sub ≡ true → returned shared sub ≡ shared
  own_gives_nothing own = own_from sub.durable own

-- where a message is left in a line, there was one before it was cut
module _ {K : Type 0} (cmp : K → K → Ordering) (same : AreSame cmp) where
  left_in : (x d : K) (lines : Lines K) (m : Message) (rest : List Message) → line_at cmp d lines ≡ m ∷ rest → is_none (line_at cmp x (with_line cmp d rest lines)) ≡ false → is_none (line_at cmp x lines) ≡ false
  left_in x d lines m rest line left = by (is_eq (cmp x d)) refl
    where
      by : (b : Bool) → is_eq (cmp x d) ≡ b → is_none (line_at cmp x lines) ≡ false
      by true is = ap (λ y. is_none (line_at cmp y lines)) (same x d (is_equal (cmp x d) is)) ∙ ap is_none line
      by false is = ap is_none (sym (other_line cmp same x d is rest lines)) ∙ left

module _ (shared : Shared) (sub x : Subscription) (m : Message) (rest : List Message) where
  left_queue : (is_q is_d : Bool) → (if is_d then line_at text_cmp sub.destination shared.queues else sub.line) ≡ m ∷ rest
      → is_none (if is_q then line_at text_cmp x.destination (if is_d then record shared { queues = with_line text_cmp sub.destination rest shared.queues } else shared).queues else x.line) ≡ false
      → is_none (if is_q then line_at text_cmp x.destination shared.queues else x.line) ≡ false
  left_queue false is_d line left = left
  left_queue true false line left = left
  left_queue true true line left =
      left_in text_cmp same_texts x.destination sub.destination shared.queues m rest line left

  left_name : (is_d : Bool) (name : Name) → is_none (line_at name_cmp name (if is_d then record shared { queues = with_line text_cmp sub.destination rest shared.queues } else shared).names) ≡ false → is_none (line_at name_cmp name shared.names) ≡ false
  left_name false name left = left
  left_name true name left = left

  pub left_waits : (a b : Option Name) → line_from shared sub b ≡ m ∷ rest → is_none (line_from (left_from shared sub rest b) x a) ≡ false → is_none (line_from shared x a) ≡ false
  left_waits (Some name) (Some other) line left =
      left_in name_cmp same_names name other shared.names m rest line left
  left_waits (Some name) None line left = left_name (is_queue sub.destination) name left
  left_waits None (Some other) line left = left
  left_waits None None line left = left_queue (is_queue x.destination) (is_queue sub.destination) line left

-- who can be served after a delivery could be served before it
pub could_before : (s t : State) (sub x : Subscription) (m : Message) (rest : List Message) → line_for s.shared sub ≡ m ∷ rest → t.shared ≡ left_shared s.shared sub rest → t.next_delivery ≡ s.next_delivery + 1 → can_take t x ≡ true → can_take s x ≡ true
could_before s t sub x m rest line left next can =
    let parts = can_parts t x can in
    can_from s x (record {
      number = lt-ltb s.next_delivery (2 ^ 63) (omega (arith, ltb-true t.next_delivery (2 ^ 63) parts.number, next));
      room = parts.room;
      line = left_waits s.shared sub x m rest x.durable sub.durable line (ap (λ (h : Shared). is_none (line_for h x)) (sym left) ∙ parts.line);
    })

-- what holds of all holds of the others and of one more at the end, and of one that is changed
pub all_without : {X : Type 0} (P : X → Type 0) (xs : List X) (at : ℕ) → AllByRecursion P xs → AllByRecursion P (remove xs at)
all_without P [] zero all = tt
all_without P [] (suc at) all = tt
all_without P (x ∷ xs) zero all = all.1
all_without P (x ∷ xs) (suc at) all = (all.0, all_without P xs at all.1)

pub all_with : {X : Type 0} (P : X → Type 0) (xs : List X) (x : X) → AllByRecursion P xs → P x → AllByRecursion P (xs ++ x ∷ [])
all_with P [] x all new = (new, tt)
all_with P (y ∷ xs) x all new = (all.0, all_with P xs x all.1 new)

pub all_but : {X : Type 0} (P Q : X → Type 0) (f : X → X) (xs : List X) (at : ℕ) → ((x : X) → P x → Q x) → ((x : X) → slice_get xs at ≡ Some x → Q (f x)) → AllByRecursion P xs → AllByRecursion Q (changed at f xs)
all_but P Q f [] at weaker new all = tt
all_but P Q f (x ∷ xs) zero weaker new all = (new x refl, each_weaker P Q weaker xs all.1)
all_but P Q f (x ∷ xs) (suc at) weaker new all = (weaker x all.0, all_but P Q f xs at weaker new all.1)

pub item_of : {X : Type 0} (P : X → Type 0) (xs : List X) (i : ℕ) (x : X) → slice_get xs i ≡ Some x → AllByRecursion P xs → P x
item_of P [] i x is all = absurd (none-some x is)
item_of P (y ∷ xs) zero x is all = subst P (same_Some y x is) all.0
item_of P (y ∷ xs) (suc i) x is all = item_of P xs i x is all.1

-- where the line of a name is empty, nothing waits for those that use it
module _ (shared : Shared) (sub : Subscription) where
  idle_under : (name : Name) (o : Option Name) → is_none (line_at name_cmp name shared.names) ≡ true → elim o as (λ p. Bool) [ None ↦ false | Some other ↦ bytes_eq name.0 other.0 && bytes_eq name.1 other.1 ] ≡ true → is_none (line_from shared sub o) ≡ true
  idle_under name None none under = absurd cc
  idle_under name (Some other) none under =
      let both = and_parts (bytes_eq name.0 other.0) (bytes_eq name.1 other.1) under in
      let same : name ≡ other = ap (λ (x : List ℕ). (x, name.1)) ((bytes_eq-Decides name.0 other.0).0 both.0) ∙ ap (λ (y : List ℕ). (other.0, y)) ((bytes_eq-Decides name.1 other.1).0 both.1) in
      ap (λ (n : Name). is_none (line_at name_cmp n shared.names)) (sym same) ∙ none

  pub idle_name : (name : Name) → is_none (line_at name_cmp name shared.names) ≡ true → uses name sub ≡ true → is_none (line_for shared sub) ≡ true
  idle_name name none under = idle_under name sub.durable none under

-- The operations: who can be served after them is due.
module _ (d : List Due) (s : State) (due : AreDue d s) where
  -- Lines change of those alone that are due.
  module _ (t : State) (e : List Due) (more : Grows d e) (number : t.next_delivery ≡ s.next_delivery) (same : (x : Subscription) → is_due e x ≡ false → line_for t.shared x ≡ line_for s.shared x) where
    abbrev WasDue : Subscription → Type 0
    WasDue x = can_take s x ≡ true → is_due d x ≡ true

    abbrev IsDueNow : Subscription → Type 0
    IsDueNow x = can_take t x ≡ true → is_due e x ≡ true

    still : (x : Subscription) → WasDue x → IsDueNow x
    still x was can = moved s t d e number more x (same x) was can

    -- a subscription is changed, or begins, that is due then
    pub due_changed : (at : ℕ) (f : Subscription → Subscription) → t.subscriptions ≡ changed at f s.subscriptions → ((x : Subscription) → slice_get s.subscriptions at ≡ Some x → is_due e (f x) ≡ true) → AreDue e t
    due_changed at f subs new =
        subst (AllByRecursion IsDueNow) (sym subs) (all_but WasDue IsDueNow f s.subscriptions at still (λ x is can. new x is) due)

    pub due_begun : (sub : Subscription) → t.subscriptions ≡ s.subscriptions ++ sub ∷ [] → is_due e sub ≡ true → AreDue e t
    due_begun sub subs new =
        subst (AllByRecursion IsDueNow) (sym subs) (all_with IsDueNow s.subscriptions sub (each_weaker WasDue IsDueNow still s.subscriptions due) (λ can. new))

    -- all stay, or one leaves
    pub due_lines : t.subscriptions ≡ s.subscriptions → AreDue e t
    due_lines subs =
        subst (AllByRecursion IsDueNow) (sym subs) (each_weaker WasDue IsDueNow still s.subscriptions due)

    pub due_left : (at : ℕ) → t.subscriptions ≡ remove s.subscriptions at → AreDue e t
    due_left at subs =
        subst (AllByRecursion IsDueNow) (sym subs) (each_weaker WasDue IsDueNow still (remove s.subscriptions at) (all_without WasDue s.subscriptions at due))

  -- a durable name's line is empty then
  pub due_forgot : (t : State) (name : Name) → t.next_delivery ≡ s.next_delivery → t.shared ≡ record s.shared { names = remove_entry (is_at (name_cmp name)) s.shared.names } → line_at name_cmp name t.shared.names ≡ [] → t.subscriptions ≡ s.subscriptions → AreDue d t
  due_forgot t name number gone empty subs =
      subst (AllByRecursion (λ x. can_take t x ≡ true → is_due d x ≡ true)) (sym subs) (each_weaker (λ x. can_take s x ≡ true → is_due d x ≡ true) (λ x. can_take t x ≡ true → is_due d x ≡ true) (λ x was can. by x was can (uses name x) refl) s.subscriptions due)
    where
      by : (x : Subscription) → (can_take s x ≡ true → is_due d x ≡ true) → can_take t x ≡ true → (b : Bool) → uses name x ≡ b → is_due d x ≡ true
      by x was can true is = absurd (clash (is_none (line_for t.shared x)) (idle_name t.shared x name (ap is_none empty) is) (can_parts t x can).line)
      by x was can false is =
          moved s t d d number (λ sub old. old) x (λ other. ap (λ (h : Shared). line_for h x) gone ∙ name_elsewhere s.shared x name [] is) was can

-- a message has gone to its queue, or to the names and subscriptions of its topic
module _ (m : Message) where
  either_false : (a b : Bool) → (a || b) ≡ false → (a ≡ false) × (b ≡ false)
  either_false true b is = absurd cc
  either_false false b is = (refl, is)

  abbrev is_bound : Subscription → Name × List ℕ → Bool
  is_bound x durable = bytes_eq durable.1 m.sending.destination && uses durable.0 x

  pub names_elsewhere : (durables : List (Name × List ℕ)) (shared : Shared) (x : Subscription) → list_any (is_bound x) durables ≡ false → line_for (record shared { names = copied_to_names m durables shared.names }) x ≡ line_for shared x
  names_elsewhere [] shared x other = refl
  names_elsewhere (d ∷ ds) shared x other =
      by (λ lines behind. names_elsewhere ds lines x behind) (bytes_eq d.1 m.sending.destination) refl
    where
      by : ((lines : Shared) → list_any (is_bound x) ds ≡ false → line_for (record lines { names = copied_to_names m ds lines.names }) x ≡ line_for lines x) → (b : Bool) → bytes_eq d.1 m.sending.destination ≡ b → line_for (record shared { names = copied_to_names m (d ∷ ds) shared.names }) x ≡ line_for shared x
      by rest true is =
          let both = either_false (uses d.0 x) (list_any (is_bound x) ds) (ap (λ b. (b && uses d.0 x) || list_any (is_bound x) ds) (sym is) ∙ other) in
          ap (λ b. line_for (record shared { names = copied_to_names m ds (cond b (with_message name_cmp d.0 m shared.names) shared.names) }) x) is
          ∙ rest (record shared { names = with_message name_cmp d.0 m shared.names }) both.1
          ∙ name_elsewhere shared x d.0 _ both.0
      by rest false is =
          let behind = ap (λ b. (b && uses d.0 x) || list_any (is_bound x) ds) (sym is) ∙ other in
          ap (λ b. line_for (record shared { names = copied_to_names m ds (cond b (with_message name_cmp d.0 m shared.names) shared.names) }) x) is
          ∙ rest shared behind

  module _ (d : List Due) (s : State) (due : AreDue d s) (e : List Due) (more : Grows d e) (plain : (x : Subscription) → is_plain_at m.sending.destination x ≡ true → is_due e x ≡ true) (names : (x : Subscription) → list_any (is_bound x) s.durables ≡ true → is_due e x ≡ true) where
    abbrev Was : Subscription → Type 0
    Was x = can_take s x ≡ true → is_due d x ≡ true

    abbrev to_topic : State
    to_topic = record s { shared = record s.shared { names = copied_to_names m s.durables s.shared.names }; subscriptions = map (copied m) s.subscriptions }

    abbrev Is : Subscription → Type 0
    Is x = can_take to_topic x ≡ true → is_due e x ≡ true

    one_copied : is_queue m.sending.destination ≡ false → (x : Subscription) → Was x → Is (copied m x)
    one_copied topic x was = by (is_own x && bytes_eq x.destination m.sending.destination) refl
      where
        by : (b : Bool) → (is_own x && bytes_eq x.destination m.sending.destination) ≡ b → Is (copied m x)
        by true is = λ can. subst (λ (y : Subscription). is_due e y ≡ true) (copied_own m x is) (alike (record x { line = inserted m x.line }) x (same_keys (record x { line = inserted m x.line }) x refl refl refl) e ∙ plain x (plain_listens m.sending.destination topic x ∙ is))
        by false is =
            subst Is (copied_other m x is) (moved s to_topic d e refl more x (λ other. names_elsewhere s.durables s.shared x (unless (list_any (is_bound x) s.durables) (is_due e x) (names x) other)) was)

    all_copied : is_queue m.sending.destination ≡ false → (xs : List Subscription) → AllByRecursion Was xs → AllByRecursion Is (map (copied m) xs)
    all_copied topic [] all = tt
    all_copied topic (x ∷ xs) all = (one_copied topic x all.0, all_copied topic xs all.1)

    pub due_sent : AreDue e (fanned_out s m)
    due_sent = by (is_queue m.sending.destination) refl
      where
        by : (b : Bool) → is_queue m.sending.destination ≡ b → AreDue e (fanned_out s m)
        by true is =
            subst (AreDue e) (sym (ap (fanned_out_by s m) is)) (due_lines d s due (fanned_out_by s m true) e more refl (λ x other. queue_elsewhere s.shared x m.sending.destination _ (unless (is_plain_at m.sending.destination x) (is_due e x) (plain x) other)) refl)
        by false is = subst (AreDue e) (sym (ap (fanned_out_by s m) is)) (all_copied is s.subscriptions due)

-- refused messages have come into the queue of those
pub refused_elsewhere : (ms : List Message) (shared : Shared) (x : Subscription) → is_plain_at dead_queue x ≡ false → line_for (record shared { queues = with_refused ms shared.queues }) x ≡ line_for shared x
refused_elsewhere [] shared x other = refl
refused_elsewhere (m ∷ ms) shared x other =
    refused_elsewhere ms (record shared { queues = with_message text_cmp dead_queue m shared.queues }) x other ∙ queue_elsewhere shared x dead_queue _ other

-- where none can be served, none needs to be due
pub none_due : (s : State) (xs : List Subscription) → AllByRecursion (λ x. can_take s x ≡ false) xs → AllByRecursion (λ x. can_take s x ≡ true → is_due [] x ≡ true) xs
none_due s [] none = tt
none_due s (x ∷ xs) none = (λ can. absurd (clash (can_take s x) can none.0), none_due s xs none.1)

-- where nothing is handed out, none can be served
module _ (s : State) where
  picked_passes : (p : Subscription → Bool) (xs : List Subscription) (q : Subscription × List Subscription) → picked p xs ≡ Some q → p q.0 ≡ true
  picked_passes p [] q is = absurd cc
  picked_passes p (x ∷ xs) q is = by (p x) refl is (picked p xs) refl (λ r there. picked_passes p xs r there)
    where
      by : (b : Bool) → p x ≡ b → (if b then Some (x, xs) else option_map {U = Subscription × List Subscription} (λ (r : Subscription × List Subscription). (r.0, x ∷ r.1)) (picked p xs)) ≡ Some q → (o : Option (Subscription × List Subscription)) → picked p xs ≡ o → ((r : Subscription × List Subscription) → picked p xs ≡ Some r → p r.0 ≡ true) → p q.0 ≡ true
      by true passes is o there rest =
          subst (λ (y : Subscription). p y ≡ true) (ap (λ (r : Subscription × List Subscription). r.0) (same_Some (x, xs) q is)) passes
      by false fails is None there rest =
          absurd (none-some q (ap (option_map {U = Subscription × List Subscription} (λ (r : Subscription × List Subscription). (r.0, x ∷ r.1))) (sym there) ∙ is))
      by false fails is (Some r) there rest =
          subst (λ (y : Subscription). p y ≡ true) (ap (λ (t : Subscription × List Subscription). t.0) (same_Some (r.0, x ∷ r.1) q (ap (option_map {U = Subscription × List Subscription} (λ (t : Subscription × List Subscription). (t.0, x ∷ t.1))) (sym there) ∙ is))) (rest r there)

  none_picked : (p : Subscription → Bool) (xs : List Subscription) → picked p xs ≡ None → AllByRecursion (λ x. p x ≡ false) xs
  none_picked p [] none = tt
  none_picked p (x ∷ xs) none = by (p x) refl none (λ rest. none_picked p xs rest)
    where
      behind : (o : Option (Subscription × List Subscription)) → option_map {U = Subscription × List Subscription} (λ (r : Subscription × List Subscription). (r.0, x ∷ r.1)) o ≡ None → o ≡ None
      behind None is = refl
      behind (Some r) is = absurd cc

      by : (b : Bool) → p x ≡ b → (if b then Some (x, xs) else option_map {U = Subscription × List Subscription} (λ (r : Subscription × List Subscription). (r.0, x ∷ r.1)) (picked p xs)) ≡ None → (picked p xs ≡ None → AllByRecursion (λ y. p y ≡ false) xs) → AllByRecursion (λ y. p y ≡ false) (x ∷ xs)
      by true is none rest = absurd cc
      by false is none rest = (is, rest (behind (picked p xs) none))

  hands : (sub : Subscription) (others : List Subscription) (line : List Message) → is_none line ≡ false → handed_from s sub others line ≡ None → ⊥
  hands sub others [] some none = absurd cc
  hands sub others (m ∷ rest) some none = absurd cc

  pub none_ready : hand_out s ≡ None → AllByRecursion (λ sub. can_take s sub ≡ false) s.subscriptions
  none_ready none = by (picked (can_take s) s.subscriptions) refl
    where
      by : (o : Option (Subscription × List Subscription)) → picked (can_take s) s.subscriptions ≡ o → AllByRecursion (λ sub. can_take s sub ≡ false) s.subscriptions
      by None is = none_picked (can_take s) s.subscriptions is
      by (Some q) is =
          let waits = (can_parts s q.0 (picked_passes (can_take s) s.subscriptions q is)).line in
          absurd (hands q.0 q.1 (line_for s.shared q.0) waits (sym (ap (handed_to s) is) ∙ none))

-- a subscription is one of its own session
pub of_itself : (sub : Subscription) → is_of sub.session sub ≡ true
of_itself sub = grind (arith, nat_tests)
