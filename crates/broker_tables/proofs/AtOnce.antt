-- A message of a topic without durable names, where all who listen to it are in `auto` and nothing waits: each of them gets
-- it in waiting order, and waits last then.
use Rattle.std.proofs.Common.{◌≡◌, ◌<◌, ◌≤◌, ◌+◌, ◌^◌, ◌++◌, ◌&&◌, ◌||◌, ◌∙◌, List, [], ◌∷◌, ℕ, suc, zero, Bool, true, false, Option, Some, None, cond, count_by, is_some, length, map, nat_lt, not, refl, sym, ap, arith, remove, slice_get, if◌then◌else◌}
use Rattle.std.specs.List.{AllByRecursion, sum_by}
use Rattle.std.specs.Option.{option_map}
use Rattle.std.specs.Str.{bytes_eq}
use Rattle.std.proofs.lemmas.Bool.{lt-ltb}
use Rattle.std.proofs.lemmas.List.Sums.{sum_by-cons, sum_by_push}
use Rattle.std.proofs.lemmas.List.{append_assoc}
use Rattle.command_core.specs.Destinations.{is_queue}
use Rattle.command_core.specs.Outs.{OutValue}
use Rattle.line_core.proofs.Inserted.{sum_by-inserted}
use Rattle.line_core.specs.declared.message.Message.{Message}
use Rattle.line_core.specs.Lines.{inserted}
use Rattle.broker_state.specs.declared.subscription.Subscription.{Subscription}
use Rattle.broker_state.specs.HandOut.{Handed, Settling, behind, can_take, delivered, hand_out, handed_from, handed_to, has_room, is_auto, message_out, settled, waiting}
use Rattle.broker_state.specs.Lists.{is_none, picked}
use Rattle.broker_state.specs.Names.{Name, name_cmp, text_cmp}
use Rattle.broker_state.specs.Operations.{copied, copied_to_names, fanned_out}
use Rattle.broker_state.specs.Parts.{IsFirst, NonePass}
use Rattle.broker_state.specs.Settles.{SettlesSo}
use Rattle.broker_state.specs.States.{State, one}
use Rattle.broker_state.specs.Waiting.{Lines, Shared, is_own, left_from, left_line, left_shared, line_at, line_for, line_from, with_line, with_message}
use Rattle.broker_state.proofs.Firsts.{same_some}
use Rattle.broker_state.proofs.Serving.{settled_some}
use Rattle.broker_state.proofs.Weights.{all_at, all_removed, sum_by-removed}

pub all_push : {X : Type 0} (P : X → Type 0) (xs : List X) (x : X) → AllByRecursion P xs → P x → AllByRecursion P (xs ++ x ∷ [])
all_push P [] x all new = (new, tt)
all_push P (y ∷ ys) x all new = (all.0, all_push P ys x all.1 new)

module _ (m : Message) where
  -- whether a subscription gets the message into a line of its own
  abbrev pub gets : Subscription → Bool
  gets sub = is_own sub && bytes_eq sub.destination m.sending.destination

  -- it has the message there
  abbrev pub with_it : Subscription → Subscription
  with_it sub = record sub { line = inserted m sub.line }

  -- Of those who get the message the first have it, so many.
  abbrev pub given : ℕ → List Subscription → List Subscription
  given zero subs = subs
  given (suc left) [] = []
  given (suc left) (sub ∷ subs) = if gets sub then with_it sub ∷ given left subs else sub ∷ given (suc left) subs

  abbrev how_many : Subscription → ℕ
  how_many sub = cond (gets sub) 1 0

  -- with as many as there are, all have it
  given_all : (left : ℕ) (subs : List Subscription) → left ≡ count_by gets subs → given left subs ≡ map (copied m) subs
  given_all zero [] is = refl
  given_all (suc left) [] is = refl
  given_all left (sub ∷ subs) is = by (gets sub) refl left is (λ n same. given_all n subs same)
    where
      by : (b : Bool) → gets sub ≡ b → (n : ℕ) → n ≡ count_by gets (sub ∷ subs) → ((k : ℕ) → k ≡ count_by gets subs → given k subs ≡ map (copied m) subs) → given n (sub ∷ subs) ≡ map (copied m) (sub ∷ subs)
      by true get zero same rest = absurd (omega (arith, same, sum_by-cons how_many sub subs, ap {B = ℕ} (λ b. cond b 1 0) get))
      by true get (suc n) same rest =
          ap (λ b. if b then with_it sub ∷ given n subs else sub ∷ given (suc n) subs) get
          ∙ ap (λ l. with_it sub ∷ l) (rest n (omega (arith, same, sum_by-cons how_many sub subs, ap {B = ℕ} (λ b. cond b 1 0) get)))
          ∙ ap (λ x. x ∷ map (copied m) subs) (sym (ap (λ b. if b then with_it sub else sub) get))
      by false other zero same rest =
          ap (λ l. sub ∷ l) (rest zero (omega (arith, same, sum_by-cons how_many sub subs, ap {B = ℕ} (λ b. cond b 1 0) other)))
          ∙ ap (λ x. x ∷ map (copied m) subs) (sym (ap (λ b. if b then with_it sub else sub) other))
      by false other (suc n) same rest =
          ap (λ b. if b then with_it sub ∷ given n subs else sub ∷ given (suc n) subs) other
          ∙ ap (λ l. sub ∷ l) (rest (suc n) (omega (arith, same, sum_by-cons how_many sub subs, ap {B = ℕ} (λ b. cond b 1 0) other)))
          ∙ ap (λ x. x ∷ map (copied m) subs) (sym (ap (λ b. if b then with_it sub else sub) other))

  -- with no more than there are, those behind have none
  given_more : (left : ℕ) (subs more : List Subscription) → left ≤ count_by gets subs → given left (subs ++ more) ≡ given left subs ++ more
  given_more zero subs more few = refl
  given_more (suc left) [] more few = absurd (omega (arith, few))
  given_more (suc left) (sub ∷ subs) more few = by (gets sub) refl (λ n less. given_more n subs more less)
    where
      by : (b : Bool) → gets sub ≡ b → ((n : ℕ) → n ≤ count_by gets subs → given n (subs ++ more) ≡ given n subs ++ more)
          → (if b then with_it sub ∷ given left (subs ++ more) else sub ∷ given (suc left) (subs ++ more)) ≡ (if b then with_it sub ∷ given left subs else sub ∷ given (suc left) subs) ++ more
      by true get rest = ap (λ l. with_it sub ∷ l) (rest left (omega (arith, few, sum_by-cons how_many sub subs, ap {B = ℕ} (λ b. cond b 1 0) get)))
      by false other rest = ap (λ l. sub ∷ l) (rest (suc left) (omega (arith, few, sum_by-cons how_many sub subs, ap {B = ℕ} (λ b. cond b 1 0) other)))

  given_other : (left : ℕ) (sub : Subscription) (subs : List Subscription) → gets sub ≡ false → given left (sub ∷ subs) ≡ sub ∷ given left subs
  given_other zero sub subs other = refl
  given_other (suc left) sub subs other = ap (λ b. if b then with_it sub ∷ given left subs else sub ∷ given (suc left) subs) other

  abbrev weight_in_line : Subscription → ℕ
  weight_in_line sub = sum_by one sub.line

  -- so many messages more wait
  sum_given : (left : ℕ) (subs : List Subscription) → left ≤ count_by gets subs → sum_by weight_in_line (given left subs) ≡ sum_by weight_in_line subs + left
  sum_given zero subs few = omega arith
  sum_given (suc left) [] few = absurd (omega (arith, few))
  sum_given (suc left) (sub ∷ subs) few = by (gets sub) refl (λ n less. sum_given n subs less)
    where
      by : (b : Bool) → gets sub ≡ b → ((n : ℕ) → n ≤ count_by gets subs → sum_by weight_in_line (given n subs) ≡ sum_by weight_in_line subs + n)
          → sum_by weight_in_line (if b then with_it sub ∷ given left subs else sub ∷ given (suc left) subs) ≡ sum_by weight_in_line (sub ∷ subs) + suc left
      by true get rest = omega (
        arith,
        rest left (omega (arith, few, sum_by-cons how_many sub subs, ap {B = ℕ} (λ b. cond b 1 0) get)),
        sum_by-cons weight_in_line (with_it sub) (given left subs),
        sum_by-cons weight_in_line sub subs,
        sum_by-inserted m one sub.line,
      )
      by false other rest = omega (
        arith,
        rest (suc left) (omega (arith, few, sum_by-cons how_many sub subs, ap {B = ℕ} (λ b. cond b 1 0) other)),
        sum_by-cons weight_in_line sub (given (suc left) subs),
        sum_by-cons weight_in_line sub subs,
      )

  -- The first who gets it is the first who is ready, where those who get it are ready with it and the others aren't.
  picked_given : (ready : Subscription → Bool) (left : ℕ) (subs : List Subscription) (at : ℕ) (x : Subscription)
      → ((y : Subscription) → gets y ≡ true → slice_get subs at ≡ Some y → ready (with_it y) ≡ true) → AllByRecursion (λ y. gets y ≡ false → ready y ≡ false) subs
      → IsFirst gets subs at → slice_get subs at ≡ Some x → picked ready (given (suc left) subs) ≡ Some (with_it x, given left (remove subs at))
  picked_given ready left [] at x with_one others first is = absurd (omega (arith, first.within))
  picked_given ready left (y ∷ ys) zero x with_one others first is =
      let get = first.passing y refl in
      ap (λ b. picked ready (if b then with_it y ∷ given left ys else y ∷ given (suc left) ys)) get
      ∙ ap (λ b. if b then Some (with_it y, given left ys) else option_map {U = Subscription × List Subscription} (λ (q : Subscription × List Subscription). (q.0, with_it y ∷ q.1)) (picked ready (given left ys))) (with_one y get refl)
      ∙ ap (λ z. Some (with_it z, given left ys)) (same_some y x is)
  picked_given ready left (y ∷ ys) (suc at) x with_one others first is =
      let other = first.before.0 in
      ap (picked ready) (given_other (suc left) y ys other)
      ∙ ap (λ b. if b then Some (y, given (suc left) ys) else option_map {U = Subscription × List Subscription} (λ (q : Subscription × List Subscription). (q.0, y ∷ q.1)) (picked ready (given (suc left) ys))) (others.0 other)
      ∙ ap (option_map (λ (q : Subscription × List Subscription). (q.0, y ∷ q.1))) (picked_given ready left ys at x with_one others.1 (record { within = omega (arith, first.within); passing = first.passing; before = first.before.1 }) is)
      ∙ ap (λ l. Some (with_it x, l)) (sym (given_other left y (remove ys at) other))

-- Whoever gets the message is in `auto`, and nothing waits for them; nor can anybody else be served.
pub record IsSwift (shared : Shared) (m : Message) (sub : Subscription) : Type 0 where
  pub auto : gets m sub ≡ true → is_auto sub.mode ≡ true
  pub line : gets m sub ≡ true → sub.line ≡ []
  pub idle : gets m sub ≡ false → (has_room sub && not (is_none (line_for shared sub))) ≡ false

-- so many of those who get it have it, and that is the next delivery
abbrev pub sent_to : State → Message → ℕ → ℕ → List Subscription → State
sent_to s m delivery left subs = record s { next_delivery = delivery; subscriptions = given m left subs }

own_parts : (a b : Bool) → not (a || b) ≡ true → (a ≡ false) × (b ≡ false)
own_parts true b own = absurd cc
own_parts false true own = absurd cc
own_parts false false own = (refl, refl)

no_name : (o : Option Name) → is_some o ≡ false → o ≡ None
no_name None none = refl
no_name (Some name) none = absurd cc

both : (a b : Bool) → (a && b) ≡ true → (a ≡ true) × (b ≡ true)
both true true all = (refl, refl)
both true false all = absurd cc
both false b all = absurd cc

all_three : (a b c : Bool) → a ≡ true → b ≡ true → c ≡ false → (a && b && not c) ≡ true
all_three a b c x y z = rw (x, y, z) refl

never : (a b c : Bool) → (b && c) ≡ false → (a && b && c) ≡ false
never true b c none = none
never false b c none = refl

-- whoever gets the message has no durable name and no queue
module _ (s : State) (m : Message) (x : Subscription) (get : gets m x ≡ true) where
  own : is_own x ≡ true
  own = (both (is_own x) _ get).0

  nameless : x.durable ≡ None
  nameless = no_name x.durable (own_parts (is_some x.durable) (is_queue x.destination) own).0

  of_topic : is_queue x.destination ≡ false
  of_topic = (own_parts (is_some x.durable) (is_queue x.destination) own).1

  own_line : (line : List Message) → line_for s.shared (record x { line = line }) ≡ line
  own_line line =
      ap (λ o. line_from s.shared (record x { line = line }) o) nameless
      ∙ ap (λ b. if b then line_at text_cmp x.destination s.shared.queues else line) of_topic

  own_shared : (line rest : List Message) → left_shared s.shared (record x { line = line }) rest ≡ s.shared
  own_shared line rest =
      ap (λ o. left_from s.shared (record x { line = line }) rest o) nameless
      ∙ ap (λ b. if b then record s.shared { queues = with_line text_cmp x.destination rest s.shared.queues } else s.shared) of_topic

  module _ (swift : IsSwift s.shared m x) where
    left_as_it_was : (delivery : ℕ) → delivered (left_line (with_it m x) []) delivery m ≡ x
    left_as_it_was delivery =
        ap (λ b. delivered (record x { line = if b then [] else inserted m x.line }) delivery m) own
        ∙ ap (λ b. record x { line = []; unacknowledged = if b then x.unacknowledged else x.unacknowledged ++ (delivery, m) ∷ [] }) (swift.auto get)
        ∙ ap (λ l. record x { line = l }) (sym (swift.line get))

    room : has_room x ≡ true
    room = ap (λ b. if b then true else nat_lt (length x.unacknowledged) 16) (swift.auto get)

    waits : line_for s.shared (with_it m x) ≡ m ∷ []
    waits = own_line (inserted m x.line) ∙ ap (inserted m) (swift.line get)

-- who doesn't get it can't be served, and neither can who has got it
none_ready : (s : State) (m : Message) (n : ℕ) (x : Subscription) → IsSwift s.shared m x → can_take (record s { next_delivery = n }) x ≡ false
none_ready s m n x swift = by (gets m x) refl
  where
    nothing : (a b : Bool) → (a && b && not true) ≡ false
    nothing true true = refl
    nothing true false = refl
    nothing false b = refl

    by : (b : Bool) → gets m x ≡ b → can_take (record s { next_delivery = n }) x ≡ false
    by true get = ap (λ l. nat_lt n (2 ^ 63) && has_room x && not (is_none l)) (own_line s m x get x.line ∙ swift.line get) ∙ nothing (nat_lt n (2 ^ 63)) (has_room x)
    by false other = never (nat_lt n (2 ^ 63)) (has_room x) _ (swift.idle other)

pub all_idle : (s : State) (m : Message) (n : ℕ) (xs : List Subscription) → AllByRecursion (IsSwift s.shared m) xs → NonePass (can_take (record s { next_delivery = n })) xs
all_idle s m n [] all = tt
all_idle s m n (x ∷ xs) all = (none_ready s m n x all.0, all_idle s m n xs all.1)

others_idle : (s : State) (m : Message) (n : ℕ) (xs : List Subscription) → AllByRecursion (IsSwift s.shared m) xs → AllByRecursion (λ y. gets m y ≡ false → can_take (record s { next_delivery = n }) y ≡ false) xs
others_idle s m n [] all = tt
others_idle s m n (x ∷ xs) all = (λ other. none_ready s m n x all.0, others_idle s m n xs all.1)

-- One of them gets the message.
module _ (s : State) (m : Message) (n left : ℕ) (subs : List Subscription) (at : ℕ) (x : Subscription)
    (small : n < 2 ^ 63) (enough : left + 1 ≤ count_by (gets m) subs) (all : AllByRecursion (IsSwift s.shared m) subs) (first : IsFirst (gets m) subs at) (there : slice_get subs at ≡ Some x) where
  get : gets m x ≡ true
  get = first.passing x there

  swift : IsSwift s.shared m x
  swift = all_at (IsSwift s.shared m) subs at x there all

  abbrev pub turned : List Subscription
  turned = remove subs at ++ x ∷ []

  ready_with : (y : Subscription) → gets m y ≡ true → slice_get subs at ≡ Some y → can_take (record s { next_delivery = n }) (with_it m y) ≡ true
  ready_with y gets_it is =
      let it = all_at (IsSwift s.shared m) subs at y is all in
      all_three (nat_lt n (2 ^ 63)) (has_room y) _ (lt-ltb n (2 ^ 63) small) (room s m y gets_it it) (ap is_none (waits s m y gets_it it))

  fewer : left ≤ count_by (gets m) (remove subs at)
  fewer = omega (arith, enough, sum_by-removed (λ y. cond (gets m y) 1 0) subs at x there, ap {B = ℕ} (λ b. cond b 1 0) get)

  pub still_enough : left ≤ count_by (gets m) turned
  still_enough = omega (arith, fewer, sum_by_push (λ y. cond (gets m y) 1 0) (remove subs at) x)

  pub still_swift : AllByRecursion (IsSwift s.shared m) turned
  still_swift = all_push (IsSwift s.shared m) (remove subs at) x (all_removed (IsSwift s.shared m) subs at all) swift

  hands : hand_out (sent_to s m n (suc left) subs) ≡ Some (record { state = sent_to s m (n + 1) left turned; out = message_out s.count x n m })
  hands =
      let v = sent_to s m n (suc left) subs in
      let others = given m left (remove subs at) in
      ap (handed_to v) (picked_given m (can_take (record s { next_delivery = n })) left subs at x ready_with (others_idle s m n subs all) first there)
      ∙ ap (handed_from v (with_it m x) others) (waits s m x get swift)
      ∙ ap (λ (p : Shared). Some (record { state = record s { next_delivery = n + 1; shared = p; subscriptions = others ++ delivered (left_line (with_it m x) []) n m ∷ [] }; out = message_out s.count x n m })) (own_shared s m x get (inserted m x.line) [])
      ∙ ap (λ (y : Subscription). Some (record { state = record s { next_delivery = n + 1; subscriptions = others ++ y ∷ [] }; out = message_out s.count x n m })) (left_as_it_was s m x get swift n)
      ∙ ap (λ (l : List Subscription). Some (record { state = record s { next_delivery = n + 1; subscriptions = l }; out = message_out s.count x n m })) (sym (given_more m left (remove subs at) (x ∷ []) fewer))

  fewer_wait : waiting (sent_to s m (n + 1) left turned) + 1 ≡ waiting (sent_to s m n (suc left) subs)
  fewer_wait =
      let f = λ (y : Subscription). sum_by one y.line in
      omega (arith, sum_given m left turned still_enough, sum_given m (suc left) subs (omega (arith, enough)), sum_by_push f (remove subs at) x, sum_by-removed f subs at x there)

  -- what is left to hand out goes on
  pub turns : (start : State) (outs : List OutValue) → SettlesSo start [] (sent_to s m n (suc left) subs) outs 0 → SettlesSo start [] (sent_to s m (n + 1) left turned) (outs ++ message_out s.count x n m ∷ []) 0
  turns start outs so =
      let v = sent_to s m (n + 1) left turned in
      let h : Handed = record { state = v; out = message_out s.count x n m } in
      let is : settled (sent_to s m n (suc left) subs) ≡ behind h (settled v) = settled_some (sent_to s m n (suc left) subs) h hands fewer_wait in
      record {
        state = so.state ∙ ap (λ (r : Settling). r.state) is;
        all = so.all ∙ ap (λ (r : Settling). outs ++ r.outs) is ∙ sym (append_assoc outs (h.out ∷ []) (settled v).outs);
        passed = tt;
      }

-- where no durable name is of the topic, none gets a copy
no_copies : (m : Message) (durables : List (Name × List ℕ)) (names : Lines Name) → count_by (λ (durable : Name × List ℕ). bytes_eq durable.1 m.sending.destination) durables ≡ 0 → copied_to_names m durables names ≡ names
no_copies m [] names none = refl
no_copies m (durable ∷ durables) names none =
    by (bytes_eq durable.1 m.sending.destination) refl (sum_by-cons (λ (d : Name × List ℕ). cond (bytes_eq d.1 m.sending.destination) 1 0) durable durables) (λ rest. no_copies m durables names rest)
  where
    by : (b : Bool) → bytes_eq durable.1 m.sending.destination ≡ b
        → count_by (λ (d : Name × List ℕ). bytes_eq d.1 m.sending.destination) (durable ∷ durables) ≡ cond (bytes_eq durable.1 m.sending.destination) 1 0 + count_by (λ (d : Name × List ℕ). bytes_eq d.1 m.sending.destination) durables
        → (count_by (λ (d : Name × List ℕ). bytes_eq d.1 m.sending.destination) durables ≡ 0 → copied_to_names m durables names ≡ names)
        → copied_to_names m (durable ∷ durables) names ≡ names
    by true is counted rest = absurd (omega (arith, none, counted, ap {B = ℕ} (λ b. cond b 1 0) is))
    by false is counted rest =
        ap (λ b. copied_to_names m durables (cond b (with_message name_cmp durable.0 m names) names)) is
        ∙ rest (omega (arith, none, counted, ap {B = ℕ} (λ b. cond b 1 0) is))

-- What is fanned out to such a topic is that each who gets the message has it.
pub fanned_out_at_once : (s : State) (m : Message) → is_queue m.sending.destination ≡ false → count_by (λ (durable : Name × List ℕ). bytes_eq durable.1 m.sending.destination) s.durables ≡ 0
    → fanned_out s m ≡ sent_to s m s.next_delivery (count_by (gets m) s.subscriptions) s.subscriptions
fanned_out_at_once s m topic none =
    ap (λ b. if b then record s { shared = record s.shared { queues = with_message text_cmp m.sending.destination m s.shared.queues } }
    else record s { shared = record s.shared { names = copied_to_names m s.durables s.shared.names }; subscriptions = map (copied m) s.subscriptions }) topic
    ∙ ap (λ (l : Lines Name). record s { shared = record s.shared { names = l }; subscriptions = map (copied m) s.subscriptions }) (no_copies m s.durables s.shared.names none)
    ∙ ap (λ (l : List Subscription). record s { subscriptions = l }) (sym (given_all m (count_by (gets m) s.subscriptions) s.subscriptions refl))

pub begins_at_once : (s : State) (m : Message) → is_queue m.sending.destination ≡ false → count_by (λ (durable : Name × List ℕ). bytes_eq durable.1 m.sending.destination) s.durables ≡ 0
    → SettlesSo (fanned_out s m) [] (sent_to s m s.next_delivery (count_by (gets m) s.subscriptions) s.subscriptions) [] 0
begins_at_once s m topic none =
    let is = fanned_out_at_once s m topic none in
    record { state = ap (λ (t : State). (settled t).state) is; all = ap (λ (t : State). (settled t).outs) is; passed = tt }
