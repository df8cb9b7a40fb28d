-- What a session takes of a state, by the ids of its parts.
use Rattle.std.proofs.Common.{◌≡◌, ◌≤◌, ◌+◌, ◌==◌, ◌&&◌, List, [], ◌∷◌, ℕ, Bool, true, false, true≢false, not, Option, Some, cond, count_by, filter, refl, sym, ap, subst, ◌∙◌, arith}
use Rattle.std.specs.BTreeMap.{insert_entry}
use Rattle.std.specs.List.{sum_by}
use Rattle.std.specs.Map.{remove_entry}
use Rattle.std.specs.Ordering.{match_ordering, nat_cmp}
use Rattle.std.specs.Str.{bytes_eq}
use Rattle.std.specs.declared.cmp.Ordering.{Ordering}
use Rattle.std.specs.declared.cmp.Ordering.TheVariants.{Less, Equal, Greater}
use Rattle.std.proofs.lemmas.List.Filters.{sum_by-filter_both}
use Rattle.std.proofs.lemmas.List.Sums.{sum_by-cons}
use Rattle.std.proofs.lemmas.Map.Lookups.{exact_unsigned}
use Rattle.std.proofs.lemmas.Slice.Eq.{bytes_eq-Decides}
use Rattle.clients.specs.declared.footprint.Part.{Part}
use Rattle.clients.specs.Footprints.{has_id, parts_of}
use Rattle.broker_state.specs.declared.subscription.Subscription.{Subscription}
use Rattle.broker_state.specs.Lists.{picked}
use Rattle.broker_state.specs.Operations.{is_named, is_of}
use Rattle.broker_state.specs.Parts.{NonePass}
use Rattle.broker_state.specs.States.{State}
use Rattle.broker_state.proofs.Deliveries.{sum_picked}
use Rattle.broker_state.proofs.Picked.{picked_passes}
use Rattle.engine_core.specs.Sessions.{opening_of, subscribing_of}

-- the ids of the parts that count
abbrev pub Ids : Type 0
Ids = Option (List ℕ) → Bool

-- a part's bytes, if its id is one of those
abbrev pub weigh : Ids → Part → ℕ
weigh ids one = cond (ids one.id) one.bytes 0

-- what parts weigh
abbrev pub weight : Ids → List Part → ℕ
weight ids parts = sum_by (weigh ids) parts

abbrev pub of_session : Ids → ℕ → ℕ × Option (List ℕ) → ℕ
of_session ids n e = cond (n == e.0) (weight ids (parts_of (opening_of e))) 0

abbrev pub of_subscription : Ids → ℕ → Subscription → ℕ
of_subscription ids n sub = cond (is_of n sub) (weight ids (parts_of (subscribing_of sub))) 0

-- what the session n takes
abbrev pub taken : Ids → ℕ → State → ℕ
taken ids n s = sum_by (of_session ids n) s.sessions + sum_by (of_subscription ids n) s.subscriptions

-- those that are not this one
abbrev pub others : Option (List ℕ) → Ids → Ids
others id ids = λ own. cond (has_id own id) false (ids own)

-- ---- sums

module _ {X : Type 0} (f : X → ℕ) where
  pub less_filtered : (p : X → Bool) (xs : List X) → sum_by f (filter p xs) ≤ sum_by f xs
  less_filtered p xs = omega (arith, sum_by-filter_both p (λ x. not (p x)) (λ x. refl) f xs)

module _ {K X : Type 0} (f : K × X → ℕ) where
  pub less_removed : (test : K → Bool) (es : List (K × X)) → sum_by f (remove_entry test es) ≤ sum_by f es
  less_removed test [] = omega arith
  less_removed test (e ∷ es) =
      let rest = less_removed test es in
      elim (test e.0) as (λ b. sum_by f (cond b es (e ∷ remove_entry test es)) ≤ sum_by f (e ∷ es)) [
        | true ↦ omega (arith, sum_by-cons f e es)
        | false ↦ omega (arith, rest, sum_by-cons f e es, sum_by-cons f e (remove_entry test es))
      ]

-- an entry that is inserted adds no more than itself
pub more_inserted : {X : Type 0} (f : ℕ × X → ℕ) (key : ℕ) (value : X) (es : List (ℕ × X)) → sum_by f (insert_entry nat_cmp es key value) ≤ f (key, value) + sum_by f es
more_inserted f key value [] = omega (arith, sum_by-cons f (key, value) [])
more_inserted {X} f key value (e ∷ es) = by (nat_cmp key e.0) refl (more_inserted f key value es)
  where
    by : (o : Ordering) → nat_cmp key e.0 ≡ o → sum_by f (insert_entry nat_cmp es key value) ≤ f (key, value) + sum_by f es → sum_by f (match_ordering o ((key, value) ∷ e ∷ es) ((e.0, value) ∷ es) (e ∷ insert_entry nat_cmp es key value)) ≤ f (key, value) + sum_by f (e ∷ es)
    by Less is rest = omega (arith, sum_by-cons f (key, value) (e ∷ es))
    by Equal is rest =
        omega (arith, ap (λ (k : ℕ). f (k, value)) (exact_unsigned key e.0 is), sum_by-cons f (e.0, value) es, sum_by-cons f e es)
    by Greater is rest = omega (arith, rest, sum_by-cons f e es, sum_by-cons f e (insert_entry nat_cmp es key value))

-- where none counts, none passes
pub none_counted : {X : Type 0} (p : X → Bool) (xs : List X) → count_by p xs ≡ 0 → NonePass p xs
none_counted p [] none = tt
none_counted {X} p (x ∷ xs) none = by (p x) refl (none_counted p xs)
  where
    one : X → ℕ
    one y = cond (p y) 1 0

    by : (b : Bool) → p x ≡ b → (count_by p xs ≡ 0 → NonePass p xs) → NonePass p (x ∷ xs)
    by true is rest = absurd (omega (arith, none, sum_by-cons one x xs, ap {B = ℕ} (λ b. cond b 1 0) is))
    by false is rest = (is, rest (omega (arith, none, sum_by-cons one x xs)))

-- where one passes at most, none passes once that is picked
pub none_left : {X : Type 0} (p : X → Bool) (xs : List X) (x : X) (ys : List X) → picked p xs ≡ Some (x, ys) → count_by p xs ≤ 1 → NonePass p ys
none_left {X} p xs x ys is few =
    none_counted p ys (omega (arith, few, sum_picked p one xs x ys is, ap {B = ℕ} (λ b. cond b 1 0) (picked_passes p xs x ys is)))
  where
    one : X → ℕ
    one y = cond (p y) 1 0

-- ---- parts of other ids

-- parts that are left weigh what the others do
pub weight_left : (id : Option (List ℕ)) (ids : Ids) (parts : List Part) → weight ids (filter (λ one. not (has_id one.id id)) parts) ≡ weight (others id ids) parts
weight_left id ids [] = refl
weight_left id ids (one ∷ parts) = by (has_id one.id id) refl (weight_left id ids parts)
  where
    left : List Part
    left = filter (λ one. not (has_id one.id id)) parts

    by : (b : Bool) → has_id one.id id ≡ b → weight ids left ≡ weight (others id ids) parts → weight ids (cond (not b) (one ∷ left) left) ≡ weight (others id ids) (one ∷ parts)
    by true is rest =
        omega (arith, rest, sum_by-cons (weigh (others id ids)) one parts, ap {B = ℕ} (λ b. cond (cond b false (ids one.id)) one.bytes 0) is)
    by false is rest =
        omega (arith, rest, sum_by-cons (weigh ids) one left, sum_by-cons (weigh (others id ids)) one parts, ap {B = ℕ} (λ b. cond (cond b false (ids one.id)) one.bytes 0) is)

-- the others weigh no more
less_others : (id : Option (List ℕ)) (ids : Ids) (own : Option (List ℕ)) (bytes : ℕ) → cond (others id ids own) bytes 0 ≤ cond (ids own) bytes 0
less_others id ids own bytes =
    elim (has_id own id) as (λ b. cond (cond b false (ids own)) bytes 0 ≤ cond (ids own) bytes 0) [ true ↦ omega arith | false ↦ omega arith ]

same_text : (a b : List ℕ) → bytes_eq a b ≡ false → bytes_eq b a ≡ false
same_text a b other = by (bytes_eq b a) refl
  where
    by : (r : Bool) → bytes_eq b a ≡ r → bytes_eq b a ≡ false
    by true is =
        let same = (bytes_eq-Decides b a).0 is in
        absurd (true≢false (sym (subst (λ (x : List ℕ). bytes_eq x a ≡ true) same is) ∙ subst (λ (x : List ℕ). bytes_eq a x ≡ false) same other))
    by false is = is

-- a subscription that isn't the one of that id weighs the same among the others
same_others : (n : ℕ) (id : List ℕ) (ids : Ids) (sub : Subscription) → is_named n id sub ≡ false → of_subscription ids n sub ≡ of_subscription (others (Some id) ids) n sub
same_others n id ids sub other = by (is_of n sub) (bytes_eq id sub.id) refl other
  where
    by : (a b : Bool) → bytes_eq id sub.id ≡ b → (a && b) ≡ false → cond a (weight ids (parts_of (subscribing_of sub))) 0 ≡ cond a (weight (others (Some id) ids) (parts_of (subscribing_of sub))) 0
    by true true is not = absurd cc
    by true false is not = rw (same_text id sub.id is) refl
    by false b is not = refl

pub all_others : (n : ℕ) (id : List ℕ) (ids : Ids) (subs : List Subscription) → NonePass (is_named n id) subs → sum_by (of_subscription ids n) subs ≡ sum_by (of_subscription (others (Some id) ids) n) subs
all_others n id ids [] none = refl
all_others n id ids (sub ∷ subs) none =
    omega (arith, same_others n id ids sub none.0, all_others n id ids subs none.1, sum_by-cons (of_subscription ids n) sub subs, sum_by-cons (of_subscription (others (Some id) ids) n) sub subs)
