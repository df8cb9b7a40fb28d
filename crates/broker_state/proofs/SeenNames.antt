use Rattle.std.proofs.Common.{◌≡◌, ◌+◌, ◌&&◌, ◌∙◌, Bool, Bor, List, None, Option, Some, ℕ, true, false, ap, cond, count_by, slice_get, sym, take}
use Rattle.std.proofs.lemmas.Cmp.{nat_list_eq_equiv}
use Rattle.std.specs.Ordering.{is_eq}
use Rattle.std.specs.Str.{bytes_eq}
use Rattle.std.specs.declared.cmp.Ordering.{Ordering}
use Rattle.broker_state.specs.Names.{Name, name_cmp}
use Rattle.broker_state.specs.Operations.{uses}
use Rattle.broker_state.specs.declared.subscription.Subscription.{Subscription}
use Rattle.broker_state.proofs.Keys.{is_eq-name_cmp, name_itself, same_names}
use Rattle.broker_state.proofs.Lookups.{is_equal}
use Rattle.broker_state.proofs.Places.{count_same}
use Rattle.broker_state.proofs.SeenCounts.{noted_more}

-- a durable name behind a reference: how such keys compare
abbrev pub Key : Type 0
Key = Bor Name

abbrev pub key_cmp : Key → Key → Ordering
key_cmp x y = name_cmp x.now y.now

abbrev pub key_of : Name → Key
key_of name = record { ref_ptr = (0, 0); now = name }

abbrev is_that : Name → Option Name → Bool
is_that name o = elim o as (λ x. Bool) [ None ↦ false | Some other ↦ bytes_eq name.0 other.0 && bytes_eq name.1 other.1 ]

-- a subscription has the names that compare as equal with its own
pub used_by : (q name : Name) (sub : Subscription) → sub.durable ≡ Some name → uses q sub ≡ is_eq (name_cmp name q)
used_by q name sub is =
    ap (is_that q) is ∙ ap (λ b. b && bytes_eq q.1 name.1) (nat_list_eq_equiv.symm q.0 name.0) ∙ ap (λ b. bytes_eq name.0 q.0 && b) (nat_list_eq_equiv.symm q.1 name.1) ∙ sym (is_eq-name_cmp name q)

-- its own too
pub uses_own : (name : Name) (sub : Subscription) → sub.durable ≡ Some name → uses name sub ≡ true
uses_own name sub is = used_by name name sub is ∙ name_itself name

-- one without a name has none
pub unnamed : (q : Name) (sub : Subscription) → sub.durable ≡ None → uses q sub ≡ false
unnamed q sub none = ap (is_that q) none

module _ (subs : List Subscription) (at : ℕ) (sub : Subscription) (is : slice_get subs at ≡ Some sub) where
  -- where the durable names of the subscriptions so far were noted, each of one alone, and the next one's is new and noted
  -- too, this holds with the next one
  pub used_more : (name : Name) → sub.durable ≡ Some name → (old new : Key → Bool) → old (key_of name) ≡ false → ((q : Key) → new q ≡ cond (is_eq (key_cmp (key_of name) q)) true (old q)) → ((q : Name) → count_by (uses q) (take at subs) ≡ cond (old (key_of q)) 1 0) → (q : Name) → count_by (uses q) (take (at + 1) subs) ≡ cond (new (key_of q)) 1 0
  used_more name has old new fresh more noted =
      noted_more uses name (λ q. is_eq (name_cmp name q)) subs at sub is (λ q. old (key_of q)) (λ q. new (key_of q)) (λ q. used_by q name sub has) (λ q same. ap (λ k. count_by (uses k) (take at subs)) (sym (same_names name q (is_equal _ same)))) fresh (λ q. more (key_of q)) noted

  -- one without a name adds none
  pub used_same : sub.durable ≡ None → (q : Name) → count_by (uses q) (take (at + 1) subs) ≡ count_by (uses q) (take at subs)
  used_same none q = count_same (uses q) subs at sub is (unnamed q sub none)
