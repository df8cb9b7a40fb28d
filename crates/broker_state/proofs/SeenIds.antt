use Rattle.std.proofs.Common.{◌≡◌, ◌+◌, ◌&&◌, ◌==◌, ◌∙◌, Bool, Bor, List, Some, ℕ, true, false, ap, arith, cond, count_by, eq-eqb, refl, slice_get, sym, take}
use Rattle.std.proofs.lemmas.Bool.Decides.{nat_tests}
use Rattle.std.proofs.lemmas.Cmp.{nat_eq_equiv, nat_list_eq_equiv}
use Rattle.std.proofs.lemmas.Map.Lookups.{exact_bytes, exact_pairs, exact_unsigned}
use Rattle.std.proofs.lemmas.Map.Text.{is_eq-slice_cmp}
use Rattle.std.specs.Ordering.{is_eq, nat_cmp, ordering_then}
use Rattle.std.specs.Str.{bytes_eq}
use Rattle.std.specs.declared.cmp.Ordering.{Ordering}
use Rattle.std.specs.declared.cmp.Ordering.TheVariants.{Less, Equal, Greater}
use Rattle.broker_state.specs.Names.{text_cmp}
use Rattle.broker_state.specs.Operations.{is_named}
use Rattle.broker_state.specs.declared.subscription.Subscription.{Subscription}
use Rattle.broker_state.proofs.SeenCounts.{noted_more}
use Rattle.broker_state.proofs.Keys.{eq_parts}

-- a session and an id, behind a reference: how such keys compare
abbrev pub Key : Type 0
Key = ℕ × Bor (List ℕ)

abbrev pub key_cmp : Key → Key → Ordering
key_cmp x y = ordering_then (nat_cmp x.0 y.0) (text_cmp x.1.now y.1.now)

abbrev pub key_of : ℕ → List ℕ → Key
key_of session id = (session, record { ref_ptr = (0, 0); now = id })

is_eq-nat_cmp : (a b : ℕ) → is_eq (nat_cmp a b) ≡ (a == b)
is_eq-nat_cmp a b = grind (arith, nat_tests)

-- a subscription is the one of a session and id where its own compare as equal
pub named_by : (session : ℕ) (id : List ℕ) (sub : Subscription) → is_named session id sub ≡ is_eq (ordering_then (nat_cmp sub.session session) (text_cmp sub.id id))
named_by session id sub =
    ap (λ b. b && bytes_eq id sub.id) (nat_eq_equiv.symm session sub.session) ∙ ap (λ b. (sub.session == session) && b) (nat_list_eq_equiv.symm id sub.id) ∙ sym (eq_parts (nat_cmp sub.session session) (text_cmp sub.id id) ∙ ap (λ x. x && is_eq (text_cmp sub.id id)) (is_eq-nat_cmp sub.session session) ∙ ap (λ y. (sub.session == session) && y) (is_eq-slice_cmp sub.id id))

equal : (o : Ordering) → is_eq o ≡ true → o ≡ Equal
equal Less is = absurd cc
equal Equal is = refl
equal Greater is = absurd cc

-- Sessions and ids of the subscriptions before a place were noted, and no two of these have both the same. Where those of the
-- next one are new, and they are noted too, this holds up to the next place.
pub named_more : (subs : List Subscription) (at : ℕ) (sub : Subscription) → slice_get subs at ≡ Some sub → (old new : Key → Bool) → old (key_of sub.session sub.id) ≡ false → ((q : Key) → new q ≡ cond (is_eq (key_cmp (key_of sub.session sub.id) q)) true (old q)) → ((session : ℕ) (id : List ℕ) → count_by (is_named session id) (take at subs) ≡ cond (old (key_of session id)) 1 0) → (session : ℕ) (id : List ℕ) → count_by (is_named session id) (take (at + 1) subs) ≡ cond (new (key_of session id)) 1 0
named_more subs at sub is old new fresh more noted session id =
    noted_more (λ (q : ℕ × List ℕ) (y : Subscription). is_named q.0 q.1 y) (sub.session, sub.id) (λ q. is_eq (key_cmp (key_of sub.session sub.id) (key_of q.0 q.1))) subs at sub is (λ q. old (key_of q.0 q.1)) (λ q. new (key_of q.0 q.1)) (λ q. named_by q.0 q.1 sub) (λ q same. ap (λ (k : ℕ × List ℕ). count_by (is_named k.0 k.1) (take at subs)) (sym (exact_pairs nat_cmp text_cmp exact_unsigned exact_bytes (sub.session, sub.id) q (equal _ same)))) fresh (λ q. more (key_of q.0 q.1)) (λ q. noted q.0 q.1) (session, id)

-- each subscription is the one of its session and id
pub named_itself : (sub : Subscription) → is_named sub.session sub.id sub ≡ true
named_itself sub =
    ap (λ b. b && bytes_eq sub.id sub.id) (eq-eqb sub.session sub.session refl) ∙ nat_list_eq_equiv.refl sub.id
