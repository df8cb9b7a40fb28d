-- The box of one session among boxes.
use Rattle.std.proofs.Common.{◌≡◌, ◌==◌, ℕ, [], ◌∷◌, Bool, true, false, Option, Some, None, cond, refl, sym, ◌∙◌, ap, subst}
use Rattle.std.specs.BTreeMap.{is_at}
use Rattle.std.specs.Ordering.{is_eq, nat_cmp}
use Rattle.std.specs.declared.cmp.Ordering.{Ordering}
use Rattle.std.specs.declared.cmp.Ordering.TheVariants.{Less, Equal, Greater}
use Rattle.std.specs.Cmp.{nat_cmp_is}
use Rattle.std.specs.Prelude.{nat_lt}
use Rattle.std.proofs.lemmas.Bool.{eqb-true}
use Rattle.command_core.specs.Outs.{OutValue}
use Rattle.outbox_core.specs.Boxes.{SenderValue}
use Rattle.outbox_core.specs.Giving.{AreGiven, GivesTo, IsGiven, Kept, box_of}
use Rattle.outbox_core.proofs.Gifts.{gives_none}

at_same : (x y : ℕ) → x ≡ y → is_at (nat_cmp x) y ≡ true
at_same x y is = ap (λ (o : Ordering). is_eq o) (sym (nat_cmp_is x y Equal is))

at_other : (x y : ℕ) → (x == y) ≡ false → is_at (nat_cmp x) y ≡ false
at_other x y other = ap (λ (b : Bool). is_eq (cond (nat_lt x y) Less (cond b Equal Greater))) other ∙ either (nat_lt x y)
  where
    either : (b : Bool) → is_eq (cond b Less Greater) ≡ false
    either true = refl
    either false = refl

-- the box of the session of an output is given it, and the others stay
pub box_given : (out : OutValue) (a b : Kept) (s t : SenderValue) → box_of out.session a ≡ Some s → ((q : ℕ) → box_of q b ≡ cond (is_at (nat_cmp out.session) q) (Some t) (box_of q a))
    → IsGiven (out ∷ []) s t → AreGiven (out ∷ []) a b
box_given out a b s t found updates given q = by (out.session == q) refl
  where
    by : (c : Bool) → (out.session == q) ≡ c → GivesTo (cond c (out ∷ []) []) (box_of q a) (box_of q b)
    by true is =
        let same : out.session ≡ q = eqb-true out.session q is in
        let here : box_of q a ≡ Some s = ap (λ (k : ℕ). box_of k a) (sym same) ∙ found in
        let there : box_of q b ≡ Some t = updates q ∙ ap (λ (c : Bool). cond c (Some t) (box_of q a)) (at_same out.session q same) in
        subst (λ (o : Option SenderValue). GivesTo (out ∷ []) o (box_of q b)) (sym here) (t, there, given)
    by false is =
        subst (λ (o : Option SenderValue). GivesTo [] (box_of q a) o)
        (sym (updates q ∙ ap (λ (c : Bool). cond c (Some t) (box_of q a)) (at_other out.session q is))) (gives_none (box_of q a))

-- an output goes to a session without a box
pub none_given : (out : OutValue) (a : Kept) → box_of out.session a ≡ None → AreGiven (out ∷ []) a a
none_given out a none q = by (out.session == q) refl
  where
    by : (c : Bool) → (out.session == q) ≡ c → GivesTo (cond c (out ∷ []) []) (box_of q a) (box_of q a)
    by true is =
        let here : box_of q a ≡ None = ap (λ (k : ℕ). box_of k a) (sym (eqb-true out.session q is)) ∙ none in
        subst (λ (o : Option SenderValue). GivesTo (out ∷ []) o (box_of q a)) (sym here) here
    by false is = gives_none (box_of q a)
