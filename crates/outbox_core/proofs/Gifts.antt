-- Boxes that are given outputs, one list after another.
use Rattle.std.proofs.Common.{◌≡◌, ◌==◌, ◌+◌, ◌<◌, ◌≤◌, ◌⊎◌, inl, inr, ℕ, List, [], ◌∷◌, ◌++◌, Bool, true, false, Option, Some, None, cond, length, length-append, take, refl, sym, ◌∙◌, ap, subst, arith}
use Rattle.std.specs.Prelude.{is_none, Result, Ok, Err, OnOk, IfErr}
use Rattle.std.proofs.lemmas.List.{append-nil, append_assoc, take-append-le}
use Rattle.std.proofs.Math.Seq.{take-append-add}
use Rattle.std.proofs.lemmas.List.Elements.{filter-append}
use Rattle.command_core.specs.Outs.{OutValue}
use Rattle.outbox_core.specs.Boxes.{CutsOff, SenderValue, when_cut, with_given}
use Rattle.outbox_core.specs.Weights.{Overfill}
use Rattle.outbox_core.specs.Giving.{AreGiven, GivesTo, IsGiven, Kept, box_of, to_session, unboxed, with_all}

-- a box has no room for more than so many of the outputs
abbrev Full : List OutValue → SenderValue → ℕ → Type 0
Full outs old number = ((old.cut ≡ true) × (number ≡ 0)) ⊎ ((old.cut ≡ false) × (number < length outs) × Overfill old.size (old.given ++ take (number + 1) outs))

-- a box that is cut stays as it is
same_cut : (s : SenderValue) → s.cut ≡ true → when_cut s ≡ s
same_cut s is = λ i. record s { cut = sym is i }

with_none : (s : SenderValue) → with_all s [] ≡ s
with_none s = λ i. record s { given = append-nil s.given i }

is_cut : (old new : SenderValue) → CutsOff old new → new.cut ≡ true
is_cut old new (inl is) = ap (λ (s : SenderValue). s.cut) is
is_cut old new (inr is) = ap (λ (s : SenderValue). s.cut) is

-- nothing is given
pub given_none : (s : SenderValue) → IsGiven [] s s
given_none s = by_cut s.cut refl
  where
    by_cut : (b : Bool) → s.cut ≡ b → IsGiven [] s s
    by_cut false is = inl (is, sym (with_none s))
    by_cut true is = inr (record { number = 0; full = inl (is, refl); cut = inl (sym (ap when_cut (with_none s) ∙ same_cut s is)) })

-- an output is handed back
handed_back : (s t : SenderValue) (out : OutValue) → (s.cut ≡ true) ⊎ Overfill s.size (s.given ++ out ∷ []) → CutsOff s t → IsGiven (out ∷ []) s t
handed_back s t out full cut = by_cut s.cut refl full
  where
    off : CutsOff (with_all s []) t
    off = subst (λ (r : SenderValue). CutsOff r t) (sym (with_none s)) cut

    by_cut : (b : Bool) → s.cut ≡ b → (s.cut ≡ true) ⊎ Overfill s.size (s.given ++ out ∷ []) → IsGiven (out ∷ []) s t
    by_cut true is _ = inr (record { number = 0; full = inl (is, refl); cut = off })
    by_cut false is (inl other) = absurd (cc (is, other))
    by_cut false is (inr over) = inr (record { number = 0; full = inr (is, omega arith, over); cut = off })

-- an output is given or handed back, as a box answers
pub answered : (r : Result (Unit {0}) OutValue) (s t : SenderValue) (out : OutValue) → OnOk r ((s.cut ≡ false) × (t ≡ with_given s out))
    → IfErr r (λ _. (s.cut ≡ true) ⊎ Overfill s.size (s.given ++ out ∷ [])) → IfErr r (λ same. (same ≡ out) × CutsOff s t) → IsGiven (out ∷ []) s t
answered (Ok _) s t out given full back = inl given
answered (Err _) s t out given full back = handed_back s t out full back.1

-- outputs, and then more
pub given_more : (xs ys : List OutValue) (s t u : SenderValue) → IsGiven xs s t → IsGiven ys t u → IsGiven (xs ++ ys) s u
given_more xs ys s t u (inl one) (inl other) =
    inl (one.0, other.1 ∙ (ap (λ (r : SenderValue). with_all r ys) one.1 ∙ (λ i. record s { given = append_assoc s.given xs ys i })))
given_more xs ys s t u (inl one) (inr after) = inr (record {
  number = length xs + after.number;
  full = fuller after.full;
  cut = subst (λ (r : SenderValue). CutsOff r u) same after.cut;
})
  where
    same : with_all t (take after.number ys) ≡ with_all s (take (length xs + after.number) (xs ++ ys))
    same = ap (λ (r : SenderValue). with_all r (take after.number ys)) one.1
        ∙ (λ i. record s { given = (append_assoc s.given xs (take after.number ys) ∙ ap (λ (l : List OutValue). s.given ++ l) (sym (take-append-add xs ys after.number))) i })

    given : t.given ++ take (after.number + 1) ys ≡ s.given ++ take (length xs + after.number + 1) (xs ++ ys)
    given = ap (λ (r : SenderValue). r.given ++ take (after.number + 1) ys) one.1
        ∙ (append_assoc s.given xs (take (after.number + 1) ys)
        ∙ (ap (λ (l : List OutValue). s.given ++ l) (sym (take-append-add xs ys (after.number + 1)))
        ∙ ap (λ (k : ℕ). s.given ++ take k (xs ++ ys)) (omega arith)))

    fuller : Full ys t after.number → Full (xs ++ ys) s (length xs + after.number)
    fuller (inl cut) = absurd (cc (cut.0, ap (λ (r : SenderValue). r.cut) one.1, one.0))
    fuller (inr full) = inr (
      one.0,
      omega (arith, full.1, length-append xs ys),
      subst (λ (l : List OutValue). Overfill s.size l) given (subst (λ (r : SenderValue). Overfill r.size (t.given ++ take (after.number + 1) ys)) one.1 full.2),
    )
given_more xs ys s t u (inr before) (inl other) = absurd (cc (is_cut (with_all s (take before.number xs)) t before.cut, other.0))
given_more xs ys s t u (inr before) (inr after) = inr (record {
  number = before.number;
  full = fuller before.full;
  cut = off after.full;
})
  where
    cut : t.cut ≡ true
    cut = is_cut (with_all s (take before.number xs)) t before.cut

    few : before.number ≤ length xs
    few = by_full before.full
      where
        by_full : Full xs s before.number → before.number ≤ length xs
        by_full (inl none) = omega (arith, none.1)
        by_full (inr full) = omega (arith, full.1)

    fuller : Full xs s before.number → Full (xs ++ ys) s before.number
    fuller (inl none) = inl none
    fuller (inr full) = inr (
      full.0,
      omega (arith, full.1, length-append xs ys),
      subst (λ (l : List OutValue). Overfill s.size (s.given ++ l)) (sym (take-append-le (before.number + 1) xs ys (omega (arith, full.1)))) full.2,
    )

    here : CutsOff (with_all s (take before.number (xs ++ ys))) t
    here = subst (λ (l : List OutValue). CutsOff (with_all s l) t) (sym (take-append-le before.number xs ys few)) before.cut

    stays : (m : ℕ) → m ≡ 0 → CutsOff (with_all t (take m ys)) u → CutsOff (with_all s (take before.number (xs ++ ys))) u
    stays m none (inl is) = subst (λ (r : SenderValue). CutsOff (with_all s (take before.number (xs ++ ys))) r)
        (sym (is ∙ (ap (λ (k : ℕ). when_cut (with_all t (take k ys))) none ∙ (ap when_cut (with_none t) ∙ same_cut t cut)))) here
    stays m none (inr is) = inr is

    off : Full ys t after.number → CutsOff (with_all s (take before.number (xs ++ ys))) u
    off (inl none) = stays after.number none.1 after.cut
    off (inr full) = absurd (cc (full.0, cut))

-- the same of the box that a session has, if it has one
pub gives_more : (xs ys : List OutValue) (a b c : Option SenderValue) → GivesTo xs a b → GivesTo ys b c → GivesTo (xs ++ ys) a c
gives_more xs ys None b c is more = subst (λ (o : Option SenderValue). GivesTo ys o c) is more
gives_more xs ys (Some s) b c (t, is, one) more =
    let next : GivesTo ys (Some t) c = subst (λ (o : Option SenderValue). GivesTo ys o c) is more in
    (next.0, next.1, given_more xs ys s t next.0 one next.2)

pub gives_none : (a : Option SenderValue) → GivesTo [] a a
gives_none None = refl
gives_none (Some s) = (s, refl, given_none s)

pub are_more : (xs ys : List OutValue) (a b c : Kept) → AreGiven xs a b → AreGiven ys b c → AreGiven (xs ++ ys) a c
are_more xs ys a b c one other session =
    subst (λ (l : List OutValue). GivesTo l (box_of session a) (box_of session c)) (sym (filter-append (λ (out : OutValue). out.session == session) xs ys))
    (gives_more (to_session session xs) (to_session session ys) (box_of session a) (box_of session b) (box_of session c) (one session) (other session))

pub are_none : (a : Kept) → AreGiven [] a a
are_none a session = gives_none (box_of session a)

-- whether a session has a box stays
gives_stay : (outs : List OutValue) (a b : Option SenderValue) → GivesTo outs a b → is_none b ≡ is_none a
gives_stay outs None b is = ap (λ (o : Option SenderValue). is_none o) is
gives_stay outs (Some s) b (t, is, one) = ap (λ (o : Option SenderValue). is_none o) is

pub are_stay : (outs : List OutValue) (a b : Kept) (session : ℕ) → AreGiven outs a b → is_none (box_of session b) ≡ is_none (box_of session a)
are_stay outs a b session given = gives_stay (to_session session outs) (box_of session a) (box_of session b) (given session)

-- what is left of outputs, and of one more
pub left_more : (outs : List OutValue) (out : OutValue) (a b : Kept) (left now last : List OutValue) → AreGiven outs a b → now ≡ left ++ unboxed a outs → last ≡ now ++ unboxed b (out ∷ []) → last ≡ left ++ unboxed a (outs ++ out ∷ [])
left_more outs out a b left now last given was is =
    is ∙ (ap (λ (l : List OutValue). l ++ unboxed b (out ∷ [])) was
    ∙ (append_assoc left (unboxed a outs) (unboxed b (out ∷ []))
    ∙ ap (λ (l : List OutValue). left ++ l)
    (ap (λ (c : Bool). unboxed a outs ++ cond c (out ∷ []) []) (are_stay outs a b out.session given)
    ∙ sym (filter-append (λ (o : OutValue). is_none (box_of o.session a)) outs (out ∷ [])))))

-- and how much that may be
pub left_few : (a : Kept) (outs : List OutValue) → length (unboxed a outs) ≤ length outs
left_few a [] = omega arith
left_few a (out ∷ outs) = by (is_none (box_of out.session a)) (left_few a outs)
  where
    by : (c : Bool) → length (unboxed a outs) ≤ length outs → length (cond c (out ∷ unboxed a outs) (unboxed a outs)) ≤ length (out ∷ outs)
    by true few = omega (arith, few)
    by false few = omega (arith, few)
