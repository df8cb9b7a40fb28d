use Rattle.std.proofs.Common.{◌≡◌, ◌==◌, ◌<◌, ◌≤◌, ◌⊎◌, List, ℕ, suc, Bool, true, false, Option, Some, None, cond, inl, inr, is_some, refl, sym, ap, subst, ◌∙◌, arith}
use Rattle.std.proofs.lemmas.Bool.{cases_lt}
use Rattle.std.proofs.lemmas.Bool.Decides.{nat_tests}
use Rattle.std.proofs.lemmas.Option.{none-some, same_Some}
use Rattle.waiting_order.specs.declared.waiters.Key.{Key}
use Rattle.waiting_order.specs.declared.waiters.Waiter.{Waiter}
use Rattle.waiting_order.specs.Keys.{key_eq, key_of}
use Rattle.waiting_order.specs.LastSlots.{AreLasts, AreLastsBut, HasLast, IsLastUnder, IsReach, is_taken, last_of, over}
use Rattle.waiting_order.specs.Waiting.{AreTimed, Stands, by_ticket}
use Rattle.waiting_order.proofs.Timed.{W, at_its_key, at_key, clash, in_order, key_same}

equal : (a b : ℕ) → (a == b) ≡ true → a ≡ b
equal a b is = grind (arith, nat_tests)

differ : (a b : ℕ) → (a == b) ≡ false → a ≡ b → ⊥
differ a b not is = grind (arith, nat_tests)

-- The last slots stay where the same keys are taken.
pub lasts_keep : (lasts : List (ℕ × ℕ)) (ws vs : List W) → ((k : Key) → is_taken vs k ≡ is_taken ws k) → AreLasts lasts ws → AreLasts lasts vs
lasts_keep lasts ws vs same old = record {
  covered = λ k taken. old.covered k (sym (same k) ∙ taken);
  taken = λ session slot is. same (key_of session slot) ∙ old.taken session slot is;
}

module _ (lasts : List (ℕ × ℕ)) (ws vs : List W) (key : Key) (others : (q : Key) → key_eq key q ≡ false → at_key q vs ≡ at_key q ws) where
  -- one who stands is changed
  pub lasts_changed : (s t : Waiter) → at_key key ws ≡ Some s → at_key key vs ≡ Some t → AreLasts lasts ws → AreLasts lasts vs
  lasts_changed s t was is = lasts_keep lasts ws vs (λ k. by k (key_eq key k) refl)
    where
      by : (k : Key) (b : Bool) → key_eq key k ≡ b → is_taken vs k ≡ is_taken ws k
      by k true same =
          let it = key_same key k same in
          ap (λ l. is_taken vs l) (sym it) ∙ ap is_some is ∙ sym (ap is_some was) ∙ ap (λ l. is_taken ws l) it
      by k false other = ap is_some (others k other)

  -- one comes whose slot is not over the last one
  pub lasts_more : (t : Waiter) → at_key key vs ≡ Some t → key.slot < over (last_of key.session lasts) → AreLastsBut key lasts ws → AreLasts lasts vs
  lasts_more t is under old = record {
    covered = λ k taken. covers k taken (key_eq key k) refl;
    taken = λ session slot last. elim (old.taken session slot last) [ inl was ↦ stays (key_of session slot) was (key_eq key (key_of session slot)) refl | inr same ↦ ap (λ l. is_taken vs l) same ∙ ap is_some is ];
  }
    where
      covers : (k : Key) → is_taken vs k ≡ true → (b : Bool) → key_eq key k ≡ b → k.slot < over (last_of k.session lasts)
      covers k taken true same = subst (λ (l : Key). l.slot < over (last_of l.session lasts)) (key_same key k same) under
      covers k taken false other = old.covered k (sym (ap is_some (others k other)) ∙ taken)

      stays : (k : Key) → is_taken ws k ≡ true → (b : Bool) → key_eq key k ≡ b → is_taken vs k ≡ true
      stays k was true same = ap (λ l. is_taken vs l) (sym (key_same key k same)) ∙ ap is_some is
      stays k was false other = ap is_some (others k other) ∙ was

  -- one goes
  pub lasts_less : at_key key vs ≡ None → AreLasts lasts ws → AreLastsBut key lasts vs
  lasts_less none old = record {
    covered = λ k taken. covers k taken (key_eq key k) refl;
    taken = λ session slot last. by (key_of session slot) (old.taken session slot last) (key_eq key (key_of session slot)) refl;
    free = ap is_some none;
  }
    where
      covers : (k : Key) → is_taken vs k ≡ true → (b : Bool) → key_eq key k ≡ b → k.slot < over (last_of k.session lasts)
      covers k taken true same = absurd (clash (is_taken vs k) taken (ap (λ l. is_taken vs l) (sym (key_same key k same)) ∙ ap is_some none))
      covers k taken false other = old.covered k (sym (ap is_some (others k other)) ∙ taken)

      by : (k : Key) → is_taken ws k ≡ true → (b : Bool) → key_eq key k ≡ b → (is_taken vs k ≡ true) ⊎ (k ≡ key)
      by k was true same = inr (sym (key_same key k same))
      by k was false other = inl (ap is_some (others k other) ∙ was)

-- the last slot of a session is set anew
module _ (lasts new : List (ℕ × ℕ)) (ws : List W) (key : Key) (last : Option ℕ) (but : AreLastsBut key lasts ws) (was : over (last_of key.session lasts) ≡ suc key.slot) (under : IsLastUnder ws key last) (has : HasLast key.session last lasts new) where
  below : (k : Key) → is_taken ws k ≡ true → key.session ≡ k.session → k.slot < key.slot
  below k taken same = by (cases_lt k.slot key.slot)
    where
      by : (k.slot < key.slot) ⊎ (key.slot ≤ k.slot) → k.slot < key.slot
      by (inl less) = less
      by (inr le) =
          let up_to : k.slot < suc key.slot = subst (λ n. k.slot < n) (ap (λ s. over (last_of s lasts)) (sym same) ∙ was) (but.covered k taken) in
          let slot : key.slot ≡ k.slot = omega (arith, le, up_to) in
          let it : key ≡ k = ap (λ n. record key { session = n }) same ∙ ap (λ n. record k { slot = n }) slot in
          absurd (clash (is_taken ws k) taken (ap (λ l. is_taken ws l) (sym it) ∙ but.free))

  in_reach : (k : Key) → is_taken ws k ≡ true → key.session ≡ k.session → (o : Option ℕ) → IsLastUnder ws key o → k.slot < over o
  in_reach k taken same None none =
      absurd (clash (is_taken ws k) taken (ap (λ s. is_taken ws (key_of s k.slot)) (sym same) ∙ none k.slot (below k taken same)))
  in_reach k taken same (Some n) some = by (cases_lt n k.slot)
    where
      by : (n < k.slot) ⊎ (k.slot ≤ n) → k.slot < suc n
      by (inl less) = absurd (clash (is_taken ws k) taken (ap (λ s. is_taken ws (key_of s k.slot)) (sym same) ∙ some.2 k.slot less (below k taken same)))
      by (inr le) = omega (arith, le)

  last_taken : (slot : ℕ) (o : Option ℕ) → IsLastUnder ws key o → o ≡ Some slot → is_taken ws (key_of key.session slot) ≡ true
  last_taken slot None none is = absurd (none-some slot is)
  last_taken slot (Some n) some is = ap (λ m. is_taken ws (key_of key.session m)) (sym (same_Some n slot is)) ∙ some.1

  pub lowered : AreLasts new ws
  lowered = record {
    covered = λ k taken. covers k taken (key.session == k.session) refl;
    taken = λ session slot is. takes session slot is (key.session == session) refl;
  }
    where
      covers : (k : Key) → is_taken ws k ≡ true → (b : Bool) → (key.session == k.session) ≡ b → k.slot < over (last_of k.session new)
      covers k taken true same =
          subst (λ o. k.slot < over o) (sym (has k.session ∙ ap (λ b. cond b last (last_of k.session lasts)) same)) (in_reach k taken (equal key.session k.session same) last under)
      covers k taken false other =
          subst (λ o. k.slot < over o) (sym (has k.session ∙ ap (λ b. cond b last (last_of k.session lasts)) other)) (but.covered k taken)

      takes : (session slot : ℕ) → last_of session new ≡ Some slot → (b : Bool) → (key.session == session) ≡ b → is_taken ws (key_of session slot) ≡ true
      takes session slot is true same =
          let it : last ≡ Some slot = sym (has session ∙ ap (λ b. cond b last (last_of session lasts)) same) ∙ is in
          ap (λ s. is_taken ws (key_of s slot)) (sym (equal key.session session same)) ∙ last_taken slot last under it
      takes session slot is false other = elim (but.taken session slot (sym (has session ∙ ap (λ b. cond b last (last_of session lasts)) other) ∙ is)) [
        | inl taken ↦ taken
        | inr same ↦ absurd (differ key.session session other (ap (λ (k : Key). k.session) (sym same)))
      ]

-- the number over a session's last slot
pub reached : (n : ℕ) (lasts : List (ℕ × ℕ)) (ws : List W) → AreTimed n ws → AreLasts lasts ws → (session : ℕ) → IsReach (by_ticket n ws) session (over (last_of session lasts))
reached n lasts ws timed old session = record {
  under = λ i w is mine. subst (λ s. w.0.slot < over (last_of s lasts)) mine (old.covered w.0 (ap is_some (at_its_key n ws timed i w is)));
  least = λ slot is. last (last_of session lasts) refl slot is;
}
  where
    stands : (k : Key) (o : Option Waiter) → at_key k ws ≡ o → is_some o ≡ true → Stands (by_ticket n ws) k
    stands k None at some = absurd cc
    stands k (Some s) at some = let place = in_order n ws timed k s at in (place.0, s, place.1)

    last : (o : Option ℕ) → last_of session lasts ≡ o → (slot : ℕ) → over o ≡ suc slot → Stands (by_ticket n ws) (key_of session slot)
    last None at slot is = absurd (omega (arith, is))
    last (Some m) at slot is =
        let same : m ≡ slot = omega (arith, is) in
        subst (λ l. Stands (by_ticket n ws) (key_of session l)) same (stands (key_of session m) (at_key (key_of session m) ws) refl (old.taken session m at))
