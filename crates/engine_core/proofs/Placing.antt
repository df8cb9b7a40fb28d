-- Commands at tickets of seats' own.
use Rattle.std.proofs.Common.{◌≡◌, ◌≢◌, ◌⊎◌, ◌+◌, ◌<◌, ◌++◌, ℕ, zero, suc, List, [], ◌∷◌, length, set, refl, sym, ap, ◌∙◌, subst, inl, inr, ⊎_elim, arith}
use mathlib.Core.Option.{some, some-injective, some-ne-none}
use lib.ListN.{get_elem?}
use Rattle.std.proofs.lemmas.Bool.{cases_eq}
use Rattle.atomic_table.specs.Seated.{TableId}
use Rattle.atomic_table.proofs.Lists.{at_last, at_longer, at_set, set_else, set_here}
use Rattle.command_core.specs.Commands.{CommandValue}
use Rattle.claim_core.specs.Endings.{Agree}
use Rattle.claim_core.specs.Seats.{FlushSeatValue, SessionSeatValue}
use Rattle.engine_core.specs.declared.command_queue.Waiting.{Waiting}
use Rattle.engine_core.specs.Placed.{AreOwn, ArePlaced, AreSeatsOf, IsOwn, commands_of}

module _ {A : Type 0} where
  pub below : (l : List A) (i : ℕ) (a : A) → get_elem? l i ≡ some a → i < length l
  below [] i a e = absurd (some-ne-none a (sym e))
  below (x ∷ xs) zero a e = omega arith
  below (x ∷ xs) (suc i) a e = omega (arith, below xs i a e)

  pub at_end : (l : List A) (a b : A) (j : ℕ) → get_elem? (l ++ a ∷ []) j ≡ some b → (get_elem? l j ≡ some b) ⊎ ((j ≡ length l) × (a ≡ b))
  at_end [] a b zero e = inr (refl, some-injective a b e)
  at_end [] a b (suc j) e = absurd (some-ne-none b (sym e))
  at_end (x ∷ xs) a b zero e = inl e
  at_end (x ∷ xs) a b (suc j) e = ⊎_elim (λ old. inl old) (λ new. inr (ap suc new.0, new.1)) (at_end xs a b j e)

pub still_ring : (ring : TableId) (seats : List SessionSeatValue) (place : ℕ) (old new : SessionSeatValue)
    → get_elem? seats place ≡ some old → new.ring ≡ old.ring → AreSeatsOf ring seats → AreSeatsOf ring (set seats place new)
still_ring ring seats place old new at same all j seat is =
    ⊎_elim (λ (x : (j ≡ place) × (new ≡ seat)). ap (λ (s : SessionSeatValue). s.ring) (sym x.1) ∙ (same ∙ all place old at)) (λ (x : (j ≢ place) × (get_elem? seats j ≡ some seat)). all j seat x.1) (at_set seats place j new seat is)

module _ (seats : List SessionSeatValue) (place : ℕ) (old new : SessionSeatValue) (ticket : ℕ) (command : CommandValue) (at : get_elem? seats place ≡ some old) (more : new.own ≡ old.own ++ (ticket, command) ∷ []) where
  pub placed_here : IsOwn (set seats place new) place ticket command
  placed_here = record {
    seat = new;
    at = set_here seats place new (below seats place old at);
    k = length old.own;
    own = ap (λ (l : List (ℕ × CommandValue)). get_elem? l (length old.own)) more ∙ at_last old.own (ticket, command) (length old.own) refl;
  }

  pub still_placed : (p t : ℕ) (c : CommandValue) → IsOwn seats p t c → IsOwn (set seats place new) p t c
  still_placed p t c was = ⊎_elim
      (λ (same : p ≡ place).
      let one : was.seat ≡ old = some-injective was.seat old (sym was.at ∙ (ap (get_elem? seats) same ∙ at)) in
      record {
        seat = new;
        at = ap (get_elem? (set seats place new)) same ∙ set_here seats place new (below seats place old at);
        k = was.k;
        own = ap (λ (l : List (ℕ × CommandValue)). get_elem? l was.k) more ∙ at_longer old.own ((ticket, command) ∷ []) was.k (t, c) (ap (λ (s : SessionSeatValue). get_elem? s.own was.k) (sym one) ∙ was.own);
      })
      (λ (other : p ≢ place). record { seat = was.seat; at = set_else seats place p new other ∙ was.at; k = was.k; own = was.own })
      (cases_eq p place)

pub commands_length : (ws : List Waiting) → length (commands_of ws) ≡ length ws
commands_length [] = refl
commands_length (w ∷ ws) = ap suc (commands_length ws)

-- one more command is placed
pub one_more : (first next : ℕ) (before after : List SessionSeatValue) (ws : List Waiting) (w : Waiting) → next ≡ first + length ws
    → ArePlaced first before ws → ((place t : ℕ) (c : CommandValue) → IsOwn before place t c → IsOwn after place t c) → IsOwn after w.connection next w.command
    → ArePlaced first after (ws ++ w ∷ [])
one_more first next before after ws w is were others here i v at = ⊎_elim
    (λ (old : get_elem? ws i ≡ some v). others v.connection (first + i) v.command (were i v old))
    (λ (new : (i ≡ length ws) × (w ≡ v)).
    let ticket : next ≡ first + i = omega (arith, is, new.0) in
    subst (λ (z : ℕ × Waiting). IsOwn after z.1.connection z.0 z.1.command) (λ j. (ticket j, new.1 j)) here)
    (at_end ws w v i at)

pub own_of : (first : ℕ) (seats : List SessionSeatValue) (ws : List Waiting) → ArePlaced first seats ws → AreOwn seats ws
own_of first seats ws placed i w at = (first + i, placed i w at)

-- one of the commands is that of a connection
pub command_at : (ws : List Waiting) (i : ℕ) (c : CommandValue) → get_elem? (commands_of ws) i ≡ some c → (w : Waiting) × (get_elem? ws i ≡ some w) × (w.command ≡ c)
command_at [] i c at = absurd (some-ne-none c (sym at))
command_at (w ∷ ws) zero c at = (w, refl, some-injective w.command c at)
command_at (w ∷ ws) (suc i) c at = command_at ws i c at

-- one seat more agrees
pub agree_more : (flush : FlushSeatValue) (seats : List SessionSeatValue) (place : ℕ) (seat : SessionSeatValue) → get_elem? seats place ≡ some seat
    → ((j : ℕ) (s : SessionSeatValue) → j < place → get_elem? seats j ≡ some s → Agree s flush) → Agree seat flush
    → (j : ℕ) (s : SessionSeatValue) → j < place + 1 → get_elem? seats j ≡ some s → Agree s flush
agree_more flush seats place seat at before here j s lt is = ⊎_elim
    (λ (same : j ≡ place). subst (λ (x : SessionSeatValue). Agree x flush) (some-injective seat s (sym at ∙ (ap (get_elem? seats) (sym same) ∙ is))) here)
    (λ (other : j ≢ place). before j s (omega (arith, other)) is)
    (cases_eq j place)
