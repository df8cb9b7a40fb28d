-- What the flusher took is what the seats have at the same tickets.
use Rattle.std.proofs.Common.{◌≡◌, ◌+◌, ◌<◌, ◌≤◌, ◌++◌, ℕ, zero, suc, List, [], ◌∷◌, length, take, refl, sym, ap, ◌∙◌, arith}
use mathlib.Core.Option.{some, some-injective}
use lib.ListN.{get_elem?}
use Rattle.std.proofs.lemmas.List.{append_assoc}
use Rattle.command_core.specs.Commands.{CommandValue}
use Rattle.claim_core.specs.Seats.{FlushSeatValue, SessionSeatValue}
use Rattle.engine_core.specs.Placed.{AgreeAll, ArePlaced, IsOwn, commands_of}
use Rattle.engine_core.specs.declared.command_queue.Waiting.{Waiting}
use Rattle.engine_core.proofs.Placing.{command_at}

module _ {A : Type 0} where
  -- behind a front
  at_behind : (xs ys : List A) (i : ℕ) → get_elem? (xs ++ ys) (length xs + i) ≡ get_elem? ys i
  at_behind [] ys i = let none : 0 + i ≡ i = omega arith in ap (get_elem? ys) none
  at_behind (x ∷ xs) ys i = let one : suc (length xs) + i ≡ suc (length xs + i) = omega arith in ap (get_elem? (x ∷ (xs ++ ys))) one ∙ at_behind xs ys i

  at_front : (xs ys : List A) (i : ℕ) → i < length xs → get_elem? (xs ++ ys) i ≡ get_elem? xs i
  at_front [] ys i lt = absurd (omega arith)
  at_front (x ∷ xs) ys zero lt = refl
  at_front (x ∷ xs) ys (suc i) lt = at_front xs ys i (omega arith)

  -- a list with the same items as the front of another is that front
  pub is_front : (xs ys : List A) → length xs ≤ length ys → ((i : ℕ) (a : A) → get_elem? ys i ≡ some a → i < length xs → get_elem? xs i ≡ some a) → xs ≡ take (length xs) ys
  is_front [] ys few same = refl
  is_front (x ∷ xs) [] few same = absurd (omega arith)
  is_front (x ∷ xs) (y ∷ ys) few same =
      let first : x ≡ y = some-injective x y (same 0 y refl (omega arith)) in
      let rest : xs ≡ take (length xs) ys = is_front xs ys (omega arith) (λ i a at lt. same (suc i) a at (omega arith)) in
      λ i. first i ∷ rest i

module _ (first : ℕ) (seats : List SessionSeatValue) (flush : FlushSeatValue) (before more : List CommandValue) (waiting : List Waiting) (begins : flush.base + length before ≡ first) (taken : flush.taken ≡ before ++ more)
    (placed : ArePlaced first seats waiting) (agree : AgreeAll flush seats) where
  same_at : (i : ℕ) (c : CommandValue) → get_elem? (commands_of waiting) i ≡ some c → i < length more → get_elem? more i ≡ some c
  same_at i c at lt =
      let w = command_at waiting i c at in
      let p : IsOwn seats w.0.connection (first + i) w.0.command = placed i w.0 w.1 in
      let a = agree w.0.connection p.seat p.at in
      let log = a.0 in
      let rest = a.1.0 in
      let own = a.2.own p.k (first + i, w.0.command) p.own in
      let index : own.0 ≡ length before + i = omega (arith, own.1, begins) in
      let whole : log ≡ before ++ (more ++ rest) = a.1.1 ∙ (ap (λ (l : List CommandValue). l ++ rest) taken ∙ append_assoc before more rest) in
      sym (at_front more rest i lt) ∙ (sym (at_behind before (more ++ rest) i) ∙ (ap (λ (l : List CommandValue). get_elem? l (length before + i)) (sym whole) ∙ (ap (get_elem? log) (sym index) ∙ (own.2 ∙ ap some w.2))))

  pub took_front : length more ≤ length (commands_of waiting) → more ≡ take (length more) (commands_of waiting)
  took_front few = is_front more (commands_of waiting) few same_at
