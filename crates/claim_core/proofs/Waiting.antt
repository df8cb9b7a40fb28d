-- The tickets that are not under the mark, as a list.
use Rattle.std.proofs.Common.{◌≡◌, ℕ, ◌<◌, ◌≤◌, List, [], ◌∷◌, ◌++◌, length, sym, refl, ap, ◌∙◌, ⊎_elim, arith, cond}
use Rattle.std.proofs.lemmas.Bool.{cases_lt, lt-ltb, le-ltb, le-leb, lt-leb}
use Rattle.std.specs.Prelude.{filter, nat_le}
use Rattle.atomic_table.specs.Seated.{TableId}
use Rattle.claim_core.specs.declared.views.View.{View}
use Rattle.claim_core.specs.Counts.{Pair, above, open_of}
use Rattle.claim_core.specs.Seats.{SessionSeatValue, waiting, claimer_of, session_value}
use Rattle.claim_core.proofs.Sums.{from_is, from_not}

pub open_skip : (m : ℕ) (p : Pair) (ps : List Pair) → p.0 < m → open_of m (p ∷ ps) ≡ open_of m ps
open_skip m p ps lt = ap (λ b. cond b (open_of m ps) (p.0 ∷ open_of m ps)) (lt-ltb p.0 m lt)

pub open_keep : (m : ℕ) (p : Pair) (ps : List Pair) → m ≤ p.0 → open_of m (p ∷ ps) ≡ p.0 ∷ open_of m ps
open_keep m p ps le = ap (λ b. cond b (open_of m ps) (p.0 ∷ open_of m ps)) (le-ltb p.0 m le)

pub open_length : (m : ℕ) (own : List Pair) → length (open_of m own) ≡ above m own
open_length m [] = refl
open_length m (p ∷ ps) = ⊎_elim (λ lt. ap length (open_skip m p ps lt) ∙ omega (arith, open_length m ps, from_not m p.0 lt))
    (λ le. ap length (open_keep m p ps le) ∙ omega (arith, open_length m ps, from_is m p.0 le)) (cases_lt p.0 m)

abbrev kept : ℕ → List ℕ → List ℕ
kept n xs = filter (λ t. nat_le n t) xs

filter_skip : (n x : ℕ) (xs : List ℕ) → x < n → kept n (x ∷ xs) ≡ kept n xs
filter_skip n x xs lt = ap (λ b. cond b (x ∷ kept n xs) (kept n xs)) (lt-leb n x lt)

filter_keep : (n x : ℕ) (xs : List ℕ) → n ≤ x → kept n (x ∷ xs) ≡ x ∷ kept n xs
filter_keep n x xs le = ap (λ b. cond b (x ∷ kept n xs) (kept n xs)) (le-leb n x le)

pub open_later : (m n : ℕ) (own : List Pair) → m ≤ n → filter (λ t. nat_le n t) (open_of m own) ≡ open_of n own
open_later m n [] le = refl
open_later m n (p ∷ ps) le = ⊎_elim (λ lt. ap (kept n) (open_skip m p ps lt) ∙ (open_later m n ps le ∙ sym (open_skip n p ps (omega arith))))
    (λ ge. ap (kept n) (open_keep m p ps ge) ∙ ⊎_elim (λ lt. filter_skip n p.0 (open_of m ps) lt ∙ (open_later m n ps le ∙ sym (open_skip n p ps lt)))
    (λ far. filter_keep n p.0 (open_of m ps) far ∙ (ap (λ l. p.0 ∷ l) (open_later m n ps le) ∙ sym (open_keep n p ps far))) (cases_lt p.0 n)) (cases_lt p.0 m)

pub open_snoc : (m : ℕ) (own : List Pair) (p : Pair) → m ≤ p.0 → open_of m (own ++ p ∷ []) ≡ open_of m own ++ p.0 ∷ []
open_snoc m [] p le = open_keep m p [] le
open_snoc m (q ∷ qs) p le = ⊎_elim (λ lt. open_skip m q (qs ++ p ∷ []) lt ∙ (open_snoc m qs p le ∙ sym (ap (λ l. l ++ p.0 ∷ []) (open_skip m q qs lt))))
    (λ ge. open_keep m q (qs ++ p ∷ []) ge ∙ (ap (λ l. q.0 ∷ l) (open_snoc m qs p le) ∙ sym (ap (λ l. l ++ p.0 ∷ []) (open_keep m q qs ge)))) (cases_lt q.0 m)

-- as many tickets are kept as commands wait
pub kept_waiting : (ring : TableId) (number : ℕ) (v : View) (s : SessionSeatValue) (waits : List ℕ) → session_value ring number v ≡ s → waits ≡ open_of (claimer_of v).seen (claimer_of v).own → length waits ≡ waiting s
kept_waiting ring number v s waits is kept = ap length kept ∙ (open_length (claimer_of v).seen (claimer_of v).own ∙ ap waiting is)
