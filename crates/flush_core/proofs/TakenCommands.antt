-- The commands taken, cut at numbers, and the states after them.
use Rattle.std.proofs.Common.{◌≡◌, ◌<◌, ◌≤◌, ◌+◌, ◌-◌, ◌++◌, ℕ, List, [], ◌∷◌, length, take, drop, refl, sym, ◌∙◌, ap, arith}
use Rattle.std.proofs.lemmas.List.{drop-append-le, drop-drop, drop-take, drop_all, append-nil, append_assoc, length-drop, length-map, length-take-le, take-append-drop, take-append-le, take-take, take_all}
use Rattle.frame_core.proofs.Lists.{all_append, all_weaker}
use Rattle.area_core.specs.Areas.{commands}
use Rattle.command_core.specs.Commands.{CommandValue}
use Rattle.command_core.specs.Entries.{EntryValue}
use Rattle.command_core.specs.Outs.{OutValue}
use Rattle.broker_state.specs.States.{IsInOrder}
use Rattle.broker_core.specs.States.{State}
use Rattle.broker_core.specs.Steps.{outs, outs_of, state_after, step}
use Rattle.broker_state.specs.declared.nack_rule.NackRule.TheVariants.{Keeps}
use Rattle.broker_state.proofs.Numbers.{outs_numbered}
use Rattle.broker_state.proofs.Ordered.{done_count, step_in_order}
use Rattle.recover_core.proofs.Stores.{after-append}
use Rattle.claim_core.specs.Seats.{FlushSeatValue, next_ticket}
use Rattle.flush_core.specs.Batches.{between, from_on, state_at, state_taken, with_more}
use Rattle.flush_core.specs.Flusher.{AreUnder}

-- the first commands, and so many more
pub take_further : (n m : ℕ) (cs : List CommandValue) → take n cs ++ take m (drop n cs) ≡ take (n + m) cs
take_further n m cs =
    ap (λ (l : List CommandValue). l ++ take m (drop n cs)) (sym (take-take n (n + m) cs (omega arith)))
    ∙ ap (λ (l : List CommandValue). take n (take (n + m) cs) ++ l) (sym (drop-take n m cs))
    ∙ take-append-drop n (take (n + m) cs)

module _ (opening : State) (seat : FlushSeatValue) where
  -- where nothing was taken
  pub at_start : (n : ℕ) → seat.taken ≡ [] → state_at opening seat n ≡ opening
  at_start n none = ap (λ (l : List CommandValue). state_after opening l) (ap (λ (l : List CommandValue). take (n - seat.base) l) none ∙ take_all (n - seat.base) [] (omega arith))

  pub all_at : (n : ℕ) → n ≡ next_ticket seat → state_at opening seat n ≡ state_taken opening seat
  all_at n is = ap (λ (l : List CommandValue). state_after opening l) (take_all (n - seat.base) seat.taken (omega (arith, is)))

  -- the state after those under low, and then those from low on
  pub at_between : (low high : ℕ) → seat.base ≤ low → low ≤ high → state_after (state_at opening seat low) (between seat low high) ≡ state_at opening seat high
  at_between low high begun rises =
      let sum : (low - seat.base) + (high - low) ≡ high - seat.base = omega (arith, begun, rises) in
      sym (after-append (take (low - seat.base) seat.taken) opening (between seat low high))
      ∙ ap (λ (l : List CommandValue). state_after opening l) (take_further (low - seat.base) (high - low) seat.taken ∙ ap (λ (n : ℕ). take n seat.taken) sum)

  -- and then so many more
  pub at_front : (low k : ℕ) → seat.base ≤ low → state_after (state_at opening seat low) (take k (from_on seat low)) ≡ state_at opening seat (low + k)
  at_front low k begun =
      let same : (low + k) - low ≡ k = omega arith in
      ap (λ (m : ℕ). state_after (state_at opening seat low) (take m (from_on seat low))) (sym same) ∙ at_between low (low + k) begun (omega arith)

  pub at_rest : (low : ℕ) → state_after (state_at opening seat low) (from_on seat low) ≡ state_taken opening seat
  at_rest low =
      sym (after-append (take (low - seat.base) seat.taken) opening (from_on seat low))
      ∙ ap (λ (l : List CommandValue). state_after opening l) (take-append-drop (low - seat.base) seat.taken)

  -- more taken
  pub at_more : (more : List CommandValue) (n : ℕ) → n ≤ next_ticket seat → state_at opening (with_more seat more) n ≡ state_at opening seat n
  at_more more n few = ap (λ (l : List CommandValue). state_after opening l) (take-append-le (n - seat.base) seat.taken more (omega (arith, few)))

module _ (seat : FlushSeatValue) where
  pub from_more : (more : List CommandValue) (low : ℕ) → low ≤ next_ticket seat → from_on (with_more seat more) low ≡ from_on seat low ++ more
  from_more more low few = drop-append-le (low - seat.base) seat.taken more (omega (arith, few))

  pub between_more : (more : List CommandValue) (low high : ℕ) → seat.base ≤ low → low ≤ high → high ≤ next_ticket seat → between (with_more seat more) low high ≡ between seat low high
  between_more more low high begun rises few =
      ap (λ (l : List CommandValue). take (high - low) l) (from_more more low (omega (arith, rises, few)))
      ∙ take-append-le (high - low) (from_on seat low) more (omega (arith, begun, rises, few, length-drop (low - seat.base) seat.taken))

  pub between_all : (low high : ℕ) → high ≡ next_ticket seat → seat.base ≤ low → between seat low high ≡ from_on seat low
  between_all low high is begun = take_all (high - low) (from_on seat low) (omega (arith, is, begun, length-drop (low - seat.base) seat.taken))

  -- those from low on are those up to high, and those from high on
  pub between_from : (low high : ℕ) → seat.base ≤ low → low ≤ high → between seat low high ++ from_on seat high ≡ from_on seat low
  between_from low high begun rises =
      let sum : high - seat.base ≡ (low - seat.base) + (high - low) = omega (arith, begun, rises) in
      ap (λ (l : List CommandValue). between seat low high ++ l) (ap (λ (n : ℕ). drop n seat.taken) sum ∙ sym (drop-drop (high - low) (low - seat.base) seat.taken))
      ∙ take-append-drop (high - low) (from_on seat low)

  -- behind so many more
  pub from_front : (low k : ℕ) → seat.base ≤ low → drop k (from_on seat low) ≡ from_on seat (low + k)
  from_front low k begun =
      let sum : (low - seat.base) + k ≡ (low + k) - seat.base = omega (arith, begun) in
      drop-drop k (low - seat.base) seat.taken ∙ ap (λ (n : ℕ). drop n seat.taken) sum

  -- up to so many more
  pub between_front : (low k : ℕ) → between seat low (low + k) ≡ take k (from_on seat low)
  between_front low k =
      let same : (low + k) - low ≡ k = omega arith in
      ap (λ (n : ℕ). take n (from_on seat low)) same

  pub length_from : (low : ℕ) → seat.base ≤ low → low ≤ next_ticket seat → low + length (from_on seat low) ≡ next_ticket seat
  length_from low begun few = omega (arith, begun, few, length-drop (low - seat.base) seat.taken)

  pub between_none : (n : ℕ) → between seat n n ≡ []
  between_none n =
      let zero : n - n ≡ 0 = omega arith in
      ap (λ (k : ℕ). take k (from_on seat n)) zero

  pub from_end : (n : ℕ) → n ≡ next_ticket seat → from_on seat n ≡ []
  from_end n is = drop_all (n - seat.base) seat.taken (omega (arith, is))

  pub length_between : (low high : ℕ) → seat.base ≤ low → low ≤ high → high ≤ next_ticket seat → length (between seat low high) ≡ high - low
  length_between low high begun rises few =
      length-take-le (high - low) (from_on seat low) (omega (arith, begun, rises, few, length-drop (low - seat.base) seat.taken))

pub count_after : (cs : List CommandValue) (s : State) → (state_after s cs).count ≡ s.count + length cs
count_after [] s = omega arith
count_after (c ∷ cs) s = omega (arith, count_after cs (step s c))

pub order_after : (cs : List CommandValue) (s : State) → IsInOrder s → IsInOrder (state_after s cs)
order_after [] s order = order
order_after (c ∷ cs) s order = order_after cs (step s c) (step_in_order Keeps s c order)

-- the outputs of commands have their numbers
pub outs_under : (cs : List CommandValue) (s : State) (n : ℕ) → IsInOrder s → s.count + length cs ≤ n → AreUnder n (outs_of s cs)
outs_under [] s n order few = tt
outs_under (c ∷ cs) s n order few =
    all_append (λ (out : OutValue). out.number < n) (outs s c) (outs_of (step s c) cs)
    (all_weaker (λ (out : OutValue). out.number ≡ s.count) (λ (out : OutValue). out.number < n) (λ out is. omega (arith, is, few)) (outs s c) (outs_numbered Keeps s c (done_count Keeps s c order)))
    (outs_under cs (step s c) n (step_in_order Keeps s c order) (omega (arith, few)))

pub under_more : (n m : ℕ) (outs : List OutValue) → n ≤ m → AreUnder n outs → AreUnder m outs
under_more n m outs le under = all_weaker (λ (out : OutValue). out.number < n) (λ (out : OutValue). out.number < m) (λ out lt. omega (arith, le, lt)) outs under

pub state_commands : (xs : List CommandValue) (s : State) (c : CommandValue) → state_after s (xs ++ c ∷ []) ≡ step (state_after s xs) c
state_commands [] s c = refl
state_commands (x ∷ xs) s c = state_commands xs (step s x) c

pub outs_commands : (xs : List CommandValue) (s : State) (c : CommandValue) → outs_of s (xs ++ c ∷ []) ≡ outs_of s xs ++ outs (state_after s xs) c
outs_commands [] s c = append-nil (outs s c)
outs_commands (x ∷ xs) s c =
    ap (λ (l : List OutValue). outs s x ++ l) (outs_commands xs (step s x) c)
    ∙ sym (append_assoc (outs s x) (outs_of (step s x) xs) (outs (state_after (step s x) xs) c))

pub length_commands : {B : Type 0} (es : List (EntryValue B)) → length (commands es) ≡ length es
length_commands es = length-map es (λ entry. entry.command)

pub commands_more : {B : Type 0} (es : List (EntryValue B)) (e : EntryValue B) → commands (es ++ e ∷ []) ≡ commands es ++ e.command ∷ []
commands_more [] e = refl
commands_more (x ∷ es) e = ap (λ (l : List CommandValue). x.command ∷ l) (commands_more es e)
