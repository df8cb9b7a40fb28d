-- What is counted of a journal's backlog.
use Rattle.std.proofs.Common.{◌≡◌, ◌<◌, ◌≤◌, ◌+◌, ◌*◌, ◌-◌, ◌++◌, ℕ, List, [], ◌∷◌, length, length-append, sum_by, take, get_or, max, min, refl, sym, ◌∙◌, ap, subst, arith}
use Rattle.std.proofs.lemmas.List.{append_assoc, take_more}
use Rattle.std.proofs.lemmas.List.Sums.{sum_by-append}
use Rattle.command_core.specs.Entries.{EntryValue}
use Rattle.command_core.specs.Commands.{CommandValue}
use Rattle.command_core.specs.Outs.{OutValue}
use Rattle.command_core.specs.Spellings.{record_of}
use Rattle.area_core.specs.Areas.{commands, records}
use Rattle.broker_core.specs.States.{State}
use Rattle.broker_core.specs.Steps.{outs, outs_of, state_after, step}
use Rattle.claim_core.specs.Seats.{FlushSeatValue, next_ticket, when_stopped, with_mark}
use Rattle.flush_core.specs.Backlogs.{IsCounted, bulk, cost, cost_of, most_cost, most_counted, steps_of}
use Rattle.flush_core.specs.Batches.{between, from_on, state_at, with_more}
use Rattle.flush_core.proofs.TakenCommands.{at_between, at_more, between_more, between_none, from_front, take_further}

-- the outputs of some commands, and of others after them
outs_append : (xs ys : List CommandValue) (s : State) → outs_of s (xs ++ ys) ≡ outs_of s xs ++ outs_of (state_after s xs) ys
outs_append [] ys s = refl
outs_append (x ∷ xs) ys s =
    ap (λ (l : List OutValue). outs s x ++ l) (outs_append xs ys (step s x))
    ∙ sym (append_assoc (outs s x) (outs_of (step s x) xs) (outs_of (state_after (step s x) xs) ys))

records_append : (xs ys : List CommandValue) → records (xs ++ ys) ≡ records xs ++ records ys
records_append [] ys = refl
records_append (x ∷ xs) ys = ap (λ (l : List ℕ). record_of x ++ l) (records_append xs ys) ∙ sym (append_assoc (record_of x) (records xs) (records ys))

-- the cost of some commands, and of others after them
cost_append : (xs ys : List CommandValue) (s : State) → cost_of s (xs ++ ys) ≡ cost_of s xs + cost_of (state_after s xs) ys
cost_append xs ys s =
    let outs_are = ap (λ (l : List OutValue). length l) (outs_append xs ys s) in
    let bytes_are = ap (λ (l : List ℕ). length l) (records_append xs ys) in
    omega (arith, outs_are, bytes_are, sum_by-append steps_of xs ys, length-append (records xs) (records ys), length-append (outs_of s xs) (outs_of (state_after s xs) ys))

-- the steps of entries
abbrev pub entry_steps : {B : Type 0} → EntryValue B → ℕ
entry_steps e = steps_of e.command

pub steps_of_entries : {B : Type 0} (batch : List (EntryValue B)) → sum_by steps_of (commands batch) ≡ sum_by entry_steps batch
steps_of_entries [] = refl
steps_of_entries (e ∷ batch) = omega (arith, sum_by-append steps_of (e.command ∷ []) (commands batch), sum_by-append entry_steps (e ∷ []) batch, steps_of_entries batch)

pub steps_more : {B : Type 0} (batch : List (EntryValue B)) (i : ℕ) (e : EntryValue B) → i < length batch → e ≡ get_or batch i e
    → sum_by entry_steps (take (i + 1) batch) ≡ sum_by entry_steps (take i batch) + entry_steps e
steps_more batch i e lt is =
    let one : take (i + 1) batch ≡ take i batch ++ e ∷ [] = take_more batch i e lt ∙ ap (λ y. take i batch ++ y ∷ []) (sym is) in
    omega (arith, ap (λ es. sum_by entry_steps es) one, sum_by-append entry_steps (take i batch) (e ∷ []))

-- the commands between two numbers, and those up to a third
between_both : (seat : FlushSeatValue) (low mid high : ℕ) → seat.base ≤ low → low ≤ mid → mid ≤ high → between seat low mid ++ between seat mid high ≡ between seat low high
between_both seat low mid high begun rises further =
    let there : mid ≡ low + (mid - low) = omega (arith, rises) in
    let rest : from_on seat mid ≡ _ = ap (λ (n : ℕ). from_on seat n) there ∙ sym (from_front seat low (mid - low) begun) in
    let sum : (mid - low) + (high - mid) ≡ high - low = omega (arith, rises, further) in
    ap (λ (l : List CommandValue). between seat low mid ++ take (high - mid) l) rest
    ∙ (take_further (mid - low) (high - mid) (from_on seat low) ∙ ap (λ (n : ℕ). take n (from_on seat low)) sum)

-- what is counted of two, and of both
sum_counted : (a steps bytes outs counted some seen made n : ℕ) → counted ≡ min a most_counted → some ≡ min steps most_counted → seen ≡ min bytes most_counted → made ≡ min outs most_counted
    → n ≡ min (counted + cost some seen made) most_counted → n ≡ min (a + cost steps bytes outs) most_counted
sum_counted a steps bytes outs counted some seen made n first second third fourth both = omega (arith, first, second, third, fourth, both)

-- what is counted is under a bound that can be counted
below : (cost counted many : ℕ) → counted ≡ min cost most_counted → counted < min (max many 64000000) 500000000 → cost < min (max many 64000000) 500000000
below cost counted many is less = omega (arith, is, less)

over : (cost counted least : ℕ) → counted ≡ min cost most_counted → least ≤ counted → least ≤ cost
over cost counted least is due = omega (arith, is, due)

module _ (opening : State) (seat : FlushSeatValue) where
  -- nothing is executed since
  pub counts_none : (since executed : ℕ) → seat.base ≤ since → executed ≡ since → IsCounted opening seat since executed 0
  counts_none since executed begun same =
      let nothing : cost_of (state_at opening seat since) (between seat since since) ≡ 0 = ap (λ (l : List CommandValue). cost_of (state_at opening seat since) l) (between_none seat since) in
      subst (λ (n : ℕ). IsCounted opening seat since n 0) (sym same) (record { begun = begun; rises = omega arith; counted_is = omega (arith, nothing) })

  -- more is executed
  pub counts_more : (since executed stored counted next steps bytes outs : ℕ) → executed ≤ stored
      → steps ≡ min (sum_by steps_of (between seat executed stored)) most_counted → bytes ≡ min (length (records (between seat executed stored))) most_counted
      → outs ≡ min (length (outs_of (state_at opening seat executed) (between seat executed stored))) most_counted
      → next ≡ min (counted + cost steps bytes outs) most_counted → IsCounted opening seat since executed counted → IsCounted opening seat since stored next
  counts_more since executed stored counted next steps bytes outs further steps_are bytes_are outs_are next_is was =
      let first = state_at opening seat since in
      let more = between seat executed stored in
      let all : cost_of first (between seat since stored) ≡ cost_of first (between seat since executed) + cost_of (state_at opening seat executed) (between seat executed stored) =
      ap (λ (l : List CommandValue). cost_of first l) (sym (between_both seat since executed stored was.begun was.rises further))
      ∙ (cost_append (between seat since executed) (between seat executed stored) first
      ∙ ap (λ (s : State). cost_of first (between seat since executed) + cost_of s (between seat executed stored)) (at_between opening seat since executed was.begun was.rises)) in
      record {
        begun = was.begun;
        rises = omega (arith, was.rises, further);
        counted_is = sum_counted (cost_of first (between seat since executed)) (sum_by steps_of more) (length (records more)) (length (outs_of (state_at opening seat executed) more)) counted steps bytes outs next was.counted_is steps_are bytes_are outs_are next_is
            ∙ ap (λ (n : ℕ). min n most_counted) (sym all);
      }

  -- more is taken
  pub counts_taken : (next : FlushSeatValue) (more : List CommandValue) (since executed counted : ℕ) → next ≡ with_more seat more → executed ≤ next_ticket seat
      → IsCounted opening seat since executed counted → IsCounted opening next since executed counted
  counts_taken next more since executed counted is few was =
      let state = at_more opening seat more since (omega (arith, was.rises, few)) in
      let commands = between_more seat more since executed was.begun was.rises few in
      subst (λ (s : FlushSeatValue). IsCounted opening s since executed counted) (sym is)
      (record { begun = was.begun; rises = was.rises; counted_is = was.counted_is ∙ (λ i. min (cost_of (sym state i) (sym commands i)) most_counted) })

  -- the mark is raised
  pub counts_marked : (next : FlushSeatValue) (mark since executed counted : ℕ) → next ≡ with_mark seat mark → IsCounted opening seat since executed counted → IsCounted opening next since executed counted
  counts_marked next mark since executed counted is was =
      subst (λ (s : FlushSeatValue). IsCounted opening s since executed counted) (sym is) (record { begun = was.begun; rises = was.rises; counted_is = was.counted_is })

  -- the ring is stopped
  pub counts_stopped : (next : FlushSeatValue) (since executed counted : ℕ) → next ≡ when_stopped seat → IsCounted opening seat since executed counted → IsCounted opening next since executed counted
  counts_stopped next since executed counted is was =
      subst (λ (s : FlushSeatValue). IsCounted opening s since executed counted) (sym is) (record { begun = was.begun; rises = was.rises; counted_is = was.counted_is })

  -- what is counted is as much as may be to repeat
  pub counted_due : (since executed stored counted : ℕ) (s : State) → executed ≡ stored → most_cost s ≤ counted → IsCounted opening seat since executed counted
      → most_cost s ≤ cost_of (state_at opening seat since) (between seat since stored)
  counted_due since executed stored counted s same due was =
      let is : counted ≡ min (cost_of (state_at opening seat since) (between seat since stored)) most_counted =
      was.counted_is ∙ ap (λ (n : ℕ). min (cost_of (state_at opening seat since) (between seat since n)) most_counted) same in
      over (cost_of (state_at opening seat since) (between seat since stored)) counted (most_cost s) is due

  -- what is counted is less than may be to repeat
  pub counted_light : (since executed stored counted : ℕ) (s : State) → executed ≡ stored → counted < most_cost s → IsCounted opening seat since executed counted
      → cost_of (state_at opening seat since) (between seat since stored) < most_cost s
  counted_light since executed stored counted s same less was =
      let is : counted ≡ min (cost_of (state_at opening seat since) (between seat since stored)) most_counted =
      was.counted_is ∙ ap (λ (n : ℕ). min (cost_of (state_at opening seat since) (between seat since n)) most_counted) same in
      below (cost_of (state_at opening seat since) (between seat since stored)) counted (25 * bulk s) is less
