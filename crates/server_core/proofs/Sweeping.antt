-- What a sweep of all desks keeps.
use Rattle.std.proofs.Common.{◌≡◌, ◌<◌, ◌≤◌, ◌+◌, ◌∙◌, List, ℕ, arith, length, subst, sym}
use Rattle.std.specs.List.{AllWithin, slice_index_or, slice_set}
use Rattle.std.proofs.lemmas.List.{get_or-set_other}
use Rattle.std.proofs.lemmas.List.Elements.{AllWithin-more_set, All-from_all_within, All-weaker}
use Rattle.server_core.specs.Sweeps.{Follows, HasBegun, HaveAllDone, MayAllDo}
use Rattle.server_core.specs.declared.service.Service.{Service}
use Rattle.server_core.specs.declared.sweep.Sweep.{Sweep}
use Rattle.server_core.specs.declared.sweep.Sweep.TheVariants.{Begin, Pass, End, Part}

-- whatever was done before, a round may begin
begins_after : (before begin : Sweep) → HasBegun begin → Follows before begin
begins_after before Pass begins = absurd begins
begins_after before End begins = absurd begins
begins_after before Part begins = absurd begins
begins_after before (Begin was_rung now) begins = tt

module _ {R : Type 0} where
  -- the first n of these desks have done that last
  abbrev pub HaveDone : Sweep → List (Service R) → ℕ → Type 0
  HaveDone sweep services n = AllWithin (λ (s : Service R). s.swept ≡ sweep) services 0 n

  -- those from the n-th on are as they were
  abbrev pub AreLeft : (before services : List (Service R)) → ℕ → Type 0
  AreLeft before services n = (k : ℕ) (d : Service R) → n ≤ k → slice_index_or services k d ≡ slice_index_or before k d

  pub one_more_done : (sweep : Sweep) (services : List (Service R)) (i : ℕ) (s : Service R) → i < length services → s.swept ≡ sweep → HaveDone sweep services i → HaveDone sweep (slice_set services i s) (i + 1)
  one_more_done sweep services i s within is done = AllWithin-more_set services i s within (λ (s : Service R). s.swept ≡ sweep) done is

  pub all_done : (sweep : Sweep) (services : List (Service R)) → HaveDone sweep services (length services) → HaveAllDone sweep services
  all_done sweep services done = All-from_all_within (λ (s : Service R). s.swept ≡ sweep) services done

  -- the next one may do it
  pub next_may : (sweep : Sweep) (before services : List (Service R)) (i : ℕ) (s : Service R) → i < length before → s ≡ slice_index_or services i s → MayAllDo sweep before → AreLeft before services i → Follows s.swept sweep
  next_may sweep before services i s within is may left =
      subst (λ (it : Service R). Follows it.swept sweep) (sym (is ∙ left i s (omega arith))) (may i s within)

  -- one more was swept
  pub left_on : (before services : List (Service R)) (i : ℕ) (s : Service R) → i < length services → AreLeft before services i → AreLeft before (slice_set services i s) (i + 1)
  left_on before services i s within left = λ k d more. get_or-set_other services i k s d (λ same. absurd (omega (arith, more, same))) ∙ left k d (omega (arith, more))

  -- each of them may pass once its round has begun, and end it once it has passed
  pub may_pass : (begin : Sweep) (services : List (Service R)) → HasBegun begin → HaveAllDone begin services → MayAllDo Pass services
  may_pass begin services begins done = All-weaker (λ (s : Service R). s.swept ≡ begin) (λ (s : Service R). Follows s.swept Pass) (λ s is. subst HasBegun (sym is) begins) services done

  pub may_end : (services : List (Service R)) → HaveAllDone Pass services → MayAllDo End services
  may_end services done = All-weaker (λ (s : Service R). s.swept ≡ Pass) (λ (s : Service R). Follows s.swept End) (λ s is. subst (λ it. Follows it End) (sym is) tt) services done

  -- a round may always begin
  pub may_begin : (begin : Sweep) (services : List (Service R)) → HasBegun begin → MayAllDo begin services
  may_begin begin services begins = λ k d within. begins_after (slice_index_or services k d).swept begin begins
