-- Whether a worker waits, and for how long.
use Rattle.std.specs.Prelude.{◌||◌, ℕ, Bool, List, min}
use Rattle.std.specs.List.{fold, list_any}
use Rattle.clients.specs.Outlooks.{awaits_mark, due_at, is_ready, lets_in, longest_wait}
use Rattle.clients.specs.declared.timers.TheConstants.{NEVER}
use Rattle.server_core.specs.declared.service.Service.{Service}

module _ {R : Type 0} where
  -- a client of one of these desks is ready
  abbrev pub is_anybody_ready : List (Service R) → Bool
  is_anybody_ready services = list_any (λ (s : Service R). is_ready s.clients) services

  -- a client of one of these desks waits for the mark
  abbrev pub is_mark_awaited : List (Service R) → Bool
  is_mark_awaited services = list_any (λ (s : Service R). awaits_mark s.clients) services

  -- this mark lets a client of one of these desks in
  abbrev pub is_anybody_let_in : ℕ → List (Service R) → Bool
  is_anybody_let_in mark services = list_any (λ (s : Service R). lets_in mark s.clients) services

  -- nothing is due at any of these desks before this moment
  abbrev pub first_due : List (Service R) → ℕ
  first_due services = fold (λ first (s : Service R). min first (due_at s.clients)) NEVER services

  -- For how many milliseconds a worker with these desks waits: not at all if its bell was rung, somebody is ready, or this mark lets somebody
  -- in.
  abbrev pub wait_of : List (Service R) → ℕ → (was_rung looks_soon : Bool) → ℕ → ℕ
  wait_of services mark was_rung looks_soon now = longest_wait (record {
    is_wanted = was_rung || (is_anybody_ready services || is_anybody_let_in mark services);
    looks_soon = looks_soon;
    due = first_due services;
  }) now
