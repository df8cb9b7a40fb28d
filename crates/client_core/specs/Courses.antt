-- How one who listens goes on from connection to connection.
use Rattle.std.specs.Prelude.{◌-◌, ◌||◌, ◌&&◌, ◌++◌, ◌∷◌, [], List, ℕ, Bool, bytes_eq, cond, false, length, nat_lt, not}
use Rattle.std.specs.List.{list_any, remove}
use Rattle.client_core.specs.Texts.{is_before_message, is_gone, is_of_session}
use Rattle.client_core.specs.declared.plan.Course.{Course}
use Rattle.client_core.specs.declared.fault.ClientFault.{ClientFault}
use Rattle.client_core.specs.declared.fault.Step.{Step}
use Rattle.client_core.specs.declared.plan.Plan.{Plan}

-- before the first connection
abbrev pub course_of : Plan → Course
course_of plan = record { left = plan.count; has_listened = false; is_once = plan.is_once }

-- after one that has shown so many messages, and ended at that step
abbrev pub course_after : ℕ → Step → Course → Course
course_after shown step course = record { left = course.left - shown; has_listened = course.has_listened || is_of_session step; is_once = course.is_once }

abbrev pub is_among : List ℕ → List (List ℕ) → Bool
is_among id ids = list_any (λ one. bytes_eq one id) ids

-- The ids of the messages that may come again once one more is printed: a subscription has 16 that are not acknowledged at most, and those
-- that were printed first are acknowledged first.
abbrev pub newest : List (List ℕ) → List (List ℕ)
newest ids = cond (nat_lt 16 (length ids)) (remove ids 0) ids

abbrev pub printed_after : List ℕ → List (List ℕ) → List (List ℕ)
printed_after id ids = cond (is_among id ids) ids (newest (ids ++ id ∷ []))

-- It connects again: it had a session, messages are to come, and the server is gone before the next one.
abbrev pub goes_on : ClientFault → Course → Bool
goes_on fault course = not course.is_once && (course.has_listened && (nat_lt 0 course.left && (is_before_message fault.step && is_gone fault.cause)))
