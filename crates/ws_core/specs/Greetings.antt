-- A handshake that goes on from call to call.
use Rattle.std.specs.Prelude.{◌≡◌, ◌≤◌, ℕ, List, Bool, codes, false, true, nat_eq, not, [], Option, None, Some, cond, length, take, ⊤}
use Rattle.std.specs.List.{starts_with}
use Rattle.std.specs.Io.KnownBytes.{Appends, Consumes}
use Rattle.ws_core.specs.declared.handshake.Answer.{Answer}
use Rattle.ws_core.specs.declared.handshake.Answer.TheVariants.{Refuse}
use Rattle.ws_core.specs.declared.refusal.Saying.{Saying}
use Rattle.ws_core.specs.declared.handshake.Vacancy.{Vacancy}
use Rattle.ws_core.specs.declared.handshake.Vacancy.TheVariants.{Any, Ping, Nobody}
use Rattle.ws_core.specs.Handshakes.{IsAnswerTo, as_full, is_head, response_to}

-- the head is that of a ping
abbrev pub is_ping : List ℕ → Bool
is_ping head = starts_with nat_eq head (codes "GET /stompd-ping ")

-- a client with this head finds no place
abbrev pub shuts_out : Vacancy → List ℕ → Bool
shuts_out Any head = false
shuts_out Ping head = not (is_ping head)
shuts_out Nobody head = true

-- The stream as it was given, the origins whose pages are served, and whom the server has a place for.
pub record Greeter (S : Type 0) : Type 0 where
  pub opening : S
  pub origins : List (List ℕ)
  pub vacancy : Vacancy

-- A client's handshake as far as it has come: what it was begun with, the stream by now, and what is kept of the head.
pub record Handshake (S : Type 0) : Type 0 where
  pub greeter : Greeter S
  pub stream : S
  pub head : List ℕ

-- one that has only begun
abbrev pub begun : {S : Type 0} → Greeter S → Handshake S
begun g = record { greeter = g; stream = g.opening; head = [] }

abbrev pub greeter : {S : Type 0} → S → List (List ℕ) → Vacancy → Greeter S
greeter opening origins vacancy = record { opening = opening; origins = origins; vacancy = vacancy }

-- the answer, unless the client finds no place
abbrev pub answer_at : Bool → Answer → Answer
answer_at is_shut_out answer = cond is_shut_out (as_full answer) answer

module _ {S : Type 0} (remaining contents : S → Option (List ℕ)) where
  -- The stream gave these bytes, and is answered so; then this was written.
  pub record Tells (g : Greeter S) (head : List ℕ) (new : S) (answer : Answer) (written : List ℕ) : Type 0 where
    pub between : S
    pub read : Consumes (remaining g.opening) (remaining between) head
    pub given : Answer
    pub answered : IsAnswerTo g.origins head given
    pub is : answer ≡ answer_at (shuts_out g.vacancy head) given
    pub wrote : Appends (contents between) (contents new) written

  -- so much of the response was written
  pub record Says (g : Greeter S) (head : List ℕ) (new : S) (saying : Saying) : Type 0 where
    pub within : saying.said ≤ length saying.response.items
    pub response : saying.response.items ≡ response_to (is_head head) saying.answer
    pub tells : Tells g head new saying.answer (take saying.said saying.response.items)

  -- All that the stream gave is kept, until it has an answer; from then on only that is written.
  abbrev pub IsUnderWay : Greeter S → List ℕ → S → Option Saying → Type 0
  IsUnderWay g head new None = Consumes (remaining g.opening) (remaining new) head
  IsUnderWay g head new (Some saying) = Says g head new saying
