-- What one call of `relay` does.
use Rattle.std.specs.Prelude.{◌≡◌, ◌≢◌, ℕ, ◌<◌, ◌≤◌, ◌⊎◌, List, Option, length}
use Rattle.claim_core.specs.Seats.{SessionSeatValue, with_seen}
use Rattle.command_core.specs.Outs.{OutValue}
use Rattle.frame_core.specs.declared.frame.Verb.{Verb}
use Rattle.frame_core.specs.Written.{written}
use Rattle.outbox_core.specs.Boxes.{TakerValue}
use Rattle.outbox_core.specs.Takes.{Takes, TakesNothing}
use Rattle.outbox_core.specs.declared.taker.Taken.TheVariants as took
use Rattle.ws_core.specs.Sending.{with_message}
use Rattle.ws_core.specs.declared.link.LinkFault.{LinkFault}
use Rattle.ws_core.specs.declared.link.LinkFault.TheVariants.{Memory}
use Rattle.clients.specs.declared.relaying.Kept.{Kept}
use Rattle.clients.specs.declared.relaying.Kept.TheVariants as kept
use Rattle.clients.specs.declared.relaying.Relayed.{Relayed}
use Rattle.clients.specs.declared.relaying.Relayed.TheVariants as relayed

-- The seat has read the ring's mark, which never falls, and nothing else has changed.
pub record ReadsMark (old new : SessionSeatValue) : Type 0 where
  pub seen : new ≡ with_seen old new.seen
  pub no_less : old.seen ≤ new.seen

-- A link refused a message, for that fault: after `Memory` it is as it was.
pub record LinkRefuses {L : Type 0} (refuses : L → L → LinkFault → Type 0) (old new : L) (why : LinkFault) : Type 0 where
  pub fault : refuses old new why
  pub memory : why ≡ Memory → new ≡ old

-- An outbox's taking end, the output that is kept, and what the link tells that it sent.
pub record Passage : Type 0 where
  pub taker : TakerValue
  pub kept : Kept
  pub sent : Option (List (List ℕ))

abbrev pub passage : TakerValue → Kept → Option (List (List ℕ)) → Passage
passage taker kept sent = record { taker = taker; kept = kept; sent = sent }

-- the output that a call handles: the one that was kept, or else the next one taken
abbrev pub Handles : Kept → TakerValue → TakerValue → OutValue → Type 0
Handles kept.Nothing old new out = Takes old (took.Item out) new
Handles (kept.Waits one) old new out = (out ≡ one) × (new ≡ old)
Handles (kept.Unsent one) old new out = (out ≡ one) × (new ≡ old)

-- the kept output may leave, as was found before
abbrev pub MayLeave : Kept → Type 0
MayLeave (kept.Unsent one) = Unit {0}
MayLeave _ = ⊥

-- The output, which is of that session, had its frame sent as one message, and nothing is kept. Its number is under the mark that was
-- read, now or when it was found that it may leave.
pub record Sends (session : ℕ) (old new : Passage) (seen number : ℕ) (verb : Verb) (bytes : ℕ) : Type 0 where
  pub out : OutValue
  pub handled : Handles old.kept old.taker new.taker out
  pub told : new.sent ≡ with_message (written out.frame) old.sent
  pub number_is : number ≡ out.number
  pub verb_is : verb ≡ out.frame.verb
  pub bytes_is : bytes ≡ length out.frame.body
  pub own : out.session ≡ session
  pub nothing_kept : new.kept ≡ kept.Nothing
  pub under : MayLeave old.kept ⊎ (out.number < seen)

-- The output is not under the mark that was read, and is kept. Nothing was sent.
pub record HoldsBack (old new : Passage) (seen : ℕ) : Type 0 where
  pub out : OutValue
  pub handled : Handles old.kept old.taker new.taker out
  pub untold : new.sent ≡ old.sent
  pub is_kept : new.kept ≡ kept.Waits out
  pub not_under : seen ≤ out.number

-- The output may leave, and is of another session. It is kept, and nothing was sent.
pub record Withholds (session : ℕ) (old new : Passage) (seen : ℕ) : Type 0 where
  pub out : OutValue
  pub handled : Handles old.kept old.taker new.taker out
  pub untold : new.sent ≡ old.sent
  pub is_kept : new.kept ≡ kept.Unsent out
  pub under : MayLeave old.kept ⊎ (out.number < seen)
  pub foreign : out.session ≢ session

-- There was no output: none was kept, and none was taken. Nothing was sent.
pub record FindsNone (old new : Passage) : Type 0 where
  pub nothing_kept : old.kept ≡ kept.Nothing
  pub nothing_taken : TakesNothing old.taker new.taker
  pub same : (new.kept ≡ old.kept) × (new.sent ≡ old.sent)

-- what a call did, by its answer and the mark that was read
abbrev pub Relays : ℕ → Passage → Passage → ℕ → Relayed → Type 0
Relays session old new seen (relayed.Sent number verb bytes) = Sends session old new seen number verb bytes
Relays session old new seen relayed.Waits = HoldsBack old new seen
Relays session old new seen relayed.Foreign = Withholds session old new seen
Relays session old new seen relayed.Empty = FindsNone old new
Relays session old new seen relayed.Cut = FindsNone old new

-- The link refused the output, which may leave and is kept. Nothing was sent.
pub record IsRefused (session : ℕ) (old new : Passage) (seen : ℕ) : Type 0 where
  pub out : OutValue
  pub handled : Handles old.kept old.taker new.taker out
  pub untold : new.sent ≡ old.sent
  pub is_kept : new.kept ≡ kept.Unsent out
  pub under : MayLeave old.kept ⊎ (out.number < seen)
  pub own : out.session ≡ session

-- the next output that may leave was found, and nothing is kept
pub record Finds (old new : Kept) (before after : TakerValue) (seen : ℕ) (out : OutValue) : Type 0 where
  pub handled : Handles old before after out
  pub nothing_kept : new ≡ kept.Nothing
  pub under : MayLeave old ⊎ (out.number < seen)
