-- What a turn reports of its link and its seat.
use Rattle.std.proofs.Common.{◌≡◌, ◌≤◌, ◌+◌, ◌++◌, ◌∷◌, ◌∙◌, ℕ, List, [], Bool, Option, Some, None, refl, sym, ap, subst, inl, inr, arith, append-nil, append_assoc}
use Rattle.std.specs.Prelude.{option_map}
use Rattle.std.proofs.lemmas.List.{length-append}
use Rattle.claim_core.specs.Seats.{SessionSeatValue}
use Rattle.frame_core.specs.Written.{written}
use Rattle.ws_core.specs.Sending.{with_message}
use Rattle.clients.specs.Connections.{ConnectionValue, connection_of, with_room}
use Rattle.clients.specs.Relays.{Passage, Relays}
use Rattle.clients.specs.TurnAnswers.{AwaitsBy, IsSeen}
use Rattle.clients.specs.Reports.{IsUnsent, MayRead, Reports, ReportsAt, SendsFew}
use Rattle.clients.specs.Acts.{all_of}
use Rattle.clients.specs.declared.relaying.Relayed.{Relayed}
use Rattle.clients.specs.declared.relaying.Relayed.TheVariants as relayed
use Rattle.clients.specs.declared.turned.Outcome.{Outcome}
use Rattle.clients.specs.declared.turned.Outcome.TheVariants as steps
use Rattle.clients.specs.declared.desk.Seated.{Seated}
use Rattle.clients.specs.declared.client.Client.{Client}
use Rattle.clients.specs.declared.turned.Next.{Next}
use Rattle.clients.specs.declared.turned.Next.TheVariants as next
use Rattle.clients.specs.declared.turned.Turned.{Turned}

-- ── messages ──

none_told : (sent : Option (List (List ℕ))) → sent ≡ option_map (λ s. s ++ []) sent
none_told None = refl
none_told (Some s) = ap (λ x. Some x) (sym (append-nil s))

-- none
pub sends_none : {L : Type 0} (sent : L → Option (List (List ℕ))) (most : ℕ) (l m : L) → sent m ≡ sent l → SendsFew sent most l m
sends_none sent most l m same = record { messages = []; told = same ∙ none_told (sent l); few = omega arith }

-- one
pub sends_one : {L : Type 0} (sent : L → Option (List (List ℕ))) (l m : L) (message : List ℕ) → sent m ≡ with_message message (sent l) → SendsFew sent 1 l m
sends_one sent l m message told = record { messages = message ∷ []; told = told; few = omega arith }

joined_messages : (sent : Option (List (List ℕ))) (a b : List (List ℕ)) → option_map (λ s. s ++ b) (option_map (λ s. s ++ a) sent) ≡ option_map (λ s. s ++ (a ++ b)) sent
joined_messages None a b = refl
joined_messages (Some s) a b = ap (λ x. Some x) (append_assoc s a b)

-- some, and then others
pub sends_then : {L : Type 0} (sent : L → Option (List (List ℕ))) (a b most : ℕ) (l m n : L) → a + b ≤ most → SendsFew sent a l m → SendsFew sent b m n → SendsFew sent most l n
sends_then sent a b most l m n within first second = record {
  messages = first.messages ++ second.messages;
  told = second.told ∙ ap (λ o. option_map (λ s. s ++ second.messages) o) first.told ∙ joined_messages (sent l) first.messages second.messages;
  few = omega (arith, within, first.few, second.few, length-append first.messages second.messages);
}

pub sends_wider : {L : Type 0} (sent : L → Option (List (List ℕ))) (few most : ℕ) (l m : L) → few ≤ most → SendsFew sent few l m → SendsFew sent most l m
sends_wider sent few most l m within s = record { messages = s.messages; told = s.told; few = omega (arith, within, s.few) }

-- by one call of `relay`
pub relays_one : {L : Type 0} (sent : L → Option (List (List ℕ))) (l m : L) (session : ℕ) (p q : Passage) (seen : ℕ) (r : Relayed) → p.sent ≡ sent l → q.sent ≡ sent m → Relays session p q seen r → SendsFew sent 1 l m
relays_one sent l m session p q seen (relayed.Sent n verb bytes) from to s = sends_one sent l m (written s.out.frame) (sym to ∙ s.told ∙ ap (λ o. with_message (written s.out.frame) o) from)
relays_one sent l m session p q seen relayed.Waits from to s = sends_none sent 1 l m (sym to ∙ s.untold ∙ from)
relays_one sent l m session p q seen relayed.Foreign from to s = sends_none sent 1 l m (sym to ∙ s.untold ∙ from)
relays_one sent l m session p q seen relayed.Empty from to f = sends_none sent 1 l m (sym to ∙ f.same.1 ∙ from)
relays_one sent l m session p q seen relayed.Cut from to f = sends_none sent 1 l m (sym to ∙ f.same.1 ∙ from)

-- ── marks ──

pub seen_later : (step : Outcome) (s t : SessionSeatValue) → s.seen ≤ t.seen → IsSeen step s → IsSeen step t
seen_later steps.Appended s t later seen = tt
seen_later steps.Done s t later seen = tt
seen_later (steps.Room mark) s t later seen = omega (arith, later, seen)
seen_later steps.Memory s t later seen = tt
seen_later steps.Rest s t later seen = tt

pub room_seen : {B : Type 0} (mark : ℕ) (n : Next) (last : Outcome) (client : Client B) (seat : SessionSeatValue) → n ≡ next.Room mark → AwaitsBy n last client → IsSeen last seat → mark ≤ seat.seen
room_seen mark n last client seat room awaits seen =
    let its = subst (λ x. AwaitsBy x last client) room awaits in
    subst (λ x. IsSeen x seat) its.1 seen

-- ── at a place ──

-- what it may have changes nothing of what may be read
pub may_allowed : {B : Type 0} (room : ℕ) (was mid : Client B) (held_up : Bool) → (connection_of mid) ≡ with_room room (connection_of was) → mid.waiting ≡ was.waiting → mid.kept ≡ was.kept → MayRead mid held_up → MayRead was held_up
may_allowed room was mid held_up allows waits kept (inl free) = inl (record {
  runs = sym (ap (λ (c : ConnectionValue). c.stage) allows) ∙ free.runs;
  satisfied = (sym waits ∙ free.satisfied.0, sym (ap (λ (c : ConnectionValue). all_of c.acts) allows) ∙ free.satisfied.1);
  sent = λ unsent. free.sent (subst IsUnsent (sym kept) unsent);
  taken = free.taken;
})
may_allowed room was mid held_up allows waits kept (inr parting) = inr (parting.0, sym (ap (λ (c : ConnectionValue). c.stage) allows) ∙ parting.1)

pub reports_at : {B L : Type 0} (sent : L → Option (List (List ℕ))) (held_up : L → Bool) (room : ℕ) (o : Option (Seated B L)) (was is : Seated B L) (mid : Client B) (turned : Turned) (seat : SessionSeatValue)
    → o ≡ Some was → (connection_of mid) ≡ with_room room (connection_of was.client) → (mid.waiting ≡ was.client.waiting) × (mid.opening ≡ was.client.opening) × (mid.outbox ≡ was.client.outbox) × (mid.kept ≡ was.client.kept)
    → Reports sent held_up mid was.link turned is.client seat is.link → ReportsAt sent held_up turned seat o (Some is)
reports_at sent held_up room o was is mid turned seat sat allows same r = subst (λ x. ReportsAt sent held_up turned seat x (Some is)) (sym sat) (
  is,
  refl,
  record {
    heard = λ heard. may_allowed room was.client mid (held_up was.link) allows same.0 same.3 (r.heard heard);
    write = r.write;
    room = r.room;
    close = r.close;
    few = r.few;
  },
)
