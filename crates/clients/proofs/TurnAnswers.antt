-- What a turn answers.
use Rattle.std.proofs.Common.{◌≡◌, ℕ, ◌<◌, ◌≤◌, List, [], ◌∷◌, ◌++◌, Bool, true, false, Option, Some, None, length, refl, sym, ap, ◌∙◌, subst, arith, append-nil}
use Rattle.std.specs.Prelude.{IsSome, option_map}
use Rattle.std.proofs.lemmas.List.{length-append}
use Rattle.claim_core.specs.declared.limits.TheConstants.{WINDOW}
use Rattle.claim_core.specs.Appends.{Appends, Refuses}
use Rattle.claim_core.specs.Counts.{Pair}
use Rattle.claim_core.specs.Seats.{SessionSeatValue}
use Rattle.claim_core.specs.declared.refusals.Refused.{Refused}
use Rattle.claim_core.specs.declared.refusals.Refused.TheVariants as refusals
use Rattle.command_core.specs.Commands.{CommandValue}
use Rattle.clients.specs.declared.progress.Progress.{Progress}
use Rattle.clients.specs.declared.progress.Stage.{Stage}
use Rattle.clients.specs.declared.progress.Stage.TheVariants.{Running}
use Rattle.clients.specs.TurnAnswers.{Appended, Awaits, AwaitsBy, GoesOnYet, Grows, Heard, IsPressing, IsQuiet, IsRest, IsSatisfied, IsSeen, Leaves}
use Rattle.clients.specs.Refusals.{WaitsIfFull}
use Rattle.clients.specs.ClientSteps.{SaysNext, TakesStep}
use Rattle.clients.specs.declared.turned.Outcome.{Outcome}
use Rattle.clients.specs.declared.turned.Outcome.TheVariants as steps
use Rattle.clients.specs.Boxes.{BoxEntry}
use Rattle.clients.specs.declared.client.Client.{Client}
use Rattle.clients.specs.declared.turned.Next.{Next}
use Rattle.clients.specs.declared.turned.Next.TheVariants as next

-- ── commands that are appended ──

pub grows_by : (window : ℕ) (s t : SessionSeatValue) (ticket : ℕ) (c : CommandValue) → Appends window s t ticket c → length s.own < length t.own
grows_by window s t ticket c a =
    let more : length t.own ≡ length (s.own ++ (ticket, c) ∷ []) = ap (λ (x : SessionSeatValue). length x.own) a.added in
    omega (arith, more, length-append s.own ((ticket, c) ∷ []))

pub wider : (window most : ℕ) (s t : SessionSeatValue) (ticket : ℕ) (c : CommandValue) → window ≤ most → Appends window s t ticket c → Appends most s t ticket c
wider window most s t ticket c less a = record { added = a.added; no_less = a.no_less; near = a.near; room = omega (arith, less, a.room); unseen = a.unseen; last = a.last }

pub spoken_grows : (command : CommandValue) (was is : Progress) (last later : Option ℕ) (s t : SessionSeatValue) (ticket : ℕ) → SaysNext command was last s is later t ticket → length s.own < length t.own
spoken_grows command was is last later s t ticket so = grows_by WINDOW s t ticket command so.appends

none_appended : (s t : SessionSeatValue) → t.own ≡ s.own → (b : Bool) → b ≡ false → Appended b s t
none_appended s t own true is = absurd (let e : true ≡ false = is in cc)
none_appended s t own false is = own

-- one act more
pub appended_then : (b : Bool) (step : Outcome) (s t u : SessionSeatValue) → Appended b s t → Grows step t u → (step ≡ steps.Appended → ⊥) → Appended b s u
appended_then b steps.Appended s t u a g other = absurd (other refl)
appended_then true steps.Done s t u a g other = omega (arith, a, ap (λ (l : List Pair). length l) g)
appended_then false steps.Done s t u a g other = g ∙ a
appended_then true (steps.Room mark) s t u a g other = omega (arith, a, ap (λ (l : List Pair). length l) g)
appended_then false (steps.Room mark) s t u a g other = g ∙ a
appended_then true steps.Memory s t u a g other = omega (arith, a, ap (λ (l : List Pair). length l) g)
appended_then false steps.Memory s t u a g other = g ∙ a
appended_then true steps.Rest s t u a g other = omega (arith, a, ap (λ (l : List Pair). length l) g)
appended_then false steps.Rest s t u a g other = g ∙ a

pub appended_now : (b : Bool) (s t u : SessionSeatValue) → Appended b s t → length t.own < length u.own → length s.own < length u.own
appended_now true s t u a g = omega (arith, a, g)
appended_now false s t u a g = omega (arith, g, ap (λ (l : List Pair). length l) a)

pub appended_still : (b : Bool) (s t u : SessionSeatValue) → Appended b s t → u.own ≡ t.own → Appended b s u
appended_still true s t u a own = omega (arith, a, ap (λ (l : List Pair). length l) own)
appended_still false s t u a own = own ∙ a

-- ── an entry that the ring refuses ──

full_of : (p : Option BoxEntry) (entry : BoxEntry) → p ≡ Some entry → IsSome p
full_of p entry is = subst (λ x. IsSome x) (sym is) refl

held_by : (window : ℕ) (refused : Refused) (entry : BoxEntry) (p : Option BoxEntry) (step : Outcome) (s t : SessionSeatValue) → Refuses window s t refused → WaitsIfFull entry refused p step → Grows step s t × Leaves step p
held_by window refusals.Stopped entry p step s t r h = subst (λ x. Grows x s t × Leaves x p) (sym h) (ap (λ (x : SessionSeatValue). x.own) r, tt)
held_by window refusals.Exhausted entry p step s t r h = subst (λ x. Grows x s t × Leaves x p) (sym h) (ap (λ (x : SessionSeatValue). x.own) r.2, tt)
held_by window (refusals.Busy mark) entry p step s t r h =
    let own : t.own ≡ s.own = ap (λ (x : SessionSeatValue). x.own) r.3 in
    subst (λ x. Grows x s t × Leaves x p) (sym h.1) (own, full_of p entry h.0)

held_seen : (window : ℕ) (refused : Refused) (entry : BoxEntry) (p : Option BoxEntry) (step : Outcome) (s t : SessionSeatValue) → Refuses window s t refused → WaitsIfFull entry refused p step → IsSeen step t
held_seen window refusals.Stopped entry p step s t r h = subst (λ x. IsSeen x t) (sym h) tt
held_seen window refusals.Exhausted entry p step s t r h = subst (λ x. IsSeen x t) (sym h) tt
held_seen window (refusals.Busy mark) entry p step s t r h = subst (λ x. IsSeen x t) (sym h.1) (omega (arith, ap (λ (x : SessionSeatValue). x.seen) r.3))

pub held_takes : (window : ℕ) (refused : Refused) (entry : BoxEntry) (p : Option BoxEntry) (step : Outcome) (s t : SessionSeatValue) → Refuses window s t refused → WaitsIfFull entry refused p step → TakesStep step s t p
held_takes window refused entry p step s t r h = let by = held_by window refused entry p step s t r h in record { grows = by.0; leaves = by.1; seen = held_seen window refused entry p step s t r h }

pub quiet_takes : (step : Outcome) (p : Option BoxEntry) (s : SessionSeatValue) → IsQuiet step → TakesStep step s s p
quiet_takes steps.Done p s q = record { grows = refl; leaves = tt; seen = tt }
quiet_takes steps.Memory p s q = record { grows = refl; leaves = tt; seen = tt }
quiet_takes steps.Appended p s q = absurd q
quiet_takes (steps.Room mark) p s q = absurd q
quiet_takes steps.Rest p s q = absurd q

pub still_leaves : (step : Outcome) (p q : Option BoxEntry) → q ≡ p → Leaves step p → Leaves step q
still_leaves step p q waiting l = subst (λ x. Leaves step x) (sym waiting) l

-- ── what it waits for ──

pub awaits : {B : Type 0} (n : Next) (last : Outcome) (client : Client B) → AwaitsBy n last client → Leaves last client.waiting → Awaits n client
awaits next.Go last client a l = a
awaits next.Read last client a l = a
awaits next.Write last client a l = a
awaits (next.Room mark) last client a l = (a.0, subst (λ x. Leaves x client.waiting) a.1 l)
awaits (next.Mark mark) last client a l = a
awaits next.Memory last client a l = a
awaits next.Close last client a l = a
awaits (next.Over ended) last client a l = a

runs_yet : (stage : Stage) → stage ≡ Running → GoesOnYet stage
runs_yet stage runs = subst GoesOnYet (sym runs) tt

pub pressing_so : {B : Type 0} (n : Next) (last : Outcome) (client : Client B) → GoesOnYet client.stage → IsPressing n last → AwaitsBy n last client
pressing_so next.Go last client on p = on
pressing_so next.Memory last client on p = on
pressing_so (next.Room mark) last client on p = (on, p)
pressing_so (next.Mark mark) last client on p = absurd p
pressing_so next.Read last client on p = absurd p
pressing_so next.Write last client on p = absurd p
pressing_so next.Close last client on p = absurd p
pressing_so (next.Over ended) last client on p = absurd p

pub runs_pressing : {B : Type 0} (n : Next) (last : Outcome) (client : Client B) → client.stage ≡ Running → IsPressing n last → AwaitsBy n last client
runs_pressing n last client runs p = pressing_so n last client (runs_yet client.stage runs) p

pub rests_so : {B : Type 0} (n : Next) (last : Outcome) (client : Client B) → client.stage ≡ Running → IsSatisfied client → IsRest n client → AwaitsBy n last client
rests_so next.Read last client runs s r = (runs, s)
rests_so (next.Mark mark) last client runs s r = (runs, (s.0, s.1), r)
rests_so (next.Room mark) last client runs s r = absurd r
rests_so next.Go last client runs s r = absurd r
rests_so next.Memory last client runs s r = absurd r
rests_so next.Write last client runs s r = absurd r
rests_so next.Close last client runs s r = absurd r
rests_so (next.Over ended) last client runs s r = absurd r

-- ── what was heard ──

pub heard_still : {L : Type 0} (received : L → Option (List ℕ)) (b : Bool) (from mid to : L) → Heard received b from mid → received to ≡ received mid → Heard received b from to
heard_still received true from mid to h same = tt
heard_still received false from mid to h same = same ∙ h

pub no_more : (old new : Option (List ℕ)) → new ≡ option_map (λ bytes. bytes ++ []) old → new ≡ old
no_more None new is = is
no_more (Some bytes) new is = is ∙ ap (λ b. Some b) (append-nil bytes)
