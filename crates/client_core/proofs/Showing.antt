-- Messages are shown piece by piece.
use Rattle.std.proofs.Common.{◌≡◌, ◌≢◌, ◌+◌, ◌++◌, ◌⊎◌, List, [], ◌∷◌, ℕ, Bool, IfOk, MatchOption, None, OnOk, Option, Result, Ok, Err, Some, arith, false, length, length-append, refl, subst, sym, true, inl, inr}
use Rattle.std.specs.Borrow.{Bor}
use Rattle.std.proofs.lemmas.List.{append-nil}
use Rattle.frame_core.specs.declared.fault.FrameFault.{FrameFault}
use Rattle.frame_core.specs.declared.frame.Frame.{Frame}
use Rattle.frame_core.specs.Streams.{Fails, Reads}
use Rattle.frame_core.specs.Written.{written}
use Rattle.client_core.specs.Answers.{said}
use Rattle.client_core.specs.Deeds.{AreDone}
use Rattle.client_core.specs.Listening.{AllAreShown, AreLeft, AreShown, EndsIn, EndsWell, Listens, ListensIn}
use Rattle.client_core.specs.Requests.{connect_frame, subscribe_frame}
use Rattle.client_core.specs.Talks.{Adds, Answers, Heard, Said, Spoken, all_of, turn}
use Rattle.client_core.specs.declared.plan.Plan.{Plan}
use Rattle.client_core.specs.declared.probe.Probe.TheVariants.{Connect, Disconnect}
use Rattle.client_core.proofs.Turns.{then}

-- what was read is shown, if no fault stands after it
pub reads_shown : {E : Type 0} (r : Result ℕ E) (plan : Plan) (bytes rest : List ℕ) (failed : Bool) (frames : List Frame) (fault : Option FrameFault) (before : ℕ) (x y : Option (List Spoken))
    → MatchOption fault (Reads bytes frames rest × (failed ≡ false)) (λ f. Fails bytes frames f × (failed ≡ true)) → OnOk r (fault ≡ None)
    → IfOk r (λ after. (messages : List Frame) × (others : List Frame) × (acts : List Spoken) × (frames ≡ messages ++ others) × AreLeft before after messages others × AreDone plan messages acts × Adds acts x y)
    → IfOk r (λ after. (messages : List Frame) × (others : List Frame) × (acts : List Spoken) × EndsIn plan bytes messages others acts rest × AreLeft before after messages others × Adds acts x y)
reads_shown (Err e) plan bytes rest failed frames fault before x y reads sound shown = tt
reads_shown (Ok after) plan bytes rest failed frames (Some f) before x y reads sound shown = cc
reads_shown (Ok after) plan bytes rest failed frames None before x y reads sound shown =
    (shown.0, shown.1, shown.2, (subst (λ l. Reads bytes l rest) shown.3 reads.0, shown.5), shown.4, shown.6)

-- so is a piece once it is heard
pub heard_shown : {E : Type 0} (r : Result ℕ E) (plan : Plan) (unread rest piece slice : List ℕ) (before : ℕ) (x y z : Option (List Spoken)) → slice ≡ piece → Adds (Heard piece ∷ []) x y
    → IfOk r (λ after. (messages : List Frame) × (others : List Frame) × (acts : List Spoken) × EndsIn plan (unread ++ slice) messages others acts rest × AreLeft before after messages others × Adds acts y z)
    → IfOk r (λ after. (piece : List ℕ) × (messages : List Frame) × (others : List Frame) × (acts : List Spoken) × EndsIn plan (unread ++ piece) messages others acts rest × AreLeft before after messages others
    × Adds (Heard piece ∷ acts) x z)
heard_shown (Err e) plan unread rest piece slice before x y z same heard shown = tt
heard_shown (Ok after) plan unread rest piece slice before x y z same heard shown =
    let ends = subst (λ p. EndsIn plan (unread ++ p) shown.0 shown.1 shown.2 rest) same shown.3 in
    (piece, shown.0, shown.1, shown.2, ends, shown.4, then (Heard piece ∷ []) shown.2 x y z heard shown.5)

-- what was shown so far, with so many messages to come
abbrev pub ShownSoFar : Plan → ℕ → Option (List Spoken) → Option (List Spoken) → List ℕ → Type 0
ShownSoFar plan left before after rest =
    (pieces : List (List ℕ)) × (messages : List Frame) × (others : List Frame) × (talk : List Spoken) × AreShown plan pieces messages others talk rest
    × Adds talk before after × (left + length messages ≡ plan.count) × ((left ≡ 0) ⊎ (others ≡ []))

nothing_added : (x : Option (List Spoken)) → Adds [] x x
nothing_added None = tt
nothing_added (Some x) = sym (append-nil x)

pub nothing_shown : (plan : Plan) (x : Option (List Spoken)) (rest : List ℕ) → rest ≡ [] → ShownSoFar plan plan.count x x rest
nothing_shown plan x rest none = ([], [], [], [], (refl, refl, refl, none), nothing_added x, omega arith, inr refl)

none_over : (left : ℕ) (others : List Frame) → left ≢ 0 → (left ≡ 0) ⊎ (others ≡ []) → others ≡ []
none_over left others more (inl zero) = absurd (more zero)
none_over left others more (inr none) = none

pub goes_on : (plan : Plan) (left after : ℕ) (x y z : Option (List Spoken)) (unread rest : List ℕ) → left ≢ 0 → ShownSoFar plan left x y unread
    → ((piece : List ℕ) × (messages : List Frame) × (others : List Frame) × (acts : List Spoken) × EndsIn plan (unread ++ piece) messages others acts rest × AreLeft left after messages others × Adds (Heard piece ∷ acts) y z)
    → ShownSoFar plan after x z rest
goes_on plan left after x y z unread rest more so_far one =
    let earlier = subst (λ others. AreShown plan so_far.0 so_far.1 others so_far.3 unread) (none_over left so_far.2 more so_far.7) so_far.4 in
    let sum = length-append so_far.1 one.1 in (
      one.0 ∷ so_far.0,
      so_far.1 ++ one.1,
      one.2,
      so_far.3 ++ Heard one.0 ∷ one.3,
      (so_far.1, one.1, so_far.3, one.3, unread, earlier, one.4, refl, refl),
      then so_far.3 (Heard one.0 ∷ one.3) x y z so_far.5 one.6,
      omega (arith, sum, so_far.6, one.5.0),
      one.5.1,
    )

pub all_shown : (plan : Plan) (left : ℕ) (x y : Option (List Spoken)) (rest : List ℕ) → left ≡ 0 → ShownSoFar plan left x y rest → (listening : List Spoken) × AllAreShown plan listening rest × Adds listening x y
all_shown plan left x y rest zero so_far = (so_far.3, (so_far.0, so_far.1, so_far.2, so_far.4, omega (arith, zero, so_far.6)), so_far.5)

-- which begins with the SUBSCRIBE
pub subscribed : {E : Type 0} (r : Result (Unit {0}) E) (plan : Plan) (text rest : List ℕ) (x y z : Option (List Spoken)) → Adds (Said text ∷ []) x y
    → OnOk r ((listening : List Spoken) × AllAreShown plan listening rest × Adds listening y z) → OnOk r ((listening : List Spoken) × AllAreShown plan listening rest × Adds (Said text ∷ listening) x z)
subscribed (Ok u) plan text rest x y z said shown = (shown.0, shown.1, then (Said text ∷ []) shown.0 x y z said shown.2)
subscribed (Err e) plan text rest x y z said shown = tt

-- and ends with the RECEIPT of the DISCONNECT
pub listens : {E : Type 0} (r : Result (Unit {0}) E) (plan : Plan) (rest : List ℕ) (x y z : Option (List Spoken))
    → ((listening : List Spoken) × AllAreShown plan listening rest × Adds (Said (written (subscribe_frame plan)) ∷ listening) x y)
    → OnOk r ((last : List (List ℕ)) × Adds (turn (said Disconnect) last) y z × EndsWell (rest ++ all_of last))
    → OnOk r ((talk : List Spoken) × ListensIn plan talk × Adds talk x z)
listens (Ok u) plan rest x y z shown left =
    let first = Said (written (subscribe_frame plan)) ∷ shown.0 in (
      first ++ turn (said Disconnect) left.0,
      record { listening = shown.0; rest = rest; last = left.0; whole = refl; shown = shown.1; ends = left.2 },
      then first (turn (said Disconnect) left.0) x y z shown.2 left.1,
    )
listens (Err e) plan rest x y z shown left = tt

-- in a session that is open
pub opened : {E : Type 0} (r : Result (Unit {0}) E) (host : List ℕ) (client : Option (Bor (List ℕ))) (plan : Plan) (x y z : Option (List Spoken)) → Answers Connect (written (connect_frame host client)) x y
    → OnOk r ((talk : List Spoken) × ListensIn plan talk × Adds talk y z) → OnOk r (Listens host client plan x z)
opened (Ok u) host client plan x y z opens listens = (y, listens.0, opens, listens.1, listens.2)
opened (Err e) host client plan x y z opens listens = tt
