-- What is heard piece by piece, and one turn after another.
use Rattle.std.proofs.Common.{◌≡◌, ◌∙◌, ◌++◌, ◌⊎◌, List, [], ◌∷◌, ℕ, Bool, IfErr, OnOk, Option, Some, None, Result, Ok, Err, true, false, ap, append_assoc, map, refl, subst, sym, inl, inr}
use Rattle.frame_core.specs.declared.fault.FrameFault.{FrameFault}
use Rattle.frame_core.specs.declared.frame.Frame.{Frame}
use Rattle.frame_core.specs.Streams.{Frames}
use Rattle.frame_core.proofs.Joins.{joined, joined_fault}
use Rattle.client_core.specs.Answers.{Breaks, Gives, Hears, said}
use Rattle.client_core.specs.Talks.{Adds, Answers, AreDoneFirst, BreaksOff, Converses, HasReason, Heard, IsAnswered, IsOfPeer, IsUnanswered, Leads, Refuses, Said, Spoken, all_of, turn}
use Rattle.client_core.specs.declared.fault.Cause.{Cause}
use Rattle.client_core.specs.declared.fault.ClientFault.{ClientFault}
use Rattle.client_core.specs.declared.probe.Probe.{Probe}
use Rattle.client_core.specs.declared.probe.Probe.TheVariants.{Connect, Send, Disconnect}

pub then : (a b : List Spoken) (x y z : Option (List Spoken)) → Adds a x y → Adds b y z → Adds (a ++ b) x z
then a b None y z p q = tt
then a b (Some x) None z p q = absurd p
then a b (Some x) (Some y) None p q = absurd q
then a b (Some x) (Some y) (Some z) p q = q ∙ (ap (λ l. l ++ b) p ∙ append_assoc x a b)

-- one piece more
map_more : (pieces : List (List ℕ)) (piece : List ℕ) → map Heard (pieces ++ piece ∷ []) ≡ map Heard pieces ++ Heard piece ∷ []
map_more [] piece = refl
map_more (p ∷ pieces) piece = ap (λ l. Heard p ∷ l) (map_more pieces piece)

nothing_more : (bytes : List ℕ) → bytes ++ [] ≡ bytes
nothing_more [] = refl
nothing_more (b ∷ bytes) = ap (λ l. b ∷ l) (nothing_more bytes)

pub all_more : (pieces : List (List ℕ)) (piece : List ℕ) → all_of (pieces ++ piece ∷ []) ≡ all_of pieces ++ piece
all_more [] piece = nothing_more piece
all_more (p ∷ pieces) piece = ap (λ l. p ++ l) (all_more pieces piece) ∙ sym (append_assoc p (all_of pieces) piece)

-- pieces that were heard, of which this rest is no frame yet
abbrev pub SoFar : Option (List Spoken) → Option (List Spoken) → List ℕ → Type 0
SoFar before after rest = (pieces : List (List ℕ)) × Adds (map Heard pieces) before after × Frames (all_of pieces) [] rest

pub adds_more : (pieces : List (List ℕ)) (piece : List ℕ) (x y z : Option (List Spoken)) → Adds (map Heard pieces) x y → Adds (Heard piece ∷ []) y z → Adds (map Heard (pieces ++ piece ∷ [])) x z
adds_more pieces piece x y z p q = subst (λ l. Adds l x z) (sym (map_more pieces piece)) (then (map Heard pieces) (Heard piece ∷ []) x y z p q)

hears_more : (probe : Probe) (pieces : List (List ℕ)) (piece rest last : List ℕ) (is_answered : Bool) → Frames (all_of pieces) [] rest → Hears probe (rest ++ piece) last is_answered
    → Hears probe (all_of (pieces ++ piece ∷ [])) last is_answered
hears_more probe pieces piece rest last is_answered r h =
    subst (λ bytes. Hears probe bytes last is_answered) (sym (all_more pieces piece))
    (h.0, (joined (all_of pieces) piece [] h.0 rest last r h.1.0, h.1.1), h.2)

gives_more : (stream piece rest : List ℕ) (frames : List Frame) (fault : Option FrameFault) → Frames stream [] rest → Gives (rest ++ piece) frames fault → Gives (stream ++ piece) frames fault
gives_more stream piece rest frames None r g = (g.0, (joined stream piece [] frames rest g.0 r g.1.0, g.1.1))
gives_more stream piece rest frames (Some fault) r g = joined_fault stream piece [] frames rest fault r g

breaks_more : (probe : Probe) (pieces : List (List ℕ)) (piece rest : List ℕ) (cause : Cause) → Frames (all_of pieces) [] rest → Breaks probe (rest ++ piece) cause
    → Breaks probe (all_of (pieces ++ piece ∷ [])) cause
breaks_more probe pieces piece rest cause r b =
    subst (λ bytes. Breaks probe bytes cause) (sym (all_more pieces piece)) (b.0, b.1, gives_more (all_of pieces) piece rest b.0 b.1 r b.2, b.3)

pub goes_on : (probe : Probe) (x y z : Option (List Spoken)) (rest last : List ℕ) → SoFar x y rest → ((piece : List ℕ) × Adds (Heard piece ∷ []) y z × Hears probe (rest ++ piece) last false) → SoFar x z last
goes_on probe x y z rest last so_far heard =
    let h = hears_more probe so_far.0 heard.0 rest last false so_far.2 heard.2 in
    (so_far.0 ++ heard.0 ∷ [], adds_more so_far.0 heard.0 x y z so_far.1 heard.1, subst (λ frames. Frames (all_of (so_far.0 ++ heard.0 ∷ [])) frames last) h.2 h.1.0)

pub comes : (probe : Probe) (x y z : Option (List Spoken)) (rest last : List ℕ) → SoFar x y rest → ((piece : List ℕ) × Adds (Heard piece ∷ []) y z × Hears probe (rest ++ piece) last true)
    → (pieces : List (List ℕ)) × Adds (map Heard pieces) x z × IsAnswered probe pieces
comes probe x y z rest last so_far heard =
    (so_far.0 ++ heard.0 ∷ [], adds_more so_far.0 heard.0 x y z so_far.1 heard.1, (last, hears_more probe so_far.0 heard.0 rest last true so_far.2 heard.2))

pub breaks : (probe : Probe) (x y z : Option (List Spoken)) (rest : List ℕ) (cause : Cause) → SoFar x y rest
    → IsOfPeer cause ⊎ ((piece : List ℕ) × Adds (Heard piece ∷ []) y z × Breaks probe (rest ++ piece) cause)
    → IsOfPeer cause ⊎ ((pieces : List (List ℕ)) × Adds (map Heard pieces) x z × Breaks probe (all_of pieces) cause)
breaks probe x y z rest cause so_far (inl own) = inl own
breaks probe x y z rest cause so_far (inr heard) =
    inr (so_far.0 ++ heard.0 ∷ [], adds_more so_far.0 heard.0 x y z so_far.1 heard.1, breaks_more probe so_far.0 heard.0 rest cause so_far.2 heard.2)

-- a turn begins with what is said
pub answers : (probe : Probe) (text : List ℕ) (x y z : Option (List Spoken)) → Adds (Said text ∷ []) x y → ((pieces : List (List ℕ)) × Adds (map Heard pieces) y z × IsAnswered probe pieces) → Answers probe text x z
answers probe text x y z p heard = (heard.0, then (Said text ∷ []) (map Heard heard.0) x y z p heard.1, heard.2)

pub refuses : (probe : Probe) (text : List ℕ) (x y z : Option (List Spoken)) (cause : Cause) → Adds (Said text ∷ []) x y
    → IsOfPeer cause ⊎ ((pieces : List (List ℕ)) × Adds (map Heard pieces) y z × Breaks probe (all_of pieces) cause) → IsOfPeer cause ⊎ Refuses probe text cause x z
refuses probe text x y z cause p (inl own) = inl own
refuses probe text x y z cause p (inr heard) = inr (heard.0, then (Said text ∷ []) (map Heard heard.0) x y z p heard.1, heard.2)

-- the same, of what was heard if it is so
pub answers_ok : {E : Type 0} (result : Result (Unit {0}) E) (probe : Probe) (text : List ℕ) (x y z : Option (List Spoken)) → Adds (Said text ∷ []) x y
    → OnOk result ((pieces : List (List ℕ)) × Adds (map Heard pieces) y z × IsAnswered probe pieces) → OnOk result (Answers probe text x z)
answers_ok (Ok u) probe text x y z p heard = answers probe text x y z p heard
answers_ok (Err e) probe text x y z p heard = tt

pub refuses_err : (result : Result (Unit {0}) Cause) (probe : Probe) (text : List ℕ) (x y z : Option (List Spoken)) → Adds (Said text ∷ []) x y
    → IfErr result (λ cause. IsOfPeer cause ⊎ ((pieces : List (List ℕ)) × Adds (map Heard pieces) y z × Breaks probe (all_of pieces) cause))
    → IfErr result (λ cause. IsOfPeer cause ⊎ Refuses probe text cause x z)
refuses_err (Ok u) probe text x y z p heard = tt
refuses_err (Err cause) probe text x y z p heard = refuses probe text x y z cause p heard

-- A talk that leads to a probe, and the turn after it.
abbrev pub Led : Probe → Option (List Spoken) → Option (List Spoken) → Type 0
Led probe before after = (talk : List Spoken) × Leads probe talk × Adds talk before after

pub led_to_send : (x y : Option (List Spoken)) → Answers Connect (said Connect) x y → Led Send x y
led_to_send x y a = (turn (said Connect) a.0, (a.0, refl, a.2), a.1)

pub led_to_disconnect : (x y z : Option (List Spoken)) → Answers Connect (said Connect) x y → Answers Send (said Send) y z → Led Disconnect x z
led_to_disconnect x y z a b = (turn (said Connect) a.0 ++ turn (said Send) b.0, (a.0, b.0, refl, a.2, b.2), then (turn (said Connect) a.0) (turn (said Send) b.0) x y z a.1 b.1)

pub converses : (x y z : Option (List Spoken)) → Led Disconnect x y → Answers Disconnect (said Disconnect) y z → Converses x z
converses x y z led a = (led.0, a.0, led.1, then led.0 (turn (said Disconnect) a.0) x y z led.2 a.1, a.2)

-- which stays so, whatever a close comes to that says nothing
pub closed : {A E : Type 0} (P : Option (List Spoken) → Type 0) (result : Result A E) (y z : Option (List Spoken)) → z ≡ y → P y → OnOk result (P z)
closed P (Ok a) y z same whole = subst P (sym same) whole
closed P (Err e) y z same whole = tt

-- why the first probe is not answered, and why a later one is not
pub breaks_later : (probe : Probe) (fault : ClientFault) (x y z : Option (List Spoken)) → Led probe x y → IsUnanswered probe (said probe) fault y z → IsOfPeer fault.cause ⊎ BreaksOff fault x z
breaks_later probe fault x y z led (inl own) = inl own
breaks_later probe fault x y z led (inr at) = inr (probe, led.0, at.1.0, at.0, led.1, then led.0 (turn (said probe) at.1.0) x y z led.2 at.1.1, at.1.2)

-- such a fault has a reason
pub has_reason : (probe : Probe) (frame : List ℕ) (fault : ClientFault) (x y : Option (List Spoken)) → IsUnanswered probe frame fault x y → HasReason fault
has_reason probe frame fault x y (inl own) = inl own
has_reason probe frame fault x y (inr at) = inr (probe, all_of at.1.0, at.0, at.1.2)

pub both : (one next : Probe × List ℕ) (x y z w : Option (List Spoken)) → Answers one.0 one.1 x y → Answers next.0 next.1 y z → AreDoneFirst (one ∷ next ∷ []) x w
both one next x y z w a b = (z, (y, a, (z, b, refl)))
