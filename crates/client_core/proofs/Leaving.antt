-- The RECEIPT of the DISCONNECT is heard piece by piece, after messages that came too late.
use Rattle.std.proofs.Common.{◌≡◌, ◌∙◌, ◌<◌, ◌≤◌, ◌+◌, ◌++◌, List, [], ◌∷◌, ℕ, Bool, IfOk, MatchOption, None, OnOk, Option, Result, Ok, Err, Some, ap, append_assoc, drop, false, get_or, length, map, refl, subst, sym, take, true}
use Rattle.std.proofs.lemmas.List.{append-nil, take-append-drop, take_all}
use Rattle.frame_core.specs.declared.fault.FrameFault.{FrameFault}
use Rattle.frame_core.specs.declared.frame.Frame.{Frame}
use Rattle.frame_core.specs.declared.frame.Verb.TheVariants.{Message}
use Rattle.frame_core.specs.Streams.{Fails, Frames, Reads}
use Rattle.frame_core.proofs.Joins.{joined}
use Rattle.frame_core.proofs.Lists.{all_append, all_push}
use Rattle.client_core.specs.Answers.{IsAnswer}
use Rattle.client_core.specs.Listening.{AreLast, AreMessages, EndsWell, MayEnd}
use Rattle.client_core.specs.Talks.{Adds, Heard, Said, Spoken, all_of, turn}
use Rattle.client_core.specs.declared.probe.Probe.TheVariants.{Disconnect}
use Rattle.client_core.proofs.Doing.{one_more}
use Rattle.client_core.proofs.Turns.{adds_more, all_more, then}

abbrev IsMessage : Frame → Type 0
IsMessage frame = frame.verb ≡ Message

-- one frame more
pub message_more : (frames : List Frame) (i : ℕ) (frame : Frame) → i < length frames → frame ≡ get_or frames i frame → AreMessages (take i frames) → frame.verb ≡ Message → AreMessages (take (i + 1) frames)
message_more frames i frame within is are one = subst AreMessages (sym (one_more frames i frame within is)) (all_push IsMessage (take i frames) frame are one)

pub receipt_comes : (frames : List Frame) (i : ℕ) (frame : Frame) → i < length frames → frame ≡ get_or frames i frame → AreMessages (take i frames) → IsAnswer Disconnect frame → AreLast frames true
receipt_comes frames i frame within is are answer =
    (take i frames, frame, drop (i + 1) frames, are, answer, sym (take-append-drop (i + 1) frames) ∙ ap (λ l. l ++ drop (i + 1) frames) (one_more frames i frame within is))

pub none_comes : (frames : List Frame) (i : ℕ) → length frames ≤ i → AreMessages (take i frames) → AreLast frames false
none_comes frames i within are = subst AreMessages (take_all i frames within) are

-- the first frames of a stream
first_frames : (a b : List Frame) (stream rest : List ℕ) → Frames stream (a ++ b) rest → (more : List ℕ) × Frames stream a more
first_frames [] b stream rest f = (stream, ([], refl))
first_frames (frame ∷ a) b stream rest f =
    let more = first_frames a b f.2 rest f.6 in
    (more.0, (f.0, f.1, f.2, f.3, f.4, f.5, more.1))

ends_well : (bytes rest : List ℕ) (frames : List Frame) → Frames bytes frames rest → AreLast frames true → EndsWell bytes
ends_well bytes rest frames f last =
    let first = first_frames (last.0 ++ last.1 ∷ []) last.2 bytes rest (subst (λ l. Frames bytes l rest) last.5 f) in
    (last.0, last.1, first.0, last.3, last.4, first.1)

pub may_end : {E : Type 0} (r : Result Bool E) (bytes rest : List ℕ) (failed : Bool) (frames : List Frame) (fault : Option FrameFault)
    → MatchOption fault (Reads bytes frames rest × (failed ≡ false)) (λ f. Fails bytes frames f × (failed ≡ true)) → IfOk r (AreLast frames) → IfOk r (λ is_over. is_over ≡ false → fault ≡ None) → IfOk r (MayEnd bytes rest)
may_end (Err e) bytes rest failed frames fault reads last sound = tt
may_end (Ok true) bytes rest failed frames None reads last sound = ends_well bytes rest frames reads.0.0 last
may_end (Ok true) bytes rest failed frames (Some f) reads last sound = ends_well bytes (reads.0.0 ++ reads.0.1) frames reads.0.2 last
may_end (Ok false) bytes rest failed frames None reads last sound = (frames, last, reads.0.0)
may_end (Ok false) bytes rest failed frames (Some f) reads last sound =
    let none = sound refl in
    cc

-- messages that came too late, of which this rest is no frame yet, after bytes that were heard before
abbrev pub LateSoFar : List ℕ → Option (List Spoken) → Option (List Spoken) → List ℕ → Type 0
LateSoFar first before after rest =
    (last : List (List ℕ)) × (late : List Frame) × Adds (map Heard last) before after × AreMessages late × Frames (first ++ all_of last) late rest

nothing_added : (x : Option (List Spoken)) → Adds [] x x
nothing_added None = tt
nothing_added (Some x) = sym (append-nil x)

pub none_late : (first : List ℕ) (x : Option (List Spoken)) → LateSoFar first x x first
none_late first x = ([], [], nothing_added x, tt, ([], append-nil first))

more_heard : (first : List ℕ) (last : List (List ℕ)) (piece : List ℕ) → (first ++ all_of last) ++ piece ≡ first ++ all_of (last ++ piece ∷ [])
more_heard first last piece = append_assoc first (all_of last) piece ∙ ap (λ l. first ++ l) (sym (all_more last piece))

pub goes_on : (first : List ℕ) (x y z : Option (List Spoken)) (unread rest : List ℕ) → LateSoFar first x y unread → ((piece : List ℕ) × Adds (Heard piece ∷ []) y z × MayEnd (unread ++ piece) rest false)
    → LateSoFar first x z rest
goes_on first x y z unread rest so_far heard =
    let both = joined (first ++ all_of so_far.0) heard.0 so_far.1 heard.2.0 unread rest so_far.4 heard.2.2 in (
      so_far.0 ++ heard.0 ∷ [],
      so_far.1 ++ heard.2.0,
      adds_more so_far.0 heard.0 x y z so_far.2 heard.1,
      all_append IsMessage so_far.1 heard.2.0 so_far.3 heard.2.1,
      subst (λ bytes. Frames bytes (so_far.1 ++ heard.2.0) rest) (more_heard first so_far.0 heard.0) both,
    )

pub ends : (first : List ℕ) (x y z : Option (List Spoken)) (unread rest : List ℕ) → LateSoFar first x y unread → ((piece : List ℕ) × Adds (Heard piece ∷ []) y z × MayEnd (unread ++ piece) rest true)
    → (last : List (List ℕ)) × Adds (map Heard last) x z × EndsWell (first ++ all_of last)
ends first x y z unread rest so_far heard =
    let both = joined (first ++ all_of so_far.0) heard.0 so_far.1 (heard.2.0 ++ heard.2.1 ∷ []) unread heard.2.2 so_far.4 heard.2.5 in
    let all = subst (λ frames. Frames ((first ++ all_of so_far.0) ++ heard.0) frames heard.2.2) (sym (append_assoc so_far.1 heard.2.0 (heard.2.1 ∷ []))) both in
    let late = so_far.1 ++ heard.2.0 in (
      so_far.0 ++ heard.0 ∷ [],
      adds_more so_far.0 heard.0 x y z so_far.2 heard.1,
      (late, heard.2.1, heard.2.2, all_append IsMessage so_far.1 heard.2.0 so_far.3 heard.2.3, heard.2.4, subst (λ bytes. Frames bytes (late ++ heard.2.1 ∷ []) heard.2.2) (more_heard first so_far.0 heard.0) all),
    )

pub said_first : {E : Type 0} (r : Result (Unit {0}) E) (text first : List ℕ) (x y z : Option (List Spoken)) → Adds (Said text ∷ []) x y
    → OnOk r ((last : List (List ℕ)) × Adds (map Heard last) y z × EndsWell (first ++ all_of last)) → OnOk r ((last : List (List ℕ)) × Adds (turn text last) x z × EndsWell (first ++ all_of last))
said_first (Ok u) text first x y z said ends = (ends.0, then (Said text ∷ []) (map Heard ends.0) x y z said ends.1, ends.2)
said_first (Err e) text first x y z said ends = tt
