-- What a session hears in pieces.
use Rattle.std.proofs.Common.{◌≡◌, List, [], ◌∷◌, ◌++◌, ℕ, ◌⊎◌, Option, Result, Ok, Err, refl, ap, sym, ◌∙◌, append_assoc, append-nil, subst, inl, inr}
use Rattle.frame_core.specs.declared.frame.Frame.{Frame}
use Rattle.frame_core.specs.declared.fault.FrameFault.{FrameFault}
use Rattle.frame_core.specs.Streams.{Frames, Fails}
use Rattle.frame_core.proofs.Decided.{Answer, an_answer}
use Rattle.frame_core.proofs.Joins.{joined, joined_fault, fault_stays}
use Rattle.frame_core.proofs.OneAnswer.{one_reading, one_fault, fault_or_none}
use Rattle.command_core.specs.declared.command.Op.{Op}
use Rattle.command_core.specs.declared.fault.Fault.{Fault}
use Rattle.command_core.specs.declared.command.Member.{Member}
use Rattle.command_core.specs.Faults.{fault_of}
use Rattle.std.specs.Prelude.{None, Some}
use Rattle.session_core.specs.declared.requests.Request.{Request}
use Rattle.session_core.specs.declared.requests.Request.TheVariants.{Ask, Join, Begin, Commit, Abort, Disconnect}
use Rattle.session_core.specs.declared.session.Phase.{Phase}
use Rattle.session_core.specs.declared.session.Phase.TheVariants.{New, Open, Ended, Failed}
use Rattle.session_core.specs.ReadFrames.{receipt_of}
use Rattle.session_core.specs.Requests.{asked, asked_first}
use Rattle.tx_core.specs.Refusals.{refusal_of_add, refusal_of_begin, refusal_of_end}
use Rattle.tx_core.specs.Transactions.{added, begun, members_of, without}
use Rattle.session_core.specs.declared.session.Act.{Act}
use Rattle.session_core.specs.Sessions.{Hearing, Hears, HearsFrames, HearsFault, IsOver, acts_of, phase_of, told, next, refused, answered, executed, committed, unless, first_answered}

acts_append : (phase : Phase) (f g : List Frame) → acts_of phase (f ++ g) ≡ acts_of phase f ++ acts_of (phase_of phase f) g
acts_append phase [] g = refl
acts_append phase (x ∷ f) g = ap (λ acts. told phase x ++ acts) (acts_append (next phase x) f g) ∙ sym (append_assoc (told phase x) (acts_of (next phase x) f) (acts_of (phase_of (next phase x) f) g))

phase_append : (phase : Phase) (f g : List Frame) → phase_of phase (f ++ g) ≡ phase_of (phase_of phase f) g
phase_append phase [] g = refl
phase_append phase (x ∷ f) g = phase_append (next phase x) f g

both_frames : (s t u : Hearing) (a b : List ℕ) (acts more : List Act) → HearsFrames s a acts t → HearsFrames t b more u → HearsFrames s (a ++ b) (acts ++ more) u
both_frames s t u a b acts more first second = record {
  frames = first.frames ++ second.frames;
  reads = (subst (λ stream. Frames stream (first.frames ++ second.frames) u.rest) (append_assoc s.rest a b) (joined (s.rest ++ a) b first.frames second.frames t.rest u.rest first.reads.0 second.reads.0), second.reads.1);
  same_acts = ap (λ x. x ++ more) first.same_acts ∙ ap (λ x. acts_of s.phase first.frames ++ x) (second.same_acts ∙ ap (λ p. acts_of p second.frames) first.phase) ∙ sym (acts_append s.phase first.frames second.frames);
  phase = second.phase ∙ ap (λ p. phase_of p second.frames) first.phase ∙ sym (phase_append s.phase first.frames second.frames);
}

frames_fault : (s t u : Hearing) (a b : List ℕ) (acts more : List Act) → HearsFrames s a acts t → HearsFault t b more u → HearsFault s (a ++ b) (acts ++ more) u
frames_fault s t u a b acts more first second =
    let tail : Phase → List Act = λ p. acts_of p second.frames ++ refused (phase_of p second.frames) (fault_of second.fault) None in
    record {
      frames = first.frames ++ second.frames;
      fault = second.fault;
      fails = subst (λ stream. Fails stream (first.frames ++ second.frames) second.fault) (append_assoc s.rest a b) (joined_fault (s.rest ++ a) b first.frames second.frames t.rest second.fault first.reads.0 second.fails);
      same_acts = ap (λ x. x ++ more) first.same_acts ∙ ap (λ x. acts_of s.phase first.frames ++ x) (second.same_acts ∙ ap tail first.phase)
          ∙ sym (append_assoc (acts_of s.phase first.frames) (acts_of (phase_of s.phase first.frames) second.frames) (refused (phase_of (phase_of s.phase first.frames) second.frames) (fault_of second.fault) None))
          ∙ ap (λ x. x ++ refused (phase_of (phase_of s.phase first.frames) second.frames) (fault_of second.fault) None) (sym (acts_append s.phase first.frames second.frames))
          ∙ ap (λ p. acts_of s.phase (first.frames ++ second.frames) ++ refused p (fault_of second.fault) None) (sym (phase_append s.phase first.frames second.frames));
      phase = second.phase;
    }

after_frames : (s t u : Hearing) (a b : List ℕ) (acts more : List Act) → (IsOver s.phase → ⊥) → (IsOver t.phase → ⊥) → HearsFrames s a acts t → Hears t b more u → Hears s (a ++ b) (acts ++ more) u
after_frames s t u a b acts more listens going first (inl h) = absurd (going h.0)
after_frames s t u a b acts more listens going first (inr (inl h)) = inr (inl (listens, both_frames s t u a b acts more first h.1))
after_frames s t u a b acts more listens going first (inr (inr h)) = inr (inr (listens, frames_fault s t u a b acts more first h.1))

pub heard_as_one : (s t u : Hearing) (a b : List ℕ) (acts more : List Act) → (IsOver t.phase → ⊥) → Hears s a acts t → Hears t b more u → Hears s (a ++ b) (acts ++ more) u
heard_as_one s t u a b acts more going (inl h) second = absurd (going (subst (λ (x : Hearing). IsOver x.phase) (sym h.2) h.0))
heard_as_one s t u a b acts more going (inr (inl h)) second = after_frames s t u a b acts more h.0 going h.1 second
heard_as_one s t u a b acts more going (inr (inr h)) second = absurd (going (subst IsOver (sym h.1.phase) tt))

pub nothing_heard : (s t : Hearing) (a : List ℕ) (acts : List Act) → IsOver s.phase → Hears s a acts t → (acts ≡ []) × (t ≡ s)
nothing_heard s t a acts over (inl h) = (h.1, h.2)
nothing_heard s t a acts over (inr (inl h)) = absurd (h.0 over)
nothing_heard s t a acts over (inr (inr h)) = absurd (h.0 over)

-- a phase in which the session ends by itself, or goes on
abbrev IsEndedOrGoing : Phase → Type 0
IsEndedOrGoing phase = (phase ≡ Ended) ⊎ (IsOver phase → ⊥)

open_goes : (transactions : List (List ℕ × List Member)) → IsOver (Open transactions) → ⊥
open_goes transactions over = over

after_unless : (fault : Option Fault) (transactions : List (List ℕ × List Member)) (receipt : Option (List ℕ)) → IsEndedOrGoing (unless fault transactions receipt).phase
after_unless None transactions receipt = inr (open_goes transactions)
after_unless (Some fault) transactions receipt = inl refl

after_commit : (name : List ℕ) (members : Option (List Member)) (transactions : List (List ℕ × List Member)) (receipt : Option (List ℕ)) → IsEndedOrGoing (committed name members transactions receipt).phase
after_commit name None transactions receipt = inl refl
after_commit name (Some members) transactions receipt = inr (open_goes (without name transactions))

after_request : (transactions : List (List ℕ × List Member)) (request : Request) (receipt : Option (List ℕ)) → IsEndedOrGoing (executed transactions request receipt).phase
after_request transactions (Ask op) receipt = inr (open_goes transactions)
after_request transactions (Join member None) receipt = inr (open_goes transactions)
after_request transactions (Join member (Some name)) receipt = after_unless (refusal_of_add name member transactions) (added name member transactions) receipt
after_request transactions (Begin name) receipt = after_unless (refusal_of_begin name transactions) (begun name transactions) receipt
after_request transactions (Commit name) receipt = after_commit name (members_of name transactions) transactions receipt
after_request transactions (Abort name) receipt = after_unless (refusal_of_end name transactions) (without name transactions) receipt
after_request transactions Disconnect receipt = inl refl

after_answer : (transactions : List (List ℕ × List Member)) (request : Result Request Fault) (receipt : Option (List ℕ)) → IsEndedOrGoing (answered transactions request receipt).phase
after_answer transactions (Ok request) receipt = after_request transactions request receipt
after_answer transactions (Err fault) receipt = inl refl

after_first : (op : Result Op Fault) (receipt : Option (List ℕ)) → IsEndedOrGoing (first_answered op receipt).phase
after_first (Ok op) receipt = inr (open_goes [])
after_first (Err fault) receipt = inl refl

after_frame : (phase : Phase) (frame : Frame) → IsEndedOrGoing phase → IsEndedOrGoing (next phase frame)
after_frame New frame h = after_first (asked_first frame) (receipt_of frame)
after_frame (Open transactions) frame h = after_answer transactions (asked frame) (receipt_of frame)
after_frame Ended frame h = inl refl
after_frame (Failed held) frame h = h

after_frames_of : (phase : Phase) (frames : List Frame) → IsEndedOrGoing phase → IsEndedOrGoing (phase_of phase frames)
after_frames_of phase [] h = h
after_frames_of phase (frame ∷ frames) h = after_frames_of (next phase frame) frames (after_frame phase frame h)

-- nothing comes of frames that an ended session hears
ended_acts : (frames : List Frame) → acts_of Ended frames ≡ []
ended_acts [] = refl
ended_acts (frame ∷ frames) = ended_acts frames

ended_stays : (frames : List Frame) → phase_of Ended frames ≡ Ended
ended_stays [] = refl
ended_stays (frame ∷ frames) = ended_stays frames

abbrev HearsWith : Hearing → List ℕ → List Act → Phase → Type 0
HearsWith s bytes acts phase = (v : Hearing) × Hears s bytes acts v × (v.phase ≡ phase)

-- what an ended session hears gives nothing, whatever its frames
more_after_end : (s t : Hearing) (a b : List ℕ) (acts : List Act) → (IsOver s.phase → ⊥) → t.phase ≡ Ended → (h : HearsFrames s a acts t) → Answer (t.rest ++ b) → HearsWith s (a ++ b) acts t.phase
more_after_end s t a b acts listens ended h (inl answer) =
    let frames = h.frames ++ answer.0 in
    let was : phase_of s.phase h.frames ≡ Ended = sym h.phase ∙ ended in
    let v : Hearing = record { rest = answer.1; phase = t.phase } in (
      v,
      inr (inl (
        listens,
        record {
          frames = frames;
          reads = (subst (λ stream. Frames stream frames answer.1) (append_assoc s.rest a b) (joined (s.rest ++ a) b h.frames answer.0 t.rest answer.1 h.reads.0 answer.2.0), answer.2.1);
          same_acts = h.same_acts ∙ sym (acts_append s.phase h.frames answer.0 ∙ ap (λ p. acts_of s.phase h.frames ++ acts_of p answer.0) was ∙ ap (λ x. acts_of s.phase h.frames ++ x) (ended_acts answer.0) ∙ append-nil (acts_of s.phase h.frames));
          phase = ended ∙ sym (phase_append s.phase h.frames answer.0 ∙ ap (λ p. phase_of p answer.0) was ∙ ended_stays answer.0);
        },
      )),
      refl,
    )
more_after_end s t a b acts listens ended h (inr answer) =
    let frames = h.frames ++ answer.0 in
    let was : phase_of s.phase h.frames ≡ Ended = sym h.phase ∙ ended in
    let is : phase_of s.phase frames ≡ Ended = phase_append s.phase h.frames answer.0 ∙ ap (λ p. phase_of p answer.0) was ∙ ended_stays answer.0 in
    let same : acts_of s.phase frames ≡ acts_of s.phase h.frames =
    acts_append s.phase h.frames answer.0 ∙ ap (λ p. acts_of s.phase h.frames ++ acts_of p answer.0) was ∙ ap (λ x. acts_of s.phase h.frames ++ x) (ended_acts answer.0) ∙ append-nil (acts_of s.phase h.frames) in
    let none : acts_of s.phase frames ++ refused (phase_of s.phase frames) (fault_of answer.1) None ≡ acts_of s.phase frames =
    ap (λ p. acts_of s.phase frames ++ refused p (fault_of answer.1) None) is ∙ append-nil (acts_of s.phase frames) in
    let v : Hearing = record { rest = []; phase = Ended } in (
      v,
      inr (inr (
        listens,
        record {
          frames = frames;
          fault = answer.1;
          fails = subst (λ stream. Fails stream frames answer.1) (append_assoc s.rest a b) (joined_fault (s.rest ++ a) b h.frames answer.0 t.rest answer.1 h.reads.0 answer.2);
          same_acts = h.same_acts ∙ sym (none ∙ same);
          phase = refl;
        },
      )),
      sym ended,
    )

fault_stays_heard : (s t : Hearing) (a b : List ℕ) (acts : List Act) → HearsFault s a acts t → HearsFault s (a ++ b) acts t
fault_stays_heard s t a b acts h = record {
  frames = h.frames;
  fault = h.fault;
  fails = subst (λ stream. Fails stream h.frames h.fault) (append_assoc s.rest a b) (fault_stays (s.rest ++ a) b h.frames h.fault h.fails);
  same_acts = h.same_acts;
  phase = h.phase;
}

behind_the_end : (s t : Hearing) (a b : List ℕ) (acts : List Act) → IsOver t.phase → Hears s a acts t → HearsWith s (a ++ b) acts t.phase
behind_the_end s t a b acts over (inl h) = (s, inl (h.0, h.1, refl), ap (λ (x : Hearing). x.phase) (sym h.2))
behind_the_end s t a b acts over (inr (inl h)) = elim (after_frames_of s.phase h.1.frames (inr h.0)) [
  | inl ended ↦ more_after_end s t a b acts h.0 (h.1.phase ∙ ended) h.1 (an_answer (t.rest ++ b))
  | inr going ↦ absurd (going (subst IsOver h.1.phase over))
]
behind_the_end s t a b acts over (inr (inr h)) = (t, inr (inr (h.0, fault_stays_heard s t a b acts h.1)), refl)

over_or_not : (phase : Phase) → IsOver phase ⊎ (IsOver phase → ⊥)
over_or_not New = inr (λ over. over)
over_or_not (Open transactions) = inr (λ over. over)
over_or_not Ended = inl tt
over_or_not (Failed held) = inl tt

-- what is heard in pieces is heard as one, whatever the session
pub pieces_as_one : (s t u : Hearing) (a b : List ℕ) (acts more : List Act) → Hears s a acts t → Hears t b more u → HearsWith s (a ++ b) (acts ++ more) u.phase
pieces_as_one s t u a b acts more first second = elim (over_or_not t.phase) [
  | inr going ↦ (u, heard_as_one s t u a b acts more going first second, refl)
  | inl over ↦
      let none = nothing_heard t u b more over second in
      let P : List Act → Type 0 = λ x. HearsWith s (a ++ b) x u.phase in
      let Q : Phase → Type 0 = HearsWith s (a ++ b) acts in
      subst P (sym (ap (λ x. acts ++ x) none.0 ∙ append-nil acts)) (subst Q (ap (λ (x : Hearing). x.phase) (sym none.1)) (behind_the_end s t a b acts over first))
]

-- and in one way
same_frames : (s t u : Hearing) (a : List ℕ) (acts more : List Act) → HearsFrames s a acts t → HearsFrames s a more u → (acts ≡ more) × (t.phase ≡ u.phase)
same_frames s t u a acts more h k =
    let same = one_reading (s.rest ++ a) h.frames k.frames t.rest u.rest h.reads k.reads in
    (h.same_acts ∙ ap (acts_of s.phase) same.0 ∙ sym k.same_acts, h.phase ∙ ap (phase_of s.phase) same.0 ∙ sym k.phase)

same_fault : (s t u : Hearing) (a : List ℕ) (acts more : List Act) → HearsFault s a acts t → HearsFault s a more u → (acts ≡ more) × (t.phase ≡ u.phase)
same_fault s t u a acts more h k =
    let same = one_fault (s.rest ++ a) h.frames k.frames h.fault k.fault h.fails k.fails in
    let said : List Frame → FrameFault → List Act = λ frames fault. acts_of s.phase frames ++ refused (phase_of s.phase frames) (fault_of fault) None in
    (h.same_acts ∙ ap (λ x. said x h.fault) same.0 ∙ ap (said k.frames) same.1 ∙ sym k.same_acts, h.phase ∙ sym k.phase)

pub heard_in_one_way : (s t u : Hearing) (a : List ℕ) (acts more : List Act) → Hears s a acts t → Hears s a more u → (acts ≡ more) × (t.phase ≡ u.phase)
heard_in_one_way s t u a acts more (inl h) (inl k) = (h.1 ∙ sym k.1, ap (λ (x : Hearing). x.phase) (h.2 ∙ sym k.2))
heard_in_one_way s t u a acts more (inl h) (inr (inl k)) = absurd (k.0 h.0)
heard_in_one_way s t u a acts more (inl h) (inr (inr k)) = absurd (k.0 h.0)
heard_in_one_way s t u a acts more (inr (inl h)) (inl k) = absurd (h.0 k.0)
heard_in_one_way s t u a acts more (inr (inl h)) (inr (inl k)) = same_frames s t u a acts more h.1 k.1
heard_in_one_way s t u a acts more (inr (inl h)) (inr (inr k)) = absurd (fault_or_none (s.rest ++ a) h.1.frames k.1.frames t.rest k.1.fault h.1.reads k.1.fails)
heard_in_one_way s t u a acts more (inr (inr h)) (inl k) = absurd (h.0 k.0)
heard_in_one_way s t u a acts more (inr (inr h)) (inr (inl k)) = absurd (fault_or_none (s.rest ++ a) k.1.frames h.1.frames u.rest h.1.fault k.1.reads h.1.fails)
heard_in_one_way s t u a acts more (inr (inr h)) (inr (inr k)) = same_fault s t u a acts more h.1 k.1
