-- What a session does for one frame more.
use Rattle.std.proofs.Common.{◌≡◌, List, [], ◌∷◌, ◌++◌, refl, ap, sym, ◌∙◌, append_assoc, append-nil}
use Rattle.frame_core.specs.declared.frame.Frame.{Frame}
use Rattle.session_core.specs.Sessions.{told, next, acts_of, phase_of}
use Rattle.session_core.specs.declared.session.Phase.{Phase}
use Rattle.session_core.specs.declared.session.Act.{Act}

pub one_more_act : (phase : Phase) (frames : List Frame) (frame : Frame) → acts_of phase (frames ++ frame ∷ []) ≡ acts_of phase frames ++ told (phase_of phase frames) frame
one_more_act phase [] frame = simp append-nil
one_more_act phase (f ∷ frames) frame = rw (one_more_act (next phase f) frames frame) (simp append_assoc)

pub one_more_phase : (phase : Phase) (frames : List Frame) (frame : Frame) → phase_of phase (frames ++ frame ∷ []) ≡ next (phase_of phase frames) frame
one_more_phase phase [] frame = refl
one_more_phase phase (f ∷ frames) frame = one_more_phase (next phase f) frames frame

pub more_done : (phase now : Phase) (frames : List Frame) (frame : Frame) (old acts new : List Act)
    → acts ≡ old ++ acts_of phase frames → now ≡ phase_of phase frames → new ≡ acts ++ told now frame → new ≡ old ++ acts_of phase (frames ++ frame ∷ [])
more_done phase now frames frame old acts new done stands more =
    more ∙ ap (λ x. x ++ told now frame) done ∙ ap (λ p. old ++ acts_of phase frames ++ told p frame) stands
    ∙ append_assoc old (acts_of phase frames) (told (phase_of phase frames) frame) ∙ ap (λ x. old ++ x) (sym (one_more_act phase frames frame))

pub more_stands : (phase now end : Phase) (frames : List Frame) (frame : Frame) → now ≡ phase_of phase frames → end ≡ next now frame → end ≡ phase_of phase (frames ++ frame ∷ [])
more_stands phase now end frames frame stands more = more ∙ ap (λ p. next p frame) stands ∙ sym (one_more_phase phase frames frame)
