use Rattle.std.proofs.Common.{◌≡◌, ◌++◌, rules, List, ℕ, Option, Some, None, MatchOption, true, false}
use Rattle.std.specs.List.{AllByRecursion}
use Rattle.frame_core.specs.declared.frame.Frame.{Frame}
use Rattle.frame_core.specs.declared.fault.FrameFault.{FrameFault}
use Rattle.frame_core.specs.Streams.{Reads, Fails}
use Rattle.frame_core.specs.Reading.{Reading}
use Rattle.session_core.specs.ReadFrames.{IsRead}
use Rattle.session_core.specs.Sessions.{acts_of, refused}
use Rattle.session_core.proofs.Forms.{frames_form, fault_form}
use Rattle.session_core.proofs.ReadFrames.{read_frames}
use Rattle.session_core.proofs.session.Session.feed.Goals as goal

read_either : (fault : Option FrameFault) (stream : List ℕ) (frames : List Frame) (new : Reading)
    → MatchOption fault (Reads stream frames new.rest × (new.failed ≡ false)) (λ fault. Fails stream frames fault × (new.failed ≡ true)) → AllByRecursion IsRead frames
read_either None stream frames new h = read_frames stream frames new.rest h.0.0
read_either (Some fault) stream frames new (f, failed) = read_frames stream frames _ f.2

pub answer_all-requires : goal.answer_all-requires
answer_all-requires c = read_either c.in-Ok.fed.fault _ c.in-Ok.fed.frames.items c.feed.new.self c.in-Ok.ensures.fed

pub returns-in_default-clause-forms : goal.returns-in_default-clause-forms
returns-in_default-clause-forms c =
    let e : c.answer_all.new.acts.items ≡ acts_of c.replace-phase.result c.in-Ok.fed.frames.items = search rules in
    frames_form c.replace-phase.result c.in-Ok.fed.frames.items c.answer_all.new.acts.items e

pub returns-clause-forms : goal.returns-clause-forms
returns-clause-forms c =
    let e : c.refuse.new.acts.items ≡ acts_of c.replace-phase.result c.in-Ok.fed.frames.items ++ refused c.in_ok-phase.phase c.from.result None = search rules in
    fault_form c.replace-phase.result c.in_ok-phase.phase c.in-Ok.fed.frames.items c.from.result c.refuse.new.acts.items e

pub returns-in-Err-clause-ended : goal.returns-in-Err-clause-ended
returns-in-Err-clause-ended c = search rules

pub returns-in_err-phase-clause-ended : goal.returns-in_err-phase-clause-ended
returns-in_err-phase-clause-ended c = search rules

pub returns-in_default-clause-acts : goal.returns-in_default-clause-acts
returns-in_default-clause-acts c = search rules

pub returns-in_err-map_err-clause-ended : goal.returns-in_err-map_err-clause-ended
returns-in_err-map_err-clause-ended c = search rules

pub returns-clause-acts : goal.returns-clause-acts
returns-clause-acts c = search rules

pub returns-in-Failed-clause-stays : goal.returns-in-Failed-clause-stays
returns-in-Failed-clause-stays c = search rules

pub invariant_of-self : goal.invariant_of-self
invariant_of-self c = search rules

pub returns-in-Err-clause-err : goal.returns-in-Err-clause-err
returns-in-Err-clause-err c = search rules

pub invariant_of-self-in_err-phase : goal.invariant_of-self-in_err-phase
invariant_of-self-in_err-phase c = search rules

pub returns-in_err-phase-clause-err : goal.returns-in_err-phase-clause-err
returns-in_err-phase-clause-err c = search rules

pub invariant_of-self-in_err-map_err : goal.invariant_of-self-in_err-map_err
invariant_of-self-in_err-map_err c = search rules

pub returns-in_err-map_err-clause-err : goal.returns-in_err-map_err-clause-err
returns-in_err-map_err-clause-err c = search rules
