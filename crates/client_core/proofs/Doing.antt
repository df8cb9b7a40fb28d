-- Messages are done one after another.
use Rattle.std.proofs.Common.{◌≡◌, ◌∙◌, ◌<◌, ◌≤◌, ◌+◌, ◌++◌, ◌⊎◌, List, [], ◌∷◌, ℕ, Global, MatchOption, None, OnOk, Option, Result, Ok, Err, Some, Vec, ap, append_assoc, codes, drop, false, get_or, inl, inr, length, refl, subst, sym, take, true}
use Rattle.std.proofs.lemmas.List.{length-take-le, take-append-drop, take_more}
use Rattle.frame_core.specs.declared.frame.Frame.{Frame}
use Rattle.frame_core.specs.declared.frame.Verb.TheVariants.{Message}
use Rattle.frame_core.specs.Writable.{first_of}
use Rattle.frame_core.specs.Written.{written}
use Rattle.client_core.specs.Requests.{ack_frame}
use Rattle.client_core.specs.Deeds.{AreDone, IsDone, said_of, shown_text}
use Rattle.client_core.specs.Listening.{AreLeft}
use Rattle.client_core.specs.Talks.{Adds, Said, Shown, Spoken}
use Rattle.client_core.specs.declared.plan.Plan.{Plan}
use Rattle.client_core.proofs.Turns.{then}

nothing_more : (acts : List Spoken) → acts ++ [] ≡ acts
nothing_more [] = refl
nothing_more (a ∷ acts) = ap (λ l. a ∷ l) (nothing_more acts)

-- one more
done_more : (plan : Plan) (frames : List Frame) (frame : Frame) (acts one : List Spoken) → AreDone plan frames acts → IsDone plan frame one → AreDone plan (frames ++ frame ∷ []) (acts ++ one)
done_more plan [] frame acts one none is = (one, [], is, refl, ap (λ l. l ++ one) none ∙ sym (nothing_more one))
done_more plan (f ∷ frames) frame acts one done is =
    (done.0, done.1 ++ one, done.2, done_more plan frames frame done.1 one done.3 is, ap (λ l. l ++ one) done.4 ∙ append_assoc done.0 done.1 one)

-- what was done for the first of these, and how the talk goes on by that
abbrev pub Done : Plan → List Frame → Option (List Spoken) → Option (List Spoken) → Type 0
Done plan frames before after = (acts : List Spoken) × AreDone plan frames acts × Adds acts before after

pub goes_on : (plan : Plan) (frames : List Frame) (i : ℕ) (frame : Frame) (x y z : Option (List Spoken)) → take (i + 1) frames ≡ take i frames ++ frame ∷ []
    → Done plan (take i frames) x y → ((one : List Spoken) × IsDone plan frame one × Adds one y z) → Done plan (take (i + 1) frames) x z
goes_on plan frames i frame x y z more done one =
    (done.0 ++ one.0, subst (λ l. AreDone plan l (done.0 ++ one.0)) (sym more) (done_more plan (take i frames) frame done.0 one.0 done.1 one.1), then done.0 one.0 x y z done.2 one.2)

-- what a deed has is what is to be done for its message
done_by : (plan : Plan) (frame : Frame) (text : List ℕ) (ack : Option (Vec ℕ Global)) → frame.verb ≡ Message → text ≡ shown_text plan.with_headers frame
    → MatchOption ack (plan.settles ≡ false) (λ a. (plan.settles ≡ true) × (delivery : List ℕ) × (first_of (codes "ack") frame.headers ≡ Some delivery) × (a.items ≡ written (ack_frame delivery)))
    → IsDone plan frame (Shown text ∷ said_of ack)
done_by plan frame text None is shown m = (is, inl (m, ap (λ t. Shown t ∷ []) shown))
done_by plan frame text (Some a) is shown m = (is, inr (m.0, m.1, m.2, λ i. Shown (shown i) ∷ Said (m.3 i) ∷ []))

pub shows : {E : Type 0} (r : Result (Unit {0}) E) (plan : Plan) (frame : Frame) (text : List ℕ) (ack : Option (Vec ℕ Global)) (x y : Option (List Spoken)) → frame.verb ≡ Message → text ≡ shown_text plan.with_headers frame
    → MatchOption ack (plan.settles ≡ false) (λ a. (plan.settles ≡ true) × (delivery : List ℕ) × (first_of (codes "ack") frame.headers ≡ Some delivery) × (a.items ≡ written (ack_frame delivery)))
    → OnOk r (Adds (Shown text ∷ said_of ack) x y) → OnOk r ((acts : List Spoken) × IsDone plan frame acts × Adds acts x y)
shows (Ok u) plan frame text ack x y is shown m adds = (Shown text ∷ said_of ack, done_by plan frame text ack is shown m, adds)
shows (Err e) plan frame text ack x y is shown m adds = tt

-- the first of these frames, and the others
pub split : (plan : Plan) (frames : List Frame) (i left rest : ℕ) (x y : Option (List Spoken)) → i ≤ length frames → rest + i ≡ left → (rest ≡ 0) ⊎ (drop i frames ≡ []) → Done plan (take i frames) x y
    → (messages : List Frame) × (others : List Frame) × (acts : List Spoken) × (frames ≡ messages ++ others) × AreLeft left rest messages others × AreDone plan messages acts × Adds acts x y
split plan frames i left rest x y within sum over done =
    (take i frames, drop i frames, done.0, sym (take-append-drop i frames), (ap (λ k. rest + k) (length-take-le i frames within) ∙ sum, over), done.1, done.2)

pub one_more : (frames : List Frame) (i : ℕ) (frame : Frame) → i < length frames → frame ≡ get_or frames i frame → take (i + 1) frames ≡ take i frames ++ frame ∷ []
one_more frames i frame within is = take_more frames i frame within ∙ ap (λ f. take i frames ++ f ∷ []) (sym is)
