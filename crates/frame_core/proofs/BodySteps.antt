use Rattle.std.proofs.Common.{◌≡◌, ◌≢◌, ◌<◌, ◌≤◌, ℕ, List, [], ◌∷◌, ◌++◌, Option, Some, None, Bool, true, false, inr, IfSome, length, take, drop, get_or, sym, ◌∙◌, subst, arith, append_assoc, length-append}
use Rattle.std.specs.List.{AllByRecursion}
use Rattle.std.proofs.lemmas.Bool.{both_ways}
use Rattle.std.proofs.lemmas.List.{nil_from_length, take-take, take-append-drop, get_or-take, length-take-le}
use Rattle.std.proofs.lemmas.List.Elements.{All-from_recursion}
use Rattle.frame_core.specs.declared.frame.Frame.{Frame}
use Rattle.frame_core.specs.declared.frame.Verb.{Verb}
use Rattle.frame_core.specs.declared.fault.FrameFault.TheVariants.{Malformed, TooLarge, BodyNotAllowed}
use Rattle.frame_core.specs.declared.reader.Section.TheVariants.{Body}
use Rattle.frame_core.specs.Verbs.{has_body}
use Rattle.frame_core.specs.Writable.{HasNoNul}
use Rattle.frame_core.specs.Spelling.{IsNumber, announced, HasBody, Spells, IsWithinLimits}
use Rattle.frame_core.specs.Parts.{IsBoundedHead, Plans, IsPartOfBody}
use Rattle.frame_core.specs.Faults.{Faulty, IsNextByte}
use Rattle.frame_core.specs.Partials.{IsAt}
use Rattle.frame_core.specs.Streams.{Frames}
use Rattle.frame_core.proofs.Lists.{all_append, all_left}
use Rattle.frame_core.proofs.Joins.{one_frame}

-- bytes of a body are bytes more of the unfinished frame
pub body_reads : (head body more : List ℕ) → Frames ((head ++ body) ++ more) [] (head ++ (body ++ more))
body_reads head body more = ([], append_assoc head body more)

-- the frame that they make
abbrev pub framed : Verb → List (List ℕ × List ℕ) → List ℕ → Frame
framed verb headers body = record { verb = verb; headers = headers; body = body }

-- a whole body of that plan
abbrev pub IsWholeBody : Option ℕ → List ℕ → Type 0
IsWholeBody None body = Unit {0}
IsWholeBody (Some n) body = length body ≡ n

body_ends : (verb : Verb) (plan : Option ℕ) (headers : List (List ℕ × List ℕ)) (body : List ℕ) → Plans verb headers plan → IsPartOfBody verb plan body → IsWholeBody plan body
    → HasBody verb headers body × (length body ≤ 65536) × IfSome (announced headers) (λ text. length text ≤ 10)
body_ends verb None headers body plans part whole =
    let none : announced headers ≡ None = plans in
    (record { ends = rw none part.0; allowed = part.2 }, part.1, rw none tt)
body_ends verb (Some n) headers body plans part whole =
    let number : IsNumber plans.text (length body) = subst (IsNumber plans.text) (sym whole) plans.number in
    (record { ends = rw plans.announced number; allowed = λ e. nil_from_length body (whole ∙ plans.allowed e) }, omega (arith, plans.size), rw plans.announced plans.digits)

-- the NUL behind a whole body ends the frame
pub frame_ends : (verb : Verb) (plan : Option ℕ) (head : List ℕ) (headers : List (List ℕ × List ℕ)) (body : List ℕ) → IsBoundedHead verb headers head → Plans verb headers plan
    → IsPartOfBody verb plan body → IsWholeBody plan body → Frames ((head ++ body) ++ 0 ∷ []) (framed verb headers body ∷ []) []
frame_ends verb plan head headers body bounded plans part whole =
    let ends = body_ends verb plan headers body plans part whole in
    let same = append_assoc head body (0 ∷ []) in
    let spells : Spells ((head ++ body) ++ 0 ∷ []) (framed verb headers body) = record { head = head; whole = same; is_head = bounded.is_head; has_body = ends.0 } in
    let within : IsWithinLimits ((head ++ body) ++ 0 ∷ []) (framed verb headers body) = record {
      head = omega (arith, length-append (head ++ body) (0 ∷ []), length-append head body, bounded.size);
      headers = bounded.count;
      body = ends.1;
      digits = ends.2;
    } in
    one_frame ((head ++ body) ++ 0 ∷ []) (framed verb headers body) spells within

next_byte : (verb : Verb) (plan : Option ℕ) (head : List ℕ) (headers : List (List ℕ × List ℕ)) (body : List ℕ) (b : ℕ) → IsBoundedHead verb headers head → Plans verb headers plan
    → IsPartOfBody verb plan body → IsNextByte verb plan body b ((head ++ body) ++ b ∷ [])
next_byte verb plan head headers body b bounded plans part =
    record { headers = headers; head = head; whole = append_assoc head body (b ∷ []); is_head = bounded; plans = plans; is_part = part }

-- another byte than NUL behind a counted body
pub no_end : (verb : Verb) (n : ℕ) (head : List ℕ) (line : ℕ) (cr : Bool) (headers : List (List ℕ × List ℕ)) (body : List ℕ) (b : ℕ) → IsAt (Body verb (Some n)) head line cr headers body
    → length body ≡ n → b ≢ 0 → Faulty Malformed ((head ++ body) ++ b ∷ [])
no_end verb n head line cr headers body b h e ne =
    let P : ℕ → Type 0 = λ m. IsNextByte verb (Some m) body b ((head ++ body) ++ b ∷ []) in
    inr (inr (verb, body, b, subst P (sym e) (next_byte verb (Some n) head headers body b h.0 h.1 h.2), ne))

-- a body where none may stand
pub wrong_body : (verb : Verb) (head : List ℕ) (line : ℕ) (cr : Bool) (headers : List (List ℕ × List ℕ)) (body : List ℕ) (b : ℕ) → IsAt (Body verb None) head line cr headers body
    → has_body verb ≡ false → b ≢ 0 → Faulty BodyNotAllowed ((head ++ body) ++ b ∷ [])
wrong_body verb head line cr headers body b h bare ne =
    let P : List ℕ → Type 0 = λ x. IsNextByte verb None x b ((head ++ body) ++ b ∷ []) in
    inr (verb, b, subst P (h.2.2 bare) (next_byte verb None head headers body b h.0 h.1 h.2), ne, bare)

-- more bytes of a body without length
pub run_kept : (verb : Verb) (body run : List ℕ) → IsPartOfBody verb None body → HasNoNul run → length (body ++ run) ≤ 65536 → has_body verb ≡ true → IsPartOfBody verb None (body ++ run)
run_kept verb body run part none le allowed =
    (all_append (λ b. b ≢ 0) body run part.0 none, le, λ bare. absurd (both_ways (has_body verb) bare allowed))

-- the 65,537th byte of a body
pub long_body : (verb : Verb) (head : List ℕ) (line : ℕ) (cr : Bool) (headers : List (List ℕ × List ℕ)) (body run : List ℕ) (b : ℕ) → IsAt (Body verb None) head line cr headers body
    → HasNoNul run → length (body ++ run) ≡ 65536 → has_body verb ≡ true → b ≢ 0 → Faulty TooLarge (((head ++ body) ++ run) ++ b ∷ [])
long_body verb head line cr headers body run b h none full allowed ne =
    let part = run_kept verb body run h.2 none (omega arith) allowed in
    let P : List ℕ → Type 0 = λ x. IsNextByte verb None (body ++ run) b (x ++ b ∷ []) in
    inr (inr (inr (verb, body ++ run, b, subst P (sym (append_assoc head body run)) (next_byte verb None head headers (body ++ run) b h.0 h.1 part), ne, allowed, full)))

-- a run's bytes and its beginnings
pub at_run : (P : ℕ → Type 0) (piece : List ℕ) (count n : ℕ) → count ≤ length piece → n < count → AllByRecursion P (take count piece) → P (get_or piece n 0)
at_run P piece count n le lt h =
    subst P (get_or-take count piece n 0 lt) (All-from_recursion P (take count piece) h n 0 (omega (arith, length-take-le count piece le)))

pub shorter_run : (P : ℕ → Type 0) (piece : List ℕ) (count n : ℕ) → n ≤ count → AllByRecursion P (take count piece) → AllByRecursion P (take n piece)
shorter_run P piece count n le h =
    let whole : AllByRecursion P (take n (take count piece) ++ drop n (take count piece)) = subst (AllByRecursion P) (sym (take-append-drop n (take count piece))) h in
    subst (AllByRecursion P) (take-take n count piece le) (all_left P (take n (take count piece)) (drop n (take count piece)) whole)
