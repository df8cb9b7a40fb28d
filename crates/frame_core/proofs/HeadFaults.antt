use Rattle.std.proofs.Common.{◌≡◌, ◌≢◌, ◌<◌, ◌+◌, ◌-◌, ℕ, List, [], ◌∷◌, ◌++◌, Bool, true, false, cond, Option, Some, None, MatchOption, unwrap_or, inl, inr, length, sym, ap, ◌∙◌, subst, arith, length-append}
use Rattle.std.specs.List.{AllByRecursion}
use Rattle.std.proofs.lemmas.List.{append-nil}
use Rattle.frame_core.specs.declared.frame.Verb.{Verb}
use Rattle.frame_core.specs.declared.fault.FrameFault.{FrameFault}
use Rattle.frame_core.specs.declared.fault.FrameFault.TheVariants.{Malformed, TooLarge, UndefinedEscape, UnknownCommand, BodyNotAllowed, BadHeaderValue}
use Rattle.frame_core.specs.declared.reader.Stop.{Stop}
use Rattle.frame_core.specs.declared.reader.Stop.TheVariants.{Memory, Fault}
use Rattle.frame_core.specs.declared.reader.Section.{Section}
use Rattle.frame_core.specs.declared.reader.Section.TheVariants.{Command, HeaderLines}
use Rattle.frame_core.specs.Heads.{IsInLine}
use Rattle.frame_core.specs.Parts.{IsBoundedHead}
use Rattle.frame_core.specs.Faults.{Faulty, IsFirstLine, IsNextLine, IsNextHeader}
use Rattle.frame_core.specs.Stops.{IfFault, ended, IsHeaderText, IsNameAndValue, IsCommandFault, IsHeaderFault, IsPlanFault}
use Rattle.frame_core.specs.Partials.{IsAt, IsInHead}
use Rattle.frame_core.proofs.OpenLines.{length-head, with_lf, no_body, part_of_head, run_kept}
use Rattle.frame_core.proofs.HeadSteps.{other_end, with_line, head_ends}

-- a head that isn't whole is all that is there
only_head : (head body more : List ℕ) → body ≡ [] → (head ++ body) ++ more ≡ head ++ more
only_head head body more e = ap (λ x. x ++ more) (ap (λ x. head ++ x) e ∙ append-nil head)

pub stray : (section : Section) (head : List ℕ) (line : ℕ) (cr : Bool) (headers : List (List ℕ × List ℕ)) (body : List ℕ) (b : ℕ) → IsInHead section → IsAt section head line cr headers body
    → length head < 8192 → (cr ≡ false → b ≡ 0) → (cr ≡ true → b ≢ 10) → Faulty Malformed ((head ++ body) ++ b ∷ [])
stray section head line cr headers body b i h room plain behind_cr =
    let p = part_of_head section head line cr headers body i h in
    let whole = only_head head body (b ∷ []) (no_body section head line cr headers body i h) in
    inl (record {
      front = head;
      last = b;
      whole = whole;
      part = p.0;
      plain = λ e. plain (sym p.1 ∙ e);
      behind_cr = λ e. behind_cr (sym p.1 ∙ e);
      size = omega (arith, ap length whole, length-append head (b ∷ []));
    })

pub long_head : (section : Section) (head : List ℕ) (line : ℕ) (cr : Bool) (headers : List (List ℕ × List ℕ)) (body : List ℕ) (b : ℕ) → IsInHead section → IsAt section head line cr headers body
    → length head ≡ 8192 → Faulty TooLarge ((head ++ body) ++ b ∷ [])
long_head section head line cr headers body b i h full =
    let p = part_of_head section head line cr headers body i h in
    inl (record { front = head; last = b; whole = only_head head body (b ∷ []) (no_body section head line cr headers body i h); part = p.0; full = full })

-- the limit within bytes of a line
pub long_run : (section : Section) (head : List ℕ) (line : ℕ) (cr : Bool) (headers : List (List ℕ × List ℕ)) (body run : List ℕ) (b : ℕ) → IsInHead section → IsAt section head line cr headers body
    → cr ≡ false → AllByRecursion IsInLine run → length head + length run ≡ 8192 → Faulty TooLarge (((head ++ body) ++ run) ++ b ∷ [])
long_run section head line cr headers body run b i h no_cr in_line full =
    let none = no_body section head line cr headers body i h in
    let kept = run_kept section head line cr headers body run i h no_cr in_line (omega arith) in
    let at_limit = long_head section (head ++ run) line false headers body b i kept (omega (arith, length-append head run)) in
    let same : ((head ++ run) ++ body) ++ b ∷ [] ≡ ((head ++ body) ++ run) ++ b ∷ [] =
    only_head (head ++ run) body (b ∷ []) none ∙ ap (λ x. x ++ b ∷ []) (sym (only_head head body run none)) in
    subst (Faulty TooLarge) same at_limit

-- why a command line is refused
command_fault : (fault : FrameFault) (text bytes : List ℕ) → IsFirstLine text bytes → IsCommandFault text fault → Faulty fault bytes
command_fault Malformed text bytes first h = absurd h
command_fault TooLarge text bytes first h = absurd h
command_fault UndefinedEscape text bytes first h = absurd h
command_fault UnknownCommand text bytes first h = (text, first, h.0, h.1)
command_fault BodyNotAllowed text bytes first h = absurd h
command_fault BadHeaderValue text bytes first h = inl (text, first, h)

pub command_refused : (head : List ℕ) (line : ℕ) (cr : Bool) (headers : List (List ℕ × List ℕ)) (body : List ℕ) (h : IsAt Command head line cr headers body) (fault : FrameFault)
    → 0 < length head - cond cr 1 0 → length head < 8192 → IsCommandFault h.0.part fault → Faulty fault ((head ++ body) ++ 10 ∷ [])
command_refused head line cr headers body h fault some_byte room why =
    let whole = only_head head body (10 ∷ []) h.2 in
    let start : 0 ≡ line = h.0.start in
    command_fault fault h.0.part ((head ++ body) ++ 10 ∷ []) (record {
      with_cr = cr;
      whole = whole ∙ with_lf head line cr [] h.0;
      some_byte = omega (arith, length-head head line cr [] h.0);
      each = h.0.each;
      size = omega (arith, ap length whole, length-append head (10 ∷ []));
    }) why

-- why a header line is refused
header_fault : (fault : FrameFault) (verb : Verb) (headers : List (List ℕ × List ℕ)) (text bytes : List ℕ) (cr : Bool) → IsNextLine verb headers text bytes
    → ((name value : List ℕ) → IsNameAndValue text name value → IsNextHeader verb headers (ended name value cr) bytes) → IsHeaderFault verb text fault → Faulty fault bytes
header_fault Malformed verb headers text bytes cr next_line next_header h = inr (inl (verb, headers, text, next_line, h))
header_fault TooLarge verb headers text bytes cr next_line next_header h = absurd h
header_fault UndefinedEscape verb headers text bytes cr next_line next_header h = (verb, headers, ended h.0 h.1 cr, next_header h.0 h.1 h.2, h.3)
header_fault UnknownCommand verb headers text bytes cr next_line next_header h = absurd h
header_fault BodyNotAllowed verb headers text bytes cr next_line next_header h = absurd h
header_fault BadHeaderValue verb headers text bytes cr next_line next_header h = inr (inl (verb, headers, ended h.0 h.1 cr, h.2, next_header h.0 h.1 h.3, h.4, h.5, h.6))

-- the line is a header line behind the others
next_header : (verb : Verb) (head : List ℕ) (line : ℕ) (cr : Bool) (headers : List (List ℕ × List ℕ)) (body : List ℕ) (h : IsAt (HeaderLines verb) head line cr headers body)
    (name value : List ℕ) → length head < 8192 → IsNameAndValue h.1.part name value → IsNextHeader verb headers (ended name value cr) ((head ++ body) ++ 10 ∷ [])
next_header verb head line cr headers body h name value room form =
    let whole = only_head head body (10 ∷ []) h.4 in
    record {
      lines = h.0;
      whole = whole ∙ with_line head line cr h.0 h.1 name value form.0;
      begins = h.2;
      count = h.3;
      form = record { named = form.1.named; name = form.1.name; value = form.1.value };
      size = omega (arith, ap length whole, length-append head (10 ∷ []));
    }

pub header_refused : (verb : Verb) (head : List ℕ) (line : ℕ) (cr : Bool) (headers : List (List ℕ × List ℕ)) (body : List ℕ) (h : IsAt (HeaderLines verb) head line cr headers body) (fault : FrameFault)
    → (length head - cond cr 1 0 ≡ line → ⊥) → length head < 8192 → IsHeaderFault verb h.1.part fault → Faulty fault ((head ++ body) ++ 10 ∷ [])
header_refused verb head line cr headers body h fault some_byte room why =
    let whole = only_head head body (10 ∷ []) h.4 in
    let length_is = length-head head line cr h.0 h.1 in
    header_fault fault verb headers h.1.part ((head ++ body) ++ 10 ∷ []) cr (record {
      lines = h.0;
      with_cr = cr;
      whole = whole ∙ with_lf head line cr h.0 h.1;
      begins = h.2;
      count = h.3;
      each = h.1.each;
      some_byte = omega (arith, length_is, some_byte);
      size = omega (arith, ap length whole, length-append head (10 ∷ []));
    }) (λ name value form. next_header verb head line cr headers body h name value room form) why

-- the 65th header
pub too_many_headers : (verb : Verb) (head : List ℕ) (line : ℕ) (cr : Bool) (headers : List (List ℕ × List ℕ)) (body : List ℕ) (h : IsAt (HeaderLines verb) head line cr headers body)
    (header : List ℕ × List ℕ) → IsHeaderText verb h.1.part header → length headers ≡ 64 → length head < 8192 → Faulty TooLarge ((head ++ body) ++ 10 ∷ [])
too_many_headers verb head line cr headers body h header text full room =
    let form : IsNameAndValue h.1.part text.0 text.1 = (text.2, text.3.form) in
    inr (inl (verb, headers, ended text.0 text.1 cr, header, next_header verb head line cr headers body h text.0 text.1 room form, other_end verb text.0 text.1 cr header text.3, full))

-- why the headers announce no body that may be
plan_fault : (fault : FrameFault) (verb : Verb) (headers : List (List ℕ × List ℕ)) (bytes : List ℕ) → IsBoundedHead verb headers bytes → IsPlanFault verb headers fault → Faulty fault bytes
plan_fault Malformed verb headers bytes bounded h = absurd h
plan_fault TooLarge verb headers bytes bounded h = inr (inr (inl (verb, h.1, (headers, h.0, bounded, h.2, h.3, h.4), h.5)))
plan_fault UndefinedEscape verb headers bytes bounded h = absurd h
plan_fault UnknownCommand verb headers bytes bounded h = absurd h
plan_fault BodyNotAllowed verb headers bytes bounded h = inl (verb, h.1, (headers, h.0, bounded, h.2, h.3, h.4), h.5, h.6, h.7)
plan_fault BadHeaderValue verb headers bytes bounded h = inr (inr (verb, headers, h.0, bounded, h.1, h.2))

-- one header too many, which may be refused for what it is
pub one_too_many : (verb : Verb) (head : List ℕ) (line : ℕ) (cr : Bool) (headers : List (List ℕ × List ℕ)) (body : List ℕ) (h : IsAt (HeaderLines verb) head line cr headers body) (refusal : Option FrameFault)
    → MatchOption refusal ((header : List ℕ × List ℕ) × IsHeaderText verb h.1.part header) (IsHeaderFault verb h.1.part)
    → (length head - cond cr 1 0 ≡ line → ⊥) → length headers ≡ 64 → length head < 8192 → Faulty (unwrap_or refusal TooLarge) ((head ++ body) ++ 10 ∷ [])
one_too_many verb head line cr headers body h None header some_byte full room = too_many_headers verb head line cr headers body h header.0 header.1 full room
one_too_many verb head line cr headers body h (Some fault) why some_byte full room = header_refused verb head line cr headers body h fault some_byte room why

pub plan_refused : (verb : Verb) (head : List ℕ) (line : ℕ) (cr : Bool) (headers : List (List ℕ × List ℕ)) (body : List ℕ) (h : IsAt (HeaderLines verb) head line cr headers body) (fault : FrameFault)
    → length head - cond cr 1 0 ≡ line → length head < 8192 → IsPlanFault verb headers fault → Faulty fault ((head ++ body) ++ 10 ∷ [])
plan_refused verb head line cr headers body h fault e room why =
    let whole = only_head head body (10 ∷ []) h.4 in
    subst (Faulty fault) (sym whole) (plan_fault fault verb headers (head ++ 10 ∷ []) (head_ends verb head line cr headers body h e room) why)

-- what holds of a fault holds of one that follows from it
pub if_fault : (stop : Stop) (P Q : FrameFault → Type 0) → ((fault : FrameFault) → P fault → Q fault) → IfFault stop P → IfFault stop Q
if_fault Memory P Q f h = tt
if_fault (Fault fault) P Q f h = f fault h
