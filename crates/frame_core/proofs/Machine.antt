-- A stream's beginning, decided byte by byte. It shows that the relations of specs/ are exclusive: each of them says
-- what this function gives.
use Rattle.std.proofs.Common.{ℕ, ◌+◌, List, [], ◌∷◌, ◌++◌, Bool, true, false, cond, eqb, not, ◌&&◌, nat_lt, nat_le, Option, Some, None, length, option_map}
use Rattle.std.specs.Char.{digit_value}
use Rattle.std.specs.Str.{is_utf8}
use Rattle.std.specs.Str.Parse.{digits_value}
use Rattle.frame_core.specs.declared.frame.Frame.{Frame}
use Rattle.frame_core.specs.declared.frame.Verb.{Verb}
use Rattle.frame_core.specs.declared.fault.FrameFault.{FrameFault}
use Rattle.frame_core.specs.declared.fault.FrameFault.TheVariants.{Malformed, TooLarge, UndefinedEscape, UnknownCommand, BodyNotAllowed, BadHeaderValue}
use Rattle.frame_core.specs.Verbs.{has_body}
use Rattle.frame_core.specs.Heads.{meaning}
use Rattle.frame_core.specs.Spelling.{announced}
use Rattle.frame_core.proofs.OneHead.{verb_named}

-- the command and headers that are read, if any
abbrev pub Known : Type 0
Known = Option (Verb × List (List ℕ × List ℕ))

pub data At : Type 0 where
  -- a line's text so far, whether its CR stands there, and how many bytes the head has
  in_line : Known → List ℕ → Bool → ℕ → At
  in_body : Verb → List (List ℕ × List ℕ) → Option ℕ → List ℕ → At

pub data Next : Type 0 where
  goes : At → Next
  skips : Next
  gives : Frame → Next
  fails : FrameFault → Next

pub data Outcome : Type 0 where
  waits : Outcome
  skipped : List ℕ → Outcome
  given : Frame → List ℕ → Outcome
  failed : FrameFault → List ℕ → Outcome

abbrev pub next : Next → (At → Outcome) → List ℕ → Outcome
next (goes at) run more = run at
next skips run more = skipped more
next (gives frame) run more = given frame more
next (fails fault) run more = failed fault more

abbrev pub all_digits : List ℕ → Bool
all_digits [] = true
all_digits (c ∷ cs) = nat_lt (digit_value c) 10 && all_digits cs

abbrev pub is_number : List ℕ → Bool
is_number text = nat_lt 0 (length text) && (all_digits text && nat_le (length text) 10)

abbrev pub plan_next : Verb → List (List ℕ × List ℕ) → Option (List ℕ) → Next
plan_next verb headers None = goes (in_body verb headers None [])
plan_next verb headers (Some text) =
    cond (is_number text)
    (cond (nat_lt 65536 (digits_value 10 text)) (fails TooLarge)
    (cond (nat_lt 0 (digits_value 10 text) && not (has_body verb)) (fails BodyNotAllowed)
    (goes (in_body verb headers (Some (digits_value 10 text)) []))))
    (fails BadHeaderValue)

abbrev pub cut_colon : List ℕ → Option (List ℕ × List ℕ)
cut_colon [] = None
cut_colon (b ∷ text) = cond (eqb b 58) (Some ([], text)) (option_map (λ p. (b ∷ p.0, p.1)) (cut_colon text))

abbrev pub meant : Verb → List (List ℕ × List ℕ) → ℕ → Option (List ℕ) → Option (List ℕ) → Next
meant verb headers used None value = fails UndefinedEscape
meant verb headers used (Some name) None = fails UndefinedEscape
meant verb headers used (Some name) (Some value) =
    cond (is_utf8 name && is_utf8 value)
    (cond (nat_lt (length headers) 64) (goes (in_line (Some (verb, headers ++ (name, value) ∷ [])) [] false used)) (fails TooLarge))
    (fails BadHeaderValue)

abbrev pub line_parts : Verb → List (List ℕ × List ℕ) → ℕ → Option (List ℕ × List ℕ) → Next
line_parts verb headers used None = fails Malformed
line_parts verb headers used (Some p) = cond (eqb (length p.0) 0) (fails Malformed) (meant verb headers used (meaning verb p.0) (meaning verb p.1))

abbrev pub verb_next : ℕ → Option Verb → Next
verb_next used None = fails UnknownCommand
verb_next used (Some verb) = goes (in_line (Some (verb, [])) [] false used)

abbrev pub ended_line : Known → List ℕ → ℕ → Next
ended_line None text used = cond (eqb (length text) 0) skips (cond (is_utf8 text) (verb_next used (verb_named text)) (fails BadHeaderValue))
ended_line (Some k) text used = cond (eqb (length text) 0) (plan_next k.0 k.1 (announced k.1)) (line_parts k.0 k.1 used (cut_colon text))

abbrev pub line_step : Known → List ℕ → Bool → ℕ → ℕ → Next
line_step k part true used b = cond (eqb b 10) (ended_line k part used) (fails Malformed)
line_step k part false used b =
    cond (eqb b 10) (ended_line k part used)
    (cond (eqb b 0) (fails Malformed)
    (cond (eqb b 13) (goes (in_line k part true used)) (goes (in_line k (part ++ b ∷ []) false used))))

abbrev pub step : At → ℕ → Next
step (in_line k part cr used) b = cond (eqb used 8192) (fails TooLarge) (line_step k part cr (used + 1) b)
step (in_body verb headers (Some n) body) b =
    cond (eqb (length body) n)
    (cond (eqb b 0) (gives (record { verb = verb; headers = headers; body = body })) (fails Malformed))
    (goes (in_body verb headers (Some n) (body ++ b ∷ [])))
step (in_body verb headers None body) b =
    cond (eqb b 0) (gives (record { verb = verb; headers = headers; body = body }))
    (cond (has_body verb)
    (cond (eqb (length body) 65536) (fails TooLarge) (goes (in_body verb headers None (body ++ b ∷ []))))
    (fails BodyNotAllowed))

abbrev pub run : List ℕ → At → Outcome
run [] at = waits
run (b ∷ bytes) at = next (step at b) (run bytes) bytes

abbrev pub start : At
start = in_line None [] false 0
