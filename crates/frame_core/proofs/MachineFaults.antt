use Rattle.std.proofs.Common.{◌≡◌, ◌≢◌, ◌<◌, ◌+◌, ℕ, List, [], ◌∷◌, ◌++◌, Bool, true, false, eqb, ◌&&◌, Option, Some, None, ◌⊎◌, inl, inr, length, refl, sym, ap, ◌∙◌, subst, arith, append_assoc, length-append}
use Rattle.std.specs.Str.{IsUtf8, is_utf8, bytes_eq}
use Rattle.std.proofs.lemmas.Bool.{ne_eqb, eq-eqb, lt-ltb, le-ltb, and_left, and_right, false_from_ne_true}
use Rattle.std.proofs.lemmas.List.{append-nil}
use Rattle.std.proofs.lemmas.Slice.Eq.{bytes_eq-Decides}
use Rattle.std.proofs.lemmas.Str.{is_utf8-from_IsUtf8, IsUtf8-from_is_utf8}
use Rattle.frame_core.specs.declared.frame.Verb.{Verb}
use Rattle.frame_core.specs.declared.frame.Verb.TheVariants.{Connect, Stomp, Send, Subscribe, Unsubscribe, Ack, Nack, Begin, Commit, Abort, Disconnect, Connected, Message, Receipt, Error}
use Rattle.frame_core.specs.declared.fault.FrameFault.{FrameFault}
use Rattle.frame_core.specs.declared.fault.FrameFault.TheVariants.{Malformed, TooLarge, UndefinedEscape, UnknownCommand, BodyNotAllowed, BadHeaderValue}
use Rattle.frame_core.specs.Verbs.{name_of}
use Rattle.frame_core.specs.Heads.{eol, HeaderLine, line_of, meaning}
use Rattle.frame_core.specs.Parts.{IsPartOfHead, IsUnfinished}
use Rattle.frame_core.specs.Faults.{Faulty, HasStrayByte, HasLongHead, IsFirstLine, IsNextLine, IsNextHeader, Announces, IsNextByte}
use Rattle.frame_core.proofs.OneHead.{verb_named}
use Rattle.frame_core.proofs.Machine.{Known, in_line, in_body, fails, waits, failed, next, plan_next, meant, ended_line, step, run, start}
use Rattle.frame_core.proofs.MachineHeads.{line_run, begins_run, header_line_run, head_run, part_run, cut_colon-none, form_next}
use Rattle.frame_core.proofs.MachineBodies.{number_passes, number_fails, head_body_run}

-- an unfinished frame gives nothing yet
pub unfinished_run : (bytes : List ℕ) → IsUnfinished bytes → run bytes start ≡ waits
unfinished_run bytes (inl part) = ap (λ z. run z start) (sym (append-nil bytes)) ∙ (part_run bytes [] part).1
unfinished_run bytes (inr h) =
    ap (λ z. run z start) (h.whole ∙ ap (λ z. h.head ++ z) (sym (append-nil h.part))) ∙ head_body_run h.verb h.headers h.plan h.head h.part [] h.is_head h.plans h.is_part

stray_step : (k : Known) (part : List ℕ) (cr : Bool) (used b : ℕ) → used < 8192 → (cr ≡ false → b ≡ 0) → (cr ≡ true → b ≢ 10) → step (in_line k part cr used) b ≡ fails Malformed
stray_step k part true used b lt plain behind_cr = rw (ne_eqb used 8192 (λ e. omega arith), ne_eqb b 10 (behind_cr refl)) refl
stray_step k part false used b lt plain behind_cr = rw (ne_eqb used 8192 (λ e. omega arith), plain refl) refl

-- the byte behind a part of a head
behind_part : (bytes front x : List ℕ) (b : ℕ) (p : IsPartOfHead front) (fault : FrameFault) → bytes ≡ front ++ b ∷ [] → ((k : Known) → step (in_line k p.part p.with_cr (length front)) b ≡ fails fault)
    → run (bytes ++ x) start ≡ failed fault x
behind_part bytes front x b p fault whole last =
    let r = part_run front (b ∷ x) p in
    ap (λ z. run (z ++ x) start) whole ∙ ap (λ z. run z start) (append_assoc front (b ∷ []) x) ∙ r.1 ∙ ap (λ n. next n (run x) x) (last r.0)

stray_run : (bytes x : List ℕ) → HasStrayByte bytes → run (bytes ++ x) start ≡ failed Malformed x
stray_run bytes x h =
    let n : length bytes ≡ length h.front + 1 = ap length h.whole ∙ length-append h.front (h.last ∷ []) in
    behind_part bytes h.front x h.last h.part Malformed h.whole
    (λ k. stray_step k h.part.part h.part.with_cr (length h.front) h.last (omega (arith, n, h.size)) h.plain h.behind_cr)

long_head_run : (bytes x : List ℕ) → HasLongHead bytes → run (bytes ++ x) start ≡ failed TooLarge x
long_head_run bytes x h = behind_part bytes h.front x h.last h.part TooLarge h.whole (λ k. rw (eq-eqb (length h.front) 8192 h.full) refl)

-- the command line is refused
first_run : (text bytes x : List ℕ) (h : IsFirstLine text bytes) (fault : FrameFault) → ended_line None text (0 + length (text ++ eol h.with_cr)) ≡ fails fault → run (bytes ++ x) start ≡ failed fault x
first_run text bytes x h fault last =
    ap (λ z. run (z ++ x) start) h.whole ∙ ap (λ z. run z start) (append_assoc text (eol h.with_cr) x)
    ∙ line_run None text h.with_cr x 0 h.each (omega (arith, ap length h.whole, h.size)) ∙ ap (λ n. next n (run x) x) last

-- no command has the word
no_verb : (text : List ℕ) → ((verb : Verb) → name_of verb ≢ text) → verb_named text ≡ None
unfolding verb_named
no_verb text none =
    rw (other Connect, other Stomp, other Send, other Subscribe, other Unsubscribe, other Ack, other Nack, other Begin, other Commit, other Abort, other Disconnect, other Connected, other Message, other Receipt, other Error) refl
  where
    other : (verb : Verb) → bytes_eq text (name_of verb) ≡ false
    other verb = false_from_ne_true (bytes_eq text (name_of verb)) (λ e. none verb (sym ((bytes_eq-Decides text (name_of verb)).0 e)))

broken_text : (text : List ℕ) → (IsUtf8 text → ⊥) → is_utf8 text ≡ false
broken_text text no_text = false_from_ne_true (is_utf8 text) (λ e. no_text (IsUtf8-from_is_utf8 text e))

some_text : (text : List ℕ) → 0 < length text → eqb (length text) 0 ≡ false
some_text text lt = ne_eqb (length text) 0 (λ e. omega arith)

-- the line behind the headers is refused
next_run : (verb : Verb) (headers : List (List ℕ × List ℕ)) (text bytes x : List ℕ) (h : IsNextLine verb headers text bytes) (fault : FrameFault)
    → ((used : ℕ) → ended_line (Some (verb, headers)) text used ≡ fails fault) → run (bytes ++ x) start ≡ failed fault x
next_run verb headers text bytes x h fault last =
    let n : length bytes ≡ length h.lines + length (text ++ eol h.with_cr) = ap length h.whole ∙ length-append h.lines (text ++ eol h.with_cr) in
    ap (λ z. run (z ++ x) start) h.whole ∙ ap (λ z. run z start) (append_assoc h.lines (text ++ eol h.with_cr) x ∙ ap (λ z. h.lines ++ z) (append_assoc text (eol h.with_cr) x))
    ∙ begins_run verb headers h.lines (text ++ (eol h.with_cr ++ x)) h.begins h.count (omega (arith, n, h.size))
    ∙ line_run (Some (verb, headers)) text h.with_cr x (length h.lines) h.each (omega (arith, n, h.size)) ∙ ap (λ m. next m (run x) x) (last (length h.lines + length (text ++ eol h.with_cr)))

header_run : (verb : Verb) (headers : List (List ℕ × List ℕ)) (line : HeaderLine) (bytes x : List ℕ) (h : IsNextHeader verb headers line bytes) (fault : FrameFault)
    → ((used : ℕ) → meant verb headers used (meaning verb line.name) (meaning verb line.value) ≡ fails fault) → run (bytes ++ x) start ≡ failed fault x
header_run verb headers line bytes x h fault last =
    let n : length bytes ≡ length h.lines + length (line_of line) = ap length h.whole ∙ length-append h.lines (line_of line) in
    ap (λ z. run (z ++ x) start) h.whole ∙ ap (λ z. run z start) (append_assoc h.lines (line_of line) x)
    ∙ begins_run verb headers h.lines (line_of line ++ x) h.begins h.count (omega (arith, n, h.size))
    ∙ header_line_run (Some (verb, headers)) line x (length h.lines) h.form (omega (arith, n, h.size))
    ∙ ap (λ m. next m (run x) x) (form_next verb headers line (length h.lines + length (line_of line)) h.form ∙ last (length h.lines + length (line_of line)))

no_value : (verb : Verb) (headers : List (List ℕ × List ℕ)) (used : ℕ) (name : Option (List ℕ)) → meant verb headers used name None ≡ fails UndefinedEscape
no_value verb headers used None = refl
no_value verb headers used (Some name) = refl

bad_escape : (verb : Verb) (headers : List (List ℕ × List ℕ)) (used : ℕ) (name value : Option (List ℕ)) → (name ≡ None) ⊎ (value ≡ None) → meant verb headers used name value ≡ fails UndefinedEscape
bad_escape verb headers used name value (inl e) = ap (λ o. meant verb headers used o value) e
bad_escape verb headers used name value (inr e) = ap (λ o. meant verb headers used name o) e ∙ no_value verb headers used name

broken_header : (name value : List ℕ) → (IsUtf8 name → ⊥) ⊎ (IsUtf8 value → ⊥) → (is_utf8 name && is_utf8 value) ≡ false
broken_header name value (inl broken) = and_left (is_utf8 name) (is_utf8 value) (broken_text name broken)
broken_header name value (inr broken) = and_right (is_utf8 name) (is_utf8 value) (broken_text value broken)

announced_run : (verb : Verb) (n : ℕ) (bytes x : List ℕ) (h : Announces verb n bytes) (fault : FrameFault) → plan_next verb h.0 (Some h.1) ≡ fails fault → run (bytes ++ x) start ≡ failed fault x
announced_run verb n bytes x h fault last =
    head_run verb h.0 bytes x h.2 ∙ ap (λ m. next m (run x) x) (ap (plan_next verb h.0) h.3 ∙ last)

byte_run : (verb : Verb) (plan : Option ℕ) (body : List ℕ) (b : ℕ) (bytes x : List ℕ) (h : IsNextByte verb plan body b bytes) (fault : FrameFault)
    → step (in_body verb h.headers plan body) b ≡ fails fault → run (bytes ++ x) start ≡ failed fault x
byte_run verb plan body b bytes x h fault last =
    ap (λ z. run (z ++ x) start) h.whole ∙ ap (λ z. run z start) (append_assoc h.head (body ++ b ∷ []) x ∙ ap (λ z. h.head ++ z) (append_assoc body (b ∷ []) x))
    ∙ head_body_run verb h.headers plan h.head body (b ∷ x) h.is_head h.plans h.is_part ∙ ap (λ m. next m (run x) x) last

-- bytes that end where they decide a fault give it
pub faulty_run : (fault : FrameFault) (bytes x : List ℕ) → Faulty fault bytes → run (bytes ++ x) start ≡ failed fault x
faulty_run Malformed bytes x (inl h) = stray_run bytes x h
faulty_run Malformed bytes x (inr (inl (verb, headers, text, line, why))) =
    next_run verb headers text bytes x line Malformed (λ used. elim why [
      | inl none ↦ rw (some_text text line.some_byte, cut_colon-none text none) refl
      | inr nameless ↦
          let P : List ℕ → Type 0 = λ t. ended_line (Some (verb, headers)) t used ≡ fails Malformed in
          subst P (sym nameless.1) (rw (some_text (58 ∷ nameless.0) (omega arith)) refl)
    ])
faulty_run Malformed bytes x (inr (inr (verb, body, b, byte, ne))) =
    byte_run verb (Some (length body)) body b bytes x byte Malformed (rw (eq-eqb (length body) (length body) refl, ne_eqb b 0 ne) refl)
faulty_run TooLarge bytes x (inl h) = long_head_run bytes x h
faulty_run TooLarge bytes x (inr (inl (verb, headers, line, header, is_next, of, full))) =
    header_run verb headers line bytes x is_next TooLarge (λ used.
    rw (of.name, of.value, is_utf8-from_IsUtf8 header.0 of.name_utf8, is_utf8-from_IsUtf8 header.1 of.value_utf8, le-ltb (length headers) 64 (omega (arith, full))) refl)
faulty_run TooLarge bytes x (inr (inr (inl (verb, n, announces, large)))) =
    announced_run verb n bytes x announces TooLarge (rw (number_passes announces.1 announces.4.0 announces.5, announces.4.1, lt-ltb 65536 n large) refl)
faulty_run TooLarge bytes x (inr (inr (inr (verb, body, b, byte, ne, allowed, full)))) =
    byte_run verb None body b bytes x byte TooLarge (rw (ne_eqb b 0 ne, allowed, eq-eqb (length body) 65536 full) refl)
faulty_run UndefinedEscape bytes x (verb, headers, line, is_next, why) =
    header_run verb headers line bytes x is_next UndefinedEscape (λ used. bad_escape verb headers used (meaning verb line.name) (meaning verb line.value) why)
faulty_run UnknownCommand bytes x (text, line, utf8, none) =
    first_run text bytes x line UnknownCommand (rw (some_text text line.some_byte, is_utf8-from_IsUtf8 text utf8, no_verb text none) refl)
faulty_run BodyNotAllowed bytes x (inl (verb, n, announces, some, small, bare)) =
    announced_run verb n bytes x announces BodyNotAllowed
    (rw (number_passes announces.1 announces.4.0 announces.5, announces.4.1, le-ltb 65536 n small, lt-ltb 0 n some, bare) refl)
faulty_run BodyNotAllowed bytes x (inr (verb, b, byte, ne, bare)) =
    byte_run verb None [] b bytes x byte BodyNotAllowed (rw (ne_eqb b 0 ne, bare) refl)
faulty_run BadHeaderValue bytes x (inl (text, line, broken)) =
    first_run text bytes x line BadHeaderValue (rw (some_text text line.some_byte, broken_text text broken) refl)
faulty_run BadHeaderValue bytes x (inr (inl (verb, headers, line, header, is_next, name, value, broken))) =
    header_run verb headers line bytes x is_next BadHeaderValue (λ used. rw (name, value, broken_header header.0 header.1 broken) refl)
faulty_run BadHeaderValue bytes x (inr (inr (verb, headers, text, bounded, is, why))) =
    let last : plan_next verb headers (Some text) ≡ fails BadHeaderValue = rw (number_fails text why) refl in
    head_run verb headers bytes x bounded ∙ ap (λ m. next m (run x) x) (ap (plan_next verb headers) is ∙ last)
