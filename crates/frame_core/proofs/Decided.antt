-- Each stream has an answer: what a byte more does to an unfinished frame is decided.
use Rattle.std.proofs.Common.{◌≡◌, ◌≢◌, ◌<◌, ◌≤◌, ◌+◌, ◌-◌, ℕ, List, [], ◌∷◌, ◌++◌, Bool, true, false, cond, eqb, nat_le, Option, Some, None, ◌⊎◌, inl, inr, length, refl, sym, ap, ◌∙◌, subst, arith, append_assoc, length-append}
use Rattle.std.specs.List.{AllByRecursion}
use Rattle.std.specs.Str.{IsUtf8, is_utf8, bytes_eq}
use Rattle.std.specs.Str.Parse.{IsNumeral, digits_value}
use Rattle.std.specs.Prelude.{codes}
use Rattle.std.proofs.lemmas.Bool.{cases_eq, cases_Bool, both_ways, leb-true, le-leb}
use Rattle.std.proofs.lemmas.List.{append-nil}
use Rattle.std.proofs.lemmas.Slice.Eq.{bytes_eq-Decides}
use Rattle.std.proofs.lemmas.Str.{IsUtf8-from_is_utf8, is_utf8-from_IsUtf8}
use Rattle.frame_core.specs.declared.frame.Frame.{Frame}
use Rattle.frame_core.specs.declared.frame.Verb.{Verb}
use Rattle.frame_core.specs.declared.frame.Verb.TheVariants.{Connect, Stomp, Send, Subscribe, Unsubscribe, Ack, Nack, Begin, Commit, Abort, Disconnect, Connected, Message, Receipt, Error}
use Rattle.frame_core.specs.declared.fault.FrameFault.{FrameFault}
use Rattle.frame_core.specs.declared.fault.FrameFault.TheVariants.{Malformed, TooLarge, UndefinedEscape, UnknownCommand, BodyNotAllowed, BadHeaderValue}
use Rattle.frame_core.specs.declared.reader.Section.{Section}
use Rattle.frame_core.specs.declared.reader.Section.TheVariants.{Command, HeaderLines, Body}
use Rattle.frame_core.specs.Verbs.{name_of, has_body}
use Rattle.frame_core.specs.Heads.{meaning}
use Rattle.frame_core.specs.Spelling.{announced, IsNumber}
use Rattle.frame_core.specs.Parts.{Plans}
use Rattle.frame_core.specs.Faults.{Faulty}
use Rattle.frame_core.specs.Stops.{IsNameAndValue, IsHeaderFault}
use Rattle.frame_core.specs.Streams.{Frames, Reads, Fails}
use Rattle.frame_core.specs.Partials.{IsAt, IsInHead}
use Rattle.frame_core.proofs.BodySteps.{framed, body_reads, frame_ends, no_end, wrong_body, run_kept, long_body}
use Rattle.frame_core.proofs.HeadFaults.{stray, long_head, command_refused, header_refused, too_many_headers, plan_refused}
use Rattle.frame_core.proofs.HeadSteps.{gap_reads, gap_kept, command_ends, header_ends, body_begins}
use Rattle.frame_core.proofs.HeaderLines.{header_form, header_read}
use Rattle.frame_core.proofs.Joins.{joined, joined_fault}
use Rattle.frame_core.proofs.Kept.{unfinished}
use Rattle.frame_core.proofs.MachineBodies.{number_read}
use Rattle.frame_core.proofs.OneHead.{verb_named, named}
use Rattle.frame_core.proofs.OpenLines.{byte_kept, no_body, byte_reads}

-- an unfinished frame, by its parts
pub record Open : Type 0 where
  pub section : Section
  pub head : List ℕ
  pub line : ℕ
  pub cr : Bool
  pub headers : List (List ℕ × List ℕ)
  pub body : List ℕ
  pub is_at : IsAt section head line cr headers body

abbrev pub bytes_of : Open → List ℕ
bytes_of o = o.head ++ o.body

-- what the last byte brings: a fault, or frames and an unfinished one
abbrev pub After : List ℕ → Type 0
After bytes = ((fault : FrameFault) × Faulty fault bytes) ⊎ ((frames : List Frame) × (o : Open) × Frames bytes frames (bytes_of o))

refused : (bytes : List ℕ) (fault : FrameFault) → Faulty fault bytes → After bytes
refused bytes fault h = inl (fault, h)

goes_on : (bytes : List ℕ) (section : Section) (head : List ℕ) (line : ℕ) (cr : Bool) (headers : List (List ℕ × List ℕ)) (body : List ℕ) → Frames bytes [] (head ++ body)
    → IsAt section head line cr headers body → After bytes
goes_on bytes section head line cr headers body reads h =
    inr ([], record { section = section; head = head; line = line; cr = cr; headers = headers; body = body; is_at = h }, reads)

-- nothing of a frame yet
nothing : Open
nothing = record {
  section = Command;
  head = [];
  line = 0;
  cr = false;
  headers = [];
  body = [];
  is_at = (record { part = []; whole = refl; start = refl; each = tt; size = omega arith }, refl, refl);
}

frame_given : (verb : Verb) (bytes : List ℕ) (headers : List (List ℕ × List ℕ)) (body : List ℕ) → Frames bytes (framed verb headers body ∷ []) [] → After bytes
unfolding nothing
frame_given verb bytes headers body reads = inr (framed verb headers body ∷ [], nothing, reads)

-- a byte of a body of no announced length
to_nul : (verb : Verb) (head : List ℕ) (line : ℕ) (cr : Bool) (headers : List (List ℕ × List ℕ)) (body : List ℕ) (b : ℕ) → IsAt (Body verb None) head line cr headers body
    → After ((head ++ body) ++ b ∷ [])
to_nul verb head line cr headers body b h =
    elim (cases_eq b 0) [
      | inl nul ↦
          let P : ℕ → Type 0 = λ x. After ((head ++ body) ++ x ∷ []) in
          subst P (sym nul) (frame_given verb ((head ++ body) ++ 0 ∷ []) headers body (frame_ends verb None head headers body h.0 h.1 h.2 tt))
      | inr ne ↦ elim (cases_Bool (has_body verb)) [
        | inr bare ↦ refused _ BodyNotAllowed (wrong_body verb head line cr headers body b h bare ne)
        | inl allowed ↦ elim (cases_eq (length body) 65536) [
          | inl full ↦
              let P : List ℕ → Type 0 = λ x. Faulty TooLarge (x ++ b ∷ []) in
              refused _ TooLarge (subst P (append-nil (head ++ body)) (long_body verb head line cr headers body [] b h tt (omega (arith, full, length-append body [])) allowed ne))
          | inr more ↦
              goes_on _ (Body verb None) head line cr headers (body ++ b ∷ []) (body_reads head body (b ∷ []))
              (h.0, h.1, run_kept verb body (b ∷ []) h.2 (ne, tt) (omega (arith, length-append body (b ∷ []), h.2.1, more)) allowed)
        ]
      ]
    ]

-- a byte of a body of announced length, or the one behind it
counted : (verb : Verb) (n : ℕ) (head : List ℕ) (line : ℕ) (cr : Bool) (headers : List (List ℕ × List ℕ)) (body : List ℕ) (b : ℕ) → IsAt (Body verb (Some n)) head line cr headers body
    → After ((head ++ body) ++ b ∷ [])
counted verb n head line cr headers body b h =
    elim (cases_eq (length body) n) [
      | inl whole ↦ elim (cases_eq b 0) [
        | inl nul ↦
            let P : ℕ → Type 0 = λ x. After ((head ++ body) ++ x ∷ []) in
            subst P (sym nul) (frame_given verb ((head ++ body) ++ 0 ∷ []) headers body (frame_ends verb (Some n) head headers body h.0 h.1 h.2 whole))
        | inr ne ↦ refused _ Malformed (no_end verb n head line cr headers body b h whole ne)
      ]
      | inr more ↦
          goes_on _ (Body verb (Some n)) head line cr headers (body ++ b ∷ []) (body_reads head body (b ∷ [])) (h.0, h.1, omega (arith, length-append body (b ∷ []), h.2, more))
    ]

-- the words of the commands are decided
some_named : (b : Bool) (v verb : Verb) (rest : Option Verb) → cond b (Some v) rest ≡ Some verb → ((b ≡ true) × (v ≡ verb)) ⊎ (rest ≡ Some verb)
some_named true v verb rest e = inl (refl, cc)
some_named false v verb rest e = inr e

same_name : (text : List ℕ) (v verb : Verb) → (bytes_eq text (name_of v) ≡ true) × (v ≡ verb) → text ≡ name_of verb
same_name text v verb h = (bytes_eq-Decides text (name_of v)).0 h.0 ∙ ap name_of h.1

no_verb : (verb : Verb) → ◌≡◌ {A = Option Verb} None (Some verb) → ⊥
no_verb verb e = cc

named_back : (text : List ℕ) (verb : Verb) → verb_named text ≡ Some verb → text ≡ name_of verb
unfolding verb_named
named_back text verb e0 =
    elim (some_named (bytes_eq text (codes "CONNECT")) Connect verb _ e0) [
      | inl h ↦ same_name text Connect verb h
      | inr e1 ↦
          elim (some_named (bytes_eq text (codes "STOMP")) Stomp verb _ e1) [
            | inl h ↦ same_name text Stomp verb h
            | inr e2 ↦
                elim (some_named (bytes_eq text (codes "SEND")) Send verb _ e2) [
                  | inl h ↦ same_name text Send verb h
                  | inr e3 ↦
                      elim (some_named (bytes_eq text (codes "SUBSCRIBE")) Subscribe verb _ e3) [
                        | inl h ↦ same_name text Subscribe verb h
                        | inr e4 ↦
                            elim (some_named (bytes_eq text (codes "UNSUBSCRIBE")) Unsubscribe verb _ e4) [
                              | inl h ↦ same_name text Unsubscribe verb h
                              | inr e5 ↦
                                  elim (some_named (bytes_eq text (codes "ACK")) Ack verb _ e5) [
                                    | inl h ↦ same_name text Ack verb h
                                    | inr e6 ↦
                                        elim (some_named (bytes_eq text (codes "NACK")) Nack verb _ e6) [
                                          | inl h ↦ same_name text Nack verb h
                                          | inr e7 ↦
                                              elim (some_named (bytes_eq text (codes "BEGIN")) Begin verb _ e7) [
                                                | inl h ↦ same_name text Begin verb h
                                                | inr e8 ↦
                                                    elim (some_named (bytes_eq text (codes "COMMIT")) Commit verb _ e8) [
                                                      | inl h ↦ same_name text Commit verb h
                                                      | inr e9 ↦
                                                          elim (some_named (bytes_eq text (codes "ABORT")) Abort verb _ e9) [
                                                            | inl h ↦ same_name text Abort verb h
                                                            | inr e10 ↦
                                                                elim (some_named (bytes_eq text (codes "DISCONNECT")) Disconnect verb _ e10) [
                                                                  | inl h ↦ same_name text Disconnect verb h
                                                                  | inr e11 ↦
                                                                      elim (some_named (bytes_eq text (codes "CONNECTED")) Connected verb _ e11) [
                                                                        | inl h ↦ same_name text Connected verb h
                                                                        | inr e12 ↦
                                                                            elim (some_named (bytes_eq text (codes "MESSAGE")) Message verb _ e12) [
                                                                              | inl h ↦ same_name text Message verb h
                                                                              | inr e13 ↦
                                                                                  elim (some_named (bytes_eq text (codes "RECEIPT")) Receipt verb _ e13) [
                                                                                    | inl h ↦ same_name text Receipt verb h
                                                                                    | inr e14 ↦
                                                                                        elim (some_named (bytes_eq text (codes "ERROR")) Error verb _ e14) [
                                                                                          | inl h ↦ same_name text Error verb h
                                                                                          | inr e15 ↦
                                                                                              absurd (no_verb verb e15)
                                                                                        ]
                                                                                  ]
                                                                            ]
                                                                      ]
                                                                ]
                                                          ]
                                                    ]
                                              ]
                                        ]
                                  ]
                            ]
                      ]
                ]
          ]
    ]

command_line : (text : List ℕ) → ((verb : Verb) × (text ≡ name_of verb)) ⊎ ((verb : Verb) → name_of verb ≢ text)
command_line text = by_name (verb_named text) refl
  where
    by_name : (o : Option Verb) → verb_named text ≡ o → ((verb : Verb) × (text ≡ name_of verb)) ⊎ ((verb : Verb) → name_of verb ≢ text)
    by_name None e = inr (λ verb same. no_verb verb (sym e ∙ ap verb_named (sym same) ∙ named verb))
    by_name (Some verb) e = inl (verb, named_back text verb e)

utf8_or_not : (text : List ℕ) → IsUtf8 text ⊎ (IsUtf8 text → ⊥)
utf8_or_not text = elim (cases_Bool (is_utf8 text)) [
  | inl is ↦ inl (IsUtf8-from_is_utf8 text is)
  | inr not_so ↦ inr (λ h. both_ways (is_utf8 text) not_so (is_utf8-from_IsUtf8 text h))
]

-- the end of a command line, or of an EOL between frames
command_ended : (head : List ℕ) (line : ℕ) (cr : Bool) (headers : List (List ℕ × List ℕ)) (body : List ℕ) → IsAt Command head line cr headers body → length head < 8192
    → After ((head ++ body) ++ 10 ∷ [])
command_ended head line cr headers body h room =
    let reads = byte_reads head body 10 h.2 in
    elim (cases_eq (length head - cond cr 1 0) 0) [
      | inl none ↦ goes_on _ Command [] line false headers body (gap_reads head line cr headers body h none) (gap_kept head line cr headers body h)
      | inr some ↦ elim (utf8_or_not h.0.part) [
        | inr broken ↦ refused _ BadHeaderValue (command_refused head line cr headers body h BadHeaderValue (omega (arith, some)) room broken)
        | inl text ↦ elim (command_line h.0.part) [
          | inl v ↦ goes_on _ (HeaderLines v.0) (head ++ 10 ∷ []) (length head + 1) false headers body reads (command_ends v.0 head line cr headers body h v.1 room)
          | inr none ↦ refused _ UnknownCommand (command_refused head line cr headers body h UnknownCommand (omega (arith, some)) room (text, none))
        ]
      ]
    ]

-- the empty line
head_ended : (verb : Verb) (head : List ℕ) (line : ℕ) (cr : Bool) (headers : List (List ℕ × List ℕ)) (body : List ℕ) → IsAt (HeaderLines verb) head line cr headers body
    → length head - cond cr 1 0 ≡ line → length head < 8192 → After ((head ++ body) ++ 10 ∷ [])
head_ended verb head line cr headers body h empty room = planned (announced headers) refl
  where
    with_plan : (plan : Option ℕ) → Plans verb headers plan → After ((head ++ body) ++ 10 ∷ [])
    with_plan plan plans =
        goes_on _ (Body verb plan) (head ++ 10 ∷ []) (length head + 1) false headers body (byte_reads head body 10 h.4) (body_begins verb plan head line cr headers body h empty room plans)

    with_number : (text : List ℕ) → announced headers ≡ Some text → IsNumeral 10 text × (length text ≤ 10) → After ((head ++ body) ++ 10 ∷ [])
    with_number text is numeral =
        let n = digits_value 10 text in
        let number : IsNumber text n = (numeral.0, refl) in
        elim (cases_Bool (nat_le n 65536)) [
          | inr long ↦ refused _ TooLarge (plan_refused verb head line cr headers body h TooLarge empty room (text, n, is, number, numeral.1, over n long))
          | inl short ↦ elim (cases_Bool (has_body verb)) [
            | inl allowed ↦ with_plan (Some n) (record { text = text; announced = is; number = number; digits = numeral.1; size = leb-true n 65536 short; allowed = λ bare. absurd (both_ways (has_body verb) bare allowed) })
            | inr bare ↦ elim (cases_eq n 0) [
              | inl none ↦ with_plan (Some n) (record { text = text; announced = is; number = number; digits = numeral.1; size = leb-true n 65536 short; allowed = λ _. none })
              | inr some ↦ refused _ BodyNotAllowed (plan_refused verb head line cr headers body h BodyNotAllowed empty room (text, n, is, number, numeral.1, above n some, leb-true n 65536 short, bare))
            ]
          ]
        ]
      where
        over : (n : ℕ) → nat_le n 65536 ≡ false → 65536 < n
        over n e = omega (arith, λ (le : n ≤ 65536). both_ways (nat_le n 65536) e (le-leb n 65536 le))

        above : (n : ℕ) → n ≢ 0 → 0 < n
        above n ne = omega (arith, ne)

    planned : (o : Option (List ℕ)) → announced headers ≡ o → After ((head ++ body) ++ 10 ∷ [])
    planned None is = with_plan None is
    planned (Some text) is = elim (number_read text) [
      | inl numeral ↦ with_number text is numeral
      | inr why ↦ refused _ BadHeaderValue (plan_refused verb head line cr headers body h BadHeaderValue empty room (text, is, why))
    ]

-- where the first colon stands
cut : (text : List ℕ) → ((name : List ℕ) × (value : List ℕ) × (text ≡ name ++ (58 ∷ value)) × AllByRecursion (λ b. b ≢ 58) name) ⊎ AllByRecursion (λ b. b ≢ 58) text
cut [] = inr tt
cut (b ∷ text) = elim (cases_eq b 58) [
  | inl e ↦ inl ([], text, ap (λ x. x ∷ text) e, tt)
  | inr ne ↦ elim (cut text) [
    | inl c ↦ inl (b ∷ c.0, c.1, ap (λ x. b ∷ x) c.2, (ne, c.3))
    | inr all ↦ inr (ne, all)
  ]
]

-- the end of a header line
header_ended : (verb : Verb) (head : List ℕ) (line : ℕ) (cr : Bool) (headers : List (List ℕ × List ℕ)) (body : List ℕ) → IsAt (HeaderLines verb) head line cr headers body
    → (length head - cond cr 1 0 ≡ line → ⊥) → length head < 8192 → After ((head ++ body) ++ 10 ∷ [])
header_ended verb head line cr headers body h some room = elim (cut h.1.part) [
  | inr all ↦ bad Malformed (inl all)
  | inl c ↦ elim (cases_eq (length c.0) 0) [
    | inl none ↦ bad Malformed (inr (c.1, nameless c.0 c.1 h.1.part none c.2))
    | inr named ↦ with_meaning c.0 c.1 (header_form h.1.part c.0 c.1 h.1.each (c.2, omega (arith, named), c.3)) (meaning verb c.0) (meaning verb c.1) refl refl
  ]
]
  where
    bad : (fault : FrameFault) → IsHeaderFault verb h.1.part fault → After ((head ++ body) ++ 10 ∷ [])
    bad fault why = refused _ fault (header_refused verb head line cr headers body h fault some room why)

    nameless : (name value text : List ℕ) → length name ≡ 0 → text ≡ name ++ (58 ∷ value) → text ≡ 58 ∷ value
    nameless [] value text none e = e
    nameless (b ∷ name) value text none e = absurd (omega (arith, none))

    with_meaning : (name value : List ℕ) → IsNameAndValue h.1.part name value → (n v : Option (List ℕ)) → meaning verb name ≡ n → meaning verb value ≡ v → After ((head ++ body) ++ 10 ∷ [])
    with_meaning name value form None v n_is v_is = bad UndefinedEscape (name, value, form, inl n_is)
    with_meaning name value form (Some n) None n_is v_is = bad UndefinedEscape (name, value, form, inr v_is)
    with_meaning name value form (Some n) (Some v) n_is v_is = elim (utf8_or_not n) [
      | inr broken ↦ bad BadHeaderValue (name, value, (n, v), form, n_is, v_is, inl broken)
      | inl n_text ↦ elim (utf8_or_not v) [
        | inr broken ↦ bad BadHeaderValue (name, value, (n, v), form, n_is, v_is, inr broken)
        | inl v_text ↦
            let text = header_read verb h.1.part name value n v n v form n_is v_is (refl, n_text) (refl, v_text) in
            elim (cases_eq (length headers) 64) [
              | inl full ↦ refused _ TooLarge (too_many_headers verb head line cr headers body h (n, v) text full room)
              | inr more ↦
                  goes_on _ (HeaderLines verb) (head ++ 10 ∷ []) (length head + 1) false (headers ++ (n, v) ∷ []) body (byte_reads head body 10 h.4)
                  (header_ends verb head line cr headers body h (n, v) text (omega (arith, more, h.3)) room)
            ]
      ]
    ]

-- the LF of a line
line_ended : (section : Section) (head : List ℕ) (line : ℕ) (cr : Bool) (headers : List (List ℕ × List ℕ)) (body : List ℕ) → IsInHead section → IsAt section head line cr headers body
    → length head < 8192 → After ((head ++ body) ++ 10 ∷ [])
line_ended Command head line cr headers body i h room = command_ended head line cr headers body h room
line_ended (HeaderLines verb) head line cr headers body i h room = elim (cases_eq (length head - cond cr 1 0) line) [
  | inl empty ↦ head_ended verb head line cr headers body h empty room
  | inr some ↦ header_ended verb head line cr headers body h some room
]
line_ended (Body verb plan) head line cr headers body i h room = absurd i

head_size : (section : Section) (head : List ℕ) (line : ℕ) (cr : Bool) (headers : List (List ℕ × List ℕ)) (body : List ℕ) → IsInHead section → IsAt section head line cr headers body → length head ≤ 8192
head_size Command head line cr headers body i h = h.0.size
head_size (HeaderLines verb) head line cr headers body i h = h.1.size
head_size (Body verb plan) head line cr headers body i h = absurd i

-- a byte of a head
in_head : (section : Section) (head : List ℕ) (line : ℕ) (cr : Bool) (headers : List (List ℕ × List ℕ)) (body : List ℕ) (b : ℕ) → IsInHead section → IsAt section head line cr headers body
    → After ((head ++ body) ++ b ∷ [])
in_head section head line cr headers body b i h = elim (cases_eq (length head) 8192) [
  | inl full ↦ refused _ TooLarge (long_head section head line cr headers body b i h full)
  | inr more ↦
      let room : length head < 8192 = omega (arith, more, head_size section head line cr headers body i h) in
      elim (cases_eq b 10) [
        | inl lf ↦
            let P : ℕ → Type 0 = λ x. After ((head ++ body) ++ x ∷ []) in
            subst P (sym lf) (line_ended section head line cr headers body i h room)
        | inr no_lf ↦ elim (cases_Bool cr) [
          | inl with_cr ↦ refused _ Malformed (stray section head line cr headers body b i h room (λ none. absurd (both_ways cr none with_cr)) (λ _. no_lf))
          | inr no_cr ↦ elim (cases_eq b 0) [
            | inl nul ↦ refused _ Malformed (stray section head line cr headers body b i h room (λ _. nul) (λ with_cr. absurd (both_ways cr no_cr with_cr)))
            | inr no_nul ↦
                goes_on _ section (head ++ b ∷ []) line (eqb b 13) headers body (byte_reads head body b (no_body section head line cr headers body i h))
                (byte_kept section head line cr headers body b i h no_cr no_lf no_nul room)
          ]
        ]
      ]
]

after_byte : (section : Section) (head : List ℕ) (line : ℕ) (cr : Bool) (headers : List (List ℕ × List ℕ)) (body : List ℕ) (b : ℕ) → IsAt section head line cr headers body
    → After ((head ++ body) ++ b ∷ [])
after_byte Command head line cr headers body b h = in_head Command head line cr headers body b tt h
after_byte (HeaderLines verb) head line cr headers body b h = in_head (HeaderLines verb) head line cr headers body b tt h
after_byte (Body verb None) head line cr headers body b h = to_nul verb head line cr headers body b h
after_byte (Body verb (Some n)) head line cr headers body b h = counted verb n head line cr headers body b h

-- frames and a rest, or frames and a fault
abbrev pub Answer : List ℕ → Type 0
Answer stream = ((frames : List Frame) × (rest : List ℕ) × Reads stream frames rest) ⊎ ((frames : List Frame) × (fault : FrameFault) × Fails stream frames fault)

answer_behind : (bytes stream rest : List ℕ) (frames : List Frame) → Frames bytes frames rest → Answer (rest ++ stream) → Answer (bytes ++ stream)
answer_behind bytes stream rest frames reads (inl a) = inl (frames ++ a.0, a.1, (joined bytes stream frames a.0 rest a.1 reads a.2.0, a.2.1))
answer_behind bytes stream rest frames reads (inr a) = inr (frames ++ a.0, a.1, joined_fault bytes stream frames a.0 rest a.1 reads a.2)

answer_from : (stream : List ℕ) (o : Open) → Answer (bytes_of o ++ stream)
answer_from [] o = inl ([], bytes_of o, (([], append-nil (bytes_of o)), unfinished o.section o.head o.line o.cr o.headers o.body o.is_at))
answer_from (b ∷ stream) o = elim (after_byte o.section o.head o.line o.cr o.headers o.body b o.is_at) [
  | inl f ↦ inr ([], f.0, (bytes_of o ++ b ∷ [], stream, ([], sym (append_assoc (bytes_of o) (b ∷ []) stream)), f.1))
  | inr a ↦ subst Answer (append_assoc (bytes_of o) (b ∷ []) stream) (answer_behind (bytes_of o ++ b ∷ []) stream (bytes_of a.1) a.0 a.2 (answer_from stream a.1))
]

-- each stream has an answer
pub an_answer : (stream : List ℕ) → Answer stream
unfolding nothing
an_answer stream = answer_from stream nothing
