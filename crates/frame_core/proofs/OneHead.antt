use Rattle.std.proofs.Common.{◌≡◌, ◌≢◌, ◌<◌, ℕ, List, [], ◌∷◌, ◌++◌, Bool, true, false, cond, eqb, not, ◌&&◌, Option, Some, None, length, refl, sym, ap, ◌∙◌, subst, arith, append_assoc, codes}
use Rattle.std.specs.List.{AllByRecursion}
use Rattle.std.specs.Str.{bytes_eq}
use Rattle.std.proofs.lemmas.Bool.{and_parts, not-true, eqb-false}
use Rattle.frame_core.specs.declared.frame.Verb.{Verb}
use Rattle.frame_core.specs.declared.frame.Verb.TheVariants.{Connect, Stomp, Send, Subscribe, Unsubscribe, Ack, Nack, Begin, Commit, Abort, Disconnect, Connected, Message, Receipt, Error}
use Rattle.frame_core.specs.Verbs.{name_of}
use Rattle.frame_core.specs.Heads.{IsInLine, eol, HeaderLine, line_of, IsHeaderLine, meaning, IsHeaderOf, HeaderLines, IsHead}

-- Where a text ends at the first byte that can't stand in it, it ends at one place.
pub one_end : (P : ℕ → Type 0) (text other : List ℕ) (b c : ℕ) (x y : List ℕ) → AllByRecursion P text → AllByRecursion P other → (P b → ⊥) → (P c → ⊥)
    → text ++ (b ∷ x) ≡ other ++ (c ∷ y) → (text ≡ other) × (b ≡ c) × (x ≡ y)
one_end P [] [] b c x y h k no_b no_c e = (refl, (cc), (cc))
one_end P [] (o ∷ other) b c x y h k no_b no_c e = let same : b ≡ o = cc in absurd (no_b (subst P (sym same) k.0))
one_end P (t ∷ text) [] b c x y h k no_b no_c e = let same : t ≡ c = cc in absurd (no_c (subst P same h.0))
one_end P (t ∷ text) (o ∷ other) b c x y h k no_b no_c e =
    let same : t ≡ o = cc in
    let rest : text ++ (b ∷ x) ≡ other ++ (c ∷ y) = cc in
    let r = one_end P text other b c x y h.1 k.1 no_b no_c rest in
    (λ i. same i ∷ r.0 i, r.1, r.2)

-- an EOL is one byte, or two
eol_front : Bool → ℕ
eol_front cr = cond cr 13 10

eol_back : Bool → List ℕ → List ℕ
eol_back cr x = cond cr (10 ∷ x) x

eol_cut : (cr : Bool) (x : List ℕ) → eol cr ++ x ≡ eol_front cr ∷ eol_back cr x
unfolding eol_front eol_back
eol_cut true x = refl
eol_cut false x = refl

not_in_line : (cr : Bool) → IsInLine (eol_front cr) → ⊥
unfolding eol_front
not_in_line true h = h.2 refl
not_in_line false h = h.1 refl

same_eol : (cr other : Bool) (x y : List ℕ) → eol_front cr ≡ eol_front other → eol_back cr x ≡ eol_back other y → (cr ≡ other) × (x ≡ y)
unfolding eol_front eol_back
same_eol true true x y e r = (refl, (cc))
same_eol true false x y e r = absurd (omega arith)
same_eol false true x y e r = absurd (omega arith)
same_eol false false x y e r = (refl, r)

-- a text and its end of line are cut at one place
pub one_line : (text other : List ℕ) (cr other_cr : Bool) (x y : List ℕ) → AllByRecursion IsInLine text → AllByRecursion IsInLine other
    → text ++ (eol cr ++ x) ≡ other ++ (eol other_cr ++ y) → (text ≡ other) × (cr ≡ other_cr) × (x ≡ y)
one_line text other cr other_cr x y h k e =
    let cut : text ++ (eol_front cr ∷ eol_back cr x) ≡ other ++ (eol_front other_cr ∷ eol_back other_cr y) =
    ap (λ z. text ++ z) (sym (eol_cut cr x)) ∙ e ∙ ap (λ z. other ++ z) (eol_cut other_cr y) in
    let r = one_end IsInLine text other _ _ _ _ h k (not_in_line cr) (not_in_line other_cr) cut in
    let s = same_eol cr other_cr x y r.1 r.2 in
    (r.0, s.0, s.1)

-- a header line is cut at one place
pub one_header_line : (line other : HeaderLine) (x y : List ℕ) → IsHeaderLine line → IsHeaderLine other → line_of line ++ x ≡ line_of other ++ y
    → (line.name ≡ other.name) × (line.value ≡ other.value) × (line.with_cr ≡ other.with_cr) × (x ≡ y)
one_header_line line other x y h k e =
    let cut : line.name ++ (58 ∷ (line.value ++ (eol line.with_cr ++ x))) ≡ other.name ++ (58 ∷ (other.value ++ (eol other.with_cr ++ y))) =
    sym (spread line x) ∙ e ∙ spread other y in
    let r = one_end (λ b. IsInLine b × (b ≢ 58)) line.name other.name 58 58 _ _ h.name k.name (λ p. p.1 refl) (λ p. p.1 refl) cut in
    let s = one_line line.value other.value line.with_cr other.with_cr x y h.value k.value r.2 in
    (r.0, s.0, s.1, s.2)
  where
    spread : (l : HeaderLine) (z : List ℕ) → line_of l ++ z ≡ l.name ++ (58 ∷ (l.value ++ (eol l.with_cr ++ z)))
    spread l z = append_assoc l.name (58 ∷ (l.value ++ eol l.with_cr)) z ∙ ap (λ w. l.name ++ (58 ∷ w)) (append_assoc l.value (eol l.with_cr) z)

-- a header line is no empty line
pub no_empty_line : (line : HeaderLine) (cr : Bool) (x y : List ℕ) → IsHeaderLine line → line_of line ++ x ≡ eol cr ++ y → ⊥
no_empty_line line cr x y h e =
    let cut : line.name ++ (58 ∷ ((line.value ++ eol line.with_cr) ++ x)) ≡ eol_front cr ∷ eol_back cr y = sym (append_assoc line.name (58 ∷ (line.value ++ eol line.with_cr)) x) ∙ e ∙ eol_cut cr y in
    begins line.name h.named h.name cut
  where
    begins : (name : List ℕ) → 0 < length name → AllByRecursion (λ b. IsInLine b × (b ≢ 58)) name → name ++ (58 ∷ ((line.value ++ eol line.with_cr) ++ x)) ≡ eol_front cr ∷ eol_back cr y → ⊥
    begins [] named each c = absurd (omega arith)
    begins (b ∷ name) named each c = let same : b ≡ eol_front cr = cc in not_in_line cr (subst IsInLine same each.0.0)

-- a header line is one header
pub one_header : (verb : Verb) (line other : HeaderLine) (header second : List ℕ × List ℕ) → IsHeaderOf verb line header → IsHeaderOf verb other second → line.name ≡ other.name → line.value ≡ other.value
    → header ≡ second
one_header verb line other header second h k n v =
    let name : Some header.0 ≡ Some second.0 = sym h.name ∙ ap (meaning verb) n ∙ k.name in
    let value : Some header.1 ≡ Some second.1 = sym h.value ∙ ap (meaning verb) v ∙ k.value in
    let name' : header.0 ≡ second.0 = cc in
    let value' : header.1 ≡ second.1 = cc in
    λ i. (name' i, value' i)

-- header lines up to an empty line are cut at one place, and are one list of headers
pub one_list : (verb : Verb) (lines others : List ℕ) (headers seconds : List (List ℕ × List ℕ)) (cr other_cr : Bool) (x y : List ℕ) → HeaderLines verb lines headers → HeaderLines verb others seconds
    → lines ++ (eol cr ++ x) ≡ others ++ (eol other_cr ++ y) → (headers ≡ seconds) × (x ≡ y)
one_list verb lines others [] [] cr other_cr x y h k e =
    let cut : [] ++ (eol cr ++ x) ≡ [] ++ (eol other_cr ++ y) = ap (λ z. z ++ (eol cr ++ x)) (sym h) ∙ e ∙ ap (λ z. z ++ (eol other_cr ++ y)) k in
    (refl, (one_line [] [] cr other_cr x y tt tt cut).2)
one_list verb lines others [] (second ∷ seconds) cr other_cr x y h k e =
    let cut : eol cr ++ x ≡ line_of k.0 ++ (k.1 ++ (eol other_cr ++ y)) =
    ap (λ z. z ++ (eol cr ++ x)) (sym h) ∙ e ∙ ap (λ z. z ++ (eol other_cr ++ y)) k.3 ∙ append_assoc (line_of k.0) k.1 (eol other_cr ++ y) in
    absurd (no_empty_line k.0 cr _ x k.2.form (sym cut))
one_list verb lines others (header ∷ headers) [] cr other_cr x y h k e =
    let cut : line_of h.0 ++ (h.1 ++ (eol cr ++ x)) ≡ eol other_cr ++ y =
    sym (append_assoc (line_of h.0) h.1 (eol cr ++ x)) ∙ ap (λ z. z ++ (eol cr ++ x)) (sym h.3) ∙ e ∙ ap (λ z. z ++ (eol other_cr ++ y)) k in
    absurd (no_empty_line h.0 other_cr _ y h.2.form cut)
one_list verb lines others (header ∷ headers) (second ∷ seconds) cr other_cr x y h k e =
    let cut : line_of h.0 ++ (h.1 ++ (eol cr ++ x)) ≡ line_of k.0 ++ (k.1 ++ (eol other_cr ++ y)) =
    sym (append_assoc (line_of h.0) h.1 (eol cr ++ x)) ∙ ap (λ z. z ++ (eol cr ++ x)) (sym h.3) ∙ e ∙ ap (λ z. z ++ (eol other_cr ++ y)) k.3 ∙ append_assoc (line_of k.0) k.1 (eol other_cr ++ y) in
    let r = one_header_line h.0 k.0 _ _ h.2.form k.2.form cut in
    let first = one_header verb h.0 k.0 header second h.2 k.2 r.0 r.1 in
    let s = one_list verb h.1 k.1 headers seconds cr other_cr x y h.4 k.4 r.3 in
    (λ i. first i ∷ s.0 i, s.1)

-- whether a byte may stand within a line
in_line : ℕ → Bool
in_line b = not (eqb b 0) && (not (eqb b 10) && not (eqb b 13))

all_in_line : List ℕ → Bool
all_in_line [] = true
all_in_line (b ∷ text) = in_line b && all_in_line text

tested : (text : List ℕ) → all_in_line text ≡ true → AllByRecursion IsInLine text
unfolding all_in_line in_line
tested [] h = tt
tested (b ∷ text) h =
    let p = and_parts _ (all_in_line text) h in
    let q = and_parts (not (eqb b 0)) _ p.0 in
    let r = and_parts (not (eqb b 10)) (not (eqb b 13)) q.1 in
    ((eqb-false b 0 (not-true _ q.0), eqb-false b 10 (not-true _ r.0), eqb-false b 13 (not-true _ r.1)), tested text p.1)

-- the word of a command stands in a line
pub name_in_line : (verb : Verb) → AllByRecursion IsInLine (name_of verb)
unfolding all_in_line in_line
name_in_line Connect = tested (codes "CONNECT") refl
name_in_line Stomp = tested (codes "STOMP") refl
name_in_line Send = tested (codes "SEND") refl
name_in_line Subscribe = tested (codes "SUBSCRIBE") refl
name_in_line Unsubscribe = tested (codes "UNSUBSCRIBE") refl
name_in_line Ack = tested (codes "ACK") refl
name_in_line Nack = tested (codes "NACK") refl
name_in_line Begin = tested (codes "BEGIN") refl
name_in_line Commit = tested (codes "COMMIT") refl
name_in_line Abort = tested (codes "ABORT") refl
name_in_line Disconnect = tested (codes "DISCONNECT") refl
name_in_line Connected = tested (codes "CONNECTED") refl
name_in_line Message = tested (codes "MESSAGE") refl
name_in_line Receipt = tested (codes "RECEIPT") refl
name_in_line Error = tested (codes "ERROR") refl

-- the command of a word
unfoldable pub verb_named : List ℕ → Option Verb
verb_named text =
    cond (bytes_eq text (codes "CONNECT")) (Some Connect) (
    cond (bytes_eq text (codes "STOMP")) (Some Stomp) (
    cond (bytes_eq text (codes "SEND")) (Some Send) (
    cond (bytes_eq text (codes "SUBSCRIBE")) (Some Subscribe) (
    cond (bytes_eq text (codes "UNSUBSCRIBE")) (Some Unsubscribe) (
    cond (bytes_eq text (codes "ACK")) (Some Ack) (
    cond (bytes_eq text (codes "NACK")) (Some Nack) (
    cond (bytes_eq text (codes "BEGIN")) (Some Begin) (
    cond (bytes_eq text (codes "COMMIT")) (Some Commit) (
    cond (bytes_eq text (codes "ABORT")) (Some Abort) (
    cond (bytes_eq text (codes "DISCONNECT")) (Some Disconnect) (
    cond (bytes_eq text (codes "CONNECTED")) (Some Connected) (
    cond (bytes_eq text (codes "MESSAGE")) (Some Message) (
    cond (bytes_eq text (codes "RECEIPT")) (Some Receipt) (
    cond (bytes_eq text (codes "ERROR")) (Some Error) None))))))))))))))

pub named : (verb : Verb) → verb_named (name_of verb) ≡ Some verb
unfolding verb_named
named Connect = refl
named Stomp = refl
named Send = refl
named Subscribe = refl
named Unsubscribe = refl
named Ack = refl
named Nack = refl
named Begin = refl
named Commit = refl
named Abort = refl
named Disconnect = refl
named Connected = refl
named Message = refl
named Receipt = refl
named Error = refl

-- no two commands have one word
pub one_verb : (verb other : Verb) → name_of verb ≡ name_of other → verb ≡ other
one_verb verb other e =
    let this = named verb in
    let that = named other in
    let same : verb_named (name_of verb) ≡ verb_named (name_of other) = ap verb_named e in
    cc

-- heads are cut at one place, and are one command and one list of headers
pub one_head : (verb other : Verb) (headers seconds : List (List ℕ × List ℕ)) (head second x y : List ℕ) → IsHead verb headers head → IsHead other seconds second → head ++ x ≡ second ++ y
    → (verb ≡ other) × (headers ≡ seconds) × (x ≡ y)
one_head verb other headers seconds head second x y h k e =
    let cut : name_of verb ++ (eol h.begins.with_cr ++ (h.begins.lines ++ (eol h.with_cr ++ x))) ≡ name_of other ++ (eol k.begins.with_cr ++ (k.begins.lines ++ (eol k.with_cr ++ y))) =
    sym (spread verb headers head x h) ∙ e ∙ spread other seconds second y k in
    let r = one_line (name_of verb) (name_of other) h.begins.with_cr k.begins.with_cr _ _ (name_in_line verb) (name_in_line other) cut in
    let same = one_verb verb other r.0 in
    let P : Verb → Type 0 = λ v. HeaderLines v k.begins.lines seconds in
    let s = one_list verb h.begins.lines k.begins.lines headers seconds h.with_cr k.with_cr x y h.begins.each (subst P (sym same) k.begins.each) r.2 in
    (same, s.0, s.1)
  where
    spread : (v : Verb) (hs : List (List ℕ × List ℕ)) (bytes z : List ℕ) (i : IsHead v hs bytes) → bytes ++ z ≡ name_of v ++ (eol i.begins.with_cr ++ (i.begins.lines ++ (eol i.with_cr ++ z)))
    spread v hs bytes z i =
        ap (λ w. w ++ z) (i.whole ∙ ap (λ w. w ++ eol i.with_cr) i.begins.whole)
        ∙ append_assoc (name_of v ++ eol i.begins.with_cr ++ i.begins.lines) (eol i.with_cr) z
        ∙ append_assoc (name_of v ++ eol i.begins.with_cr) i.begins.lines (eol i.with_cr ++ z)
        ∙ append_assoc (name_of v) (eol i.begins.with_cr) (i.begins.lines ++ (eol i.with_cr ++ z))
