-- The bytes of a MESSAGE, one part after another.
use Rattle.std.proofs.Common.{◌≡◌, ◌≢◌, ◌≤◌, ◌<◌, ◌^◌, ◌++◌, ◌∷◌, ◌∙◌, [], List, ℕ, Option, ap, append_assoc, arith, codes, flat_map, length, refl, rules, subst, sym}
use Rattle.std.specs.Fmt.{decimal}
use Rattle.std.specs.List.{AllByRecursion}
use Rattle.std.specs.Str.{IsUtf8}
use Rattle.std.proofs.lemmas.Bool.{ne_eqb}
use Rattle.std.proofs.lemmas.Grind.{flat_map-append}
use Rattle.escape_core.specs.Escapes.{code_of, escaped}
use Rattle.frame_core.specs.declared.frame.Verb.TheVariants.{Message}
use Rattle.std.proofs.lemmas.Str.{IsUtf8-append}
use Rattle.frame_core.proofs.Lists.{all_append}
use Rattle.frame_core.proofs.Texts.{ascii_text, behind_ascii}
use Rattle.frame_core.specs.Written.{IsText, written, written_header}
use Rattle.command_core.specs.Sendings.{SendingValue}
use Rattle.command_core.specs.Replies.{ack_header, message_frame, message_id, own_headers}
use Rattle.command_core.proofs.WritableReplies.{AllDigits, digits_of_decimal}

-- a header line of a MESSAGE
abbrev pub line : List ℕ × List ℕ → List ℕ
line h = written_header Message h

abbrev pub lines : List (List ℕ × List ℕ) → List ℕ
lines hs = flat_map (written_header Message) hs

digit_is_plain : (b : ℕ) → (48 ≤ b) × (b ≤ 57) → code_of b ≡ b ∷ []
digit_is_plain b d = rw (ne_eqb b 13 (λ e. omega arith), ne_eqb b 10 (λ e. omega arith), ne_eqb b 58 (λ e. omega arith), ne_eqb b 92 (λ e. omega arith)) refl

digits_are_plain : (ds : List ℕ) → AllDigits ds → escaped ds ≡ ds
digits_are_plain [] a = refl
digits_are_plain (d ∷ ds) a = λ i. digit_is_plain d a.0 i ++ digits_are_plain ds a.1 i

-- no byte of a message's name needs an escape
id_is_plain : (n k : ℕ) → n < 2 ^ 64 → k < 2 ^ 64 → escaped (message_id n k) ≡ message_id n k
id_is_plain n k n_fits k_fits =
    flat_map-append code_of (decimal n) (46 ∷ decimal k)
    ∙ (λ i. digits_are_plain (decimal n) (digits_of_decimal n n_fits) i ++ 46 ∷ digits_are_plain (decimal k) (digits_of_decimal k k_fits) i)

-- the line that names a message is written in five parts
pub id_written : (n k : ℕ) (old name one dot two now : List ℕ) → n < 2 ^ 64 → k < 2 ^ 64 → name ≡ old ++ codes "message-id:" → one ≡ name ++ decimal n → dot ≡ one ++ 46 ∷ []
    → two ≡ dot ++ decimal k → now ≡ two ++ 10 ∷ [] → now ≡ old ++ line (codes "message-id", message_id n k)
id_written n k old name one dot two now n_fits k_fits p q r s t =
    let parts : now ≡ old ++ (codes "message-id:" ++ (message_id n k ++ 10 ∷ [])) = rw (t, s, r, q, p) (search (rules, append_assoc)) in
    parts ∙ ap (λ id. old ++ (codes "message-id:" ++ (id ++ 10 ∷ []))) (sym (id_is_plain n k n_fits k_fits))

-- the broker's own lines are written one after another
pub own_written : (id name : List ℕ) (d : Option ℕ) (s : SendingValue) (old one two three four now : List ℕ) → one ≡ old ++ line (codes "subscription", id) → two ≡ one ++ line (codes "message-id", name)
    → three ≡ two ++ line (codes "destination", s.destination) → four ≡ three ++ lines (ack_header d) → now ≡ four ++ line (codes "content-length", decimal (length s.body))
    → now ≡ old ++ lines (own_headers id name d s)
own_written id name d s old one two three four now p q r t u =
    let last : lines (ack_header d ++ (codes "content-length", decimal (length s.body)) ∷ []) ≡ lines (ack_header d) ++ (line (codes "content-length", decimal (length s.body)) ++ [])
    = flat_map-append (written_header Message) (ack_header d) ((codes "content-length", decimal (length s.body)) ∷ []) in
    rw (u, t, r, q, p, last) (in_a_row old (line (codes "subscription", id)) (line (codes "message-id", name)) (line (codes "destination", s.destination)) (lines (ack_header d)) (line (codes "content-length", decimal (length s.body))))
  where
    in_a_row : (o a b c e f : List ℕ) → ((((o ++ a) ++ b) ++ c) ++ e) ++ f ≡ o ++ (a ++ (b ++ (c ++ (e ++ (f ++ [])))))
    in_a_row o a b c e f = search (rules, append_assoc)

-- a MESSAGE is written part by part
pub message_written : (id : List ℕ) (n k : ℕ) (d : Option ℕ) (s : SendingValue) (none verb own all head body now : List ℕ) → none ≡ [] → verb ≡ none ++ codes "MESSAGE\n"
    → own ≡ verb ++ lines (own_headers id (message_id n k) d s) → all ≡ own ++ lines s.headers → head ≡ all ++ 10 ∷ [] → body ≡ head ++ s.body → now ≡ body ++ 0 ∷ []
    → now ≡ written (message_frame id n k d s)
message_written id n k d s none verb own all head body now p q r t u v w =
    let both : lines (own_headers id (message_id n k) d s ++ s.headers) ≡ lines (own_headers id (message_id n k) d s) ++ lines s.headers
    = flat_map-append (written_header Message) (own_headers id (message_id n k) d s) s.headers in
    (rw (w, v, u, t, r, q, p) (in_a_row (lines (own_headers id (message_id n k) d s)) (lines s.headers) s.body)) ∙ ap (λ ls. (codes "MESSAGE" ++ (10 ∷ (ls ++ 10 ∷ []))) ++ (s.body ++ 0 ∷ [])) (sym both)
  where
    in_a_row : (own kept b : List ℕ) → ((((([] ++ codes "MESSAGE\n") ++ own) ++ kept) ++ 10 ∷ []) ++ b) ++ 0 ∷ [] ≡ (codes "MESSAGE" ++ (10 ∷ ((own ++ kept) ++ 10 ∷ []))) ++ (b ++ 0 ∷ [])
    in_a_row own kept b = search (rules, append_assoc)

-- the header that names a message is UTF-8
pub id_text : (n k : ℕ) (one two : List ℕ) → one ≡ decimal n → two ≡ decimal k → IsUtf8 one → IsUtf8 two → IsText (codes "message-id", message_id n k)
id_text n k one two p q a b =
    (ascii_text (codes "message-id") (search rules), IsUtf8-append (decimal n) (46 ∷ decimal k) (subst IsUtf8 p a) (behind_ascii 46 (decimal k) (omega arith) (subst IsUtf8 q b)))

-- a header whose name and value are UTF-8, however they are given
same_text : (name value : List ℕ) (h : List ℕ × List ℕ) → (name ≡ h.0) × (value ≡ h.1) → IsText (name, value) → IsText h
same_text name value h is text = (subst IsUtf8 is.0 text.0, subst IsUtf8 is.1 text.1)

-- the broker's own headers are UTF-8 if each of them is
pub own_texts : (d : Option ℕ) (to subscription name destination : List ℕ) (size : ℕ) (id message : List ℕ) (s : SendingValue)
    → (to ≡ codes "subscription") × (subscription ≡ id) → (name ≡ codes "destination") × (destination ≡ s.destination) → size ≡ length s.body
    → IsText (to, subscription) → IsText (codes "message-id", message) → IsText (name, destination) → AllByRecursion IsText (ack_header d) → IsText (codes "content-length", decimal size)
    → AllByRecursion IsText (own_headers id message d s)
own_texts d to subscription name destination size id message s first third fifth a b c e f = (
  same_text to subscription (codes "subscription", id) first a,
  (b, (same_text name destination (codes "destination", s.destination) third c, all_append IsText (ack_header d) _ e (subst (λ n. IsText (codes "content-length", decimal n)) fifth f, tt))),
)
