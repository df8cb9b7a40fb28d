-- Headers and messages in records.
use Rattle.std.proofs.Common.{◌≡◌, ◌++◌, ℕ, true, cond, ltb, List, Option, Some, None, length, refl, ap, ◌∙◌, append_assoc, arith}
use Rattle.std.proofs.lemmas.Bool.{and_parts, ltb-true, lt-ltb}
use Rattle.frame_core.proofs.Lists.{all_weaker, all_both}
use Rattle.command_core.specs.Destinations.{IsDestination}
use Rattle.command_core.specs.Sendings.{IsKept, SendingValue, is_kept}
use Rattle.command_core.specs.PartSpellings.{AreBytes, AreTexts, IsSent, IsText, counted, pair, headers, sending}
use Rattle.command_core.specs.PartReading.{◌>>=◌, text_at, is_kept_named, pair_at, few_at, counted_at, destination_at, sending_at}
use Rattle.command_core.proofs.Formats.{Takes, Takes-then, Format, FewEach, first_takes, first_again, last_takes, last_if, few}
use Rattle.command_core.proofs.RecordTexts.{Counted, counted_format, text_format, destination_format}

-- a header of a message in a record
abbrev pub IsPair : List ℕ × List ℕ → Type 0
IsPair h = IsKept h × AreTexts h

kept_from : (h : List ℕ × List ℕ) → is_kept_named h.0 ≡ true → AreTexts h → IsKept h
kept_from h e texts =
    let p = and_parts (ltb 0 (length h.0)) (is_kept h.0) e in
    record { named = ltb-true _ _ p.0; name = texts.0.form; value = texts.1.form; kept = p.1 }

from_kept : (h : List ℕ × List ℕ) → IsKept h → is_kept_named h.0 ≡ true
from_kept h form = rw (lt-ltb _ _ form.named, form.kept) refl

abbrev pair_value : List ℕ → List ℕ × List ℕ → Option ((List ℕ × List ℕ) × List ℕ)
pair_value name value = cond (is_kept_named name) (Some ((name, value.0), value.1)) None

pair_takes : (bytes : List ℕ) (h : List ℕ × List ℕ) (rest : List ℕ) → AreBytes bytes → pair_at bytes ≡ Some (h, rest) → Takes bytes (pair h) rest × IsPair h
unfolding pair_at
pair_takes bytes h rest fits e =
    let name = first_takes counted IsText text_at text_format (λ name. text_at name.1 >>= pair_value name.0) bytes (h, rest) fits e in
    let value = first_takes counted IsText text_at text_format (pair_value name.value) name.rest (h, rest) name.taken.fits name.then in
    let both = Takes-then bytes (counted name.value) name.rest (counted value.value) value.rest name.taken value.taken in
    let texts : AreTexts (name.value, value.value) = (name.form, value.form) in
    last_if pair IsPair bytes (is_kept_named name.value) ((name.value, value.value), value.rest) (h, rest) value.then (λ is. (both, (kept_from (name.value, value.value) is texts, texts)))

pair_again : (h : List ℕ × List ℕ) (rest : List ℕ) → IsPair h → pair_at (pair h ++ rest) ≡ Some (h, rest)
unfolding pair_at
pair_again h rest form =
    first_again counted IsText text_at text_format (λ name. text_at name.1 >>= pair_value name.0) (pair h ++ rest) h.0 (counted h.1 ++ rest) (Some (h, rest)) (append_assoc (counted h.0) (counted h.1) rest) form.1.0
    (first_again counted IsText text_at text_format (pair_value h.0) (counted h.1 ++ rest) h.1 rest (Some (h, rest)) refl form.1.1 (ap (λ b. cond b (Some (h, rest)) None) (from_kept h form.0)))

pub pair_format : Format pair IsPair pair_at
pair_format = record { takes = pair_takes; again = pair_again }

pub headers_format : Format headers (FewEach IsPair) (few_at pair_at)
headers_format = few pair IsPair pair_at pair_format (λ h. omega arith)

-- ---- messages

abbrev sending_value : List ℕ → List (List ℕ × List ℕ) → List ℕ × List ℕ → Option (SendingValue × List ℕ)
sending_value d hs body = Some (record { destination = d; headers = hs; body = body.0 }, body.1)

sending_takes : (bytes : List ℕ) (s : SendingValue) (rest : List ℕ) → AreBytes bytes → sending_at bytes ≡ Some (s, rest) → Takes bytes (sending s) rest × IsSent s
unfolding sending_at
sending_takes bytes s rest fits e =
    let d = first_takes counted IsDestination destination_at destination_format (λ d. few_at pair_at d.1 >>= λ hs. counted_at 65536 hs.1 >>= sending_value d.0 hs.0) bytes (s, rest) fits e in
    let hs = first_takes headers (FewEach IsPair) (few_at pair_at) headers_format (λ hs. counted_at 65536 hs.1 >>= sending_value d.value hs.0) d.rest (s, rest) d.taken.fits d.then in
    let body = first_takes counted (Counted 65536) (counted_at 65536) (counted_format 65536 (omega arith)) (sending_value d.value hs.value) hs.rest (s, rest) hs.taken.fits hs.then in
    let front = Takes-then bytes (counted d.value) d.rest (headers hs.value) hs.rest d.taken hs.taken in
    let whole = Takes-then bytes (counted d.value ++ headers hs.value) hs.rest (counted body.value) body.rest front body.taken in
    let made : SendingValue = record { destination = d.value; headers = hs.value; body = body.value } in
    let form : IsSent made = record {
      form = record { destination = d.form; few = hs.form.0; each = all_weaker IsPair IsKept (λ h p. p.0) hs.value hs.form.1; short = body.form.0 };
      texts = all_weaker IsPair AreTexts (λ h p. p.1) hs.value hs.form.1;
      body = body.form.1;
    } in
    last_takes sending IsSent bytes (made, body.rest) (s, rest) body.then (whole, form)

sending_again : (s : SendingValue) (rest : List ℕ) → IsSent s → sending_at (sending s ++ rest) ≡ Some (s, rest)
unfolding sending_at
sending_again s rest form =
    let each = all_both IsKept AreTexts IsPair (λ h k t. (k, t)) s.headers form.form.each form.texts in
    first_again counted IsDestination destination_at destination_format (λ d. few_at pair_at d.1 >>= λ hs. counted_at 65536 hs.1 >>= sending_value d.0 hs.0) (sending s ++ rest) s.destination (headers s.headers ++ (counted s.body ++ rest)) (Some (s, rest))
    (append_assoc (counted s.destination ++ headers s.headers) (counted s.body) rest ∙ append_assoc (counted s.destination) (headers s.headers) (counted s.body ++ rest)) form.form.destination
    (first_again headers (FewEach IsPair) (few_at pair_at) headers_format (λ hs. counted_at 65536 hs.1 >>= sending_value s.destination hs.0) (headers s.headers ++ (counted s.body ++ rest)) s.headers (counted s.body ++ rest) (Some (s, rest)) refl (form.form.few, each)
    (first_again counted (Counted 65536) (counted_at 65536) (counted_format 65536 (omega arith)) (sending_value s.destination s.headers) (counted s.body ++ rest) s.body rest (Some (s, rest)) refl (form.form.short, form.body) refl))

pub sending_format : Format sending IsSent sending_at
sending_format = record { takes = sending_takes; again = sending_again }

-- the headers that a message's reader has found are those that it may have
pub headers_formed : (bytes d front rest : List ℕ) (hs : List (List ℕ × List ℕ)) → AreBytes bytes → destination_at bytes ≡ Some (d, front) → few_at pair_at front ≡ Some (hs, rest) → FewEach IsKept hs
headers_formed bytes d front rest hs fits e f =
    let first = destination_format.takes bytes d front fits e in
    let second = headers_format.takes front hs rest first.0.fits f in
    (second.1.0, all_weaker IsPair IsKept (λ h p. p.0) hs second.1.1)
