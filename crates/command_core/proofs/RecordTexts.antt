-- Texts, names and destinations in records.
use Rattle.std.proofs.Common.{◌≡◌, ℕ, zero, suc, ◌<◌, ◌≤◌, ◌^◌, ◌&&◌, ◌||◌, rules, Bool, true, false, cond, ltb, List, [], ◌∷◌, ◌++◌, length, take, drop, Option, Some, None, refl, sym, ap, subst, append_assoc, arith, IfSome}
use Rattle.std.specs.Prelude.{nat_le}
use Rattle.std.specs.List.{list_all, AllByRecursion}
use Rattle.std.specs.Str.{is_utf8, IsAscii}
use Rattle.std.specs.Int.{w32, to_be_bytes}
use Rattle.std.proofs.lemmas.Bool.{and_parts, ltb-false, le-ltb, ltb-true, lt-ltb, leb-true, le-leb}
use Rattle.std.proofs.lemmas.List.{take_at, drop_at, length-append, length-take, length-drop}
use Rattle.std.proofs.lemmas.Bool.Decides.{nat_tests}
use Rattle.std.proofs.lemmas.Str.{IsUtf8-from_is_utf8, is_utf8-from_IsUtf8, IsUtf8-from_ascii}
use Rattle.frame_core.specs.Writable.{HasNoNul}
use Rattle.command_core.specs.PartSpellings.{AreBytes, IsText, counted, optional}
use Rattle.command_core.specs.Destinations.{IsDestination, is_destination, is_destination_byte, is_name, is_topic, is_queue}
use Rattle.command_core.specs.Texts.{IsGiven}
pub use Rattle.command_core.specs.Formats.{Counted, IsName}
use Rattle.command_core.specs.PartReading.{made, counted_at, is_text, text_at, optional_at, is_given, name_at, destination_at}
use Rattle.command_core.proofs.DestinationBytes.{dest_no_nul, each_byte}
use Rattle.command_core.proofs.Formats.{Takes, Takes-then, Format, AreBytes-take, first_takes, first_again, last_takes, guard_not, tested, number, wide32, front_takes}

-- ---- bytes behind their count

abbrev counted_rest : ℕ → ℕ × List ℕ → Option (List ℕ × List ℕ)
counted_rest limit n = cond (ltb limit n.0) None (cond (ltb (length n.1) n.0) None (Some (take n.0 n.1, drop n.0 n.1)))

counted_takes : (limit : ℕ) (bytes text rest : List ℕ) → AreBytes bytes → counted_at limit bytes ≡ Some (text, rest) → Takes bytes (counted text) rest × Counted limit text
unfolding counted_at
counted_takes limit bytes text rest fits e =
    let n = first_takes (to_be_bytes w32) _ _ (number w32 (2 ^ 32) wide32) (counted_rest limit) bytes (text, rest) fits e in
    let a = guard_not (ltb limit n.value) (cond (ltb (length n.rest) n.value) None (Some (take n.value n.rest, drop n.value n.rest))) (text, rest) n.then in
    let b = guard_not (ltb (length n.rest) n.value) (Some (take n.value n.rest, drop n.value n.rest)) (text, rest) a.1 in
    let small : n.value ≤ limit = ltb-false _ _ a.0 in
    let long : n.value ≤ length n.rest = ltb-false _ _ b.0 in
    let len : length (take n.value n.rest) ≡ n.value = omega (arith, length-take n.value n.rest) in
    let both = Takes-then bytes (to_be_bytes w32 n.value) n.rest (take n.value n.rest) (drop n.value n.rest) n.taken (front_takes n.value n.rest n.taken.fits) in
    let whole : Takes bytes (counted (take n.value n.rest)) (drop n.value n.rest) = subst (λ (k : ℕ). Takes bytes (to_be_bytes w32 k ++ take n.value n.rest) (drop n.value n.rest)) (sym len) both in
    last_takes counted (Counted limit) bytes (take n.value n.rest, drop n.value n.rest) (text, rest) b.1 (whole, (omega arith, AreBytes-take n.value n.rest n.taken.fits))

counted_again : (limit : ℕ) → limit < 2 ^ 32 → (text rest : List ℕ) → length text ≤ limit → counted_at limit (counted text ++ rest) ≡ Some (text, rest)
unfolding counted_at
counted_again limit fits text rest short =
    let small : ltb limit (length text) ≡ false = le-ltb _ _ short in
    let long : ltb (length (text ++ rest)) (length text) ≡ false = le-ltb _ _ (omega (arith, length-append text rest)) in
    first_again (to_be_bytes w32) _ _ (number w32 (2 ^ 32) wide32) (counted_rest limit) (counted text ++ rest) (length text) (text ++ rest) (Some (text, rest)) (append_assoc (to_be_bytes w32 (length text)) text rest) (omega (arith, short))
    (rw (small, long, take_at text rest (length text) refl, drop_at text rest (length text) refl) refl)

pub counted_format : (limit : ℕ) → limit < 2 ^ 32 → Format counted (Counted limit) (counted_at limit)
counted_format limit fits = record { takes = counted_takes limit; again = λ text rest form. counted_again limit fits text rest form.0 }

-- the same of any numbers
short_format : (limit : ℕ) → limit < 2 ^ 32 → Format counted (λ text. length text ≤ limit) (counted_at limit)
short_format limit fits = record {
  takes = λ bytes text rest bytes_fit e. let t = counted_takes limit bytes text rest bytes_fit e in (t.0, t.1.0);
  again = counted_again limit fits;
}

-- ---- texts

no_nul_from : (text : List ℕ) → list_all (ltb 0) text ≡ true → HasNoNul text
no_nul_from [] e = tt
no_nul_from (b ∷ text) e =
    let a = and_parts (ltb 0 b) (list_all (ltb 0) text) e in
    let more : 0 < b = ltb-true 0 b a.0 in
    ((λ is. absurd (omega (arith, is, more))), no_nul_from text a.1)

from_no_nul : (text : List ℕ) → HasNoNul text → list_all (ltb 0) text ≡ true
from_no_nul [] plain = refl
from_no_nul (zero ∷ text) plain = absurd (plain.0 refl)
from_no_nul (suc b ∷ text) plain =
    let here : ltb 0 (suc b) ≡ true = lt-ltb 0 (suc b) (omega arith) in
    rw (here, from_no_nul text plain.1) refl

text_from : (text : List ℕ) → is_text text ≡ true → IsText text
unfolding is_text
text_from text e =
    let a = and_parts (is_utf8 text && list_all (ltb 0) text) (nat_le (length text) 8192) e in
    let b = and_parts (is_utf8 text) (list_all (ltb 0) text) a.0 in
    record { utf8 = IsUtf8-from_is_utf8 text b.0; form = record { no_nul = no_nul_from text b.1; short = leb-true _ _ a.1 } }

from_text : (text : List ℕ) → IsText text → is_text text ≡ true
unfolding is_text
from_text text form =
    let short : nat_le (length text) 8192 ≡ true = le-leb _ _ form.form.short in
    rw (is_utf8-from_IsUtf8 text form.utf8, from_no_nul text form.form.no_nul, short) refl

no_text : (b : Bool) (text : List ℕ) → is_text text ≡ b → (IsText text → ⊥) → is_text text ≡ false
no_text true text e none = absurd (none (text_from text e))
no_text false text e none = e

-- what is no text is not read
pub none_read : (bytes text rest : List ℕ) → counted_at 8192 bytes ≡ Some (text, rest) → (IsText text → ⊥) → text_at bytes ≡ None
unfolding text_at
none_read bytes text rest e none = rw (e, no_text (is_text text) text refl none) refl

pub text_read : (bytes text rest : List ℕ) → counted_at 8192 bytes ≡ Some (text, rest) → IsText text → text_at bytes ≡ Some (text, rest)
unfolding text_at
text_read bytes text rest e form = rw (e, from_text text form) refl

pub text_format : Format counted IsText text_at
unfolding text_at
text_format =
    tested counted (λ text. length text ≤ 8192) IsText (counted_at 8192) is_text (short_format 8192 (omega arith)) (λ text e form. text_from text e) (λ text form. (form.form.short, from_text text form))

-- ---- a text behind a flag

optional_takes : (bytes : List ℕ) (o : Option (List ℕ)) (rest : List ℕ) → AreBytes bytes → optional_at bytes ≡ Some (o, rest) → Takes bytes (optional o) rest × IfSome o IsText
unfolding optional_at
optional_takes [] o rest fits e = absurd cc
optional_takes (zero ∷ bytes) o rest fits e = last_takes optional (λ o. IfSome o IsText) (0 ∷ bytes) (None, bytes) (o, rest) e (record { parts = refl; fits = fits.1 }, tt)
optional_takes (suc zero ∷ bytes) o rest fits e =
    let text = first_takes counted IsText text_at text_format (λ x. Some (Some x.0, x.1)) bytes (o, rest) fits.1 e in
    last_takes optional (λ o. IfSome o IsText) (1 ∷ bytes) (Some text.value, text.rest) (o, rest) text.then (record { parts = ap (λ (y : List ℕ). 1 ∷ y) text.taken.parts; fits = text.taken.fits }, text.form)
optional_takes (suc (suc b) ∷ bytes) o rest fits e = absurd cc

optional_again : (o : Option (List ℕ)) (rest : List ℕ) → IfSome o IsText → optional_at (optional o ++ rest) ≡ Some (o, rest)
unfolding optional_at
optional_again None rest form = refl
optional_again (Some text) rest form = ap (λ o. made Some o) (text_format.again text rest form)

pub optional_format : Format optional (λ o. IfSome o IsText) optional_at
optional_format = record { takes = optional_takes; again = optional_again }

-- ---- names that are given

given_from : (name : Option (List ℕ)) → is_given name ≡ true → IsGiven name
given_from None e = tt
given_from (Some text) e = ltb-true _ _ e

from_given : (name : Option (List ℕ)) → IsGiven name → is_given name ≡ true
from_given None given = refl
from_given (Some text) given = lt-ltb _ _ given

pub name_format : Format optional IsName name_at
unfolding name_at
name_format =
    tested optional (λ o. IfSome o IsText) IsName optional_at is_given optional_format (λ name e form. (form, given_from name e)) (λ name form. (form.0, from_given name form.1))

-- ---- destinations

ascii_byte : (b : ℕ) → is_destination_byte b ≡ true → b < 128
ascii_byte b h = grind (arith, nat_tests)

ascii_at : (text : List ℕ) → AllByRecursion (λ b. b < 128) text → IsAscii text
ascii_at [] each i = omega arith
ascii_at (b ∷ text) each zero = each.0
ascii_at (b ∷ text) each (suc i) = ascii_at text each.1 i

destination_text : (d : List ℕ) → IsDestination d → IsText d
destination_text d form =
    let p = and_parts (is_topic d || is_queue d) (is_name (drop 7 d)) form.valid in
    let q = and_parts (nat_le 1 (length (drop 7 d)) && nat_le (length (drop 7 d)) 200) (list_all is_destination_byte (drop 7 d)) p.1 in
    let r = and_parts (nat_le 1 (length (drop 7 d))) (nat_le (length (drop 7 d)) 200) q.0 in
    let short : length (drop 7 d) ≤ 200 = leb-true _ _ r.1 in
    record {
      utf8 = IsUtf8-from_ascii d (ascii_at d (each_byte (λ b. b < 128) ascii_byte (search rules) (search rules) d form));
      form = record { no_nul = dest_no_nul d form; short = omega (arith, length-drop 7 d) };
    }

no_destination : (b : Bool) (d : List ℕ) → is_destination d ≡ b → (IsDestination d → ⊥) → is_destination d ≡ false
no_destination true d e none = absurd (none (record { valid = e }))
no_destination false d e none = e

-- what is no destination is not read
pub none_read_as_destination : (bytes text rest : List ℕ) → text_at bytes ≡ Some (text, rest) → (IsDestination text → ⊥) → destination_at bytes ≡ None
unfolding destination_at
none_read_as_destination bytes text rest e none = rw (e, no_destination (is_destination text) text refl none) refl

pub destination_read : (bytes text rest : List ℕ) → text_at bytes ≡ Some (text, rest) → IsDestination text → destination_at bytes ≡ Some (text, rest)
unfolding destination_at
destination_read bytes text rest e form = rw (e, form.valid) refl

pub destination_format : Format counted IsDestination destination_at
unfolding destination_at
destination_format =
    tested counted IsText IsDestination text_at is_destination text_format (λ d e form. record { valid = e }) (λ d form. (destination_text d form, form.valid))
