-- Commands in records: what is read is spelled, and what is spelled is read, whatever follows.
use Rattle.std.proofs.Common.{◌≡◌, ◌≤◌, ◌<◌, ◌^◌, ◌-◌, ◌++◌, ℕ, true, cond, eqb, List, Option, Some, None, IfSome, length, take, drop, refl, sym, ap, subst, ◌∙◌, append_assoc, arith}
use Rattle.std.specs.Prelude.{is_some, not}
use Rattle.std.specs.Int.{w64, to_be_bytes}
use Rattle.std.proofs.lemmas.Bool.{and_parts, eqb-true}
use Rattle.std.proofs.lemmas.List.{take-append-drop, length-append, take_at}
use Rattle.std.proofs.lemmas.Option.{some_pair_parts, none-some}
use Rattle.command_core.specs.declared.command.End.TheVariants.{Bye, Lost, Bad}
use Rattle.command_core.specs.declared.command.Op.{Op}
use Rattle.command_core.specs.declared.command.Op.TheVariants.{Open, Send, Subscribe, Unsubscribe, Ack, Nack, Commit, Note, End}
use Rattle.command_core.specs.declared.decoding.DecodeFault.{DecodeFault}
use Rattle.command_core.specs.declared.decoding.DecodeFault.TheVariants as faults
use Rattle.command_core.specs.Commands.{CommandValue, IsCommand, Fits}
use Rattle.command_core.specs.PartSpellings.{AreBytes, IsText, optional}
use Rattle.command_core.specs.Spellings.{Spells, operation, record_of}
use Rattle.command_core.specs.PartReading.{◌>>=◌, Fails, number_at, optional_at}
use Rattle.command_core.specs.Reading.{operation_at, fits, command_at}
use Rattle.command_core.proofs.Formats.{Takes, Takes-then, Format, first_takes, first_again, last_if, number, wide64}
use Rattle.command_core.proofs.RecordTexts.{optional_format}
use Rattle.command_core.proofs.RecordOperations.{IsFormed, operation_format}

none_from : (o : Option (List ℕ)) → not (is_some o) ≡ true → o ≡ None
none_from None e = refl
none_from (Some text) e = absurd cc

fits_from : (op : Op) (session : ℕ) (receipt : Option (List ℕ)) → fits op session receipt ≡ true → Fits op session receipt
fits_from (Open c) session receipt e = let p = and_parts (eqb session 0) (not (is_some receipt)) e in (eqb-true _ _ p.0, none_from receipt p.1)
fits_from (Send s) session receipt e = tt
fits_from (Subscribe id d m name) session receipt e = tt
fits_from (Unsubscribe id name) session receipt e = tt
fits_from (Ack n) session receipt e = tt
fits_from (Nack n) session receipt e = tt
fits_from (Commit ms) session receipt e = tt
fits_from Note session receipt e = tt
fits_from (End Bye) session receipt e = tt
fits_from (End Lost) session receipt e = none_from receipt e
fits_from (End (Bad fault)) session receipt e = tt

from_fits : (op : Op) (session : ℕ) (receipt : Option (List ℕ)) → Fits op session receipt → fits op session receipt ≡ true
from_fits (Open c) session receipt form = rw (form.0, form.1) refl
from_fits (Send s) session receipt form = refl
from_fits (Subscribe id d m name) session receipt form = refl
from_fits (Unsubscribe id name) session receipt form = refl
from_fits (Ack n) session receipt form = refl
from_fits (Nack n) session receipt form = refl
from_fits (Commit ms) session receipt form = refl
from_fits Note session receipt form = refl
from_fits (End Bye) session receipt form = refl
from_fits (End Lost) session receipt form = rw form refl
from_fits (End (Bad fault)) session receipt form = refl

-- a command that its record spells
abbrev pub IsRecord : CommandValue → Type 0
IsRecord c = Spells (record_of c) c

is_record : (session : ℕ) (op : Op) (receipt : Option (List ℕ)) → session < 2 ^ 64 → IfSome receipt IsText → IsFormed op → Fits op session receipt → IsRecord (record { session = session; op = op; receipt = receipt })
is_record session op receipt small text formed fitting = record { session = small; receipt = text; operation = formed.0; form = record { op = formed.1; fits = fitting }; spelled = refl }

abbrev command_value : ℕ → Option (List ℕ) → Op × List ℕ → Option (CommandValue × List ℕ)
command_value session receipt op = cond (fits op.0 session receipt) (Some (record { session = session; op = op.0; receipt = receipt }, op.1)) None

command_takes : (bytes : List ℕ) (c : CommandValue) (rest : List ℕ) → AreBytes bytes → command_at bytes ≡ Some (c, rest) → Takes bytes (record_of c) rest × IsRecord c
unfolding command_at
command_takes bytes c rest fit e =
    let s = first_takes (to_be_bytes w64) (λ n. n < 2 ^ 64) (number_at w64) (number w64 (2 ^ 64) wide64) (λ s. optional_at s.1 >>= λ r. operation_at r.1 >>= command_value s.0 r.0) bytes (c, rest) fit e in
    let r = first_takes optional (λ o. IfSome o IsText) optional_at optional_format (λ r. operation_at r.1 >>= command_value s.value r.0) s.rest (c, rest) s.taken.fits s.then in
    let op = first_takes operation IsFormed operation_at operation_format (command_value s.value r.value) r.rest (c, rest) r.taken.fits r.then in
    let made : CommandValue = record { session = s.value; op = op.value; receipt = r.value } in
    let front = Takes-then bytes (to_be_bytes w64 s.value) s.rest (optional r.value) r.rest s.taken r.taken in
    let whole = Takes-then bytes (to_be_bytes w64 s.value ++ optional r.value) r.rest (operation op.value) op.rest front op.taken in
    last_if record_of IsRecord bytes (fits op.value s.value r.value) (made, op.rest) (c, rest) op.then (λ is. (whole, is_record s.value op.value r.value s.form r.form op.form (fits_from op.value s.value r.value is)))

command_again : (c : CommandValue) (rest : List ℕ) → IsRecord c → command_at (record_of c ++ rest) ≡ Some (c, rest)
unfolding command_at
command_again c rest form =
    first_again (to_be_bytes w64) (λ n. n < 2 ^ 64) (number_at w64) (number w64 (2 ^ 64) wide64) (λ s. optional_at s.1 >>= λ r. operation_at r.1 >>= command_value s.0 r.0) (record_of c ++ rest) c.session (optional c.receipt ++ (operation c.op ++ rest)) (Some (c, rest))
    (append_assoc (to_be_bytes w64 c.session ++ optional c.receipt) (operation c.op) rest ∙ append_assoc (to_be_bytes w64 c.session) (optional c.receipt) (operation c.op ++ rest)) form.session
    (first_again optional (λ o. IfSome o IsText) optional_at optional_format (λ r. operation_at r.1 >>= command_value c.session r.0) (optional c.receipt ++ (operation c.op ++ rest)) c.receipt (operation c.op ++ rest) (Some (c, rest)) refl form.receipt
    (first_again operation IsFormed operation_at operation_format (command_value c.session c.receipt) (operation c.op ++ rest) c.op rest (Some (c, rest)) refl (form.operation, form.form.op)
    (ap (λ b. cond b (Some (c, rest)) None) (from_fits c.op c.session c.receipt form.form.fits))))

pub command_format : Format record_of IsRecord command_at
command_format = record { takes = command_takes; again = command_again }

-- the form of a command whose parts were read
pub command_formed : (bytes first second rest : List ℕ) (session : ℕ) (receipt : Option (List ℕ)) (op : Op) → AreBytes bytes → number_at w64 bytes ≡ Some (session, first) → optional_at first ≡ Some (receipt, second) → operation_at second ≡ Some (op, rest)
    → fits op session receipt ≡ true → IsCommand (record { session = session; op = op; receipt = receipt })
command_formed bytes first second rest session receipt op fit e f g fitting =
    let s = (number w64 (2 ^ 64) wide64).takes bytes session first fit e in
    let r = optional_format.takes first receipt second s.0.fits f in
    let o = operation_format.takes second op rest r.0.fits g in
    record { op = o.1.1; fits = fits_from op session receipt fitting }

-- what is spelled is read, whatever follows
pub spelled_is_read : (bytes rest : List ℕ) (c : CommandValue) → Spells bytes c → command_at (bytes ++ rest) ≡ Some (c, rest)
spelled_is_read bytes rest c spells =
    let form : IsRecord c = record { session = spells.session; receipt = spells.receipt; operation = spells.operation; form = spells.form; spelled = refl } in
    ap (λ b. command_at (b ++ rest)) spells.spelled ∙ command_format.again c rest form

pub none_is_spelled : (bytes : List ℕ) → command_at bytes ≡ None → (c : CommandValue) (n : ℕ) → Spells (take n bytes) c → ⊥
none_is_spelled bytes none c n spells =
    let read : command_at bytes ≡ Some (c, drop n bytes) = ap command_at (sym (take-append-drop n bytes)) ∙ spelled_is_read (take n bytes) (drop n bytes) c spells in
    none-some (c, drop n bytes) (sym none ∙ read)

pub failed : {Y : Type 0} (e : DecodeFault) (read : Option Y) → Fails e read → e ≡ faults.NoSpelling → read ≡ None
failed (faults.Memory refused) read fails is = absurd cc
failed faults.NoSpelling read fails is = fails

-- what is left is no longer than what there was
pub rest_is_short : (bytes rest : List ℕ) (c : CommandValue) → AreBytes bytes → command_at bytes ≡ Some (c, rest) → length rest ≤ length bytes
rest_is_short bytes rest c fit e =
    let t = command_takes bytes c rest fit e in
    omega (arith, ap length t.0.parts, length-append (record_of c) rest)

pub read_is_spelled : (bytes rest : List ℕ) (c : CommandValue) → AreBytes bytes → command_at bytes ≡ Some (c, rest) → Spells (take (length bytes - length rest) bytes) c
read_is_spelled bytes rest c fit e =
    let t = command_takes bytes c rest fit e in
    let len : length (record_of c) ≡ length bytes - length rest = omega (arith, ap length t.0.parts, length-append (record_of c) rest) in
    let front : take (length bytes - length rest) bytes ≡ record_of c = ap (take (length bytes - length rest)) t.0.parts ∙ take_at (record_of c) rest (length bytes - length rest) len in
    subst (λ b. Spells b c) (sym front) t.1

-- no record begins another
pub begins_no_other : (a b : CommandValue) (p q x y : List ℕ) → Spells p a → Spells q b → p ++ x ≡ q ++ y → (a ≡ b) × (p ≡ q)
begins_no_other a b p q x y first second same =
    let both : Some (a, x) ≡ Some (b, y) = sym (spelled_is_read p x a first) ∙ ap command_at same ∙ spelled_is_read q y b second in
    let one = some_pair_parts a b x y both in
    (one.0, first.spelled ∙ ap record_of one.0 ∙ sym second.spelled)
