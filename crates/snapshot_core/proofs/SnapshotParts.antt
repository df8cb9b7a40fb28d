-- Lists, messages and lines in snapshots.
use Rattle.std.proofs.Common.{◌≡◌, ℕ, ◌<◌, ◌^◌, ◌++◌, List, Option, Some, length, refl, ◌∙◌, append_assoc, arith}
use Rattle.std.specs.Int.{w32, w64, to_be_bytes}
use Rattle.std.specs.List.Sorted.{IsStrictlySortedBy}
use Rattle.std.specs.Map.{keys_of}
use Rattle.std.specs.declared.cmp.Ordering.{Ordering}
use Rattle.command_core.specs.PartReading.{◌>>=◌, Reader, number_at, sending_at}
use Rattle.command_core.specs.Sendings.{SendingValue}
use Rattle.command_core.specs.PartSpellings.{AreBytes, sending}
use Rattle.command_core.proofs.Formats.{Format, HasBytes, Listed, Takes, Takes-then, First, first_again, first_takes, last_takes, number, tested, wide32, wide64}
use Rattle.command_core.proofs.Formats.{listed as format_of_list}
use Rattle.command_core.proofs.RecordMessages.{sending_format}
use Rattle.line_core.specs.declared.message.Message.{Message}
use Rattle.command_core.specs.PartReading.{listed_at}
use Rattle.snapshot_core.specs.Reading.{delivery_at, is_rising, keyed_at, message_at, rises, waiting_at}
use Rattle.snapshot_core.specs.Snapshots.{IsDelivery, IsLine, IsMessage, delivery, line, listed, message}
use Rattle.snapshot_core.proofs.RisingLists.{from_rising, rises_from, rising_from, sorted_from}

-- ---- steps

-- the first of two steps, of a format that says by itself what is spelled and read
module _ {A B : Type 0} {spell : A → List ℕ} {Form : A → Type 0} {read : Reader A} (format : Format spell Form read) (f : A × List ℕ → Option B) where
  pub step_takes : (bytes : List ℕ) (y : B) → AreBytes bytes → (read bytes >>= f) ≡ Some y → First spell Form f bytes y
  step_takes bytes y fits e = first_takes spell Form read format f bytes y fits e

  pub step_again : (bytes : List ℕ) (x : A) (rest : List ℕ) (y : Option B) → bytes ≡ spell x ++ rest → Form x → f (x, rest) ≡ y → (read bytes >>= f) ≡ y
  step_again bytes x rest y is form then = first_again spell Form read format f bytes x rest y is form then

-- ---- numbers

pub numbers32 : Format (to_be_bytes w32) (λ n. n < 2 ^ 32) (number_at w32)
numbers32 = number w32 (2 ^ 32) wide32

pub numbers64 : Format (to_be_bytes w64) (λ n. n < 2 ^ 64) (number_at w64)
numbers64 = number w64 (2 ^ 64) wide64

-- ---- lists

abbrev pub Keyed : {K X : Type 0} → (K → K → Ordering) → (K × X → Type 0) → List (K × X) → Type 0
Keyed cmp Form xs = Listed Form xs × IsStrictlySortedBy cmp (keys_of xs)

-- behind their count, which has four bytes; no item is without bytes
pub listed_format : {A : Type 0} {spell : A → List ℕ} {Form : A → Type 0} {read : Reader A} → Format spell Form read → HasBytes spell → Format (listed spell) (Listed Form) (listed_at read)
listed_format {A} {spell} {Form} {read} format bytes = format_of_list spell Form read format bytes

pub keyed_format : {K X : Type 0} {spell : K × X → List ℕ} {Form : K × X → Type 0} {read : Reader (K × X)} (cmp : K → K → Ordering) → Format spell Form read → HasBytes spell → Format (listed spell) (Keyed cmp Form) (keyed_at cmp read)
unfolding keyed_at
keyed_format {K} {X} {spell} {Form} {read} cmp format bytes =
    tested (listed spell) (Listed Form) (Keyed cmp Form) (listed_at read) (λ xs. rises cmp (keys_of xs)) (listed_format format bytes) (λ xs e form. (form, sorted_from cmp (keys_of xs) e)) (λ xs form. (form.0, rises_from cmp (keys_of xs) form.1))

-- ---- messages

abbrev message_value : ℕ → ℕ → SendingValue × List ℕ → Option (Message × List ℕ)
message_value command place s = Some (record { number = record { command = command; place = place }; sending = s.0 }, s.1)

message_takes : (bytes : List ℕ) (m : Message) (rest : List ℕ) → AreBytes bytes → message_at bytes ≡ Some (m, rest) → Takes bytes (message m) rest × IsMessage m
unfolding message_at
message_takes bytes m rest fits e =
    let c = step_takes numbers64 (λ c. number_at w32 c.1 >>= λ p. sending_at p.1 >>= message_value c.0 p.0) bytes (m, rest) fits e in
    let p = step_takes numbers32 (λ p. sending_at p.1 >>= message_value c.value p.0) c.rest (m, rest) c.taken.fits c.then in
    let s = step_takes sending_format (message_value c.value p.value) p.rest (m, rest) p.taken.fits p.then in
    let front = Takes-then bytes (to_be_bytes w64 c.value) c.rest (to_be_bytes w32 p.value) p.rest c.taken p.taken in
    let whole = Takes-then bytes (to_be_bytes w64 c.value ++ to_be_bytes w32 p.value) p.rest (sending s.value) s.rest front s.taken in
    last_takes message IsMessage bytes (record { number = record { command = c.value; place = p.value }; sending = s.value }, s.rest) (m, rest) s.then (whole, record { command = c.form; place = p.form; sending = s.form })

message_again : (m : Message) (rest : List ℕ) → IsMessage m → message_at (message m ++ rest) ≡ Some (m, rest)
unfolding message_at
message_again m rest form =
    let command = to_be_bytes w64 m.number.command in
    let place = to_be_bytes w32 m.number.place in
    step_again numbers64 (λ c. number_at w32 c.1 >>= λ p. sending_at p.1 >>= message_value c.0 p.0) (message m ++ rest) m.number.command (place ++ (sending m.sending ++ rest)) (Some (m, rest))
    (append_assoc (command ++ place) (sending m.sending) rest ∙ append_assoc command place (sending m.sending ++ rest)) form.command
    (step_again numbers32 (λ p. sending_at p.1 >>= message_value m.number.command p.0) (place ++ (sending m.sending ++ rest)) m.number.place (sending m.sending ++ rest) (Some (m, rest)) refl form.place
    (step_again sending_format (message_value m.number.command m.number.place) (sending m.sending ++ rest) m.sending rest (Some (m, rest)) refl form.sending refl))

pub message_format : Format message IsMessage message_at
message_format = record { takes = message_takes; again = message_again }

-- ---- lines

-- a line that four bytes can count
abbrev pub IsWaiting : List Message → Type 0
IsWaiting messages = (length messages < 2 ^ 32) × IsLine messages

pub waiting_format : Format line IsWaiting waiting_at
unfolding waiting_at
waiting_format =
    tested line (Listed IsMessage) IsWaiting (listed_at message_at) is_rising (listed_format message_format (λ m. omega arith))
    (λ messages e form. (form.0, record { each = form.1; rising = rising_from messages e })) (λ messages form. ((form.0, form.1.each), from_rising messages form.1.rising))

-- ---- deliveries

abbrev delivery_value : ℕ → Message × List ℕ → Option ((ℕ × Message) × List ℕ)
delivery_value n m = Some ((n, m.0), m.1)

delivery_takes : (bytes : List ℕ) (d : ℕ × Message) (rest : List ℕ) → AreBytes bytes → delivery_at bytes ≡ Some (d, rest) → Takes bytes (delivery d) rest × IsDelivery d
unfolding delivery_at
delivery_takes bytes d rest fits e =
    let n = step_takes numbers64 (λ n. message_at n.1 >>= delivery_value n.0) bytes (d, rest) fits e in
    let m = step_takes message_format (delivery_value n.value) n.rest (d, rest) n.taken.fits n.then in
    let both = Takes-then bytes (to_be_bytes w64 n.value) n.rest (message m.value) m.rest n.taken m.taken in
    last_takes delivery IsDelivery bytes ((n.value, m.value), m.rest) (d, rest) m.then (both, (n.form, m.form))

delivery_again : (d : ℕ × Message) (rest : List ℕ) → IsDelivery d → delivery_at (delivery d ++ rest) ≡ Some (d, rest)
unfolding delivery_at
delivery_again d rest form =
    step_again numbers64 (λ n. message_at n.1 >>= delivery_value n.0) (delivery d ++ rest) d.0 (message d.1 ++ rest) (Some (d, rest)) (append_assoc (to_be_bytes w64 d.0) (message d.1) rest) form.0
    (step_again message_format (delivery_value d.0) (message d.1 ++ rest) d.1 rest (Some (d, rest)) refl form.1 refl)

pub delivery_format : Format delivery IsDelivery delivery_at
delivery_format = record { takes = delivery_takes; again = delivery_again }
