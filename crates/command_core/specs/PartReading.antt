-- Reading the parts of records from the front of bytes: what is read and the bytes after it, or nothing if no spelling
-- begins them.
use Rattle.std.specs.Prelude.{◌≡◌, ◌==◌, ◌&&◌, ℕ, zero, suc, Bool, true, List, [], ◌∷◌, Option, Some, None, Result, Ok, Err, length, take, drop, if◌then◌else◌, nat_lt, nat_le}
use Rattle.std.specs.Borrow.{Bor}
use Rattle.std.specs.Int.{Width, w16, w32, byte_len, from_be_bytes}
use Rattle.std.specs.List.{list_all}
use Rattle.std.specs.Str.{is_utf8}
use Rattle.command_core.specs.declared.command.AckMode.{AckMode}
use Rattle.command_core.specs.declared.command.AckMode.TheVariants.{Auto, Client, ClientIndividual}
use Rattle.command_core.specs.declared.decoding.DecodeFault.{DecodeFault}
use Rattle.command_core.specs.declared.decoding.DecodeFault.TheVariants as faults
use Rattle.command_core.specs.Destinations.{is_destination}
use Rattle.command_core.specs.Sendings.{SendingValue, is_kept}

infixl 10 ◌>>=◌
abbrev pub ◌>>=◌ : {A B : Type 0} → Option A → (A → Option B) → Option B
(Some x) >>= f = f x
None >>= f = None

-- What a function returned, seen by view, is what reading gives, unless memory was refused.
abbrev pub Fails : {Y : Type 0} → DecodeFault → Option Y → Type 0
Fails (faults.Memory refused) read = Unit {0}
Fails faults.NoSpelling read = read ≡ None

abbrev pub Gives : {X Y : Type 0} → (X → Y) → Result X DecodeFault → Option Y → Type 0
Gives view (Ok x) read = read ≡ Some (view x)
Gives view (Err e) read = Fails e read

abbrev pub Reader : Type 0 → Type 0
Reader A = List ℕ → Option (A × List ℕ)

-- What each call answers to its argument is what reading gives.
abbrev pub Reads : {A : Type 0} → (Bor (List ℕ) → Result (A × Bor (List ℕ)) DecodeFault → Type 0) → Reader A → Type 0
Reads {A} post one =
    (bytes : Bor (List ℕ)) (r : Result (A × Bor (List ℕ)) DecodeFault) → post bytes r → Gives (λ x. (x.0, x.1.now)) r (one bytes.now)

-- what is read, made into something else
abbrev pub made : {A B : Type 0} → (A → B) → Option (A × List ℕ) → Option (B × List ℕ)
made f read = read >>= λ x. Some (f x.0, x.1)

-- numbers

abbrev pub byte_at : Reader ℕ
byte_at [] = None
byte_at (b ∷ rest) = Some (b, rest)

abbrev pub number_at : Width → Reader ℕ
number_at w bytes =
    if nat_lt (length bytes) (byte_len w) then None else Some (from_be_bytes w (take (byte_len w) bytes), drop (byte_len w) bytes)

-- texts

-- at most so many bytes, after their count
unfoldable pub counted_at : ℕ → Reader (List ℕ)
counted_at limit bytes = do
  n ← number_at w32 bytes
  if nat_lt limit n.0 then None else (if nat_lt (length n.1) n.0 then None else Some (take n.0 n.1, drop n.0 n.1))

-- whether a text may stand in a record
unfoldable pub is_text : List ℕ → Bool
is_text text = is_utf8 text && list_all (nat_lt 0) text && nat_le (length text) 8192

unfoldable pub text_at : Reader (List ℕ)
text_at bytes = do
  text ← counted_at 8192 bytes
  if is_text text.0 then Some text else None

unfoldable pub optional_at : Reader (Option (List ℕ))
optional_at [] = None
optional_at (zero ∷ rest) = Some (None, rest)
optional_at (suc zero ∷ rest) = made Some (text_at rest)
optional_at (suc (suc b) ∷ rest) = None

-- whether a name that is given isn't empty
abbrev pub is_given : Option (List ℕ) → Bool
is_given None = true
is_given (Some text) = nat_lt 0 (length text)

unfoldable pub name_at : Reader (Option (List ℕ))
name_at bytes = do
  name ← optional_at bytes
  if is_given name.0 then Some name else None

unfoldable pub destination_at : Reader (List ℕ)
destination_at bytes = do
  text ← text_at bytes
  if is_destination text.0 then Some text else None

-- lists

-- so many, one after the other
unfoldable pub many_at : {A : Type 0} → Reader A → ℕ → Reader (List A)
many_at one zero bytes = Some ([], bytes)
many_at one (suc n) bytes = do
  first ← one bytes
  others ← many_at one n first.1
  Some (first.0 ∷ others.0, others.1)

-- No item is without bytes, so a count of more items than there are bytes left is a lie.

-- at most 64, after their count in two bytes
unfoldable pub few_at : {A : Type 0} → Reader A → Reader (List A)
few_at one bytes = do
  n ← number_at w16 bytes
  if nat_lt 64 n.0 then None else (if nat_lt (length n.1) n.0 then None else many_at one n.0 n.1)

-- any, after their count in four bytes
unfoldable pub listed_at : {A : Type 0} → Reader A → Reader (List A)
listed_at one bytes = do
  n ← number_at w32 bytes
  if nat_lt (length n.1) n.0 then None else many_at one n.0 n.1

-- messages

-- whether a message keeps headers of that name
abbrev pub is_kept_named : List ℕ → Bool
is_kept_named name = nat_lt 0 (length name) && is_kept name

unfoldable pub pair_at : Reader (List ℕ × List ℕ)
pair_at bytes = do
  name ← text_at bytes
  value ← text_at name.1
  if is_kept_named name.0 then Some ((name.0, value.0), value.1) else None

unfoldable pub sending_at : Reader SendingValue
sending_at bytes = do
  destination ← destination_at bytes
  headers ← few_at pair_at destination.1
  body ← counted_at 65536 headers.1
  Some (record { destination = destination.0; headers = headers.0; body = body.0 }, body.1)

-- modes of acknowledgement

unfoldable pub mode_at : Reader AckMode
mode_at bytes = do
  mode ← byte_at bytes
  if mode.0 == 0 then Some (Auto, mode.1) else (if mode.0 == 1 then Some (Client, mode.1) else (if mode.0 == 2 then Some (ClientIndividual, mode.1) else None))
