use Rattle.std.specs.Prelude.{◌≡◌, ◌≢◌, ◌+◌, ◌*◌, ◌/◌, ◌%◌, ◌^◌, ◌<◌, ◌≤◌, List, [], ◌∷◌, ◌++◌, ℕ, Option, Some, None, true, codes, drop, length}
use Rattle.std.specs.Char.{digit_value, is_digit}
use Rattle.std.specs.Fmt.{decimal}
use Rattle.claim_core.specs.declared.limits.TheConstants.{SEATS}
use Rattle.script_text.specs.declared.script_line.ScriptLine.{ScriptLine}
use Rattle.script_text.specs.declared.script_line.ScriptLine.TheVariants.{Blank, Flush, Open, Crash, Lose, Receive}

-- the number of a connection in decimal
abbrev pub IsNumber : List ℕ → ℕ → Type 0
IsNumber text n = (n < SEATS) × (text ≡ decimal n)

abbrev pub IsNoNumber : List ℕ → Type 0
IsNoNumber text = (n : ℕ) → n < SEATS → text ≢ decimal n

-- the line is `lost`, a blank and a connection's number
abbrev pub IsLoss : List ℕ → ℕ → Type 0
IsLoss line n = (n < SEATS) × (line ≡ codes "lost " ++ decimal n)

abbrev pub IsNoLoss : List ℕ → Type 0
IsNoLoss line = (n : ℕ) → n < SEATS → line ≢ codes "lost " ++ decimal n

-- how many calls, in decimal
abbrev pub IsCount : List ℕ → ℕ → Type 0
IsCount text k = (k < 2 ^ 64) × (text ≡ decimal k)

abbrev pub IsNoCount : List ℕ → Type 0
IsNoCount text = (k : ℕ) → k < 2 ^ 64 → text ≢ decimal k

-- two hexadecimal digits of either case, and the byte that they are
abbrev pub AreHexDigits : ℕ → ℕ → ℕ → Type 0
AreHexDigits high low b = (is_digit high 16 ≡ true) × (is_digit low 16 ≡ true) × (b ≡ 16 * digit_value high + digit_value low)

-- how many calls, a blank, and the two digits of a byte
abbrev pub IsCountAndFill : List ℕ → ℕ → ℕ → Type 0
IsCountAndFill text k b = (k < 2 ^ 64) × (high : ℕ) × (low : ℕ) × AreHexDigits high low b × (text ≡ decimal k ++ 32 ∷ high ∷ low ∷ [])

abbrev pub IsNoCountAndFill : List ℕ → Type 0
IsNoCountAndFill text = (k b : ℕ) → IsCountAndFill text k b → ⊥

-- the line is `crash`, a blank and how many calls pass, and if a byte fills, a blank and its digits
abbrev pub IsCrash : List ℕ → ℕ → Option ℕ → Type 0
IsCrash line k None = (text : List ℕ) × (line ≡ codes "crash " ++ text) × IsCount text k
IsCrash line k (Some b) = (text : List ℕ) × (line ≡ codes "crash " ++ text) × IsCountAndFill text k b

abbrev pub IsNoCrash : List ℕ → Type 0
IsNoCrash line = (k : ℕ) (fill : Option ℕ) → IsCrash line k fill → ⊥

-- the line says that: nothing, `flush`, `open`, a crash, `lost` with a connection's number, or such a number, a blank and a text
abbrev pub Says : List ℕ → ScriptLine → Type 0
Says line Blank = line ≡ []
Says line Flush = line ≡ codes "flush"
Says line Open = line ≡ codes "open"
Says line (Crash k fill) = IsCrash line k fill
Says line (Lose n) = IsLoss line n
Says line (Receive n text) = (n < SEATS) × (line ≡ decimal n ++ 32 ∷ text.now)

-- the line is of none of these forms
pub record IsOfNoForm (line : List ℕ) : Type 0 where
  pub not_blank : line ≢ []
  pub not_flush : line ≢ codes "flush"
  pub not_open : line ≢ codes "open"
  pub not_crash : IsNoCrash line
  pub not_lost : IsNoLoss line
  pub not_received : (n : ℕ) (text : List ℕ) → n < SEATS → line ≢ decimal n ++ 32 ∷ text

-- a decimal digit
abbrev pub IsDigit : ℕ → Type 0
IsDigit b = (48 ≤ b) × (b ≤ 57)

-- the line begins with this digit and a blank
abbrev pub HasDigit : List ℕ → ℕ → Type 0
HasDigit line n = (n < 10) × (2 ≤ length line) × (line ≡ (48 + n) ∷ 32 ∷ drop 2 line)

-- the line does not begin with a digit and a blank
abbrev pub HasNoDigit : List ℕ → Type 0
HasNoDigit line = (n : ℕ) (text : List ℕ) → n < 10 → line ≢ (48 + n) ∷ 32 ∷ text

-- these are the two digits of a connection with that number
abbrev pub AreDigits : ℕ → ℕ → ℕ → Type 0
AreDigits tens units n = (10 ≤ n) × (n < SEATS) × (tens ≡ 48 + n / 10) × (units ≡ 48 + n % 10)

abbrev pub AreNoDigits : ℕ → ℕ → Type 0
AreNoDigits tens units = (n : ℕ) → AreDigits tens units n → ⊥

-- the line begins with the two digits of this number and a blank
abbrev pub HasDigits : List ℕ → ℕ → Type 0
HasDigits line n = (10 ≤ n) × (n < SEATS) × (3 ≤ length line) × (line ≡ (48 + n / 10) ∷ (48 + n % 10) ∷ 32 ∷ drop 3 line)

-- the line does not begin with the two digits of a connection's number and a blank
abbrev pub HasNoDigits : List ℕ → Type 0
HasNoDigits line = (n : ℕ) (text : List ℕ) → 10 ≤ n → n < SEATS → line ≢ (48 + n / 10) ∷ (48 + n % 10) ∷ 32 ∷ text
