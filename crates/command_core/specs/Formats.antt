-- Formats: what is read from the front of bytes is spelled there and has the form. What has the form is read from its
-- spelling, whatever follows. So a value has one spelling, and no spelling begins another.
use Rattle.std.specs.Prelude.{◌≡◌, ◌<◌, ◌≤◌, ◌^◌, ℕ, List, ◌∷◌, [], ◌++◌, Option, Some, IfSome, length}
use Rattle.std.specs.Int.{w16, w32, to_be_bytes}
use Rattle.std.specs.List.{AllByRecursion, flat_map}
use Rattle.command_core.specs.declared.command.AckMode.{AckMode}
use Rattle.command_core.specs.PartReading.{Reader}
use Rattle.command_core.specs.PartSpellings.{AreBytes, IsText, mode_byte}
use Rattle.command_core.specs.Texts.{IsGiven}

-- a reader took the text from the front, and left the rest
pub record Takes (bytes text rest : List ℕ) : Type 0 where
  pub parts : bytes ≡ text ++ rest
  pub fits : AreBytes rest

pub record Format {A : Type 0} (spell : A → List ℕ) (Form : A → Type 0) (read : Reader A) : Type 0 where
  pub takes : (bytes : List ℕ) (x : A) (rest : List ℕ) → AreBytes bytes → read bytes ≡ Some (x, rest) → Takes bytes (spell x) rest × Form x
  pub again : (x : A) (rest : List ℕ) → Form x → read (spell x ++ rest) ≡ Some (x, rest)

-- bytes after their count, at most so many
abbrev pub Counted : ℕ → List ℕ → Type 0
Counted limit bytes = (length bytes ≤ limit) × AreBytes bytes

-- a name that may be absent, and isn't empty if it is there
abbrev pub IsName : Option (List ℕ) → Type 0
IsName name = IfSome name IsText × IsGiven name

-- of each value
abbrev pub Always : {A : Type 0} → A → Type 0
Always x = Unit {0}

abbrev pub mode_bytes : AckMode → List ℕ
mode_bytes mode = mode_byte mode ∷ []

-- what is spelled with a byte or more
abbrev pub HasBytes : {A : Type 0} → (A → List ℕ) → Type 0
HasBytes {A} spell = (x : A) → 0 < length (spell x)

-- at most 64 items, after their count in two bytes
abbrev pub spell_few : {A : Type 0} → (A → List ℕ) → List A → List ℕ
spell_few spell xs = to_be_bytes w16 (length xs) ++ flat_map spell xs

abbrev pub FewEach : {A : Type 0} → (A → Type 0) → List A → Type 0
FewEach Form xs = (length xs ≤ 64) × AllByRecursion Form xs

-- any items, after their count in four bytes
abbrev pub spell_list : {A : Type 0} → (A → List ℕ) → List A → List ℕ
spell_list spell xs = to_be_bytes w32 (length xs) ++ flat_map spell xs

abbrev pub Listed : {A : Type 0} → (A → Type 0) → List A → Type 0
Listed Form xs = (length xs < 2 ^ 32) × AllByRecursion Form xs
