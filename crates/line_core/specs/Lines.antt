use Rattle.std.specs.Prelude.{◌≡◌, ⊤, List, [], ◌∷◌, Bool, false, Option, Some, None, if◌then◌else◌}
use Rattle.std.specs.List.{AllByRecursion, list_any}
use Rattle.std.specs.Ordering.{is_lt, is_eq, nat_cmp, ordering_then}
use Rattle.std.specs.declared.cmp.Ordering.{Ordering}
use Rattle.std.specs.declared.cmp.Ordering.TheVariants.{Less}
use Rattle.line_core.specs.declared.message.Message.{Message}
use Rattle.line_core.specs.declared.message.MessageNumber.{MessageNumber}

-- numbers compare by their command, and then by their place
abbrev pub by_number : MessageNumber → MessageNumber → Ordering
by_number a b = ordering_then (nat_cmp a.command b.command) (nat_cmp a.place b.place)

-- whether two numbers are the same
abbrev pub is_same : MessageNumber → MessageNumber → Bool
is_same a b = is_eq (by_number a b)

-- the messages stand by rising number: none has a number under that of one before it
abbrev pub IsRising : List Message → Type 0
IsRising [] = ⊤
IsRising (x ∷ line) = AllByRecursion (λ y. is_lt (by_number y.number x.number) ≡ false) line × IsRising line

-- the number is over those of all messages
abbrev pub IsOver : MessageNumber → List Message → Type 0
IsOver number line = AllByRecursion (λ m. by_number m.number number ≡ Less) line

-- whether a message has that number
abbrev pub has_number : MessageNumber → List Message → Bool
has_number number line = list_any (λ m. is_same number m.number) line

-- the first message, if there is one
abbrev pub first_of : List Message → Option Message
first_of [] = None
first_of (m ∷ _) = Some m

-- a line with one more message, before the first of a greater number
abbrev pub inserted : Message → List Message → List Message
inserted m [] = m ∷ []
inserted m (x ∷ line) = if is_lt (by_number m.number x.number) then m ∷ x ∷ line else x ∷ inserted m line
