-- What is sent, however it is kept.
use Rattle.std.specs.Prelude.{◌≡◌, true}
use Rattle.std.specs.Arc.{arc_value}
use Rattle.std.specs.Str.{IsUtf8}
use Rattle.command_core.specs.declared.sending.Parts.{Parts}
use Rattle.command_core.specs.declared.sending.SendingForm.{SendingForm}
use Rattle.command_core.specs.declared.sending.SendingForm.TheVariants.{Own, Shared}
use Rattle.command_core.specs.Sendings.{SendingValue}

-- what the parts are of
abbrev pub of_parts : Parts → SendingValue
of_parts parts = record { destination = parts.destination; headers = parts.headers; body = parts.body }

abbrev pub parts_of : SendingForm → Parts
parts_of (Own parts) = parts
parts_of (Shared parts) = arc_value parts

abbrev pub sending_of : SendingForm → SendingValue
sending_of (Own parts) = of_parts parts
sending_of (Shared parts) = of_parts (arc_value parts)

-- if the body is said to be UTF-8, it is
abbrev pub KnowsText : Parts → Type 0
KnowsText parts = parts.is_text ≡ true → IsUtf8 parts.body
