-- The bytes of a text, however they are kept.
use Rattle.std.specs.Prelude.{List, ℕ, string_bytes}
use Rattle.std.specs.Arc.{arc_value}
use Rattle.frame_core.specs.declared.text.TextForm.{TextForm}
use Rattle.frame_core.specs.declared.text.TextForm.TheVariants.{Written, Inline, Own, Shared}
use Rattle.frame_core.specs.Words.{word_bytes}

abbrev pub text_bytes : TextForm → List ℕ
text_bytes (Written word) = word_bytes word
text_bytes (Inline it) = it.bytes
text_bytes (Own it) = string_bytes it
text_bytes (Shared it) = string_bytes (arc_value it)
