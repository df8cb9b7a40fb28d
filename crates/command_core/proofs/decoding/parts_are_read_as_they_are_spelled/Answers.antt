use Rattle.std.proofs.Common.{◌^◌}
use Rattle.std.specs.Int.{w32, w64}
use Rattle.command_core.proofs.Formats.{byte, number, wide32, wide64}
use Rattle.command_core.proofs.RecordMessages.{sending_format}
use Rattle.command_core.proofs.RecordModes.{mode_format}
use Rattle.command_core.proofs.RecordTexts.{text_format, optional_format, name_format, destination_format}
use Rattle.command_core.proofs.decoding.parts_are_read_as_they_are_spelled.Goals as goal

pub returns : goal.returns
returns c = record {
  byte = byte;
  numbers = (number w32 (2 ^ 32) wide32, number w64 (2 ^ 64) wide64);
  text = text_format;
  optional = optional_format;
  name = name_format;
  destination = destination_format;
  mode = mode_format;
  sending = sending_format;
}
