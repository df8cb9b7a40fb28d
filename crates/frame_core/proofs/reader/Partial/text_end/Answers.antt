use Rattle.std.proofs.Common.{rules}
use Rattle.frame_core.proofs.reader.Partial.text_end.Goals as goal

pub returns : goal.returns
returns c = search rules
