use Rattle.std.proofs.Common.{◌∙◌}
use Rattle.script_text.proofs.Encodings.{encodes}
use Rattle.script_text.proofs.percent.encoded.Goals as goal

pub returns : goal.returns
returns c = c.percent_encode.ensures.text ∙ encodes c.args.bytes.now
