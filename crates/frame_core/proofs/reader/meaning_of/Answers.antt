use Rattle.std.proofs.Common.{◌≡◌, false, sym, ◌∙◌}
use Rattle.escape_core.proofs.Reading.{unescaped_whole}
use Rattle.frame_core.specs.Verbs.{is_raw}
use Rattle.frame_core.proofs.reader.meaning_of.Goals as goal

pub returns-then-not-has_byte-clause-ok : goal.returns-then-not-has_byte-clause-ok
returns-then-not-has_byte-clause-ok c =
    let escaped : is_raw c.args.verb ≡ false = sym c.is_raw.ensures ∙ c.if-is_raw.false in
    rw escaped (unescaped_whole c.args.bytes.now (c.has_byte.ensures c.if-not-has_byte.true))
