use Rattle.std.proofs.Common.{rules, sym}
use Rattle.std.proofs.lemmas.Nat.{be_bytes_8}
use Rattle.area_core.proofs.header.number_of.Goals as goal

pub returns : goal.returns
returns c = sym (be_bytes_8 c.args.bytes.now c.from_be_bytes.result (search rules) c.fits-bytes c.from_be_bytes.ensures)
