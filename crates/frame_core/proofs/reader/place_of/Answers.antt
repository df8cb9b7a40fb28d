use Rattle.frame_core.proofs.Places.{place_found}
use Rattle.frame_core.proofs.reader.place_of.Goals as goal

pub returns : goal.returns
returns c = place_found c.args.byte c.args.bytes.now c.memchr.result c.memchr.ensures
