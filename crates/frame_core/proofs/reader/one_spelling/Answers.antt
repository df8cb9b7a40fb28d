use Rattle.frame_core.proofs.OneFrame.{one_frame}
use Rattle.frame_core.proofs.reader.one_spelling.Goals as goal

pub returns : goal.returns
returns c a b x y f g h k e = let r = one_frame a b f g x y h k e in (r.0, r.1)
