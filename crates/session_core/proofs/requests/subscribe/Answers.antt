use Rattle.std.proofs.Common.{codes, rules}
use Rattle.session_core.proofs.ReadFrames.{found_text}
use Rattle.session_core.proofs.requests.subscribe.Goals as goal

pub text-requires : goal.text-requires
text-requires c = found_text (codes "id") c.args.frame.now.headers c.in-Some-first.id.now c.requires.each c.in-Some-first.ensures

pub returns-in_default-None : goal.returns-in_default-None
returns-in_default-None c = search rules
