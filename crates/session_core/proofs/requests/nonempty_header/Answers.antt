use Rattle.session_core.proofs.ReadFrames.{found_text}
use Rattle.session_core.proofs.requests.nonempty_header.Goals as goal

pub text-requires : goal.text-requires
text-requires c = found_text c.args.name.now c.args.frame.now.headers c.in-Some.value.now c.requires.each c.in-Some.ensures
