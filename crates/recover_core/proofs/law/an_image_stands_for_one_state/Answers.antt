use Rattle.recover_core.proofs.Single.{stands_one}
use Rattle.recover_core.proofs.law.an_image_stands_for_one_state.Goals as goal

pub returns : goal.returns
returns c = stands_one
