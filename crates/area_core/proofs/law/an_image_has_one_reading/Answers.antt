use Rattle.area_core.proofs.Single.{reads_one}
use Rattle.area_core.proofs.law.an_image_has_one_reading.Goals as goal

pub returns : goal.returns
returns c = reads_one
