use Rattle.broker_state.proofs.SoundSteps.{sound_first, sound_restart, sound_step}
use Rattle.broker_state.proofs.laws.states_stay_sound.Goals as goal

pub returns : goal.returns
returns c = record { first = sound_first; step = sound_step; restart = sound_restart }
