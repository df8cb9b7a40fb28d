use Rattle.std.proofs.Common.{◌∙◌, subst, sym}
use Rattle.broker_state.specs.Sound.{IsSound}
use Rattle.broker_state.proofs.SoundSteps.{sound_restart}
use Rattle.broker_core.proofs.Outcomes.{is_whole}
use Rattle.broker_core.proofs.broker.Broker.restart.Goals as goal

pub invariant_of-self : goal.invariant_of-self
invariant_of-self c =
    let b = c.self.inside.tables in
    let was = c.self.invariant.whole (sym c.is_broken.ensures ∙ c.if-is_broken.false) in
    is_whole c.restart.new.self c.in-Ok.ensures.whole c.in-Ok.ensures.due (subst IsSound (sym c.in-Ok.ensures.restarted) (sound_restart b.state was))
