use Rattle.std.proofs.Common.{◌≡◌, ◌+◌, ◌*◌, ◌++◌, [], ℕ, List, IfSome, Option, replicate, ◌∙◌, ap, refl, subst}
use Rattle.std.proofs.lemmas.Result.{IfOk-weaker}
use Rattle.claim_core.specs.declared.limits.TheConstants.{SEATS}
use Rattle.disk_core.specs.Images.{patched}
use Rattle.area_core.specs.Journals.{header}
use Rattle.area_core.specs.declared.version.Version.TheVariants.{One}
use Rattle.broker_core.specs.States.{BrokerValue, empty_state}
use Rattle.broker_core.specs.Steps.{state_after_v1}
use Rattle.recover_core.specs.Standing.{Stands}
use Rattle.world_core.specs.Parts.{value_of}
use Rattle.world_core.specs.Schedules.{old_journal}
use Rattle.world_core.proofs.Answered.{is_crashed, old_state_is}
use Rattle.world_core.proofs.world.old_parts.Goals as goal

pub returns-in-Some : goal.returns-in-Some
returns-in-Some c =
    let size : ℕ = c.args.size in
    let broker = c.in-Some.broker in
    let content : List ℕ = c.in_ok-content.content.items in
    let stands : Stands content broker.state = subst (λ (l : List ℕ). Stands l broker.state) c.deref.ensures.value
    (subst (λ (o : Option BrokerValue). IfSome o (λ b. Stands c.deref.result.now b.state)) c.in-Some.is c.in_ok-found.ensures.state) in
    IfOk-weaker c.seated-made.result _ _
    (λ parts made commands fits is.
    let are : content ≡ old_journal size commands = c.in_ok-content.ensures
    ∙ ap (λ (l : List ℕ). patched 0 (header One size ++ replicate 16 0) (patched 32 l (replicate (32 + 2 * size) 0))) is in
    is_crashed size broker.state (state_after_v1 empty_state commands) (value_of parts) (replicate SEATS (record { own = []; seen = broker.state.count })) content (old_journal size commands) c.in_ok-held.held.items made
    (old_state_is size commands content broker.state c.requires.least c.requires.most fits are stands)
    refl are c.in_ok-held.ensures)
    c.seated-made.ensures
