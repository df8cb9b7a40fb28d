use Rattle.std.proofs.Common.{List, ℕ, sym, subst}
use Rattle.recover_core.specs.Standing.{Stands}
use Rattle.world_core.specs.Parts.{value_of}
use Rattle.world_core.proofs.Calling.{cannot_fail, opens_if}
use Rattle.world_core.proofs.Recovered.{found_state}
use Rattle.world_core.proofs.parts.Parts.open.Goals as goal

pub returns-in-None-clause-ok : goal.returns-in-None-clause-ok
returns-in-None-clause-ok c r x =
    absurd (cannot_fail (value_of c.args.self.now) c.deref.result.now c.requires c.in-Opened.is c.deref.ensures.value (c.in_ok-broker.ensures.none c.in-None.is))

pub returns-in-Some-clause-ok : goal.returns-in-Some-clause-ok
returns-in-Some-clause-ok c =
    let w = value_of c.args.self.now in
    let is = found_state c.in_ok-broker.field-0 c.in-Some.broker c.deref.result.now c.in-Some.is c.in_ok-broker.ensures.state in
    opens_if c.begin_behind-begun.result w (value_of c.begin_behind-begun.new.self) c.in-Some.broker.state c.requires c.in-Opened.is
    (λ s stands. is s (subst (λ (l : List ℕ). Stands l s) (sym c.deref.ensures.value) stands)) c.begin_behind-begun.ensures.ok
