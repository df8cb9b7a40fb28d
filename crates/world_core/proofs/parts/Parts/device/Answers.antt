use Rattle.std.proofs.Common.{rules, ◌≡◌, ◌∙◌, Bool, true, false, subst}
use Rattle.world_core.specs.Parts.{value_of}
use Rattle.world_core.specs.Touches.{IsTouched}
use Rattle.world_core.proofs.Calling.{found_lead, not_touched, touched}
use Rattle.world_core.proofs.parts.Parts.device.Goals as goal

pub returns-then-not-branch-clause-ok : goal.returns-then-not-branch-clause-ok
returns-then-not-branch-clause-ok c =
    let w = value_of c.args.self.now in
    let call = c.args.call in
    let none : c.in_ok-touch.field-0 ≡ false = search rules in
    not_touched w (value_of c.touch.new.self) call c.in-Some.to (found_lead c.in_ok-to.field-0 w call.list call.kind c.in-Some.to c.in-Some.is c.in_ok-to.ensures.some)
    (subst (λ (b : Bool). IsTouched w call.kind call.ok c.in-Some.to b (value_of c.touch.new.self)) none c.in_ok-touch.ensures.ok)

pub returns-clause-ok : goal.returns-clause-ok
returns-clause-ok c =
    let w = value_of c.args.self.now in
    let call = c.args.call in
    let some : c.in_ok-touch.field-0 ≡ true = search rules in
    let is = touched w (value_of c.touch.new.self) call c.in-Some.to (found_lead c.in_ok-to.field-0 w call.list call.kind c.in-Some.to c.in-Some.is c.in_ok-to.ensures.some)
    (subst (λ (b : Bool). IsTouched w call.kind call.ok c.in-Some.to b (value_of c.touch.new.self)) some c.in_ok-touch.ensures.ok) in
    λ r x. ((is r x).0, (λ i. record (value_of c.touch.new.self) { stored = c.stored_after-self.ensures i; phase = c.phase_after-self.ensures i; place = c.place_after-self.ensures i }) ∙ (is r x).1)
