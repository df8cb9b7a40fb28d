use Rattle.std.proofs.Common.{◌≡◌, sym, ◌∙◌, arith, false, rules}
use Rattle.frame_core.specs.Verbs.{has_body}
use Rattle.frame_core.proofs.reader.body_plan.Goals as goal

pub returns-in_default : goal.returns-in_default
returns-in_default c = c.in_default.ensures

pub returns-in_default-number_of : goal.returns-in_default-number_of
returns-in_default-number_of c = (c.in-Some.text.now, c.in-Some.ensures, c.in_default-number_of.ensures)

pub returns-then-length : goal.returns-then-length
returns-then-length c =
    let number = c.in-Some-number_of.ensures in
    (c.in-Some.text.now, c.in-Some-number_of.length, c.in-Some.ensures, number.0, number.1, omega arith)

pub returns-then-not-has_body : goal.returns-then-not-has_body
returns-then-not-has_body c =
    let number = c.in-Some-number_of.ensures in
    let bare : has_body c.args.verb ≡ false = sym c.has_body.ensures ∙ c.if-not-has_body.true in
    (c.in-Some.text.now, c.in-Some-number_of.length, c.in-Some.ensures, number.0, number.1, omega arith, omega arith, bare)

pub returns : goal.returns
returns c =
    let number = c.in-Some-number_of.ensures in
    record {
      text = c.in-Some.text.now;
      announced = c.in-Some.ensures;
      number = number.0;
      digits = number.1;
      size = omega arith;
      allowed = search rules;
    }
