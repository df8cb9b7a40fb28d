use Rattle.std.proofs.Common.{◌∙◌, ap, is_some, sym}
use Rattle.broker_core.proofs.PrecheckSteps.{acknowledge_none, acknowledge_some, few_held, small_held}
use Rattle.broker_core.proofs.precheck.precheck_acknowledge.Goals as goal

pub precheck_settle-requires : goal.precheck_settle-requires
precheck_settle-requires c = record {
  held = record {
    small = c.requires.4.small;
    messages = few_held c.requires.0 c.requires.1 c.requires.2 c.args.precheck.now c.args.precheck.now c.requires.3 c.requires.4;
    bytes = small_held c.requires.0 c.requires.1 c.requires.2 c.args.precheck.now c.args.precheck.now c.requires.3 c.requires.4;
  };
}

pub returns-in_default : goal.returns-in_default
returns-in_default c = λ session durables subs s stands.
    let none = sym c.in_ok-_settled.ensures.found ∙ ap is_some c.in_default.is in
    acknowledge_none session durables subs c.args.precheck.now c.precheck_settle.new.precheck s stands c.args.delivery none

pub returns : goal.returns
returns c = λ session durables subs s stands.
    let told = c.in_ok-_settled.ensures in
    let some = sym told.found ∙ ap is_some c.in-Some.is in
    let done = rw c.in-Some.is at told.settles in
    acknowledge_some session durables subs c.args.precheck.now c.precheck_settle.new.precheck s stands c.args.delivery some c.in-Some._settled.items done.settled told.flights done.messages done.bytes
