use Rattle.std.proofs.Common.{◌≡◌, ◌≤◌, ◌<◌, ◌+◌, ◌∙◌, ap, arith, false, is_some, nat_le, sym}
use Rattle.std.proofs.lemmas.Bool.{lt-leb}
use Rattle.broker_core.specs.Prechecks.{kept_bytes_in, kept_in}
use Rattle.broker_core.proofs.PrecheckSteps.{few_held, refuse_full, refuse_none, refuse_some, small_held}
use Rattle.broker_core.proofs.precheck.precheck_refuse.Goals as goal

pub precheck_settle-requires : goal.precheck_settle-requires
precheck_settle-requires c = record {
  held = record {
    small = c.requires.4.small;
    messages = few_held c.requires.0 c.requires.1 c.requires.2 c.args.precheck.now c.args.precheck.now c.requires.3 c.requires.4;
    bytes = small_held c.requires.0 c.requires.1 c.requires.2 c.args.precheck.now c.args.precheck.now c.requires.3 c.requires.4;
  };
}

pub returns-in_default : goal.returns-in_default
returns-in_default c = λ session place durables subs s stands.
    let none = sym c.in_ok-settled.ensures.found ∙ ap is_some c.in_default.is in
    refuse_none session durables subs c.args.precheck.now c.precheck_settle.new.precheck s stands c.args.delivery none place

pub returns-then-precheck-bytes-gt-MOST_BYTES : goal.returns-then-precheck-bytes-gt-MOST_BYTES
returns-then-precheck-bytes-gt-MOST_BYTES c = λ session place durables subs s stands.
    let told = c.in_ok-settled.ensures in
    let some = sym told.found ∙ ap is_some c.in-Some.is in
    let done = rw c.in-Some.is at told.settles in
    let out = c.in-Some.settled.items in
    let mid = c.precheck_settle.new.precheck.held in
    let bytes = c.kept_bytes_of-bytes.ensures.bytes ∙ ap kept_bytes_in c.as_slice.ensures.value in
    let over : 16777216 < mid.bytes + kept_bytes_in out = omega (arith, c.if-precheck-bytes-gt-MOST_BYTES.true, bytes) in
    let full : nat_le (mid.bytes + kept_bytes_in out) 16777216 ≡ false = lt-leb _ _ over in
    refuse_full session durables subs c.args.precheck.now c.precheck_settle.new.precheck s stands c.args.delivery some out done.settled told.flights place mid.messages mid.bytes done.messages done.bytes full

pub returns : goal.returns
returns c = λ session place durables subs s stands.
    let told = c.in_ok-settled.ensures in
    let some = sym told.found ∙ ap is_some c.in-Some.is in
    let done = rw c.in-Some.is at told.settles in
    let out = c.in-Some.settled.items in
    let mid = c.precheck_settle.new.precheck.held in
    let kept = c.kept_of.ensures.kept ∙ ap kept_in c.as_slice-2.ensures.value in
    let bytes = c.kept_bytes_of-bytes.ensures.bytes ∙ ap kept_bytes_in c.as_slice.ensures.value in
    let fits : mid.bytes + kept_bytes_in out ≤ 16777216 = omega (arith, c.if-precheck-bytes-gt-MOST_BYTES.false, bytes) in
    refuse_some session durables subs c.args.precheck.now _ s stands c.args.delivery some out done.settled told.flights place mid.messages mid.bytes done.messages done.bytes fits (ap (λ n. mid.messages + n) kept) (ap (λ n. mid.bytes + n) bytes)
