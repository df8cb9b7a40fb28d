use Rattle.std.proofs.Common.{arith, is_some, ap, sym, subst, ◌∙◌}
use Rattle.std.proofs.lemmas.Bool.{false≢true}
use Rattle.std.proofs.lemmas.Result.{err_from_is_err_and}
use Rattle.command_core.proofs.RecordCommands.{failed}
use Rattle.command_core.proofs.Walks.{bytes_are}
use Rattle.broker_core.specs.States.{BrokerValue}
use Rattle.snapshot_core.specs.Snapshots.{Spells}
use Rattle.snapshot_core.proofs.SnapshotForms.{longer_is_none, none_is_spelled, read_is_spelled, unsound_is_none}
use Rattle.snapshot_core.proofs.reading.decode_state.Goals as goal

pub returns-in_err-parts-clause-none : goal.returns-in_err-parts-clause-none
returns-in_err-parts-clause-none c =
    let p = err_from_is_err_and c.from_residual.result c.from_residual.ensures.1 in
    rw (p.1, p.2) (λ is. none_is_spelled c.args.bytes.now (failed c.in_err-parts.field-0.0 _ c.in_err-parts.ensures is))

pub returns-then-not-is_empty-clause-none : goal.returns-then-not-is_empty-clause-none
returns-then-not-is_empty-clause-none c =
    λ is. longer_is_none c.args.bytes.now _ c.in_ok-parts.rest.now c.in_ok-parts.ensures (sym c.is_empty.ensures ∙ c.if-not-is_empty.true)

pub returns-in-Some-clause-spelled : goal.returns-in-Some-clause-spelled
returns-in-Some-clause-spelled c =
    let found = c.in_ok-broker.ensures in
    let sound = found.sound.0 (ap is_some c.in-Some.is) in
    let same = rw c.in-Some.is at found.state in
    let spells = read_is_spelled c.args.bytes.now _ c.in_ok-parts.rest.now c.in_ok-parts.ensures (bytes_are c.args.bytes.now (λ i. omega (arith, c.type_inv.bytes i))) (sym c.is_empty.ensures ∙ c.if-not-is_empty.false) sound in
    subst (λ (broker : BrokerValue). Spells c.args.bytes.now broker.state) (sym same) spells

pub returns-in-None-clause-none : goal.returns-in-None-clause-none
returns-in-None-clause-none c =
    λ is. unsound_is_none c.args.bytes.now _ c.in_ok-parts.rest.now c.in_ok-parts.ensures (λ sound. false≢true (sym (ap is_some c.in-None.is) ∙ c.in_ok-broker.ensures.sound.1 sound))
