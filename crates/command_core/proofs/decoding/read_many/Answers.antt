use Rattle.std.proofs.Common.{◌∷◌, [], Err, Ok, arith}
use Rattle.std.proofs.lemmas.List.{length-append}
use Rattle.std.proofs.lemmas.Result.{err_from_is_err_and}
use Rattle.command_core.specs.PartReading.{many_at}
use Rattle.command_core.proofs.ReadLoops.{ends, goes_on, is_done}
use Rattle.command_core.proofs.decoding.read_many.Goals as goal

pub returns-in_err-item-clause-read : goal.returns-in_err-item-clause-read
returns-in_err-item-clause-read g c one reads =
    let p = err_from_is_err_and c.from_residual.result c.from_residual.ensures.1 in
    rw (p.1, p.2) (ends c.in_err-item.field-0.0 one c.loop.items.items c.args.count c.loop.counter c.loop.rest.now (many_at one c.args.count c.args.bytes.now) c.loop-test.true (reads c.loop.rest (Err c.in_err-item.field-0.0) c.in_err-item.ensures) (c.loop.invariant.read one reads))

pub loop-preserved : goal.loop-preserved
loop-preserved g c =
    let read = c.in_ok-item in
    record {
      read = λ one reads. rw c.in_ok-push.ensures.items (goes_on one c.loop.items.items c.args.count c.loop.counter c.loop.rest.now read.item read.after.now (many_at one c.args.count c.args.bytes.now) c.loop-test.true (reads c.loop.rest (Ok (read.item, read.after)) read.ensures) (c.loop.invariant.read one reads));
      count = simp c.in_ok-push.ensures.items (omega (arith, c.loop.invariant.count, length-append c.loop.items.items (read.item ∷ [])));
    }

pub returns-clause-read : goal.returns-clause-read
returns-clause-read g c one reads =
    is_done one c.loop.items.items c.args.count c.loop.counter c.loop.rest.now (many_at one c.args.count c.args.bytes.now) c.loop-test.false (c.loop.invariant.read one reads)

pub returns-clause-count : goal.returns-clause-count
returns-clause-count g c = omega (arith, c.loop.invariant.count)
