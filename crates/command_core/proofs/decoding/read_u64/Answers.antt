use Rattle.std.proofs.Common.{arith}
use Rattle.std.specs.Int.{w64}
use Rattle.command_core.proofs.ReadLoops.{number_read}
use Rattle.command_core.proofs.decoding.read_u64.Goals as goal

pub returns-in-Some : goal.returns-in-Some
returns-in-Some c =
    let cases = c.in-Some.ensures.cases in
    number_read w64 c.args.bytes.now c.in-Some.front.now _ _ (omega (arith, cases.2)) cases.0 cases.1 c.from_be_bytes.ensures
