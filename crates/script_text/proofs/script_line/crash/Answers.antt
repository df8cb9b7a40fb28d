use Rattle.std.proofs.Common.{◌≡◌, ◌++◌, subst}
use Rattle.script_text.proofs.CrashCounts.{of_no_crash, prefix_of}
use Rattle.script_text.proofs.script_line.crash.Goals as goal

pub returns-in-None-count : goal.returns-in-None-count
returns-in-None-count c =
    let text = c.in-Some.text.now in
    let cases = c.in-Some.ensures.cases in
    of_no_crash c.args.line.now text (subst (λ front. c.args.line.now ≡ front ++ text) c.as_slice.ensures (prefix_of c.args.line.now c.as_slice.result.now text cases.0 cases.1))
    c.in-None.ensures c.in-None-count.ensures
