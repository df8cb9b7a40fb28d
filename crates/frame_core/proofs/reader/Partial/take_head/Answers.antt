use Rattle.std.proofs.Common.{◌≡◌, ◌≤◌, ◌+◌, ◌-◌, ℕ, ◌++◌, Bool, length, take, get_or, sym, subst, arith}
use Rattle.std.specs.List.{AllByRecursion}
use Rattle.std.proofs.lemmas.List.{length-take-le}
use Rattle.std.proofs.lemmas.Result.{err_from_is_err_and}
use Rattle.frame_core.specs.declared.fault.FrameFault.TheVariants.{TooLarge}
use Rattle.frame_core.specs.Heads.{IsInLine}
use Rattle.frame_core.specs.Partials.{IsAt, bytes_of}
use Rattle.frame_core.proofs.BodySteps.{shorter_run}
use Rattle.frame_core.proofs.HeadFaults.{long_run, if_fault}
use Rattle.frame_core.proofs.Joins.{fails_first, fails_at}
use Rattle.frame_core.proofs.OpenLines.{run_kept, run_reads, no_body, part_of_head}
use Rattle.frame_core.proofs.reader.Partial.take_head.Goals as goal

pub returns-in_err-take_byte-clause-fault : goal.returns-in_err-take_byte-clause-fault
returns-in_err-take_byte-clause-fault c =
    let q = err_from_is_err_and c.from_residual.result c.from_residual.ensures.1 in
    rw (q.1, q.2) (if_fault c.in_err-take_byte.field-0.0 _ _ (λ fault h.
    fails_first (bytes_of c.args.self.now) c.args.piece.now fault c.requires.some_byte h) c.in_err-take_byte.ensures.fault)

pub returns-then-count-len-clause-fault : goal.returns-then-count-len-clause-fault
returns-then-count-len-clause-fault c =
    let p = c.args.self.now in
    let piece = c.args.piece.now in
    let count = c.run_in_line-count.result in
    let n : ℕ = 8192 - length p.head.items in
    let within = c.run_in_line-count.ensures.within in
    let part = part_of_head p.section p.head.items p.line p.with_cr p.headers.items p.body.items c.requires.in_head c.requires.kept in
    let run : AllByRecursion IsInLine (take n piece) = shorter_run IsInLine piece count n (omega arith) c.run_in_line-count.ensures.run in
    let full : length p.head.items + length (take n piece) ≡ 8192 = omega (arith, length-take-le n piece (omega arith), part.0.size) in
    fails_at (bytes_of p) piece n TooLarge (omega arith)
    (long_run p.section p.head.items p.line p.with_cr p.headers.items p.body.items (take n piece) (get_or piece n 0) c.requires.in_head c.requires.kept c.if-self.false run full)

pub returns-clause-ok : goal.returns-clause-ok
returns-clause-ok c =
    let p = c.args.self.now in
    let piece = c.args.piece.now in
    let count = c.run_in_line-count.result in
    let run = c.run_in_line-count.ensures.run in
    let within = c.run_in_line-count.ensures.within in
    let none = no_body p.section p.head.items p.line p.with_cr p.headers.items p.body.items c.requires.in_head c.requires.kept in
    let P : Bool → Type 0 = λ cr. IsAt p.section (p.head.items ++ take count piece) p.line cr p.headers.items p.body.items in
    let fits : length p.head.items + length (take count piece) ≤ 8192 = omega (arith, length-take-le count piece within) in
    record {
      some_byte = omega arith;
      within = within;
      reads = rw c.in_ok-extend_from_slice.ensures.items (run_reads p.head.items p.body.items (take count piece) none);
      kept = rw c.in_ok-extend_from_slice.ensures.items (subst P (sym c.if-self.false)
          (run_kept p.section p.head.items p.line p.with_cr p.headers.items p.body.items (take count piece) c.requires.in_head c.requires.kept c.if-self.false run fits));
    }
