use Rattle.std.proofs.Common.{List, ℕ, ◌+◌, arith, ap, ◌≡◌, ◌∙◌}
use Rattle.std.specs.List.{sum_by}
use Rattle.std.proofs.lemmas.List.{take_all}
use Rattle.command_core.specs.Outs.{header_bytes}
use Rattle.command_core.proofs.encoding.add_headers.Goals as goal

pub returns : goal.returns
returns c =
    let all = ap (λ (l : List (List ℕ × List ℕ)). c.args.bytes + sum_by header_bytes l) (take_all c.loop-name.name-index c.args.headers.now c.loop-name-test.false) in
    let sum : c.loop-name.sum ≡ c.args.bytes + sum_by header_bytes c.args.headers.now = c.loop-name.invariant.sum ∙ all in
    (omega (arith, sum, c.loop-name.invariant.fits), sum)
