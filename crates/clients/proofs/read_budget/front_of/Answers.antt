use Rattle.std.proofs.Common.{◌≡◌, ◌-◌, arith, drop, length, length-drop, subst, sym, take, take_all}
use Rattle.clients.proofs.FramePassing.{Passed, passes}
use Rattle.clients.proofs.read_budget.front_of.Goals as goal

pub loop-place-preserved : goal.loop-place-preserved
loop-place-preserved c =
    let rest = c.loop-place.rest.now in
    let count = c.pass-count.result in
    let same : take (length rest - count) (drop count rest) ≡ drop count rest = take_all (length rest - count) (drop count rest) (omega (arith, length-drop count rest)) in
    subst (λ it. Passed c.args.place.now c.pass-count.new.place c.args.most c.pass-count.new.left c.args.bytes.now it) (sym same)
    (passes c.args.place.now c.loop-place.place c.pass-count.new.place c.args.most c.loop-place.left c.pass-count.new.left c.args.bytes.now rest count
    c.loop-place.invariant c.pass-count.ensures.passes)
