use Rattle.std.proofs.Common.{◌≡◌, ◌++◌, ◌∙◌, [], List, subst}
use Rattle.outbox_core.specs.Giving.{AreGiven, unboxed}
use Rattle.command_core.specs.Outs.{OutValue}
use Rattle.flush_core.proofs.FlusherKeeps.{nothing}
use Rattle.flush_core.proofs.outlet.give_waiting.Goals as goal

pub returns-clause-given : goal.returns-clause-given
returns-clause-given g c =
    let outs : c.replace-outs.result.items ≡ c.args.waiting.now.items = λ i. (c.replace-outs.ensures.value i).items in
    subst (λ (l : List OutValue). AreGiven l c.args.boxes.now c.give_all.new.self) outs c.give_all.ensures.given

pub returns-clause-unboxed : goal.returns-clause-unboxed
returns-clause-unboxed g c =
    let outs : c.replace-outs.result.items ≡ c.args.waiting.now.items = λ i. (c.replace-outs.ensures.value i).items in
    let none : c.args.spare.now.items ≡ [] = nothing c.args.spare.now.items c.requires.none in
    c.give_all.ensures.left ∙ (λ i. none i ++ unboxed c.args.boxes.now (outs i))
