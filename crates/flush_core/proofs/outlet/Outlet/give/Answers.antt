use Rattle.std.proofs.Common.{subst, ◌∙◌, ◌++◌, List}
use Rattle.outbox_core.specs.Giving.{AreGiven, Kept, unboxed, without}
use Rattle.command_core.specs.Outs.{OutValue}
use Rattle.flush_core.proofs.outlet.Outlet.give.Goals as goal

pub returns-clause-given : goal.returns-clause-given
returns-clause-given g c =
    let it = c.args.self.now in
    let outs = c.let_past_go.ensures.outs in
    subst (λ (l : List OutValue). AreGiven l (without it.boxes it.past.items) c.give_portion.new.self.boxes) (λ i. (outs.0 i).items)
    (subst (λ (b : Kept). AreGiven c.let_past_go.new.self.waiting.items b c.give_portion.new.self.boxes) c.let_past_go.ensures.boxes c.give_portion.ensures.given)

pub returns-clause-left : goal.returns-clause-left
returns-clause-left g c =
    let outs = c.let_past_go.ensures.outs in
    c.give_portion.ensures.left ∙ (λ i. (outs.1 i).items ++ unboxed (c.let_past_go.ensures.boxes i) (outs.0 i).items)
