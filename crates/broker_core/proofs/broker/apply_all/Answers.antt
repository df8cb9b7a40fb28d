use Rattle.std.proofs.Common.{◌≡◌, ◌∷◌, ◌∙◌, ap, arith, length, rules, sym}
use Rattle.broker_state.specs.Executing.{committed}
use Rattle.broker_state.specs.Parts.{leaving}
use Rattle.broker_core.proofs.Transactions.{committed_more}
use Rattle.broker_core.proofs.broker.apply_all.Goals as goal

pub loop-member-preserved : goal.loop-member-preserved
loop-member-preserved c =
    let s = c.loop-member.tables.state in
    let rest = c.next.new.self.rest.items in
    let first : c.loop-member.member-iterator.rest.items ≡ c.in-Some.member ∷ rest = search rules in
    let all = ap (committed c.args.rule s c.args.session c.loop-member.place) (sym first) ∙ c.loop-member.invariant.committed in
    let t = c.apply.new.tables.state in
    record {
      committed = sym (committed_more c.args.rule s t c.args.session c.loop-member.place c.in-Some.member rest (c.in_ok-fault.ensures.applied ∙ ap (λ r. leaving r t) c.in_default.is)) ∙ all;
      few = omega (arith, ap length first);
      whole = c.in_ok-fault.ensures.whole;
    }
