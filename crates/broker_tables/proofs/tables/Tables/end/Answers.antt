use Rattle.std.proofs.Common.{◌∙◌, ap, arith, filter, fold, not, subst, sym}
use Rattle.std.specs.BTreeMap.{is_at}
use Rattle.std.specs.Map.{remove_entry}
use Rattle.std.specs.Ordering.{nat_cmp}
use Rattle.broker_state.specs.Operations.{is_of}
use Rattle.broker_state.specs.Parts.{NonePass}
use Rattle.broker_state.specs.Waiting.{returned}
use Rattle.broker_tables.specs.Tables.{TablesValue}
use Rattle.broker_tables.proofs.Operating.{ended_none, ended_one_of, none_ended}
use Rattle.broker_tables.proofs.tables.Tables.end.Goals as goal

pub loop-smaller : goal.loop-smaller
loop-smaller c =
    let one = ended_one_of c.args.session c.loop.self.state c.end_sought.new.self.state c.in_ok-end_sought.field-0 c.in_ok-end_sought.ensures.ended c.if-branch.true in
    omega (arith, one.fewer)

pub loop-preserved : goal.loop-preserved
loop-preserved c =
    let inv = c.loop.invariant in
    let one = ended_one_of c.args.session c.loop.self.state c.end_sought.new.self.state c.in_ok-end_sought.field-0 c.in_ok-end_sought.ensures.ended c.if-branch.true in
    record {
      count = one.count ∙ inv.count;
      next = one.next ∙ inv.next;
      sessions = one.sessions ∙ inv.sessions;
      durables = one.durables ∙ inv.durables;
      shared = one.shared ∙ inv.shared;
      others = one.others ∙ inv.others;
      whole = c.in_ok-end_sought.ensures.whole;
    }

pub returns-clause-ended : goal.returns-clause-ended
returns-clause-ended c =
    let inv = c.loop.invariant in
    let is = c.self.view_is ∙ c.in_ok-end_sought.ensures.same c.if-branch.false in
    let none = none_ended c.args.session c.loop.self.state c.end_sought.new.self.state c.in_ok-end_sought.field-0 c.in_ok-end_sought.ensures.ended c.if-branch.false in
    ended_none c.args.session c.args.self.now.state _ (ap (λ (b : TablesValue). b.state.count) is ∙ inv.count) (ap (λ (b : TablesValue). b.state.next_delivery) is ∙ inv.next)
    (c.remove.ensures.entries ∙ ap (λ (b : TablesValue). remove_entry (is_at (nat_cmp c.args.session)) b.state.sessions) is ∙ ap (remove_entry (is_at (nat_cmp c.args.session))) inv.sessions)
    (ap (λ (b : TablesValue). b.state.durables) is ∙ inv.durables)
    (ap (λ (b : TablesValue). fold returned b.state.shared (filter (is_of c.args.session) b.state.subscriptions)) is ∙ inv.shared)
    (ap (λ (b : TablesValue). filter (λ sub. not (is_of c.args.session sub)) b.state.subscriptions) is ∙ inv.others)
    (subst (λ (b : TablesValue). NonePass (is_of c.args.session) b.state.subscriptions) (sym is) none)
