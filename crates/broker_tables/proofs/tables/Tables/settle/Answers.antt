use Rattle.std.proofs.Common.{◌∙◌, List, ap, subst, sym}
use Rattle.waiting_order.specs.Waiting.{subs_of}
use Rattle.broker_tables.specs.declared.due.Due.{Due}
use Rattle.broker_state.specs.HandOut.{settled}
use Rattle.broker_tables.specs.Answers.{with_outs}
use Rattle.broker_tables.specs.Cursors.{AwaitAllDue, cursors_in}
use Rattle.broker_tables.specs.Dues.{AreDue}
use Rattle.broker_tables.specs.Stocks.{stocked}
use Rattle.broker_tables.specs.Tables.{TablesValue}
use Rattle.broker_tables.proofs.Awaiting.{awaited_due}
use Rattle.broker_tables.proofs.Dues.{none_due}
use Rattle.broker_tables.proofs.tables.Tables.settle.Goals as goal

pub hand_out-requires-clause-awaited : goal.hand_out-requires-clause-awaited
hand_out-requires-clause-awaited c =
    let a = c.self.inside in
    let marks = a.due.items in
    awaited_due (cursors_in c.in_ok-cursors.cursors) marks a.stock (c.self.invariant (ap (λ (b : TablesValue). b.broken) c.self.view_is ∙ c.requires.whole)).ready
    (subst (λ (l : List Due). AwaitAllDue (cursors_in c.in_ok-cursors.cursors) l a.stock.order.all) c.as_slice.ensures.value c.in_ok-cursors.ensures)

pub invariant_of-self-2 : goal.invariant_of-self-2
invariant_of-self-2 c _ =
    let new = c.hand_out.new.self in
    record {
      whole = c.in_ok-hand_out.ensures.stocked;
      ready = subst (λ (l : List Due). AreDue l (stocked new)) (sym c.clear.ensures.items) (none_due (stocked new) (subs_of new.order.all) c.in_ok-hand_out.ensures.none);
    }

pub returns-clause-outs : goal.returns-clause-outs
returns-clause-outs c =
    let a = c.self.inside in
    let handed = c.in_ok-hand_out.ensures.settled a.sessions.entries a.durables in
    handed.1 ∙ ap (λ (b : TablesValue). with_outs (settled b.state).outs c.args.answers.now) c.self.view_is
