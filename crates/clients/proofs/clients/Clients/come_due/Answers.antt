use Rattle.std.proofs.Common.{MatchOption, Some, rules, subst}
use Rattle.slab.specs.Slab.{Updates, with_value}
use Rattle.clients.specs.Schedules.{ComesDue}
use Rattle.clients.specs.declared.clients.Scheduled.{Scheduled}
use Rattle.clients.proofs.ListChanges.{updated}
use Rattle.clients.proofs.clients.Clients.come_due.Goals as goal

pub returns-clause-due : goal.returns-clause-due
returns-clause-due c =
    let old = c.args.self.now in
    subst
    (λ found. MatchOption found (Unit {0})
    (ComesDue c.args.number c.args.progress c.args.now c.come_due-due.result old (record old { all = with_value old.all c.args.number c.come_due-due.new.self; timers = c.set.new.self })))
    c.in-Some.ensures.value
    (record {
      is = c.come_due-due.ensures.due;
      done =
          subst (λ (client : Scheduled). Updates old.all (with_value old.all c.args.number c.come_due-due.new.self) c.args.number (Some client)) c.come_due-due.ensures.done
          (updated old.all c.args.number c.in-Some.client.now c.come_due-due.new.self c.in-Some.ensures.value);
      then = c.due-then.result;
      next = search rules;
      timers = search rules;
      same = search rules;
    })
