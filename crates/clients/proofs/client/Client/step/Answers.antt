use Rattle.std.proofs.Common.{◌≡◌, ◌∙◌, Some, ap, refl, rules, subst, sym}
use Rattle.clients.specs.Connections.{Takes, connection_of}
use Rattle.session_core.specs.declared.session.Act.{Act}
use Rattle.session_core.specs.declared.session.Act.TheVariants.{Close, Direct, Do}
use Rattle.clients.proofs.TurnAnswers.{quiet_takes}
use Rattle.clients.proofs.ClientProgress.{goes_closing, goes_none, goes_resting, goes_taken, goes_telling, goes_waiting, not_some, still_executes}
use Rattle.clients.proofs.ConnectionLife.{next_so}
use Rattle.clients.proofs.TurnReports.{sends_none}
use Rattle.clients.proofs.client.Client.step.Goals as goal

pub returns-then-not-executes-clause-goes : goal.returns-then-not-executes-clause-goes
returns-then-not-executes-clause-goes g c = goes_none g.L.Outgoing.sent g.L.Outgoing.received _ _ _

pub returns-in-Some-clause-goes : goal.returns-in-Some-clause-goes
returns-in-Some-clause-goes g c =
    goes_waiting g.L.Outgoing.sent g.L.Outgoing.received c.args.self.now _ c.append.new.self c.args.seat.now c.append.new.seat c.args.link.now c.in-Some.entry (c.executes.ensures.yes c.if-not-executes.false) (sym c.take.ensures.value ∙ c.in-Some.is)
    refl refl refl c.append.ensures.continues c.append.ensures.stays (c.append.ensures.lives (c.executes.ensures.yes c.if-not-executes.false))

pub returns-in-Some-Do-clause-goes : goal.returns-in-Some-Do-clause-goes
returns-in-Some-Do-clause-goes g c =
    let executes = c.executes.ensures.yes c.if-not-executes.false in
    let still = still_executes (connection_of c.args.self.now) (connection_of c.next_act.new.self) c.next_act.result c.next_act.ensures.takes executes in
    let act : c.in-Some-Do.field-0 ≡ Do c.in-Some-Do.op c.in-Some-Do.receipt = search rules in
    goes_taken g.L.Outgoing.sent g.L.Outgoing.received c.args.self.now c.next_act.new.self c.request.new.self c.args.seat.now c.request.new.seat c.args.link.now (Do c.in-Some-Do.op c.in-Some-Do.receipt)
    executes (sym c.take.ensures.value ∙ not_some c.take.result c.in_default.not-Some) (subst (λ (a : Act). Takes (connection_of c.args.self.now) (connection_of c.next_act.new.self) (Some a)) act c.in-Some-Do.ensures.takes) c.next_act.ensures.same.2 c.next_act.ensures.same.3 c.request.ensures.continues c.request.ensures.stays (c.request.ensures.lives still)

pub returns-in-Some-Direct-clause-goes : goal.returns-in-Some-Direct-clause-goes
returns-in-Some-Direct-clause-goes g c =
    let act : c.in-Some-Direct.field-0 ≡ Direct c.in-Some-Direct.notice = search rules in
    goes_telling g.L.Outgoing.sent g.L.Outgoing.received c.args.self.now c.next_act.new.self c.tell.new.self c.args.seat.now c.args.link.now c.tell.new.link c.in-Some-Direct.notice
    (c.executes.ensures.yes c.if-not-executes.false)
    (sym c.take.ensures.value ∙ not_some c.take.result c.in_default.not-Some) (subst (λ (a : Act). Takes (connection_of c.args.self.now) (connection_of c.next_act.new.self) (Some a)) act c.in-Some-Direct.ensures.takes) c.next_act.ensures.same.2 c.next_act.ensures.same.3 c.tell.ensures.unread c.tell.ensures.ends c.tell.ensures.tells

pub returns-in-Some-Close-clause-goes : goal.returns-in-Some-Close-clause-goes
returns-in-Some-Close-clause-goes g c =
    let act : c.in-Some-Close.field-0 ≡ Close c.in-Some-Close.code = search rules in
    goes_closing g.L.Outgoing.sent g.L.Outgoing.received c.args.self.now _ (connection_of c.next_act.new.self) c.args.seat.now c.args.link.now c.in-Some-Close.code (c.executes.ensures.yes c.if-not-executes.false)
    (sym c.take.ensures.value ∙ not_some c.take.result c.in_default.not-Some) (c.next_act.ensures.same.0 ∙ c.take.ensures.after) c.next_act.ensures.same.2 c.next_act.ensures.same.3 (subst (λ (a : Act). Takes (connection_of c.args.self.now) (connection_of c.next_act.new.self) (Some a)) act c.in-Some-Close.ensures.takes) (ap (λ x. record (connection_of c.next_act.new.self) { stage = x }) c.closed_by-self.ensures)

pub returns-in-None-clause-goes : goal.returns-in-None-clause-goes
returns-in-None-clause-goes g c =
    goes_resting g.L.Outgoing.sent g.L.Outgoing.received c.args.self.now _ (connection_of c.next_act.new.self) c.args.seat.now c.args.link.now (c.executes.ensures.yes c.if-not-executes.false)
    (sym c.take.ensures.value ∙ not_some c.take.result c.in_default.not-Some) (c.next_act.ensures.same.0 ∙ c.take.ensures.after) c.next_act.ensures.same.2 c.next_act.ensures.same.3 c.in-None.ensures.takes (ap (λ x. record (connection_of c.next_act.new.self) { stage = x }) c.rested-self.ensures)

pub returns-in-Some-Direct-clause-takes : goal.returns-in-Some-Direct-clause-takes
returns-in-Some-Direct-clause-takes g c = quiet_takes c.tell.result _ c.args.seat.now c.tell.ensures.quiet

pub append-requires-clause-may : goal.append-requires-clause-may
append-requires-clause-may g c = record {
  nothing = c.take.ensures.after;
  next = next_so c.args.self.now.progress c.in-Some.entry.command (c.args.self.now.next c.in-Some.entry (sym c.take.ensures.value ∙ c.in-Some.is) (c.executes.ensures.yes c.if-not-executes.false));
  boxed = c.args.self.now.boxed c.in-Some.entry (sym c.take.ensures.value ∙ c.in-Some.is);
}

pub returns-then-not-executes-clause-few : goal.returns-then-not-executes-clause-few
returns-then-not-executes-clause-few g c = sends_none g.L.Outgoing.sent _ _ _ refl

pub returns-in-Some-clause-few : goal.returns-in-Some-clause-few
returns-in-Some-clause-few g c = sends_none g.L.Outgoing.sent _ _ _ refl

pub returns-in-Some-Do-clause-few : goal.returns-in-Some-Do-clause-few
returns-in-Some-Do-clause-few g c = sends_none g.L.Outgoing.sent _ _ _ refl

pub returns-in-Some-Close-clause-few : goal.returns-in-Some-Close-clause-few
returns-in-Some-Close-clause-few g c = sends_none g.L.Outgoing.sent _ _ _ refl

pub returns-in-None-clause-few : goal.returns-in-None-clause-few
returns-in-None-clause-few g c = sends_none g.L.Outgoing.sent _ _ _ refl
