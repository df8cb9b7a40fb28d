use Rattle.std.proofs.Common.{◌≡◌, ◌<◌, ◌≤◌, ◌∷◌, ◌∙◌, Some, [], ap, arith, inl, refl, subst, sym}
use Rattle.command_core.specs.Commands.{CommandValue}
use Rattle.command_core.specs.declared.command.Op.{Op}
use Rattle.session_core.specs.declared.session.Act.TheVariants.{Do}
use Rattle.clients.specs.Connections.{connection_of}
use Rattle.clients.specs.Progress.{IsNext}
use Rattle.clients.specs.Footprints.{charged, total}
use Rattle.clients.specs.Histories.{Taken}
use Rattle.clients.proofs.ClientProgress.{again_so, asked_so, charged_so, cut_so, keeps_same, nothing_done, passed_so}
use Rattle.clients.proofs.ConnectionLife.{same_stage}
use Rattle.clients.proofs.client.Client.request.Goals as goal

pub returns-in_default-clause-lives : goal.returns-in_default-clause-lives
returns-in_default-clause-lives g c = λ executes.
    passed_so (connection_of c.args.self.now) (connection_of c.args.self.now) c.args.self.now.waiting c.args.seat.now (Do c.args.op c.args.receipt) executes c.in_default.ensures (same_stage _ _ refl) refl c.requires.taken.1

pub returns-then-not-admits-clause-lives : goal.returns-then-not-admits-clause-lives
returns-then-not-admits-clause-lives g c = λ executes.
    asked_so (connection_of c.args.self.now) (connection_of c.cut_off.new.self) c.cut_off.new.self.waiting c.args.seat.now c.args.seat.now c.args.op c.args.receipt c.in-Some.command executes c.in-Some.ensures.0 c.in-Some.ensures.1
    (cut_so (connection_of c.args.self.now) (connection_of c.cut_off.new.self) c.cut_off.new.self.waiting c.args.seat.now c.in-Some.command executes
    c.admits.ensures.form (subst (λ (op : Op). c.args.self.now.footprint.room < total (charged c.args.self.now.footprint.parts op)) c.op.ensures.value (c.admits.ensures.no c.if-not-admits.true))
    c.cut_off.ensures.filled (c.cut_off.ensures.same.0 ∙ c.requires.taken.1))

pub returns-in-Ok-clause-lives : goal.returns-in-Ok-clause-lives
returns-in-Ok-clause-lives g c = λ executes.
    asked_so (connection_of c.args.self.now) (connection_of c.append.new.self) c.append.new.self.waiting c.args.seat.now c.append.new.seat c.args.op c.args.receipt c.in-Some.command executes c.in-Some.ensures.0 c.in-Some.ensures.1
    (charged_so (connection_of c.args.self.now) _ (connection_of c.append.new.self) c.append.new.self.waiting c.args.seat.now c.append.new.seat c.in-Some.command c.in-Ok.entry.command executes
    (subst (λ (op : Op). total (charged c.args.self.now.footprint.parts op) ≤ c.args.self.now.footprint.limit) c.op.ensures.value
    (omega (arith, c.admits.ensures.yes c.if-not-admits.false, c.admits.ensures.form.least))) (ap (λ f. record (connection_of c.args.self.now) { footprint = f }) c.in-Ok.ensures.ok.1) c.in-Ok.ensures.ok.0 c.append.ensures.lives)

pub returns-in-Err-clause-lives : goal.returns-in-Err-clause-lives
returns-in-Err-clause-lives g c = λ executes.
    let act = Do c.into_parts-op.result.1 c.into_parts-op.result.2 in
    let command : c.in-Err.command ≡ c.in-Some.command = c.in-Err.ensures.back.0 in
    nothing_done (Taken (Do c.args.op c.args.receipt)) (connection_of c.args.self.now) _ c.args.self.now.waiting [] c.args.seat.now c.args.seat.now refl
    (keeps_same (connection_of c.args.self.now) _ c.in-Err.ensures.back.1) refl (λ t. t) (λ h. inl h)
    (again_so (connection_of c.args.self.now) _ c.args.self.now.waiting (Taken (Do c.args.op c.args.receipt)) act executes c.requires.taken.0
    (ap (λ (x : CommandValue). Do x.op x.receipt ∷ []) (sym c.in-Some.ensures.0 ∙ sym command ∙ c.into_parts-op.ensures.value))
    (ap (λ x. record (connection_of c.args.self.now) { acts = x; footprint = c.charge.new.footprint }) c.put_back.ensures
    ∙ ap (λ x. record (connection_of c.args.self.now) { acts = record c.args.self.now.acts { again = Some act }; footprint = x }) c.in-Err.ensures.back.1) c.requires.taken.1)

pub append-requires-clause-may : goal.append-requires-clause-may
append-requires-clause-may g c = record {
  nothing = c.requires.taken.1;
  next = subst (λ (x : CommandValue). IsNext c.args.self.now.progress x) (sym c.in-Ok.ensures.ok.0) c.in-Some.ensures.1;
  boxed = c.in-Ok.ensures.boxed;
}
