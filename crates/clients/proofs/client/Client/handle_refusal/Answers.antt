use Rattle.std.proofs.Common.{◌≡◌, ◌∙◌, Some, None, inl, inr, ap, refl, sym, subst}
use Rattle.clients.specs.Connections.{connection_of}
use Rattle.clients.specs.declared.turned.Outcome.TheVariants.{Rest}
use Rattle.clients.specs.Halting.{IsFinal}
use Rattle.clients.specs.Refusals.{WaitsIfFull}
use Rattle.clients.proofs.ClientProgress.{stopped_so}
use Rattle.clients.proofs.ConnectionLife.{stops_telling}
use Rattle.clients.proofs.client.Client.handle_refusal.Goals as goal

pub returns-in-Stopped : goal.returns-in-Stopped
returns-in-Stopped g c = record {
  same = (refl, refl);
  stays = (refl, refl);
  waits = elim c.in-Stopped.is [
    | inl is ↦ subst (λ r. WaitsIfFull c.args.entry r c.args.self.now.waiting Rest) (sym is) refl
    | inr is ↦ subst (λ r. WaitsIfFull c.args.entry r c.args.self.now.waiting Rest) (sym is) refl
  ];
  tells = stops_telling (connection_of c.args.self.now) _ (ap (λ x. record (connection_of c.args.self.now) { stage = x }) c.stopped-self.ensures);
  halts = λ h. inr (elim c.in-Stopped.is [ inl is ↦ subst IsFinal (sym is) tt | inr is ↦ subst IsFinal (sym is) tt ]);
  lives = stopped_so (connection_of c.args.self.now) _ c.args.self.now.waiting _ _ (ap (λ x. record (connection_of c.args.self.now) { stage = x }) c.stopped-self.ensures) c.requires.2;
}

pub invariant_of-self-in-Stopped-clause-boxed : goal.invariant_of-self-in-Stopped-clause-boxed
invariant_of-self-in-Stopped-clause-boxed g c = λ entry some. absurd (let never : None ≡ Some entry = sym c.requires.2 ∙ some in cc)
