use Rattle.std.proofs.Common.{sym, ◌∙◌, ap}
use Rattle.std.proofs.lemmas.Result.{on_ok_weaker, IfErr-weaker}
use Rattle.tx_core.specs.Refusals.{refusal_to_join}
use Rattle.tx_core.proofs.Named.{has_none, has_members, joined, open_with_other}
use Rattle.tx_core.proofs.open_tx.OpenTx.add.Goals as goal

pub invariant_of-self : goal.invariant_of-self
invariant_of-self c = open_with_other c.self.inside.all.items c.in-Some.place c.index_mut.result.now c.add.new.self c.index_mut.ensures.value c.add.ensures.name c.self.invariant

pub returns-in-None-clause-refused : goal.returns-in-None-clause-refused
returns-in-None-clause-refused c = rw (← c.self.view_is) (ap (refusal_to_join c.args.member) (sym (has_none c.args.name.now c.self.inside.all.items c.in-None.ensures)))

pub returns-in-Some-clause-ok : goal.returns-in-Some-clause-ok
returns-in-Some-clause-ok c =
    rw (← c.self.view_is) (on_ok_weaker c.add.result (λ more. joined c.args.name.now c.self.inside.all.items c.in-Some.place c.index_mut.result.now c.add.new.self c.args.member c.in-Some.ensures c.index_mut.ensures.value more) c.add.ensures.ok)

pub returns-in-Some-clause-allowed : goal.returns-in-Some-clause-allowed
returns-in-Some-clause-allowed c =
    let found = has_members c.args.name.now c.self.inside.all.items c.in-Some.place c.index_mut.result.now c.in-Some.ensures c.index_mut.ensures.value in
    rw (← c.self.view_is) (on_ok_weaker c.add.result (λ more. ap (refusal_to_join c.args.member) found ∙ more) c.add.ensures.allowed)

pub returns-in-Some-clause-refused : goal.returns-in-Some-clause-refused
returns-in-Some-clause-refused c =
    let found = has_members c.args.name.now c.self.inside.all.items c.in-Some.place c.index_mut.result.now c.in-Some.ensures c.index_mut.ensures.value in
    rw (← c.self.view_is) (IfErr-weaker c.add.result _ _ (λ fault more. more ∙ sym (ap (refusal_to_join c.args.member) found)) c.add.ensures.refused)
