use Rattle.std.proofs.Common.{sym, subst, refl, ◌∙◌, ap}
use Rattle.tx_core.specs.Transactions.{AreOpen, members_of}
use Rattle.tx_core.proofs.Named.{may_end, may_not_end, still_open, gone_at, taken_out}
use Rattle.tx_core.proofs.open_tx.OpenTx.abort.Goals as goal

pub invariant_of-self : goal.invariant_of-self
invariant_of-self c = subst AreOpen (sym c.remove.ensures.items) (still_open c.args.name.now c.self.inside.all.items c.in-Some.place c.in-Some.ensures c.self.invariant)

pub returns-in-None-clause-refused : goal.returns-in-None-clause-refused
returns-in-None-clause-refused c = rw (← c.self.view_is) (refl, sym (may_not_end c.args.name.now c.self.inside.all.items c.in-None.ensures))

pub returns-in-Some-clause-gone : goal.returns-in-Some-clause-gone
returns-in-Some-clause-gone c = ap (members_of c.args.name.now) c.remove.ensures.items ∙ gone_at c.args.name.now c.self.inside.all.items c.in-Some.place c.in-Some.ensures c.self.invariant

pub returns-in-Some-clause-allowed : goal.returns-in-Some-clause-allowed
returns-in-Some-clause-allowed c = rw (← c.self.view_is) (may_end c.args.name.now c.self.inside.all.items c.in-Some.place c.in-Some.ensures)

pub returns-in-Some-clause-ok : goal.returns-in-Some-clause-ok
returns-in-Some-clause-ok c = rw (← c.self.view_is) (c.remove.ensures.items ∙ taken_out c.args.name.now c.self.inside.all.items c.in-Some.place c.in-Some.ensures)
