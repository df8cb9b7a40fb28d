use Rattle.std.proofs.Common.{sym, subst, refl, ◌∙◌, ap}
use Rattle.tx_core.specs.Transactions.{AreOpen, members_of}
use Rattle.tx_core.proofs.Named.{has_none, still_open, gone_at}
use Rattle.tx_core.proofs.open_tx.OpenTx.commit.Goals as goal

pub invariant_of-self : goal.invariant_of-self
invariant_of-self c = subst AreOpen (sym c.remove.ensures.items) (still_open c.args.name.now c.self.inside.all.items c.in-Some.place c.in-Some.ensures c.self.invariant)

pub returns-in-None-clause-refused : goal.returns-in-None-clause-refused
returns-in-None-clause-refused c = rw (← c.self.view_is) (refl, has_none c.args.name.now c.self.inside.all.items c.in-None.ensures)

pub returns-in-Some-clause-gone : goal.returns-in-Some-clause-gone
returns-in-Some-clause-gone c = ap (members_of c.args.name.now) c.remove.ensures.items ∙ gone_at c.args.name.now c.self.inside.all.items c.in-Some.place c.in-Some.ensures c.self.invariant
