use Rattle.world_core.specs.Parts.{value_of}
use Rattle.world_core.proofs.Calling.{block_leads_nowhere, block_leads_to}
use Rattle.world_core.proofs.parts.Parts.append_leads.Goals as goal

pub returns-clause-some : goal.returns-clause-some
returns-clause-some c = block_leads_to (value_of c.args.self.now) c.in_ok-under.under c.in_ok-under.ensures c.append_writes.result c.append_writes.ensures

pub returns-clause-none : goal.returns-clause-none
returns-clause-none c = block_leads_nowhere (value_of c.args.self.now) c.in_ok-under.under c.in_ok-under.ensures c.append_writes.result c.append_writes.ensures
