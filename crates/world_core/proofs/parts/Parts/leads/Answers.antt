use Rattle.std.proofs.Common.{◌≡◌, true, rules}
use Rattle.world_core.specs.declared.event.CallKind.TheVariants.{Write}
use Rattle.world_core.specs.declared.event.CallList.TheVariants.{Append, Open, Snapshot}
use Rattle.world_core.specs.Parts.{value_of}
use Rattle.world_core.specs.Touches.{is_measured}
use Rattle.world_core.proofs.Calling.{is_write_of_block, is_write_of_copy, is_write_of_open, leads_as, leads_nowhere_as}
use Rattle.world_core.proofs.parts.Parts.leads.Goals as goal

pub returns-in-Append-clause-some : goal.returns-in-Append-clause-some
returns-in-Append-clause-some c =
    let writes : is_measured c.args.list c.args.kind ≡ true = search rules in
    leads_as c.append_leads.result (value_of c.args.self.now) Append c.args.list Write c.args.kind c.in-Append.is (is_write_of_block c.args.list c.args.kind c.in-Append.is writes) c.append_leads.ensures.some

pub returns-in-Append-clause-none : goal.returns-in-Append-clause-none
returns-in-Append-clause-none c =
    let writes : is_measured c.args.list c.args.kind ≡ true = search rules in
    leads_nowhere_as c.append_leads.result (value_of c.args.self.now) Append c.args.list Write c.args.kind c.in-Append.is (is_write_of_block c.args.list c.args.kind c.in-Append.is writes) c.append_leads.ensures.none

pub returns-in-Snapshot-clause-some : goal.returns-in-Snapshot-clause-some
returns-in-Snapshot-clause-some c =
    let writes : is_measured c.args.list c.args.kind ≡ true = search rules in
    leads_as c.copy_leads.result (value_of c.args.self.now) Snapshot c.args.list Write c.args.kind c.in-Snapshot.is (is_write_of_copy c.args.list c.args.kind c.in-Snapshot.is writes) c.copy_leads.ensures.some

pub returns-in-Snapshot-clause-none : goal.returns-in-Snapshot-clause-none
returns-in-Snapshot-clause-none c =
    let writes : is_measured c.args.list c.args.kind ≡ true = search rules in
    leads_nowhere_as c.copy_leads.result (value_of c.args.self.now) Snapshot c.args.list Write c.args.kind c.in-Snapshot.is (is_write_of_copy c.args.list c.args.kind c.in-Snapshot.is writes) c.copy_leads.ensures.none

pub returns-in_default : goal.returns-in_default
returns-in_default c =
    let w = value_of c.args.self.now in
    let writes : is_measured c.args.list c.args.kind ≡ true = search rules in
    let both = is_write_of_open c.args.list c.args.kind c.in_default.not-Append c.in_default.not-Snapshot writes in
    record {
      some = leads_as c.open_leads.result w Open c.args.list Write c.args.kind both.0 both.1 c.open_leads.ensures.some;
      none = leads_nowhere_as c.open_leads.result w Open c.args.list Write c.args.kind both.0 both.1 c.open_leads.ensures.none;
    }
