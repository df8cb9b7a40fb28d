use Rattle.std.proofs.Common.{rules}
use Rattle.server_core.proofs.Counting.{served_on}
use Rattle.server_core.proofs.Reporting.{is_reported, still_reported}
use Rattle.server_core.proofs.event_loop.report_event.Goals as goal

pub returns-then-desk-len-clause-reported : goal.returns-then-desk-len-clause-reported
returns-then-desk-len-clause-reported g c =
    is_reported c.args.services.now.items c.client_of-desk.result.0 c.client_of-desk.result.1 c.index_mut.result.now c.note_report.new.self (search rules) (search rules) c.args.event.now (search rules) (search rules)

pub returns-then-desk-len-clause-others : goal.returns-then-desk-len-clause-others
returns-then-desk-len-clause-others g c = λ other reported.
    still_reported c.args.services.now.items c.client_of-desk.result.0 c.client_of-desk.result.1 c.index_mut.result.now c.note_report.new.self (search rules) (search rules) other reported

pub returns-then-desk-len-clause-ring : goal.returns-then-desk-len-clause-ring
returns-then-desk-len-clause-ring g c = λ ring before.
    served_on ring c.args.services.now.items c.client_of-desk.result.0 c.index_mut.result.now c.note_report.new.self (search rules) (search rules) before
