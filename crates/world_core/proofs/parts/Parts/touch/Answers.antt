use Rattle.world_core.specs.Parts.{value_of}
use Rattle.world_core.proofs.Calling.{due_where, touches_read, touches_sync, touches_write}
use Rattle.world_core.proofs.parts.Parts.touch.Goals as goal

pub returns-in-Read-clause-ok : goal.returns-in-Read-clause-ok
returns-in-Read-clause-ok c = touches_read (value_of c.args.self.now) c.args.call c.args.to c.in-Read.is c.requires.leads

pub returns-in-Write-clause-ok : goal.returns-in-Write-clause-ok
returns-in-Write-clause-ok c = touches_write c.write.result (value_of c.args.self.now) (value_of c.write.new.self) c.args.call c.args.to c.in-Write.is c.write.ensures.ok

pub returns-in-Sync-clause-ok : goal.returns-in-Sync-clause-ok
returns-in-Sync-clause-ok c =
    touches_sync (value_of c.args.self.now) (value_of c.sync.new.self) c.args.call c.args.to c.in-Sync.is c.requires.leads c.sync.ensures.ok c.sync.ensures.failed

pub write-requires-clause-due : goal.write-requires-clause-due
write-requires-clause-due c = due_where (value_of c.args.self.now) c.requires.kept c.args.call.list c.args.call.kind c.args.to c.in-Write.is c.requires.leads
