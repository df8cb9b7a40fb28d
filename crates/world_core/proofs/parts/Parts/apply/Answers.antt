use Rattle.world_core.specs.declared.event.Event.TheVariants.{Look, Claim, Ready, Take, Device, Raise, Release, Stop, Crash, Open}
use Rattle.world_core.specs.Parts.{value_of}
use Rattle.world_core.proofs.Telling.{told_as, told_as_if}
use Rattle.world_core.proofs.parts.Parts.apply.Goals as goal

pub returns-in-Look-clause-ok : goal.returns-in-Look-clause-ok
returns-in-Look-clause-ok c = told_as (value_of c.args.self.now) (value_of c.look.new.self) (Look c.in-Look.j) c.args.event c.look.result c.in-Look.is c.look.ensures

pub returns-in-Claim-clause-ok : goal.returns-in-Claim-clause-ok
returns-in-Claim-clause-ok c = told_as_if (value_of c.args.self.now) (value_of c.claim.new.self) (Claim c.in-Claim.j c.in-Claim.command) c.args.event c.claim.result c.in-Claim.is c.claim.ensures.ok

pub returns-in-Claim-clause-err : goal.returns-in-Claim-clause-err
returns-in-Claim-clause-err c = c.claim.ensures.err

pub returns-in-Ready-clause-ok : goal.returns-in-Ready-clause-ok
returns-in-Ready-clause-ok c = told_as (value_of c.args.self.now) (value_of c.ready.new.self) (Ready c.in-Ready.j) c.args.event c.ready.result c.in-Ready.is c.ready.ensures

pub returns-in-Take-clause-ok : goal.returns-in-Take-clause-ok
returns-in-Take-clause-ok c = told_as (value_of c.args.self.now) (value_of c.take.new.self) Take c.args.event c.take.result c.in-Take.is c.take.ensures

pub returns-in-Device-clause-ok : goal.returns-in-Device-clause-ok
returns-in-Device-clause-ok c = told_as_if (value_of c.args.self.now) (value_of c.device.new.self) (Device c.in-Device.call) c.args.event c.device.result c.in-Device.is c.device.ensures.ok

pub returns-in-Device-clause-err : goal.returns-in-Device-clause-err
returns-in-Device-clause-err c = c.device.ensures.err

pub returns-in-Raise-clause-ok : goal.returns-in-Raise-clause-ok
returns-in-Raise-clause-ok c = told_as (value_of c.args.self.now) (value_of c.raise.new.self) (Raise c.in-Raise.n) c.args.event c.raise.result c.in-Raise.is c.raise.ensures

pub returns-in-Release-clause-ok : goal.returns-in-Release-clause-ok
returns-in-Release-clause-ok c = told_as_if (value_of c.args.self.now) (value_of c.release.new.self) (Release c.in-Release.j c.in-Release.n) c.args.event c.release.result c.in-Release.is c.release.ensures.ok

pub returns-in-Release-clause-err : goal.returns-in-Release-clause-err
returns-in-Release-clause-err c = c.release.ensures.err

pub returns-in-Stop-clause-ok : goal.returns-in-Stop-clause-ok
returns-in-Stop-clause-ok c = told_as (value_of c.args.self.now) (value_of c.stop.new.self) Stop c.args.event c.stop.result c.in-Stop.is c.stop.ensures

pub returns-in-Crash-clause-ok : goal.returns-in-Crash-clause-ok
returns-in-Crash-clause-ok c = told_as (value_of c.args.self.now) (value_of c.crash.new.self) (Crash c.in-Crash.image) c.args.event c.crash.result c.in-Crash.is c.crash.ensures

pub returns-in-Open-clause-ok : goal.returns-in-Open-clause-ok
returns-in-Open-clause-ok c = told_as_if (value_of c.args.self.now) (value_of c.open.new.self) Open c.args.event c.open.result c.in-Open.is c.open.ensures.ok

pub returns-in-Open-clause-err : goal.returns-in-Open-clause-err
returns-in-Open-clause-err c = c.open.ensures.err
