use Rattle.std.proofs.Common.{◌≡◌, ◌≤◌, ◌^◌, false, true}
use Rattle.disk_core.specs.Images.{IsImage}
use Rattle.recover_core.specs.Opens.{IsRestartOf}
use Rattle.recover_core.specs.Standing.{StandFor, Stands}
use Rattle.recover_core.specs.Stores.{disk_of, opened_by}
use Rattle.engine_core.proofs.Resting.{calm_of, caused_for_memory, durable_of, opened_as, restart_of, small_of, stands_of, told_for_memory}
use Rattle.engine_core.proofs.journal.Journal+MemDisk.open.Goals as goal

pub with_broker-requires-clause-opened : goal.with_broker-requires-clause-opened
with_broker-requires-clause-opened c = c.in-Ok.ensures.opens.opened

pub with_broker-requires-clause-whole : goal.with_broker-requires-clause-whole
with_broker-requires-clause-whole c = c.in-Ok.ensures.opens.whole

pub returns-in-Ok-clause-stood : goal.returns-in-Ok-clause-stood
returns-in-Ok-clause-stood c =
    opened_as (opened_by c.in-Ok.store) c.with_broker.result (disk_of c.in-Ok.store) (λ broker. IsRestartOf c.args.disk.content broker.state) (λ journal. IsRestartOf c.args.disk.content journal.state)
    c.in-Ok.ensures.opens.opened (c.in-Ok.ensures.opens.stood tt) (restart_of c.args.disk.content (disk_of c.in-Ok.store)) c.with_broker.ensures.made

pub returns-in-Ok-clause-durable : goal.returns-in-Ok-clause-durable
returns-in-Ok-clause-durable c =
    opened_as (opened_by c.in-Ok.store) c.with_broker.result (disk_of c.in-Ok.store) (λ broker. (broker.state.count ≤ 2 ^ 61) × (broker.broken ≡ false)) (λ journal. journal.durable ≡ true)
    c.in-Ok.ensures.opens.opened c.in-Ok.ensures.opens.small (durable_of (disk_of c.in-Ok.store)) c.with_broker.ensures.made

pub returns-in-Ok-clause-small : goal.returns-in-Ok-clause-small
returns-in-Ok-clause-small c =
    opened_as (opened_by c.in-Ok.store) c.with_broker.result (disk_of c.in-Ok.store) (λ broker. (broker.state.count ≤ 2 ^ 61) × (broker.broken ≡ false)) (λ journal. journal.state.count ≤ 2 ^ 61)
    c.in-Ok.ensures.opens.opened c.in-Ok.ensures.opens.small (small_of (disk_of c.in-Ok.store)) c.with_broker.ensures.made

pub returns-in-Ok-clause-stands : goal.returns-in-Ok-clause-stands
returns-in-Ok-clause-stands c =
    opened_as (opened_by c.in-Ok.store) c.with_broker.result (disk_of c.in-Ok.store) (λ broker. StandFor (IsImage (disk_of c.in-Ok.store).content (disk_of c.in-Ok.store).held) broker.state) (λ journal. Stands journal.disk.content journal.state)
    c.in-Ok.ensures.opens.opened (c.in-Ok.ensures.opens.stands tt) (stands_of (disk_of c.in-Ok.store)) c.with_broker.ensures.made

pub returns-in-Ok-clause-calm : goal.returns-in-Ok-clause-calm
returns-in-Ok-clause-calm c =
    opened_as (opened_by c.in-Ok.store) c.with_broker.result (disk_of c.in-Ok.store) (λ broker. (broker.state.count ≤ 2 ^ 61) × (broker.broken ≡ false)) (λ journal. journal.disk.failures ≡ c.args.disk.failures)
    c.in-Ok.ensures.opens.opened c.in-Ok.ensures.opens.small (calm_of c.args.disk.failures (disk_of c.in-Ok.store) c.in-Ok.ensures.opens.cause) c.with_broker.ensures.made

pub returns-in-Ok-clause-refused : goal.returns-in-Ok-clause-refused
returns-in-Ok-clause-refused c =
    told_for_memory c.args.disk.content c.args.disk.failures (disk_of c.in-Ok.store) c.with_broker.result c.in-Ok.ensures.opens.cause c.with_broker.ensures.refused

pub returns-in-Ok-clause-cause : goal.returns-in-Ok-clause-cause
returns-in-Ok-clause-cause c =
    caused_for_memory c.args.disk.content c.args.disk.failures (disk_of c.in-Ok.store) c.with_broker.result c.in-Ok.ensures.opens.cause c.with_broker.ensures.refused
