use Rattle.std.proofs.Common.{◌<◌, rules}
use Rattle.clients.proofs.WaitsUntil.{sooner}
use Rattle.clients.proofs.deadlines.Deadlines.due.Goals as goal

pub returns-else-ping-eq0 : goal.returns-else-ping-eq0
returns-else-ping-eq0 c =
    let now = c.args.now in
    let positive : 0 < c.min-else-ping-eq0.result = search rules in (
      positive,
      sooner _ _ now _ _ _ c.min-else-ping-eq0.ensures c.given_up_in-given_up.ensures
          (sooner _ _ now _ _ _ c.min.ensures c.write_in-write.ensures c.ping_in-ping.ensures),
    )
