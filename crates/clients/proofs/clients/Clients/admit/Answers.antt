use Rattle.std.proofs.Common.{◌≡◌, ◌∙◌, ap, rules}
use Rattle.clients.specs.Turns.{woken}
use Rattle.clients.proofs.clients.Clients.admit.Goals as goal

pub returns-clause-ok : goal.returns-clause-ok
returns-clause-ok c =
    let same : c.in_ok-number.number ≡ c.args.self.now.all.vacant_key = search rules in
    record { all = search rules; lines = c.wake.ensures ∙ ap (λ n. woken n c.args.self.now.lines) same; timers = search rules; retry = search rules; reach = search rules }
