use Rattle.journal_files.specs.Sessions.{subscription_line}
use Rattle.journal_files.proofs.Shown.{flat_map_map}
use Rattle.journal_files.proofs.sessions.show_open.Goals as goal

pub returns-in-Ok-write-clause-shown : goal.returns-in-Ok-write-clause-shown
returns-in-Ok-write-clause-shown g c =
    rw (← c.sessions.ensures, ← c.in-Ok.ensures, ← flat_map_map (λ sub. sub.now) subscription_line c.in-Ok.subscriptions.items, ← c.as_slice.ensures.value) c.in-Ok-write.ensures
