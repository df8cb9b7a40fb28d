use Rattle.std.proofs.Common.{take}
use Rattle.std.specs.Io.KnownBytes.{Appends}
use Rattle.std.specs.List.{flat_map}
use Rattle.journal_files.specs.Sessions.{subscription_line}
use Rattle.journal_files.proofs.sessions.write_subscriptions.Given as goal

abbrev pub invariant-loop-subscription : goal.invariant-loop-subscription
invariant-loop-subscription g l =
    Appends (g.W.Write.contents l.fn.writer) (g.W.Write.contents l.writer) (flat_map (λ sub. subscription_line sub.now) (take l.subscription-index l.subscriptions))
