use Rattle.std.proofs.Common.{◌++◌}
use Rattle.client_core.proofs.Leaving.{may_end}
use Rattle.client_core.proofs.listening.is_over.Goals as goal

pub returns-in-Ok : goal.returns-in-Ok
returns-in-Ok c =
    let fed = c.in-Ok.fed in
    may_end c.is_farewell-is_over.result (c.args.reader.now.rest ++ c.args.piece.now) c.feed.new.self.rest c.feed.new.self.failed fed.frames.items fed.fault c.in-Ok.ensures.fed c.is_farewell-is_over.ensures.over
    c.is_farewell-is_over.ensures.sound
