use Rattle.std.proofs.Common.{◌≡◌, ◌++◌, List, ℕ}
use Rattle.std.specs.Io.KnownBytes.{Appends}
use Rattle.std.specs.List.{flat_map}
use Rattle.journal_files.specs.Sessions.{session_line}
use Rattle.journal_files.proofs.sessions.write_sessions.Given as goal

abbrev pub invariant-loop-number : goal.invariant-loop-number
invariant-loop-number g l = (written : List ℕ) × Appends (g.W.Write.contents l.fn.writer) (g.W.Write.contents l.writer) written
    × (written ++ flat_map session_line l.number-iterator ≡ flat_map session_line l.sessions.entries)
