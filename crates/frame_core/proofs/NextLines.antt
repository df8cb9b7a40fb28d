use Rattle.std.proofs.Common.{◌≡◌, ◌+◌, [], ◌∷◌, ◌++◌, false, length}
use Rattle.frame_core.specs.declared.reader.Section.{Section}
use Rattle.frame_core.specs.declared.reader.Partial.{Partial}
use Rattle.frame_core.specs.Partials.{IsAt, IsKept, bytes_of, IsNextLineOf}
use Rattle.frame_core.specs.Streams.{Frames}
use Rattle.frame_core.proofs.OpenLines.{byte_reads}

-- what is known of a head behind its LF is known of the unfinished frame whose next line begins
pub line_ends : (section : Section) (old new : Partial) → old.body.items ≡ [] → IsAt section (old.head.items ++ 10 ∷ []) (length old.head.items + 1) false old.headers.items old.body.items
    → IsNextLineOf section old new → Frames (bytes_of old ++ 10 ∷ []) [] (bytes_of new) × IsKept new
line_ends section old new none h n =
    (rw (n.head, n.body) (byte_reads old.head.items old.body.items 10 none), rw (n.section_is, n.head, n.line, n.no_cr, n.headers, n.body) h)
