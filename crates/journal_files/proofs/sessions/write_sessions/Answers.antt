use Rattle.std.proofs.Common.{◌∙◌, ◌++◌, ap, append_assoc, sym}
use Rattle.std.proofs.KnownBytes.{Appends-trans}
use Rattle.std.specs.List.{flat_map}
use Rattle.journal_files.specs.Sessions.{session_line}
use Rattle.journal_files.proofs.sessions.write_sessions.Goals as goal

pub loop-number-preserved : goal.loop-number-preserved
loop-number-preserved g c =
    let before = c.loop-number.invariant in
    let line = session_line (c.in-Some.number.now, c.in-Some.client.now) in (
      before.0 ++ line,
      Appends-trans _ _ _ before.0 line before.1 c.in_ok-write_session.ensures,
      append_assoc before.0 line (flat_map session_line c.next.new.self)
          ∙ ap (λ rest. before.0 ++ flat_map session_line rest) (sym c.in-Some.ensures.steps)
          ∙ before.2,
    )
