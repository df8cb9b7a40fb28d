use Rattle.journal_files.proofs.sessions.write_session.Goals as goal

pub returns-in-Some : goal.returns-in-Some
returns-in-Some g c = rw (c.in-Some.is, ← c.name_text.ensures) c.writeln-in-Some.ensures.bytes
