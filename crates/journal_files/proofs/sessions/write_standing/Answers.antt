use Rattle.journal_files.proofs.sessions.write_standing.Goals as goal

pub returns-in-None : goal.returns-in-None
returns-in-None g c = rw (c.in-None.is, ← c.text_of_mode-mode.ensures, ← c.len-count.ensures.count) c.writeln.ensures.bytes

pub returns-in-Some : goal.returns-in-Some
returns-in-Some g c = rw (c.in-Some.is, ← c.text_of_mode-mode.ensures, ← c.len-count.ensures.count, ← c.name.ensures, ← c.name_text-name.ensures) c.writeln-in-Some.ensures.bytes
