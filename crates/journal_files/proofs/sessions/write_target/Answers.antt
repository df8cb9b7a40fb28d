use Rattle.journal_files.proofs.sessions.write_target.Goals as goal

pub returns : goal.returns
returns g c = rw (← c.id_text.ensures, ← c.destination_text.ensures) c.write.ensures.bytes
