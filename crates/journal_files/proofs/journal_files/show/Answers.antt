use Rattle.std.proofs.Common.{rules}
use Rattle.journal_files.proofs.journal_files.show.Goals as goal

pub returns-in-Ok-write-clause-shown : goal.returns-in-Ok-write-clause-shown
returns-in-Ok-write-clause-shown g c = search rules

pub returns-in-Err-write-clause-shows : goal.returns-in-Err-write-clause-shows
returns-in-Err-write-clause-shows g c = search rules

pub returns-in-Err-write-clause-shown : goal.returns-in-Err-write-clause-shown
returns-in-Err-write-clause-shown g c = search rules

pub returns-in-Err-clause-refused : goal.returns-in-Err-clause-refused
returns-in-Err-clause-refused g c = search rules
