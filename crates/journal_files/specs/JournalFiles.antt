-- What is shown of journals in files.
use Rattle.std.specs.Prelude.{List, ◌++◌, ℕ, Option, codes}
use Rattle.std.specs.Fmt.{decimal}
use Rattle.std.specs.Io.KnownBytes.{Appends}
use Rattle.recover_core.specs.declared.seen.Seen.{Seen}
use Rattle.recover_core.specs.Seen.{IsSeen}
use Rattle.recover_core.specs.Texts.{open_text}
use Rattle.recover_core.specs.Told.{IsStateRefused}
use Rattle.journal_files.specs.declared.journal_files.ShowFault.{ShowFault}
use Rattle.journal_files.specs.declared.journal_files.ShowFault.TheVariants.{Busy, Output, Read}

-- what a journal shows of itself, in five lines
abbrev pub text_of : Seen → List ℕ
text_of seen =
    codes "version " ++ (decimal seen.version ++ (codes "\narea " ++ (decimal seen.area ++ (codes "\nused " ++ (decimal seen.used
    ++ (codes "\ncount " ++ (decimal seen.count ++ (codes "\nheld " ++ (decimal seen.held.messages ++ codes "\n")))))))))

-- what some journal shows of itself was written
abbrev pub Shows : Option (List ℕ) → Option (List ℕ) → Type 0
Shows before after = (seen : Seen) × Appends before after (text_of seen)

-- what the journal of this content shows of itself was written
abbrev pub ShowsOf : List ℕ → Option (List ℕ) → Option (List ℕ) → Type 0
ShowsOf content before after = (seen : Seen) × IsSeen seen content × Appends before after (text_of seen)

-- If this content is not shown, or not all of it, what the fault says of it is true. `Output` comes only once the
-- content was read.
abbrev pub IsShowTold : ShowFault → List ℕ → Type 0
IsShowTold (Read fault) content = IsStateRefused fault content
IsShowTold Busy content = ⊥
IsShowTold Output content = (seen : Seen) × IsSeen seen content

-- the text for the user, of a journal of which nothing is shown, or not all
abbrev pub show_text : ShowFault → List ℕ
show_text (Read fault) = open_text fault
show_text Busy = codes "the journal changes faster than it is read"
show_text Output = codes "input or output failed"
