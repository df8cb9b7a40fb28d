use Rattle.std.specs.Prelude.{◌≡◌, ◌≢◌, ◌≤◌, ◌⊎◌, List, [], ◌∷◌, ◌++◌, ℕ, Bool, Option, Result, Err, OnOk, codes, false, true}
use Rattle.std.specs.Io.KnownBytes.{Appends, Consumes, IsAtEnd}
use Rattle.clap.specs.Values.{kind_of}
use Rattle.clap.specs.declared.error.Error.{Error}
use Rattle.clap.specs.declared.error.kind.ErrorKind.TheVariants.{OutOfMemory, UnknownArgument}
use Rattle.engine_core.specs.Scripts.{IsScript}
use Rattle.area_core.specs.declared.faults.FormatFault.TheVariants as formats
use Rattle.area_core.specs.Texts.{format_text}
use Rattle.event_log.specs.Unopened.{reason_text, unopened}
use Rattle.event_log.specs.declared.fault.Unopened.{Unopened}
use Rattle.event_log.specs.declared.fault.Unopened.TheVariants.{Missing}
use Rattle.event_log.specs.declared.fault.ServeFault.{ServeFault}
use Rattle.event_log.specs.declared.fault.ServeFault.TheVariants as serves
use Rattle.std.specs.Fmt.{decimal}
use Rattle.engine_core.specs.FaultTexts.{fault_text}
use Rattle.journal_files.specs.JournalFiles.{Shows, show_text}
use Rattle.client_core.specs.Texts.{client_text}
use Rattle.event_log.specs.Faults.{serve_text}
use Rattle.broker_core.specs.States.{empty_state}
use Rattle.engine_core.specs.Runs.{Stops}
use Rattle.engine_core.specs.declared.fault.ScriptFault.{ScriptFault}
use Rattle.engine_core.specs.declared.fault.ScriptFault.TheVariants.{Opening}
use Rattle.engine_core.specs.declared.fault.ScriptFault.TheVariants as scripts
use Rattle.disk_core.specs.Memory.{Memory}
use Rattle.journal_files.specs.Copies.{copy_text}
use Rattle.journal_files.specs.Held.{ShowsHeld}
use Rattle.journal_files.specs.HeldObjects.{ShowsHeldObject}
use Rattle.journal_files.specs.SeenObjects.{ShowsObject}
use Rattle.journal_files.specs.SessionObjects.{ShowsSessionsObject}
use Rattle.journal_files.specs.Sessions.{ShowsSessions}
use Rattle.journal_files.specs.declared.journal_files.ShowFault.TheVariants as shows
use Rattle.command_line.specs.CommandLines.{AskFor, AsksForScript}
use Rattle.command_line.specs.declared.parsing.Subcommand.{Subcommand}
use Rattle.command_line.specs.declared.parsing.Subcommand.TheVariants as asks
use Rattle.command_line.specs.Words.{word_text}
use Rattle.command_line.specs.declared.words.WordKind.TheVariants as words
use Rattle.command_line.specs.declared.program.BodyFault.{BodyFault}
use Rattle.command_line.specs.declared.program.BodyFault.TheVariants as bodies
use Rattle.command_line.specs.declared.program.FileFault.{FileFault}
use Rattle.command_line.specs.declared.program.FileFault.TheVariants as files
use Rattle.command_line.specs.declared.program.Failure.{Failure}
use Rattle.command_line.specs.declared.program.Failure.TheVariants.{CommandLine, Word, Script, Format, File, Server, Client, Input, Output}

-- a script was read to its end, and what was written is what it prints from an empty journal on, on some disk
pub record RunsToEnd (unread left before after : Option (List ℕ)) : Type 0 where
  pub input : List ℕ
  pub printed : List ℕ
  pub reads : Consumes unread left input
  pub ends : IsAtEnd left
  pub disk : Memory
  pub is_script : IsScript empty_state disk input printed
  pub writes : Appends before after printed

-- nothing was read or written
abbrev pub Untouched : Option (List ℕ) → Option (List ℕ) → Option (List ℕ) → Option (List ℕ) → Type 0
Untouched unread left before after = (left ≡ unread) × (after ≡ before)

-- the program, and its version
abbrev pub version_line : List ℕ
version_line = codes "stompd 0.2.0\n"

-- what a journal shows of itself is written, in lines or as a JSON object; likewise what it holds, and its sessions
abbrev pub ShowsAs : Bool → Option (List ℕ) → Option (List ℕ) → Type 0
ShowsAs false before after = Shows before after
ShowsAs true before after = ShowsObject before after

abbrev pub ShowsHeldAs : Bool → Option (List ℕ) → Option (List ℕ) → Type 0
ShowsHeldAs false before after = ShowsHeld before after
ShowsHeldAs true before after = ShowsHeldObject before after

abbrev pub ShowsSessionsAs : Bool → Option (List ℕ) → Option (List ℕ) → Type 0
ShowsSessionsAs false before after = ShowsSessions before after
ShowsSessionsAs true before after = ShowsSessionsObject before after

-- some text was written: that of the help is clap's
abbrev pub WritesText : Option (List ℕ) → Option (List ℕ) → Type 0
WritesText before after = (text : List ℕ) × Appends before after text

-- A subcommand is done. A script was read to its end, and what it prints is written. Or the version is written, the help, or what a journal
-- shows or holds. Or a file has bytes enough for a journal. A server is never done, and a ping is done by another call (`end_ping`). No contract can
-- see that a file is made, and which file is shown.
abbrev pub IsDoneAs : Subcommand → Option (List ℕ) → Option (List ℕ) → Option (List ℕ) → Option (List ℕ) → Type 0
IsDoneAs asks.Script unread left before after = RunsToEnd unread left before after
IsDoneAs asks.Version unread left before after = (left ≡ unread) × Appends before after version_line
IsDoneAs asks.Help unread left before after = (left ≡ unread) × WritesText before after
IsDoneAs (asks.Ping port) unread left before after = ⊥
IsDoneAs (asks.Format file bytes is_sparse) unread left before after = (8224 ≤ bytes) × Untouched unread left before after
IsDoneAs (asks.Show file is_json) unread left before after = (left ≡ unread) × ShowsAs is_json before after
IsDoneAs (asks.Held file is_json) unread left before after = (left ≡ unread) × ShowsHeldAs is_json before after
IsDoneAs (asks.Sessions file is_json) unread left before after = (left ≡ unread) × ShowsSessionsAs is_json before after
IsDoneAs (asks.Copy file copy bytes is_sparse) unread left before after = (8224 ≤ bytes) × Untouched unread left before after
IsDoneAs (asks.Serve file port origins threads memory new until_eof is_json) unread left before after = ⊥

-- what the words ask for is done
abbrev pub IsDone : List (List ℕ) → Option (List ℕ) → Option (List ℕ) → Option (List ℕ) → Option (List ℕ) → Type 0
IsDone words unread left before after = (asked : Subcommand) × AskFor words asked × IsDoneAs asked unread left before after

-- the status to end with
abbrev pub status_of : Failure → ℕ
status_of (CommandLine error) = 2
status_of (Script fault) = 1
status_of (Format fault) = 1
status_of (File file fault) = 1
status_of (Server file port fault) = 1
status_of (Client fault) = 1
status_of (Input fault) = 1
status_of Output = 1
status_of (Word kind word) = 2

-- memory was refused, or the disk was not opened, before the script was read
abbrev pub IsAtOnce : ScriptFault → Type 0
IsAtOnce (scripts.Memory refused) = Unit {0}
IsAtOnce (Opening fault) = Unit {0}
IsAtOnce _ = ⊥

-- the failure comes before a script is read: memory was refused, or its disk was not formatted
abbrev pub IsBeforehand : Failure → Type 0
IsBeforehand (Script (scripts.Memory refused)) = Unit {0}
IsBeforehand (Script _) = ⊥
IsBeforehand (Format fault) = Unit {0}
IsBeforehand _ = ⊥

-- the failure is that of a script, or its disk was not formatted
abbrev pub IsOfScript : Failure → Type 0
IsOfScript (Script fault) = Unit {0}
IsOfScript (Format fault) = Unit {0}
IsOfScript _ = ⊥

-- a fault stops a script that began with an empty journal, on some disk
pub record StopsOnDisk (fault : ScriptFault) (unread left before after : Option (List ℕ)) : Type 0 where
  pub first : Memory
  pub now : Memory
  pub stops : Stops empty_state first fault now unread left before after

-- The failure is the script's, which a fault stops, at once or once it began with an empty journal. Or nothing was read, and nothing was
-- written unless a journal was being shown.
abbrev pub StopsBy : Failure → Option (List ℕ) → Option (List ℕ) → Option (List ℕ) → Option (List ℕ) → Type 0
StopsBy (CommandLine error) unread left before after = Untouched unread left before after
StopsBy (Script fault) unread left before after = (IsAtOnce fault × Untouched unread left before after) ⊎ StopsOnDisk fault unread left before after
StopsBy (Format fault) unread left before after = Untouched unread left before after
StopsBy (File file fault) unread left before after = (left ≡ unread) × (fault ≢ files.Show shows.Output → after ≡ before)
StopsBy Output unread left before after = left ≡ unread
StopsBy (Word kind word) unread left before after = Untouched unread left before after
StopsBy (Server file port fault) unread left before after = Untouched unread left before after
StopsBy (Client fault) unread left before after = Untouched unread left before after
StopsBy (Input fault) unread left before after = Untouched unread left before after

-- the program ends with what the words ask for: it is done, and a script was read to its end
pub record Finishes (words : List (List ℕ)) (unread left before after : Option (List ℕ)) : Type 0 where
  pub done : IsDone words unread left before after
  pub script : AsksForScript words → RunsToEnd unread left before after

-- it ends with a failure, that of a script if the words ask for one
pub record FailsBy (words : List (List ℕ)) (unread left before after : Option (List ℕ)) (failure : Failure) : Type 0 where
  pub stops : StopsBy failure unread left before after
  pub of_script : AsksForScript words → IsOfScript failure

-- it is told that the bytes are too few for a journal
abbrev pub IsTooShortFault : FileFault → Type 0
IsTooShortFault (files.Format formats.TooSmall) = Unit {0}
IsTooShortFault _ = ⊥

abbrev pub IsTooShort : {T : Type 0} → Result T FileFault → Type 0
IsTooShort (Err fault) = IsTooShortFault fault
IsTooShort _ = ⊥

-- the failure is of a file, and this is so unless what that shows could not be written
abbrev pub IsOfFile : Failure → Type 0 → Type 0
IsOfFile (File file fault) same = fault ≢ files.Show shows.Output → same
IsOfFile _ same = ⊥

-- the words are refused, or memory was before anything was done
abbrev pub IsRefusal : Failure → Type 0
IsRefusal (CommandLine error) = Unit {0}
IsRefusal (Word kind word) = Unit {0}
IsRefusal (Script (scripts.Memory refused)) = Unit {0}
IsRefusal _ = ⊥

-- what is told of what can't be opened
abbrev pub open_text : List ℕ → List ℕ → List ℕ
open_text name why = codes "cannot open: " ++ name ++ codes ": " ++ why

-- what is told of a journal file that was not made, or not shown
abbrev pub file_text : List ℕ → FileFault → List ℕ
file_text file (files.Open error) = open_text file (reason_text (unopened error))
file_text file files.NoFolder = open_text file (codes "there is no such folder")
file_text file files.NoSpace = codes "no space left for the file"
file_text file files.BeingMade = codes "cannot open: " ++ file ++ codes ".new: it is locked, since another stompd makes the file"
file_text file files.Foreign = codes "cannot open: " ++ file ++ codes ".new: it is there, and no unfinished journal; rename or remove it"
file_text file files.NoLinks = open_text file (codes "there are no hard links here; make it elsewhere, and move it")
file_text file (files.Format fault) = format_text fault
file_text file (files.Show fault) = show_text fault
file_text file (files.Copy fault) = copy_text fault

-- what is told of a server's file; if it is missing, that names the option that makes one
abbrev pub unserved_text : List ℕ → Unopened → List ℕ
unserved_text file Missing = open_text file (codes "there is no such file; --new BYTES makes one")
unserved_text file why = open_text file (reason_text why)

-- what is told of a server that was not started, or has ended
abbrev pub server_text : List ℕ → ℕ → ServeFault → List ℕ
server_text file port (serves.File error) = unserved_text file (unopened error)
server_text file port (serves.Port why) = open_text (codes "port " ++ decimal port) (reason_text why)
server_text file port fault = serve_text fault

-- what is told if there is nothing to send
abbrev pub body_text : BodyFault → List ℕ
body_text bodies.NoBody = codes "no BODY is given, and standard input has none; '' sends an empty one"
body_text bodies.TooLong = codes "a body has at most 65536 bytes"
body_text bodies.Input = codes "input or output failed"

-- the one line of a fault
abbrev pub line_of : List ℕ → List ℕ
line_of text = codes "stompd: " ++ text ++ 10 ∷ []

-- a fault is told in one line; the text of a command line is clap's
abbrev pub IsTold : Failure → Option (List ℕ) → Option (List ℕ) → Type 0
IsTold (CommandLine error) before after = Unit {0}
IsTold (Word kind word) before after = Appends before after (line_of (word_text kind word.now))
IsTold (Script fault) before after = Appends before after (line_of (fault_text fault))
IsTold (Format fault) before after = Appends before after (line_of (format_text fault))
IsTold (File file fault) before after = Appends before after (line_of (file_text file.now fault))
IsTold (Server file port fault) before after = Appends before after (line_of (server_text file.now port fault))
IsTold (Client fault) before after = Appends before after (line_of (client_text fault))
IsTold (Input fault) before after = Appends before after (line_of (body_text fault))
IsTold Output before after = Appends before after (line_of (codes "input or output failed"))

-- The program ends with a failure that is no bad command line, and tells it, if that can be written.
pub record EndsByFault {T E : Type 0} (words : List (List ℕ)) (unread left before after untold all : Option (List ℕ)) (told : Result T E) : Type 0 where
  pub failure : Failure
  pub status : status_of failure ≡ 1
  pub fails : FailsBy words unread left before after failure
  pub is_told : OnOk told (IsTold failure untold all)

-- The failure tells of a refused command line, or that memory was refused there. A port after `--port` is told in its own words.
abbrev pub Tells : Error → Failure → Type 0
Tells error (CommandLine other) = (other ≡ error) × (kind_of error ≢ OutOfMemory)
Tells error (Word words.PortOption word) = kind_of error ≡ UnknownArgument
Tells error (Script (scripts.Memory refused)) = kind_of error ≡ OutOfMemory
Tells error _ = ⊥
