-- Why a file or a port was not opened.
use Rattle.std.specs.Prelude.{List, ℕ, ◌++◌, codes}
use Rattle.std.specs.IoError.{error_kind}
use Rattle.std.specs.declared.io.ErrorKind.{ErrorKind}
use Rattle.std.specs.declared.io.ErrorKind.TheVariants as kinds
use Rattle.disk_core.specs.declared.file.OpenError.{OpenError}
use Rattle.disk_core.specs.declared.file.OpenError.TheVariants as errors
use Rattle.event_log.specs.declared.fault.Unopened.{Unopened}
use Rattle.event_log.specs.declared.fault.Unopened.TheVariants.{Exists, Missing, Locked, Denied, Directory, NotAFile, TooLarge, InUse, Refused}

-- why the system did not open it
abbrev pub unopened_by : ErrorKind → Unopened
unopened_by kinds.NotFound = Missing
unopened_by kinds.PermissionDenied = Denied
unopened_by kinds.IsADirectory = Directory
unopened_by kinds.FileTooLarge = TooLarge
unopened_by kinds.AddrInUse = InUse
unopened_by _ = Refused

-- why a file was not opened
abbrev pub unopened : OpenError → Unopened
unopened errors.Exists = Exists
unopened errors.Locked = Locked
unopened errors.NotAFile = NotAFile
unopened (errors.System error) = unopened_by (error_kind error)

-- what the user is told of that
abbrev pub reason_text : Unopened → List ℕ
reason_text Exists = codes "it is there already"
reason_text Missing = codes "there is no such file"
reason_text Locked = codes "another server has its lock"
reason_text Denied = codes "permission denied"
reason_text Directory = codes "it is a directory"
reason_text NotAFile = codes "it is no file"
reason_text TooLarge = codes "no file may be so large here"
reason_text InUse = codes "another program listens there"
reason_text Refused = codes "the system refuses it"

-- what the user is told of a file, and of a port
abbrev pub file_text : OpenError → List ℕ
file_text error = codes "cannot open: FILE: " ++ reason_text (unopened error)

abbrev pub port_text : Unopened → List ℕ
port_text why = codes "cannot open: PORT: " ++ reason_text why

-- what the user is told of `/dev/null`
abbrev pub streams_text : Unopened → List ℕ
streams_text why = codes "cannot open: /dev/null: " ++ reason_text why
