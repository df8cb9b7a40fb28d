-- Why a server does not serve.
use Rattle.std.specs.Prelude.{List, ℕ, codes}
use Rattle.flush_core.specs.Faults.{flush_text}
use Rattle.recover_core.specs.Texts.{open_text}
use Rattle.event_log.specs.Devices.{device_text}
use Rattle.event_log.specs.Unopened.{file_text, port_text, streams_text}
use Rattle.event_log.specs.declared.fault.ServeFault.{ServeFault}
use Rattle.event_log.specs.declared.fault.ServeFault.TheVariants.{Streams, File, Port, Opening, Memory, Threads, Output, Flushing, Device}

-- what the user is told of a server that was not started, or has ended
abbrev pub serve_text : ServeFault → List ℕ
serve_text (Streams why) = streams_text why
serve_text (File error) = file_text error
serve_text (Port why) = port_text why
serve_text (Opening fault) = open_text fault
serve_text Memory = codes "no memory"
serve_text Threads = codes "cannot start a thread"
serve_text Output = codes "input or output failed"
serve_text (Flushing fault) = flush_text fault
serve_text (Device cause) = device_text cause

-- a thread was not started: memory was refused, or the system starts no more
abbrev pub IsNotStarted : ServeFault → Type 0
IsNotStarted Memory = Unit {0}
IsNotStarted Threads = Unit {0}
IsNotStarted _ = ⊥
