-- What a connection keeps that goes on.
use Rattle.std.specs.Prelude.{◌≡◌, ◌&&◌, Bool, true, false, Option, Some, nat_eq, not}
use Rattle.command_core.specs.Commands.{CommandValue}
use Rattle.command_core.specs.Outs.{OutValue}
use Rattle.clients.specs.Progress.{number_in, role_of}
use Rattle.clients.specs.Stages.{Executes}
use Rattle.clients.specs.declared.progress.Stage.{Stage}
use Rattle.clients.specs.declared.progress.Stage.TheVariants.{Running}
use Rattle.clients.specs.declared.progress.Progress.{Progress}
use Rattle.clients.specs.declared.progress.Progress.TheVariants.{New, Open, Ended, Gone}
use Rattle.clients.specs.declared.progress.Role.{Role}
use Rattle.clients.specs.declared.progress.Role.TheVariants.{Opens, Talks, Ends}
use Rattle.clients.specs.declared.relaying.Kept.{Kept}
use Rattle.clients.specs.declared.relaying.Kept.TheVariants as kept
use Rattle.clients.specs.Boxes.{BoxEntry}

-- While it runs, an output that it keeps and that may leave is of its own session. A connection whose outbox has another's is given up.
abbrev pub KeepsOwn : Stage → Progress → Kept → Type 0
KeepsOwn stage progress it = (out : OutValue) → it ≡ kept.Unsent out → stage ≡ Running → number_in progress ≡ Some out.session

-- whether a command of that role opens its session
abbrev pub opens : Role → Bool
opens Opens = true
opens Talks = false
opens Ends = false

-- whether the command may be the next of the conversation
abbrev pub is_next : Progress → CommandValue → Bool
is_next New c = opens (role_of c.op)
is_next (Open number) c = nat_eq c.session number && not (opens (role_of c.op))
is_next (Ended number) c = false
is_next Gone c = false

-- While more is appended, the command of an entry that waits is the next of its conversation.
abbrev pub WaitsNext : Stage → Progress → Option BoxEntry → Type 0
WaitsNext stage progress waiting = (entry : BoxEntry) → waiting ≡ Some entry → Executes stage → is_next progress entry.command ≡ true
