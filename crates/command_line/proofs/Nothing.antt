-- A failure before a script is read, and one over an empty journal.
use Rattle.std.proofs.Common.{◌≡◌, ◌∙◌, ◌⊎◌, List, ℕ, Option, Result, Ok, Err, IfErr, OnOk, refl, subst, sym, inl, inr}
use Rattle.broker_core.specs.Operations.{restarted}
use Rattle.std.specs.Io.KnownBytes.{Appends, Consumes, IsAtEnd}
use Rattle.broker_core.specs.States.{State, empty_state}
use Rattle.engine_core.specs.Scripts.{IsOpenedAs, IsScript, disk_of}
use Rattle.recover_core.specs.Standing.{Stands}
use Rattle.engine_core.specs.declared.fault.ScriptFault.{ScriptFault}
use Rattle.engine_core.specs.declared.fault.ScriptFault.TheVariants.{NotUnderstood, CountTooLarge, Opening, Storing}
use Rattle.engine_core.specs.declared.fault.ScriptFault.TheVariants as scripts
use Rattle.disk_core.specs.Memory.{Memory}
use Rattle.engine_core.proofs.Performing.{restart_is}
use Rattle.engine_core.specs.Runs.{IsToldAtOnce, Stops, StopsOver}
use Rattle.command_line.specs.CommandLines.{AskFor, AsksForScript}
use Rattle.command_line.specs.Failures.{FailsBy, Finishes, RunsToEnd, IsAtOnce, IsDoneAs, IsBeforehand, IsOfFile, IsRefusal, StopsBy, version_line}
use Rattle.command_line.specs.declared.parsing.Subcommand.{Subcommand}
use Rattle.command_line.specs.declared.parsing.Subcommand.TheVariants.{Version}
use Rattle.command_line.specs.declared.parsing.Subcommand.TheVariants as subcommands
use Rattle.command_line.specs.declared.program.Failure.{Failure}
use Rattle.command_line.specs.declared.program.Failure.TheVariants.{CommandLine, Word, Script, Format, File, Server, Client, Input}
use Rattle.command_line.specs.declared.program.Failure.TheVariants as failures

pub stops_beforehand : (failure : Failure) (unread held : Option (List ℕ)) → IsBeforehand failure → StopsBy failure unread unread held held
stops_beforehand (CommandLine other) unread held told = absurd told
stops_beforehand (Word kind word) unread held told = absurd told
stops_beforehand (Format fault) unread held told = (refl, refl)
stops_beforehand (File file fault) unread held told = absurd told
stops_beforehand (Server file port fault) unread held told = absurd told
stops_beforehand (Client fault) unread held told = absurd told
stops_beforehand (Input fault) unread held told = absurd told
stops_beforehand failures.Output unread held told = absurd told
stops_beforehand (Script (scripts.Memory refused)) unread held told = inl (tt, (refl, refl))
stops_beforehand (Script (NotUnderstood k)) unread held told = absurd told
stops_beforehand (Script CountTooLarge) unread held told = absurd told
stops_beforehand (Script (Opening fault)) unread held told = absurd told
stops_beforehand (Script (Storing fault)) unread held told = absurd told
stops_beforehand (Script scripts.Input) unread held told = absurd told
stops_beforehand (Script scripts.Output) unread held told = absurd told

-- nothing was done if the words are refused
pub stops_refused : (failure : Failure) (unread held : Option (List ℕ)) → IsRefusal failure → StopsBy failure unread unread held held
stops_refused (CommandLine other) unread held told = (refl, refl)
stops_refused (Word kind word) unread held told = (refl, refl)
stops_refused (Format fault) unread held told = absurd told
stops_refused (File file fault) unread held told = absurd told
stops_refused (Server file port fault) unread held told = absurd told
stops_refused (Client fault) unread held told = absurd told
stops_refused (Input fault) unread held told = absurd told
stops_refused failures.Output unread held told = absurd told
stops_refused (Script (scripts.Memory refused)) unread held told = inl (tt, (refl, refl))
stops_refused (Script (NotUnderstood k)) unread held told = absurd told
stops_refused (Script CountTooLarge) unread held told = absurd told
stops_refused (Script (Opening fault)) unread held told = absurd told
stops_refused (Script (Storing fault)) unread held told = absurd told
stops_refused (Script scripts.Input) unread held told = absurd told
stops_refused (Script scripts.Output) unread held told = absurd told

-- nothing was read if a failure is of a file
pub stops_file : (failure : Failure) (unread before after : Option (List ℕ)) (same : Type 0) → IsOfFile failure same → (same → after ≡ before) → StopsBy failure unread unread before after
stops_file (CommandLine other) unread before after same told gives = absurd told
stops_file (Word kind word) unread before after same told gives = absurd told
stops_file (Format fault) unread before after same told gives = absurd told
stops_file (File file fault) unread before after same told gives = (refl, λ other. gives (told other))
stops_file (Server file port fault) unread before after same told gives = absurd told
stops_file (Client fault) unread before after same told gives = absurd told
stops_file (Input fault) unread before after same told gives = absurd told
stops_file failures.Output unread before after same told gives = absurd told
stops_file (Script (scripts.Memory refused)) unread before after same told gives = absurd told
stops_file (Script (NotUnderstood k)) unread before after same told gives = absurd told
stops_file (Script CountTooLarge) unread before after same told gives = absurd told
stops_file (Script (Opening fault)) unread before after same told gives = absurd told
stops_file (Script (Storing fault)) unread before after same told gives = absurd told
stops_file (Script scripts.Input) unread before after same told gives = absurd told
stops_file (Script scripts.Output) unread before after same told gives = absurd told

at_once : (fault : ScriptFault) (disk now : Memory) → IsToldAtOnce fault disk now → IsAtOnce fault
at_once (scripts.Memory refused) disk now told = tt
at_once (NotUnderstood k) disk now told = absurd told
at_once CountTooLarge disk now told = absurd told
at_once (Opening fault) disk now told = tt
at_once (Storing fault) disk now told = absurd told
at_once scripts.Input disk now told = absurd told
at_once scripts.Output disk now told = absurd told

-- nobody is connected to an empty journal
pub restarted_empty : restarted empty_state ≡ empty_state
restarted_empty = refl

-- a disk that stood for the empty state is opened as that
from_empty : (disk : Memory) (start : State) (first : Memory) → Stands disk.content empty_state → IsOpenedAs disk start first → start ≡ empty_state
from_empty disk start first stands opened = restart_is disk.content empty_state start stands opened.restart ∙ restarted_empty

pub stops_over : (disk now : Memory) (fault : ScriptFault) (unread left before after : Option (List ℕ)) → Stands disk.content empty_state
    → StopsOver disk fault now unread left before after → StopsBy (Script fault) unread left before after
stops_over disk now fault unread left before after stands (inl once) = inl (at_once fault disk now once.told, (once.same_unread, once.same_written))
stops_over disk now fault unread left before after stands (inr (start, first, opened, stops)) =
    inr (record { first = first; now = now; stops = subst (λ s. Stops s first fault now unread left before after) (from_empty disk start first stands opened) stops })

-- over an empty journal a script runs from the empty state on
pub runs_to_end : (disk now : Memory) (unread left before after : Option (List ℕ)) → Stands disk.content empty_state
    → ((input : List ℕ) × (printed : List ℕ) × (start : State) × (first : Memory) × IsOpenedAs disk start first × Consumes unread left input × IsAtEnd left
    × Appends before after printed × (script : IsScript start first input printed) × (now ≡ disk_of script.end))
    → RunsToEnd unread left before after
runs_to_end disk now unread left before after stands w = record {
  input = w.0;
  printed = w.1;
  reads = w.5;
  ends = w.6;
  disk = w.3;
  is_script = subst (λ s. IsScript s w.3 w.0 w.1) (from_empty disk w.2 w.3 stands w.4) w.8;
  writes = w.7;
}

-- what is so of an answer
pub on_ok_is : {A B : Type 0} (P : Type 0) (r : Result A B) (a : A) → r ≡ Ok a → OnOk r P → P
on_ok_is P (Ok b) a is so = so
on_ok_is P (Err e) a is so = cc

pub if_err_is : {A B : Type 0} (P : B → Type 0) (r : Result A B) (e : B) → r ≡ Err e → IfErr r P → P e
if_err_is P (Ok a) e is so = cc
if_err_is P (Err d) e is so = let same : d ≡ e = cc in subst P same so

-- the version was written, which the words ask for, and no script
pub version_finishes : {E : Type 0} (r : Result (Unit {0}) E) (words : List (List ℕ)) (asked : Subcommand) (unread before after : Option (List ℕ)) → AskFor words asked → asked ≡ Version
    → (AsksForScript words → asked ≡ subcommands.Script) → OnOk r (Appends before after version_line) → OnOk r (Finishes words unread unread before after)
version_finishes (Ok u) words asked unread before after asks is only written = record {
  done = (Version, subst (AskFor words) is asks, (refl, written));
  script = λ script. absurd (let e : Version ≡ subcommands.Script = sym is ∙ only script in cc);
}
version_finishes (Err e) words asked unread before after asks is only written = tt

-- what a file shows was written, which the words ask for, and no script
pub shown_finishes : {E : Type 0} (r : Result (Unit {0}) E) (words : List (List ℕ)) (asked other : Subcommand) (unread before after : Option (List ℕ)) (Done : Type 0) → AskFor words asked → asked ≡ other → (other ≡ subcommands.Script → ⊥)
    → (AsksForScript words → asked ≡ subcommands.Script) → (Done → IsDoneAs other unread unread before after) → OnOk r Done → OnOk r (Finishes words unread unread before after)
shown_finishes (Ok u) words asked other unread before after Done asks is apart only does done = record {
  done = (other, subst (AskFor words) is asks, does done);
  script = λ script. absurd (apart (sym is ∙ only script));
}
shown_finishes (Err e) words asked other unread before after Done asks is apart only does done = tt

-- a failure to help, if the words ask for no script
pub help_fails : {T : Type 0} (r : Result T Failure) (words : List (List ℕ)) (unread before after : Option (List ℕ)) (Same : Type 0) → (AsksForScript words → ⊥) → (Same → after ≡ before)
    → IfErr r (λ failure. (failure ≡ failures.Output) ⊎ (IsRefusal failure × Same)) → IfErr r (FailsBy words unread unread before after)
help_fails (Ok u) words unread before after Same never same told = tt
help_fails (Err failure) words unread before after Same never same (inl output) = record {
  stops = subst (λ f. StopsBy f unread unread before after) (sym output) refl;
  of_script = λ script. absurd (never script);
}
help_fails (Err failure) words unread before after Same never same (inr (told, is)) = record {
  stops = subst (λ written. StopsBy failure unread unread before written) (sym (same is)) (stops_refused failure unread before told);
  of_script = λ script. absurd (never script);
}

-- a file's failure, if the words ask for no script
pub file_fails : {T : Type 0} (r : Result T Failure) (words : List (List ℕ)) (unread before after : Option (List ℕ)) (Same : Type 0) → (AsksForScript words → ⊥) → (Same → after ≡ before)
    → IfErr r (λ failure. IsOfFile failure Same) → IfErr r (FailsBy words unread unread before after)
file_fails (Ok u) words unread before after Same never same told = tt
file_fails (Err failure) words unread before after Same never same told = record {
  stops = stops_file failure unread before after Same told same;
  of_script = λ script. absurd (never script);
}
