-- What the lines of a script print.
use Rattle.std.specs.Prelude.{◌≡◌, ◌≢◌, ◌⊎◌, ◌<◌, ◌≤◌, List, [], ◌∷◌, ◌++◌, ℕ, Option, Bool, codes, false, length, flat_map, true}
use Rattle.std.specs.Fmt.{decimal}
use Rattle.claim_core.specs.declared.limits.TheConstants.{SEATS}
use Rattle.std.specs.List.{AllByRecursion}
use Rattle.std.specs.Io.KnownBytes.{Appends}
use Rattle.disk_core.specs.Memory.{Memory, fresh}
use Rattle.broker_core.specs.Operations.{restarted}
use Rattle.broker_core.specs.States.{State, held_messages}
use Rattle.recover_core.specs.Opens.{IsRestartOf}
use Rattle.recover_core.specs.Standing.{Stands}
use Rattle.engine_core.specs.Journals.{StandsAfterFront}
use Rattle.engine_core.specs.Placed.{commands_of}
use Rattle.script_text.specs.PercentTexts.{decoded}
use Rattle.script_text.specs.ScriptLines.{IsOfNoForm, IsLoss, IsCrash}
use Rattle.session_core.specs.declared.session.Act.{Act}
use Rattle.engine_core.specs.Queues.{QueueValue, IsFlush, IsTooFar, flush_text, flushed}
use Rattle.engine_core.specs.Running.{ScriptValue, beginning, Loses, LosesSuch, Receives, ReceivesSuch}
use Rattle.engine_core.specs.declared.script.Script.{Script}
use Rattle.engine_core.specs.declared.script.Script.TheVariants.{Running, Stopped, Over}

-- A disk is opened: it stands for a state of which this is the restart, for which it stands from then on. None of its calls failed.
pub record IsOpenedAs (disk : Memory) (state : State) (now : Memory) : Type 0 where
  pub restart : IsRestartOf disk.content state
  pub stands : Stands now.content state
  pub calm : now.failures ≡ disk.failures

-- the image stands for the state after the first so many of the waiting commands
abbrev pub StandsWithin : QueueValue → List ℕ → Type 0
StandsWithin queue image = StandsAfterFront queue.state (commands_of queue.waiting) image

-- the disk does not run
abbrev pub IsStopped : Script → Type 0
IsStopped (Running s) = ⊥
IsStopped _ = Unit {0}

-- the disk runs, and this is so
abbrev pub OnRunning : Script → (ScriptValue → Type 0) → Type 0
OnRunning (Running s) P = P s
OnRunning _ P = ⊥

-- the disk runs, and goes on to run as is said, and none of its calls fails
abbrev pub GoesBy : Script → (ScriptValue → ScriptValue → Type 0) → Script → Type 0
GoesBy s P t = OnRunning s (λ before. (after : ScriptValue) × P before after × (after.disk.failures ≡ before.disk.failures) × (t ≡ Running after))

-- whether the script has a disk
abbrev pub is_there : Script → Bool
is_there (Running s) = true
is_there (Stopped disk) = true
is_there Over = false

-- the script's disk, as the lines so far have left it; one of no bytes if it has none
abbrev pub disk_of : Script → Memory
disk_of (Running s) = s.disk
disk_of (Stopped disk) = disk
disk_of Over = fresh 0

-- none of its disk's calls failed between
abbrev pub IsCalm : Script → Memory → Type 0
IsCalm s disk = disk.failures ≡ (disk_of s).failures

-- a step of it failed before, so that its journal takes nothing more
abbrev pub HasFailed : Script → Type 0
HasFailed (Running s) = s.queue.durable ≡ false
HasFailed (Stopped disk) = ⊥
HasFailed Over = Unit {0}

-- a line has a connection receive bytes, or be gone, and comes to such an act
abbrev pub ComesTo : (ℕ → QueueValue → Act → Type 0) → ScriptValue → List ℕ → Type 0
ComesTo Such s line =
    ((n : ℕ) × IsLoss line n × LosesSuch Such s n)
    ⊎ ((n : ℕ) × (text : List ℕ) × (n < SEATS) × (line ≡ decimal n ++ 32 ∷ text) × ReceivesSuch Such s n (decoded text))

-- a line comes to a command once as many have been carried out as may be
abbrev pub RunsTooFar : Script → List ℕ → Type 0
RunsTooFar (Running s) line = ComesTo IsTooFar s line
RunsTooFar _ line = ⊥

-- A line flushes, and the queue that it flushes is so. The line is `flush` or a `crash`, or it asks for a command that a flush
-- comes before.
abbrev pub RunsFlush : (QueueValue → Type 0) → Script → List ℕ → Type 0
RunsFlush Such (Running s) line =
    ((line ≡ codes "flush") × Such s.queue)
    ⊎ (((k : ℕ) × (fill : Option ℕ) × IsCrash line k fill × Such s.queue)
    ⊎ ComesTo (IsFlush Such) s line)
RunsFlush Such _ line = ⊥

-- what is printed of an opened journal: how many commands it counts, and how many messages it holds
abbrev pub open_text : State → List ℕ
open_text s = codes "open " ++ decimal s.count ++ 32 ∷ (decimal (held_messages s) ++ 10 ∷ [])

-- while the disk runs, it stands for the state as it was last flushed
abbrev pub StandsAs : Script → Memory → Type 0
StandsAs (Running s) disk = Stands disk.content s.queue.state
StandsAs (Stopped stopped) disk = Unit {0}
StandsAs Over disk = ⊥

-- the state that opening gives: while the disk runs, the restart of the one as it was last flushed
abbrev pub Reopens : Script → State → Type 0
Reopens (Running s) state = state ≡ restarted s.queue.state
Reopens (Stopped disk) state = Unit {0}
Reopens Over state = ⊥

-- The script's disk is opened: what it counts and holds is printed, and the script goes on from there, with no connection and
-- no command that waits.
pub record Opens (s : Script) (printed : List ℕ) (t : Script) : Type 0 where
  pub state : State
  pub disk : Memory
  pub opened : IsOpenedAs (disk_of s) state disk
  pub reopens : Reopens s state
  pub same_text : printed ≡ open_text state
  pub after : t ≡ Running (beginning state disk)

-- The disk stops within a flush: nothing is printed, and it stands for the state after so many of the waiting commands.
pub record Crashes (s : ScriptValue) (printed : List ℕ) (t : Script) : Type 0 where
  pub none : printed ≡ []
  pub disk : Memory
  pub after : t ≡ Stopped disk
  pub stands : ∥ StandsWithin s.queue disk.content ∥₁

-- What a line prints that leaves the script running, and what it leaves. `flush` prints what waits. `lost` with a connection's number
-- prints what the loss brings; such a number with a blank and a text, what the connection receives.
abbrev pub GoesOn : ScriptValue → List ℕ → List ℕ → ScriptValue → Type 0
GoesOn s line printed t =
    ((line ≡ codes "flush") × (printed ≡ flush_text s.queue) × (t ≡ record s { queue = flushed s.queue; disk = t.disk }))
    ⊎ (((n : ℕ) × IsLoss line n × Loses s n printed t)
    ⊎ ((n : ℕ) × (text : List ℕ) × (n < SEATS) × (line ≡ decimal n ++ 32 ∷ text) × Receives s n (decoded text) printed t))

-- what a line prints that is understood only while the disk runs: none of the disk's calls fails if it runs on
abbrev pub RunsOn : Script → List ℕ → List ℕ → Script → Type 0
RunsOn (Running s) line printed t =
    ((u : ScriptValue) × GoesOn s line printed u × (u.disk.failures ≡ s.disk.failures) × (t ≡ Running u))
    ⊎ ((k : ℕ) × (fill : Option ℕ) × IsCrash line k fill × Crashes s printed t)
RunsOn _ line printed t = ⊥

-- What a line prints, and what it leaves: an empty line nothing, `open` what is opened, and the others only while the disk
-- runs.
abbrev pub Prints : Script → List ℕ → List ℕ → Script → Type 0
Prints s line printed t =
    ((line ≡ []) × (printed ≡ []) × (t ≡ s))
    ⊎ (((line ≡ codes "open") × Opens s printed t)
    ⊎ RunsOn s line printed t)

-- the line says nothing that is understood: once the disk has stopped, all but an empty line and `open`
abbrev pub IsNotUnderstood : Script → List ℕ → Type 0
IsNotUnderstood (Running s) line = IsOfNoForm line
IsNotUnderstood _ line = (line ≢ []) × (line ≢ codes "open")

-- what lines print, one after another
abbrev pub PrintsAll : Script → List (List ℕ) → List ℕ → Script → Type 0
PrintsAll s [] printed t = (printed ≡ []) × (t ≡ s)
PrintsAll s (line ∷ lines) printed t = (first : List ℕ) × (others : List ℕ) × (u : Script) × Prints s line first u × PrintsAll u lines others t × (printed ≡ first ++ others)

-- no LF stands in it
abbrev pub HasNoLf : List ℕ → Type 0
HasNoLf bytes = AllByRecursion (λ b. b ≢ 10) bytes

-- a line without its LF: at most 1,048,576 bytes
pub record IsLine (line : List ℕ) : Type 0 where
  pub no_lf : HasNoLf line
  pub short : length line ≤ 1048576

-- the bytes of whole lines
abbrev pub text_of_lines : List (List ℕ) → List ℕ
text_of_lines lines = flat_map (λ line. line ++ 10 ∷ []) lines

-- What a part of a script leads to, after the beginning of a line: whole lines and what they print, and the beginning of one more line.
pub record Takes (s : Script) (begun bytes : List ℕ) (lines : List (List ℕ)) (printed : List ℕ) (t : Script) (rest : List ℕ) : Type 0 where
  pub whole : begun ++ bytes ≡ text_of_lines lines ++ rest
  pub each : AllByRecursion IsLine lines
  pub prints : PrintsAll s lines printed t

-- What a script's bytes print from this state on, over this disk: they are whole lines, and these print it.
pub record IsScript (start : State) (disk : Memory) (input printed : List ℕ) : Type 0 where
  pub lines : List (List ℕ)
  pub whole : input ≡ text_of_lines lines
  pub each : AllByRecursion IsLine lines
  pub end : Script
  pub prints : PrintsAll (Running (beginning start disk)) lines printed end

-- bytes with a line at their front that runs too far
abbrev pub HasLineTooFar : Script → List ℕ → Type 0
HasLineTooFar s bytes = (line : List ℕ) × (behind : List ℕ) × (bytes ≡ line ++ 10 ∷ behind) × IsLine line × RunsTooFar s line

-- A part of a script leads as far as a line that prints, and that leaves this disk. What is written is what the lines before
-- print, and the beginning of what that line does, but not all of it.
pub record Tries (s : Script) (begun bytes : List ℕ) (disk : Memory) (before after : Option (List ℕ)) : Type 0 where
  pub lines : List (List ℕ)
  pub rest : List ℕ
  pub printed : List ℕ
  pub end : Script
  pub takes : Takes s begun bytes lines printed end rest
  pub line : List ℕ
  pub behind : List ℕ
  pub text : List ℕ
  pub next : Script
  pub begins : rest ≡ line ++ 10 ∷ behind
  pub is_line : IsLine line
  pub prints : Prints end line text next
  pub disk_is : disk ≡ disk_of next
  pub written : List ℕ
  pub unwritten : List ℕ
  pub split : text ≡ written ++ unwritten
  pub left : unwritten ≢ []
  pub writes : Appends before after (printed ++ written)

-- Bytes with no line at their front that is understood: one has more bytes than a line may have, or says nothing.
abbrev pub HasNoLine : Script → List ℕ → Type 0
HasNoLine s bytes =
    ((line : List ℕ) × (behind : List ℕ) × (bytes ≡ line ++ behind) × HasNoLf line × (1048576 < length line))
    ⊎ ((line : List ℕ) × (behind : List ℕ) × (bytes ≡ line ++ 10 ∷ behind) × HasNoLf line × IsNotUnderstood s line)
