-- While lines print, no step fails.
use Rattle.std.proofs.Common.{◌≡◌, List, [], ◌∷◌, ℕ, Bool, true, false, Option, Some, None, cond, refl, ap, sym, ◌∙◌, subst, inl, inr}
use Rattle.std.specs.List.{AllByRecursion, fold}
use Rattle.std.proofs.lemmas.Bool.{false≢true}
use Rattle.disk_core.specs.Memory.{Memory}
use Rattle.broker_core.specs.States.{State}
use Rattle.command_core.specs.declared.command.Op.{Op}
use Rattle.command_core.specs.declared.command.Op.TheVariants as ops
use Rattle.session_core.specs.Sessions.{loss_of}
use Rattle.session_core.specs.declared.session.Act.{Act}
use Rattle.session_core.specs.declared.session.Act.TheVariants.{Close, Direct, Do}
use Rattle.script_text.specs.ScriptLines.{IsNoCrash}
use Rattle.engine_core.specs.Queues.{Progress, QueueValue, acted, acted_on, as_command, flushed, is_full, with_room}
use Rattle.engine_core.specs.Running.{ScriptValue, beginning, connection_at}
use Rattle.engine_core.specs.Scripts.{GoesOn, HasFailed, Prints, PrintsAll, disk_of}
use Rattle.engine_core.specs.declared.script.Script.{Script}
use Rattle.engine_core.specs.declared.script.Script.TheVariants.{Over, Running, Stopped}

-- whether a queue's journal is durable stays
command_stays : (connection : ℕ) (op : Op) (receipt : Option (List ℕ)) (number : ℕ) (queue : QueueValue) → (as_command connection op receipt number queue).durable ≡ queue.durable
command_stays connection (ops.Open client_id) receipt number queue = refl
command_stays connection (ops.Send sent) receipt number queue = refl
command_stays connection (ops.Subscribe id destination mode durable) receipt number queue = refl
command_stays connection (ops.Unsubscribe id durable) receipt number queue = refl
command_stays connection (ops.Ack delivery) receipt number queue = refl
command_stays connection (ops.Nack delivery) receipt number queue = refl
command_stays connection (ops.Commit members) receipt number queue = refl
command_stays connection ops.Note receipt number queue = refl
command_stays connection (ops.End end) receipt number queue = refl

room_stays : (connection : ℕ) (queue : QueueValue) → (with_room connection queue).durable ≡ queue.durable
room_stays connection queue = by (is_full connection queue)
  where
    by : (full : Bool) → (cond full (flushed queue) queue).durable ≡ queue.durable
    by true = refl
    by false = refl

pub act_stays : (connection : ℕ) (p : Progress) (act : Act) → (acted connection p act).queue.durable ≡ p.queue.durable
act_stays connection p (Do op receipt) = command_stays connection op receipt p.number (with_room connection p.queue) ∙ room_stays connection p.queue
act_stays connection p (Direct frame) = refl
act_stays connection p (Close code) = refl

acts_stay : (connection : ℕ) (p : Progress) (acts : List Act) → (fold (acted connection) p acts).queue.durable ≡ p.queue.durable
acts_stay connection p [] = refl
acts_stay connection p (act ∷ acts) = acts_stay connection (acted connection p act) acts ∙ act_stays connection p act

loss_stays : (connection : ℕ) (p : Progress) (act : Option Act) → (acted_on connection p act).queue.durable ≡ p.queue.durable
loss_stays connection p None = refl
loss_stays connection p (Some act) = act_stays connection p act

goes_stays : (s : ScriptValue) (line printed : List ℕ) (t : ScriptValue) → GoesOn s line printed t → t.queue.durable ≡ s.queue.durable
goes_stays s line printed t (inl h) = ap (λ (x : ScriptValue). x.queue.durable) h.2
goes_stays s line printed t (inr (inl h)) =
    let lost = h.2 in
    ap (λ (x : ScriptValue). x.queue.durable) lost.after ∙ ap (λ (p : Progress). p.queue.durable) lost.done
    ∙ loss_stays h.0 (record { number = (connection_at h.0 s).number; queue = s.queue; text = [] }) (loss_of (connection_at h.0 s).session.phase)
goes_stays s line printed t (inr (inr h)) =
    let received = h.4 in
    ap (λ (x : ScriptValue). x.queue.durable) received.after ∙ ap (λ (p : Progress). p.queue.durable) received.done
    ∙ acts_stay h.0 (record { number = (connection_at h.0 s).number; queue = s.queue; text = [] }) received.acts

-- no step has failed
abbrev Goes : Script → Type 0
Goes s = HasFailed s → ⊥

running_goes : (s : ScriptValue) → s.queue.durable ≡ true → Goes (Running s)
running_goes s durable failed = false≢true (sym failed ∙ durable)

goes_running : (s : ScriptValue) → Goes (Running s) → s.queue.durable ≡ true
goes_running s goes = by s.queue.durable goes
  where
    by : (durable : Bool) → (durable ≡ false → ⊥) → durable ≡ true
    by true none = refl
    by false none = absurd (none refl)

line_goes : (s t : Script) (line printed : List ℕ) → Goes s → Prints s line printed t → Goes t
line_goes s t line printed goes (inl h) = subst Goes (sym h.2) goes
line_goes s t line printed goes (inr (inl h)) = subst Goes (sym h.1.after) (running_goes (beginning h.1.state h.1.disk) refl)
line_goes (Running s) t line printed goes (inr (inr (inl h))) = subst Goes (sym h.3) (running_goes h.0 (goes_stays s line printed h.0 h.1 ∙ goes_running s goes))
line_goes (Running s) t line printed goes (inr (inr (inr h))) = subst Goes (sym h.3.after) (λ failed. failed)
line_goes (Stopped disk) t line printed goes (inr (inr h)) = absurd h
line_goes Over t line printed goes (inr (inr h)) = absurd h

lines_go : (lines : List (List ℕ)) (s t : Script) (printed : List ℕ) → Goes s → PrintsAll s lines printed t → Goes t
lines_go [] s t printed goes prints = subst Goes (sym prints.1) goes
lines_go (line ∷ lines) s t printed goes (first, others, u, prints, more, whole) = lines_go lines u t others (line_goes s u line first goes prints) more

pub none_failed : (start : State) (first : Memory) (lines : List (List ℕ)) (printed : List ℕ) (end : Script) → PrintsAll (Running (beginning start first)) lines printed end → HasFailed end → ⊥
none_failed start first lines printed end prints = lines_go lines (Running (beginning start first)) end printed (running_goes (beginning start first) refl) prints

-- no call of the disk failed
line_calm : (s t : Script) (line printed : List ℕ) → IsNoCrash line → Prints s line printed t → (disk_of t).failures ≡ (disk_of s).failures
line_calm s t line printed none (inl h) = ap (λ (x : Script). (disk_of x).failures) h.2
line_calm s t line printed none (inr (inl h)) = ap (λ (x : Script). (disk_of x).failures) h.1.after ∙ h.1.opened.calm
line_calm (Running s) t line printed none (inr (inr (inl h))) = ap (λ (x : Script). (disk_of x).failures) h.3 ∙ h.2
line_calm (Running s) t line printed none (inr (inr (inr h))) = absurd (none h.0 h.1 h.2)
line_calm (Stopped disk) t line printed none (inr (inr h)) = absurd h
line_calm Over t line printed none (inr (inr h)) = absurd h

lines_calm : (lines : List (List ℕ)) (s t : Script) (printed : List ℕ) → AllByRecursion IsNoCrash lines → PrintsAll s lines printed t → (disk_of t).failures ≡ (disk_of s).failures
lines_calm [] s t printed none prints = ap (λ (x : Script). (disk_of x).failures) prints.1
lines_calm (line ∷ lines) s t printed none (first, others, u, prints, more, whole) = lines_calm lines u t others none.1 more ∙ line_calm s u line first none.0 prints

pub all_calm : (start : State) (first : Memory) (lines : List (List ℕ)) (printed : List ℕ) (end : Script) → AllByRecursion IsNoCrash lines
    → PrintsAll (Running (beginning start first)) lines printed end → (disk_of end).failures ≡ first.failures
all_calm start first lines printed end none prints = lines_calm lines (Running (beginning start first)) end printed none prints
