-- What a line does that was read.
use Rattle.std.proofs.Common.{◌≡◌, ◌≢◌, ◌<◌, List, [], ◌∷◌, ◌++◌, ℕ, Option, Some, None, MatchOption, codes, sym, ap, ◌∙◌, arith, inl, inr, subst}
use Rattle.std.specs.Fmt.{decimal}
use Rattle.std.proofs.lemmas.Bool.{cases_lt}
use Rattle.claim_core.specs.declared.limits.TheConstants.{SEATS}
use Rattle.script_text.specs.ScriptLines.{IsOfNoForm, IsLoss, IsCrash}
use Rattle.broker_core.specs.Operations.{restarted}
use Rattle.broker_core.specs.States.{State}
use Rattle.disk_core.specs.Memory.{Memory}
use Rattle.recover_core.specs.Opens.{IsRestartOf}
use Rattle.recover_core.specs.Standing.{Stands}
use Rattle.recover_core.proofs.Single.{stands_one}
use Rattle.engine_core.specs.Journals.{IsFull, StandsAfterFront}
use Rattle.engine_core.specs.Placed.{commands_of}
use Rattle.engine_core.specs.declared.command_queue.Waiting.{Waiting}
use Rattle.engine_core.specs.Queues.{LacksRoom, QueueValue}
use Rattle.engine_core.specs.Running.{ScriptValue}
use Rattle.engine_core.specs.Scripts.{Opens, Crashes, GoesBy, GoesOn, IsNotUnderstood, IsOpenedAs, IsStopped, OnRunning, Prints, Reopens, RunsOn, StandsAs, StandsWithin, disk_of}
use Rattle.engine_core.specs.declared.script.Script.{Script}
use Rattle.engine_core.specs.declared.script.Script.TheVariants.{Running, Stopped, Over}
use Rattle.script_text.proofs.ConnectionNumbers.{one_digit, two_digits}

-- the line is neither empty nor `open`
abbrev pub IsOther : List ℕ → Type 0
IsOther line = (line ≢ []) × (line ≢ codes "open")

pub of_flush : (line : List ℕ) → line ≡ codes "flush" → IsOther line
of_flush line is = (λ e. cc, λ e. cc)

pub of_loss : (line : List ℕ) (n : ℕ) → IsLoss line n → IsOther line
of_loss line n is = (λ e. let a = sym is.1 ∙ e in cc, λ e. let a = sym is.1 ∙ e in cc)

pub of_crash : (line : List ℕ) (k : ℕ) (fill : Option ℕ) → IsCrash line k fill → IsOther line
of_crash line k None is = (λ e. let a = sym is.1 ∙ e in cc, λ e. let a = sym is.1 ∙ e in cc)
of_crash line k (Some b) is = (λ e. let a = sym is.1 ∙ e in cc, λ e. let a = sym is.1 ∙ e in cc)

pub of_text : (line text : List ℕ) (n : ℕ) → n < SEATS → line ≡ decimal n ++ 32 ∷ text → IsOther line
of_text line text n small is = elim (cases_lt n 10) [
  | inl low ↦ (let one = is ∙ one_digit n (32 ∷ text) low in (λ e. let a = sym one ∙ e in cc, λ e. let a = sym one ∙ e in cc))
  | inr high ↦ (let two = is ∙ two_digits n (32 ∷ text) high (omega arith) in (λ e. let a = sym two ∙ e in cc, λ e. let a = sym two ∙ e in cc))
]

pub of_no_form : (s : Script) (line : List ℕ) → IsOfNoForm line → IsNotUnderstood s line
of_no_form (Running s) line form = form
of_no_form (Stopped disk) line form = (form.not_blank, form.not_open)
of_no_form Over line form = (form.not_blank, form.not_open)

-- nothing is understood, and nothing is done
abbrev pub Ignores : Script → List ℕ → Script → Type 0
Ignores s line t = IsNotUnderstood s line × (t ≡ s)

stopped : (s t : Script) (line : List ℕ) → IsOther line → IsStopped s × (t ≡ s) → Ignores s line t
stopped (Running s) t line other is = absurd is.0
stopped (Stopped disk) t line other is = (other, is.1)
stopped Over t line other is = (other, is.1)

goes : (s t : Script) (line printed : List ℕ) (P : ScriptValue → ScriptValue → Type 0) → ((a b : ScriptValue) → P a b → GoesOn a line printed b) → GoesBy s P t → RunsOn s line printed t
goes (Running s) t line printed P then by = inl (by.0, then s by.0 by.1, by.2, by.3)
goes (Stopped disk) t line printed P then by = absurd by
goes Over t line printed P then by = absurd by

crashes : (s t : Script) (line printed : List ℕ) (k : ℕ) (fill : Option ℕ) → IsCrash line k fill → OnRunning s (λ r. Crashes r printed t) → RunsOn s line printed t
crashes (Running s) t line printed k fill is by = inr (k, fill, is, by)
crashes (Stopped disk) t line printed k fill is by = absurd by
crashes Over t line printed k fill is by = absurd by

-- what a step of a running script answers is what the line prints
pub performed : {A : Type 0} (text : A → List ℕ) (s t : Script) (line : List ℕ) (P : List ℕ → ScriptValue → ScriptValue → Type 0) (answer : Option A) → IsOther line
    → ((printed : List ℕ) (a b : ScriptValue) → P printed a b → GoesOn a line printed b)
    → MatchOption answer (IsStopped s × (t ≡ s)) (λ x. GoesBy s (P (text x)) t) → MatchOption answer (Ignores s line t) (λ x. Prints s line (text x) t)
performed text s t line P None other then is = stopped s t line other is
performed text s t line P (Some x) other then is = inr (inr (goes s t line (text x) (P (text x)) (then (text x)) is))

pub crashed : {A : Type 0} (text : A → List ℕ) (s t : Script) (line : List ℕ) (k : ℕ) (fill : Option ℕ) (answer : Option A) → IsCrash line k fill
    → MatchOption answer (IsStopped s × (t ≡ s)) (λ x. OnRunning s (λ r. Crashes r (text x) t)) → MatchOption answer (Ignores s line t) (λ x. Prints s line (text x) t)
crashed text s t line k fill None is given = stopped s t line (of_crash line k fill is) given
crashed text s t line k fill (Some x) is given = inr (inr (crashes s t line (text x) k fill is given))

-- what stands for a state has one restart
pub restart_is : (content : List ℕ) (s start : State) → Stands content s → IsRestartOf content start → start ≡ restarted s
restart_is content s start stands begins = begins.is ∙ ap (λ (t : State). restarted t) (stands_one content begins.before s begins.stood stands)

-- what the script's disk was opened as
pub opened_as : (s t : Script) (disk : Memory) (text : List ℕ) → disk ≡ disk_of s → StandsAs s disk → Opens (Stopped disk) text t → Opens s text t
opened_as s t disk text is stands o = record {
  state = o.state;
  disk = o.disk;
  opened = subst (λ d. IsOpenedAs d o.state o.disk) is o.opened;
  reopens = by s stands;
  same_text = o.same_text;
  after = o.after;
}
  where
    by : (r : Script) → StandsAs r disk → Reopens r o.state
    by (Running r) stand = restart_is disk.content r.queue.state o.state stand o.opened.restart
    by (Stopped d) stand = tt
    by Over stand = absurd stand

-- a queue of these commands, for which this disk has no room
pub lacks_room : (q : QueueValue) (waiting : List Waiting) (state : State) (content : List ℕ) → waiting ≡ q.waiting → state ≡ q.state → IsFull state (commands_of waiting) content → LacksRoom content q
lacks_room q waiting state content same_waiting same_state full =
    subst (λ s. IsFull s (commands_of q.waiting) content) same_state
    (subst (λ w. IsFull state (commands_of w) content) same_waiting full)

pub stood_within : (q : QueueValue) (waiting : List Waiting) (state : State) (content : List ℕ) → waiting ≡ q.waiting → state ≡ q.state → ∥ StandsAfterFront state (commands_of waiting) content ∥₁ → ∥ StandsWithin q content ∥₁
stood_within q waiting state content same_waiting same_state stands =
    subst (λ s. ∥ StandsAfterFront s (commands_of q.waiting) content ∥₁) same_state
    (subst (λ w. ∥ StandsAfterFront state (commands_of w) content ∥₁) same_waiting stands)
