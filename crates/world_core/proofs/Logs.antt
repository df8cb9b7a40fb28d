-- The history of a life, as it grows, and what the disk stands for.
use Rattle.std.proofs.Common.{◌≡◌, ◌≢◌, ℕ, zero, suc, ◌+◌, ◌-◌, ◌<◌, ◌≤◌, List, [], ◌∷◌, ◌++◌, length, take, drop, refl, sym, ◌∙◌, ap, subst, arith, length-drop, take-append-drop}
use Rattle.std.specs.List.{AllByRecursion}
use Rattle.std.proofs.lemmas.List.{take-take, drop-take, take-append-le, drop-append-le, length-take-le}
use Rattle.command_core.specs.Commands.{CommandValue}
use Rattle.broker_core.specs.Operations.{restarted}
use Rattle.broker_core.specs.States.{State}
use Rattle.broker_core.specs.Steps.{state_after}
use Rattle.disk_core.specs.Images.{patched}
use Rattle.area_core.specs.Areas.{HasRecord, IsBlock, closed, records}
use Rattle.area_core.specs.Journals.{is_odd, start}
use Rattle.recover_core.proofs.Folded.{count_after}
use Rattle.recover_core.proofs.Stores.{after-append}
use Rattle.world_core.specs.declared.parts.Period.TheVariants.{Running}
use Rattle.world_core.specs.declared.parts.LastCall.{LastCall}
use Rattle.world_core.specs.declared.parts.LastCall.TheVariants.{Rest, Broken, BlockWritten, BlockSynced, GateWritten, Copying, CopySynced, SwitchWritten, OpenSynced, OpenRead, SnapshotWriting, SnapshotSynced, SelectorWritten, Opened}
use Rattle.world_core.specs.Keeping.{Copied, Exact, HasCopy, HasPrefix, IsAt, Log, Staged, upto}
use Rattle.world_core.specs.Worlds.{DiskValue, between, state_under}

take_plus : (a b : ℕ) (xs : List CommandValue) → take (a + b) xs ≡ take a xs ++ take b (drop a xs)
take_plus a b xs =
    sym (take-append-drop a (take (a + b) xs))
    ∙ ap (λ (l : List CommandValue). l ++ drop a (take (a + b) xs)) (take-take a (a + b) xs (omega arith))
    ∙ ap (λ (l : List CommandValue). take a xs ++ l) (drop-take a b xs)

-- what is stored, and the batch behind it
pub state_more : (base : ℕ) (s : State) (history : List CommandValue) (n m : ℕ) → base ≤ n → n ≤ m → state_under base s history m ≡ state_after (state_under base s history n) (between base history n m)
state_more base s history n m low le =
    let split : m - base ≡ (n - base) + (m - n) = omega arith in
    ap (λ (k : ℕ). state_after s (take k history)) split ∙ ap (λ (l : List CommandValue). state_after s l) (take_plus (n - base) (m - n) history) ∙ after-append (take (n - base) history) s (between base history n m)

-- a longer history begins alike
pub state_longer : (base : ℕ) (s : State) (history more : List CommandValue) (n : ℕ) → n ≤ base + length history → state_under base s (history ++ more) n ≡ state_under base s history n
state_longer base s history more n le = ap (λ (l : List CommandValue). state_after s l) (take-append-le (n - base) history more (omega arith))

pub between_longer : (base : ℕ) (history more : List CommandValue) (n m : ℕ) → base ≤ n → n ≤ m → m ≤ base + length history → between base (history ++ more) n m ≡ between base history n m
between_longer base history more n m low le high =
    ap (λ (l : List CommandValue). take (m - n) l) (drop-append-le (n - base) history more (omega arith))
    ∙ take-append-le (m - n) (drop (n - base) history) more (omega (arith, length-drop (n - base) history))

pub length-between : (base : ℕ) (history : List CommandValue) (n m : ℕ) → base ≤ n → n ≤ m → m ≤ base + length history → length (between base history n m) ≡ m - n
length-between base history n m low le high = length-take-le (m - n) (drop (n - base) history) (omega (arith, length-drop (n - base) history))

-- a state counts its commands
pub count_under : (base : ℕ) (s : State) (history : List CommandValue) (n : ℕ) → s.count ≡ base → base ≤ n → n ≤ base + length history → (state_under base s history n).count ≡ n
count_under base s history n is low high = omega (arith, is, count_after (take (n - base) history) s, length-take-le (n - base) history (omega arith))

-- parts of a history have records too
all_taken : (P : CommandValue → Type 0) (n : ℕ) (cs : List CommandValue) → AllByRecursion P cs → AllByRecursion P (take n cs)
all_taken P zero cs all = tt
all_taken P (suc n) [] all = tt
all_taken P (suc n) (c ∷ cs) all = (all.0, all_taken P n cs all.1)

all_left : (P : CommandValue → Type 0) (n : ℕ) (cs : List CommandValue) → AllByRecursion P cs → AllByRecursion P (drop n cs)
all_left P zero cs all = all
all_left P (suc n) [] all = tt
all_left P (suc n) (c ∷ cs) all = all_left P n cs all.1

some_there : (cs : List CommandValue) → 0 < length cs → cs ≢ []
some_there [] some is = absurd (omega arith)
some_there (c ∷ cs) some is = absurd (cc)

pub batch_form : (base : ℕ) (history : List CommandValue) (n m : ℕ) → base ≤ n → n < m → m ≤ base + length history → AllByRecursion HasRecord history → IsBlock (between base history n m)
batch_form base history n m low lt high all = record {
  some = some_there (between base history n m) (omega (arith, length-between base history n m low (omega arith) high));
  each = all_taken HasRecord (m - n) (drop (n - base) history) (all_left HasRecord (n - base) history all);
}

pub none_taken : (n : ℕ) → take {A = CommandValue} n [] ≡ []
none_taken zero = refl
none_taken (suc n) = refl

-- what a disk stands for, as the history goes on

-- as far as n the two histories are one
pub record AreSame (log next : Log) (n : ℕ) : Type 0 where
  pub upto_is : (m : ℕ) → m ≤ n → upto next m ≡ upto log m
  pub between_is : (l m : ℕ) → log.base ≤ l → l ≤ m → m ≤ n → between next.base next.history l m ≡ between log.base log.history l m

pub prefix_moves : (log next : Log) (size : ℕ) (c : List ℕ) → next.stored ≤ log.stored → log.taken ≤ next.taken → ((m : ℕ) → m ≤ log.taken → upto next m ≡ upto log m)
    → (next.phase ≡ Running → log.phase ≡ Running) → HasPrefix log size c → HasPrefix next size c
prefix_moves log next size c stored taken same phase f = record {
  number = f.number;
  stored = omega (arith, stored, f.stored);
  taken = omega (arith, taken, f.taken);
  reading = f.reading;
  is_read = f.is_read;
  same = f.same ∙ ap restarted (sym (same f.number f.taken));
  running = λ r. f.running (phase r) ∙ sym (same f.number f.taken);
}

exact_moves : (log next : Log) (d : DiskValue) (n : ℕ) → upto next n ≡ upto log n → (log.phase ≡ Running → next.phase ≡ Running) → Exact log d n → Exact next d n
exact_moves log next d n same phase e = record { running = phase e.running; reading = e.reading; is_read = e.is_read; two = e.two; state = e.state ∙ sym same }

staged_moves : (log next : Log) (d : DiskValue) (to : ℕ) → next.stored ≡ log.stored → log.taken ≤ next.taken → next.phase ≡ log.phase → log.base ≤ log.stored → AreSame log next log.taken → Staged log d to → Staged next d to
staged_moves log next d to stored taken phase low same s =
    let one : between next.base next.history next.stored to ≡ between log.base log.history log.stored to =
    ap (λ (k : ℕ). between next.base next.history k to) stored ∙ same.between_is log.stored to low (omega (arith, s.more)) s.taken in
    record {
      running = phase ∙ s.running;
      more = omega (arith, stored, s.more);
      taken = omega (arith, taken, s.taken);
      before = s.before;
      reading = s.reading;
      was_read = s.was_read;
      two = s.two;
      state = s.state ∙ sym (same.upto_is log.stored (omega (arith, s.more, s.taken))) ∙ ap (λ (k : ℕ). upto next k) (sym stored);
      form = subst IsBlock (sym one) s.form;
      room = subst (λ (cs : List CommandValue). s.reading.gate + 10 + length (records cs) ≤ d.size) (sym one) s.room;
      content = s.content ∙ ap (λ (cs : List CommandValue). patched (start d.size (is_odd s.was_read.selector) + s.reading.gate + 1) (closed (records cs)) s.before) (sym one);
    }

exact_stays : (log next : Log) (d : DiskValue) → next.stored ≡ log.stored → next.phase ≡ log.phase → log.stored ≤ log.taken → AreSame log next log.taken → Exact log d log.stored → Exact next d next.stored
exact_stays log next d stored phase le same e =
    exact_moves log next d next.stored (ap (λ (k : ℕ). upto next k) stored ∙ same.upto_is log.stored le ∙ ap (λ (k : ℕ). upto log k) (sym stored)) (λ r. phase ∙ r) (subst (λ (k : ℕ). Exact log d k) (sym stored) e)

stored_stays : (log next : Log) (s : State) → next.stored ≡ log.stored → log.stored ≤ log.taken → AreSame log next log.taken → s ≡ upto log log.stored → s ≡ upto next next.stored
stored_stays log next s stored le same is = is ∙ sym (same.upto_is log.stored le) ∙ ap (λ (k : ℕ). upto next k) (sym stored)

copied_stays : (log next : Log) (d : DiskValue) (done all : ℕ) → next.stored ≡ log.stored → next.phase ≡ log.phase → log.stored ≤ log.taken → AreSame log next log.taken → Copied log d done all → Copied next d done all
copied_stays log next d done all stored phase le same c = record {
  running = phase ∙ c.running;
  reading = c.reading;
  is_read = c.is_read;
  two = c.two;
  state = stored_stays log next c.reading.state stored le same c.state;
  can = c.can;
  copies = c.copies;
}

has_copy_stays : (log next : Log) (d : DiskValue) → next.stored ≡ log.stored → next.phase ≡ log.phase → log.stored ≤ log.taken → AreSame log next log.taken → HasCopy log d → HasCopy next d
has_copy_stays log next d stored phase le same c = record {
  running = phase ∙ c.running;
  reading = c.reading;
  is_read = c.is_read;
  two = c.two;
  state = stored_stays log next c.reading.state stored le same c.state;
  can = c.can;
  idle = c.idle;
}

pub at_moves : (log next : Log) (d : DiskValue) (p : LastCall) → next.stored ≡ log.stored → log.taken ≤ next.taken → next.phase ≡ log.phase → log.base ≤ log.stored → log.stored ≤ log.taken → AreSame log next log.taken → IsAt log d p → IsAt next d p
at_moves log next d Rest stored taken phase low le same is = (is.0, exact_stays log next d stored phase le same is.1)
at_moves log next d Broken stored taken phase low le same is = tt
at_moves log next d (BlockWritten to) stored taken phase low le same is = staged_moves log next d to stored taken phase low same is
at_moves log next d (BlockSynced to) stored taken phase low le same is = (is.0, staged_moves log next d to stored taken phase low same is.1)
at_moves log next d (GateWritten to) stored taken phase low le same is =
    (omega (arith, stored, is.0), omega (arith, taken, is.1), exact_moves log next d to (same.upto_is to is.1) (λ r. phase ∙ r) is.2)
at_moves log next d (Copying done all) stored taken phase low le same is = copied_stays log next d done all stored phase le same is
at_moves log next d CopySynced stored taken phase low le same is = (is.0, has_copy_stays log next d stored phase le same is.1)
at_moves log next d SwitchWritten stored taken phase low le same is = exact_stays log next d stored phase le same is
at_moves log next d OpenSynced stored taken phase low le same is = (is.0, λ r. is.1 (sym phase ∙ r))
at_moves log next d OpenRead stored taken phase low le same is = (is.0, λ r. is.1 (sym phase ∙ r))
at_moves log next d (SnapshotWriting done all) stored taken phase low le same is = (λ r. is.0 (sym phase ∙ r), is.1)
at_moves log next d SnapshotSynced stored taken phase low le same is = (is.0, λ r. is.1 (sym phase ∙ r), is.2)
at_moves log next d SelectorWritten stored taken phase low le same is = (λ r. is.0 (sym phase ∙ r), is.1)
at_moves log next d Opened stored taken phase low le same is = (is.0, λ r. is.1 (sym phase ∙ r), is.2)
