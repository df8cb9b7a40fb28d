-- How a run goes on, piece by piece.
use Rattle.std.proofs.Common.{◌≡◌, ◌≢◌, ◌+◌, List, [], ◌∷◌, ◌++◌, ℕ, Option, Some, None, refl, ap, sym, ◌∙◌, append_assoc, append-nil, arith, subst, length-append, inl, inr}
use Rattle.std.specs.List.{AllByRecursion}
use Rattle.std.specs.Io.KnownBytes.{Appends}
use Rattle.std.proofs.lemmas.Grind.{flat_map-append}
use Rattle.disk_core.specs.Memory.{Memory}
use Rattle.engine_core.specs.OfQueue.{of_queue}
use Rattle.engine_core.specs.StepFaults.{IsLineTold}
use Rattle.engine_core.specs.Runs.{Goes, Halts, IsCause, IsNext, IsTooLong, StopsIn}
use Rattle.engine_core.specs.declared.so_far.Run.{Run}
use Rattle.engine_core.specs.declared.fault.QueueFault.{QueueFault}
use Rattle.engine_core.specs.declared.fault.QueueFault.TheVariants as queue
use Rattle.engine_core.specs.declared.fault.ScriptFault.{ScriptFault}
use Rattle.engine_core.specs.declared.fault.ScriptFault.TheVariants.{NotUnderstood, CountTooLarge, Opening, Storing, Input, Output}
use Rattle.engine_core.specs.declared.fault.ScriptFault.TheVariants as faults
use Rattle.engine_core.specs.Scripts.{IsNotUnderstood, Prints, PrintsAll, Takes, IsLine, HasNoLf, RunsTooFar, Tries, disk_of, text_of_lines}
use Rattle.engine_core.specs.declared.script.Script.{Script}

pub prints_append : (s t u : Script) (a b : List (List ℕ)) (p q : List ℕ) → PrintsAll s a p t → PrintsAll t b q u → PrintsAll s (a ++ b) (p ++ q) u
prints_append s t u [] b p q first second =
    let e : q ≡ p ++ q = ap (λ x. x ++ q) (sym first.0) in
    subst (λ x. PrintsAll s b x u) e (subst (λ v. PrintsAll v b q u) first.1 second)
prints_append s t u (line ∷ a) b p q (p1, p2, v, prints, more, whole) second =
    (p1, p2 ++ q, v, prints, prints_append v t u a b p2 q more second, ap (λ x. x ++ q) whole ∙ append_assoc p1 p2 q)

pub each_append : (a b : List (List ℕ)) → AllByRecursion IsLine a → AllByRecursion IsLine b → AllByRecursion IsLine (a ++ b)
each_append [] b first second = second
each_append (line ∷ a) b first second = (first.0, each_append a b first.1 second)

pub takes_append : (s t u : Script) (begun x y : List ℕ) (a b : List (List ℕ)) (p q middle rest : List ℕ)
    → Takes s begun x a p t middle → Takes t middle y b q u rest → Takes s begun (x ++ y) (a ++ b) (p ++ q) u rest
takes_append s t u begun x y a b p q middle rest first second = record {
  whole = sym (append_assoc begun x y) ∙ ap (λ z. z ++ y) first.whole ∙ append_assoc (text_of_lines a) middle y ∙ ap (λ z. text_of_lines a ++ z) second.whole
      ∙ sym (append_assoc (text_of_lines a) (text_of_lines b) rest) ∙ ap (λ z. z ++ rest) (sym (flat_map-append (λ (line : List ℕ). line ++ 10 ∷ []) a b));
  each = each_append a b first.each second.each;
  prints = prints_append s t u a b p q first.prints second.prints;
}

pub appends_append : (old now new : Option (List ℕ)) (p q : List ℕ) → Appends old now p → Appends now new q → Appends old new (p ++ q)
appends_append None now new p q first second = tt
appends_append (Some a) None new p q first second = absurd first
appends_append (Some a) (Some b) None p q first second = absurd second
appends_append (Some a) (Some b) (Some c) p q first second = second ∙ ap (λ z. z ++ q) first ∙ append_assoc a p q

pub appends_nothing : (old : Option (List ℕ)) → Appends old old []
appends_nothing None = tt
appends_nothing (Some a) = sym (append-nil a)

-- no line yet
pub takes_nothing : (s : Script) (begun x : List ℕ) → Takes s begun x [] [] s (begun ++ x)
takes_nothing s begun x = record { whole = refl; each = tt; prints = (refl, refl) }

-- one line
pub takes_line : (s t : Script) (begun x printed : List ℕ) → IsLine (begun ++ x) → Prints s (begun ++ x) printed t → Takes s begun (x ++ 10 ∷ []) ((begun ++ x) ∷ []) printed t []
takes_line s t begun x printed line prints = record {
  whole = sym (append_assoc begun x (10 ∷ [])) ∙ sym (append-nil ((begun ++ x) ++ 10 ∷ [])) ∙ ap (λ z. z ++ []) (sym (append-nil ((begun ++ x) ++ 10 ∷ [])));
  each = (line, tt);
  prints = (printed, [], t, prints, (refl, refl), sym (append-nil printed));
}

no_lf_append : (a b : List ℕ) → HasNoLf a → HasNoLf b → HasNoLf (a ++ b)
no_lf_append [] b first second = second
no_lf_append (x ∷ a) b first second = (first.0, no_lf_append a b first.1 second)

-- nothing more is printed
abbrev pub halts_nothing : (old : Run) (bytes : List ℕ) (contents : Option (List ℕ)) → Halts old bytes [] (old.begun.items ++ bytes) contents contents
halts_nothing old bytes contents = record { printed = []; end = old.script; takes = takes_nothing old.script old.begun.items bytes; writes = appends_nothing contents }

-- the line that has begun, and these bytes behind it
abbrev rest_of : Run → List ℕ → List ℕ
rest_of old bytes = old.begun.items ++ (bytes ++ 10 ∷ [])

whole_line : (old : Run) (bytes line : List ℕ) → line ≡ old.begun.items ++ bytes → rest_of old bytes ≡ line ++ 10 ∷ []
whole_line old bytes line same = sym (append_assoc old.begun.items bytes (10 ∷ [])) ∙ ap (λ l. l ++ 10 ∷ []) (sym same)

cause_of : (fault : QueueFault) (old : Run) (disk : Memory) (bytes line : List ℕ) → line ≡ old.begun.items ++ bytes → IsLine line
    → (fault ≡ queue.CountTooLarge → RunsTooFar old.script line) → IsLineTold old.script line disk fault → IsCause (of_queue fault) old.script (rest_of old bytes) disk
cause_of (queue.Memory refused) old disk bytes line same is_line far told = told
cause_of (queue.Opening refused) old disk bytes line same is_line far told = ([], whole_line old bytes line same ∙ ap (λ l. l ++ 10 ∷ []) told.0, told.1)
cause_of (queue.Storing refused) old disk bytes line same is_line far told = (line, [], whole_line old bytes line same, is_line, told)
cause_of queue.CountTooLarge old disk bytes line same is_line far told = ((line, [], whole_line old bytes line same, is_line, far refl), told)

-- none but a fault of a line tells its number
is_next : (fault : QueueFault) (lines : ℕ) → IsNext (of_queue fault) lines
is_next (queue.Memory refused) lines = tt
is_next (queue.Opening refused) lines = tt
is_next (queue.Storing refused) lines = tt
is_next queue.CountTooLarge lines = tt

-- a fault that is not the writer's stops a run at its next line
pub stops_here : (fault : QueueFault) (old : Run) (bytes : List ℕ) (disk : Memory) (contents : Option (List ℕ)) → IsCause (of_queue fault) old.script (old.begun.items ++ bytes) disk → StopsIn (of_queue fault) old bytes disk contents contents
stops_here (queue.Memory refused) old bytes disk contents cause = ([], old.begun.items ++ bytes, halts_nothing old bytes contents, tt, cause)
stops_here (queue.Opening refused) old bytes disk contents cause = ([], old.begun.items ++ bytes, halts_nothing old bytes contents, tt, cause)
stops_here (queue.Storing refused) old bytes disk contents cause = ([], old.begun.items ++ bytes, halts_nothing old bytes contents, tt, cause)
stops_here queue.CountTooLarge old bytes disk contents cause = ([], old.begun.items ++ bytes, halts_nothing old bytes contents, tt, cause)

pub stops_at_queue : (fault : QueueFault) (given : ScriptFault) (old : Run) (disk : Memory) (bytes line : List ℕ) (contents : Option (List ℕ)) → line ≡ old.begun.items ++ bytes → IsLine line
    → (fault ≡ queue.CountTooLarge → RunsTooFar old.script line) → IsLineTold old.script line disk fault → given ≡ of_queue fault → StopsIn given old (bytes ++ 10 ∷ []) disk contents contents
stops_at_queue fault given old disk bytes line contents same is_line far told e =
    subst (λ f. StopsIn f old (bytes ++ 10 ∷ []) disk contents contents) (sym e)
    (stops_here fault old (bytes ++ 10 ∷ []) disk contents (cause_of fault old disk bytes line same is_line far told))

pub stops_too_long : (fault : ScriptFault) (old : Run) (bytes after : List ℕ) (disk : Memory) (contents : Option (List ℕ)) → IsLine old.begun.items → HasNoLf bytes → disk ≡ disk_of old.script → IsTooLong fault old bytes
    → StopsIn fault old (bytes ++ after) disk contents contents
stops_too_long (NotUnderstood k) old bytes after disk contents line no_lf same (e, long) = (
  [],
  old.begun.items ++ (bytes ++ after),
  halts_nothing old (bytes ++ after) contents,
  omega (arith, e),
  (inl (old.begun.items ++ bytes, after, sym (append_assoc old.begun.items bytes after), no_lf_append old.begun.items bytes line.no_lf no_lf, long), same),
)
stops_too_long (faults.Memory refused) old bytes after disk contents line no_lf same h =
    ([], old.begun.items ++ (bytes ++ after), halts_nothing old (bytes ++ after) contents, tt, ap (λ (d : Memory). d.failures) same)
stops_too_long (Opening refused) old bytes after disk contents line no_lf same h = absurd h
stops_too_long (Storing refused) old bytes after disk contents line no_lf same h = absurd h
stops_too_long CountTooLarge old bytes after disk contents line no_lf same h = absurd h
stops_too_long Input old bytes after disk contents line no_lf same h = absurd h
stops_too_long Output old bytes after disk contents line no_lf same h = absurd h

pub stops_at_no_form : (old : Run) (disk : Memory) (bytes line : List ℕ) (k : ℕ) (contents : Option (List ℕ)) → IsLine old.begun.items → HasNoLf bytes → line ≡ old.begun.items ++ bytes → IsNotUnderstood old.script line
    → disk ≡ disk_of old.script → k ≡ old.lines + 1 → StopsIn (NotUnderstood k) old (bytes ++ 10 ∷ []) disk contents contents
stops_at_no_form old disk bytes line k contents begun no_lf same form is e = (
  [],
  rest_of old bytes,
  halts_nothing old (bytes ++ 10 ∷ []) contents,
  omega (arith, e),
  (inr (line, [], whole_line old bytes line same, subst HasNoLf (sym same) (no_lf_append old.begun.items bytes begun.no_lf no_lf), form), is),
)

-- the line is one, but what it prints could not be written
pub stops_at_writer : (old : Run) (bytes line printed : List ℕ) (new : Script) (before after : Option (List ℕ)) (written unwritten : List ℕ)
    → line ≡ old.begun.items ++ bytes → IsLine line → Prints old.script line printed new → printed ≡ written ++ unwritten → unwritten ≢ [] → Appends before after written
    → Tries old.script old.begun.items (bytes ++ 10 ∷ []) (disk_of new) before after
stops_at_writer old bytes line printed new before after written unwritten same is_line prints split left writes = record {
  lines = [];
  rest = rest_of old bytes;
  printed = [];
  end = old.script;
  takes = takes_nothing old.script old.begun.items (bytes ++ 10 ∷ []);
  line = line;
  behind = [];
  text = printed;
  next = new;
  begins = whole_line old bytes line same;
  is_line = is_line;
  prints = prints;
  disk_is = refl;
  written = written;
  unwritten = unwritten;
  split = split;
  left = left;
  writes = writes;
}

pub goes_on_line : (old new : Run) (bytes line printed : List ℕ) (before after : Option (List ℕ))
    → line ≡ old.begun.items ++ bytes → IsLine line → Prints old.script line printed new.script → new.begun.items ≡ [] → new.lines ≡ old.lines + 1 → Appends before after printed
    → Goes old (bytes ++ 10 ∷ []) new before after
goes_on_line old new bytes line printed before after same is_line prints none counted writes =
    let is : IsLine (old.begun.items ++ bytes) = subst IsLine same is_line in
    let p : Prints old.script (old.begun.items ++ bytes) printed new.script = subst (λ l. Prints old.script l printed new.script) same prints in
    let t : Takes old.script old.begun.items (bytes ++ 10 ∷ []) ((old.begun.items ++ bytes) ∷ []) printed new.script [] = takes_line old.script new.script old.begun.items bytes printed is p in
    record {
      lines = (old.begun.items ++ bytes) ∷ [];
      printed = printed;
      takes = subst (λ r. Takes old.script old.begun.items (bytes ++ 10 ∷ []) ((old.begun.items ++ bytes) ∷ []) printed new.script r) (sym none) t;
      begun = subst IsLine (sym none) (record { no_lf = tt; short = omega arith });
      count = counted;
      few = omega (arith, length-append bytes (10 ∷ []));
      writes = writes;
    }
