-- A run from read to read, and from its beginning.
use Rattle.std.proofs.Common.{◌≡◌, ◌≢◌, ◌⊎◌, ◌+◌, List, [], ◌++◌, ℕ, Option, Some, None, Bool, true, false, refl, ap, sym, ◌∙◌, append_assoc, append-nil, arith, length, subst, inl, inr}
use Rattle.std.specs.Io.KnownBytes.{Appends, Consumes, IsAtEnd, Keeps}
use Rattle.std.specs.declared.alloc.AllocError.{AllocError}
use Rattle.recover_core.specs.declared.faults.OpenFault.{OpenFault}
use Rattle.disk_core.specs.Memory.{Memory}
use Rattle.broker_core.specs.States.{State}
use Rattle.engine_core.specs.Running.{beginning}
use Rattle.engine_core.specs.Scripts.{Takes, IsLine, IsScript, Tries, disk_of, text_of_lines}
use Rattle.engine_core.specs.StepFaults.{IsNotOpened}
use Rattle.engine_core.specs.Runs.{Begins, EndsBefore, EndsWithin, Goes, Halts, IsCause, IsNext, IsToldAtOnce, Stopped, Stops, StopsIn, StopsOver, Turned}
use Rattle.engine_core.specs.declared.script.Script.{Script}
use Rattle.engine_core.specs.declared.script.Script.TheVariants.{Running}
use Rattle.engine_core.specs.declared.so_far.Run.{Run}
use Rattle.engine_core.specs.declared.fault.ScriptFault.{ScriptFault}
use Rattle.engine_core.specs.declared.fault.ScriptFault.TheVariants.{NotUnderstood, CountTooLarge, Opening, Storing, Input, Output}
use Rattle.engine_core.specs.declared.fault.ScriptFault.TheVariants as faults
use Rattle.engine_core.proofs.LineByLine.{halts_nothing}
use Rattle.engine_core.proofs.Pieces.{goes_nothing, goes_append, stops_later}

pub consumes_nothing : (unread : Option (List ℕ)) → Consumes unread unread []
consumes_nothing None = tt
consumes_nothing (Some a) = refl

consumes_kept : (unread left : Option (List ℕ)) → Keeps unread left → Consumes unread left []
consumes_kept None left h = tt
consumes_kept (Some a) None h = absurd h
consumes_kept (Some a) (Some b) h = sym h

consumes_append : (unread middle left : Option (List ℕ)) (x y : List ℕ) → Consumes unread middle x → Consumes middle left y → Consumes unread left (x ++ y)
consumes_append None middle left x y first second = tt
consumes_append (Some a) None left x y first second = absurd first
consumes_append (Some a) (Some b) None x y first second = absurd second
consumes_append (Some a) (Some b) (Some c) x y first second = first ∙ ap (λ z. x ++ z) second ∙ sym (append_assoc x y c)

pub turned_kept : (run : Run) (unread left contents : Option (List ℕ)) → IsLine run.begun.items → Keeps unread left → Turned false run run unread left contents contents
turned_kept run unread left contents line kept = record { bytes = []; reads = consumes_kept unread left kept; goes = goes_nothing run contents line; at_end = λ e. cc }

pub turned_nothing : (run : Run) (unread contents : Option (List ℕ)) → IsLine run.begun.items → Turned false run run unread unread contents contents
turned_nothing run unread contents line = record { bytes = []; reads = consumes_nothing unread; goes = goes_nothing run contents line; at_end = λ e. cc }

pub turned_later : (end : Bool) (old mid new : Run) (unread middle left before between after : Option (List ℕ)) → Turned false old mid unread middle before between → Turned end mid new middle left between after → Turned end old new unread left before after
turned_later end old mid new unread middle left before between after first second = record {
  bytes = first.bytes ++ second.bytes;
  reads = consumes_append unread middle left first.bytes second.bytes first.reads second.reads;
  goes = goes_append old mid new first.bytes second.bytes before between after first.goes second.goes;
  at_end = second.at_end;
}

abbrev halts : (start new : Run) (bytes : List ℕ) (before after : Option (List ℕ)) (g : Goes start bytes new before after) → Halts start bytes g.lines new.begun.items before after
halts start new bytes before after g = record { printed = g.printed; end = new.script; takes = g.takes; writes = g.writes }

ends_later : (fault : ScriptFault) (old mid : Run) (x y : List ℕ) (disk : Memory) (left before between after : Option (List ℕ)) → Goes old x mid before between → EndsWithin fault mid y disk left between after → EndsWithin fault old (x ++ y) disk left before after
ends_later (NotUnderstood k) old mid x y disk left before between after first (new, second, at_end, some, e, same) = (new, goes_append old mid new x y before between after first second, at_end, some, e, same)
ends_later (faults.Memory refused) old mid x y disk left before between after first h = absurd h
ends_later (Opening refused) old mid x y disk left before between after first h = absurd h
ends_later (Storing refused) old mid x y disk left before between after first h = absurd h
ends_later CountTooLarge old mid x y disk left before between after first h = absurd h
ends_later Input old mid x y disk left before between after first h = absurd h
ends_later Output old mid x y disk left before between after first h = absurd h

pub stopped_later : (fault : ScriptFault) (old mid : Run) (disk : Memory) (unread middle left before between after : Option (List ℕ)) → Turned false old mid unread middle before between → Stopped fault mid disk middle left between after → Stopped fault old disk unread left before after
stopped_later fault old mid disk unread middle left before between after first second = record {
  bytes = first.bytes ++ second.bytes;
  reads = consumes_append unread middle left first.bytes second.bytes first.reads second.reads;
  stops = elim second.stops [
    | inl s ↦ inl (stops_later fault old mid first.bytes second.bytes disk before between after first.goes s)
    | inr e ↦ inr (ends_later fault old mid first.bytes second.bytes disk left before between after first.goes e)
  ];
}

ends_here : (run : Run) (k : ℕ) (bytes : List ℕ) (left contents : Option (List ℕ)) → IsLine run.begun.items → bytes ≡ [] → IsAtEnd left → run.begun.items ≢ [] → k ≡ run.lines + 1 → EndsWithin (NotUnderstood k) run bytes (disk_of run.script) left contents contents
ends_here run k bytes left contents line none at_end some e = (run, subst (λ x. Goes run x run contents contents) (sym none) (goes_nothing run contents line), at_end, some, e, refl)

pub stopped_at_end : (fault : ScriptFault) (run : Run) (bytes : List ℕ) (unread left contents : Option (List ℕ)) → IsLine run.begun.items → Consumes unread left bytes → bytes ≡ [] → IsAtEnd left → fault ≡ NotUnderstood (run.lines + 1) → run.begun.items ≢ [] → Stopped fault run (disk_of run.script) unread left contents contents
stopped_at_end fault run bytes unread left contents line reads none at_end is some =
    subst (λ f. Stopped f run (disk_of run.script) unread left contents contents) (sym is) (record { bytes = bytes; reads = reads; stops = inr (ends_here run (run.lines + 1) bytes left contents line none at_end some refl) })

-- where the reader fails, a run stops as it is
pub stopped_by_reader : (run : Run) (unread left contents : Option (List ℕ)) → IsLine run.begun.items → Keeps unread left → Stopped Input run (disk_of run.script) unread left contents contents
stopped_by_reader run unread left contents line kept = record {
  bytes = [];
  reads = consumes_kept unread left kept;
  stops = inl ([], run.begun.items ++ [], halts_nothing run [] contents, tt, refl);
}

-- and where it was read too often
pub stopped_by_count : (old run : Run) (unread left before after : Option (List ℕ)) → Turned false old run unread left before after → Stopped Input old (disk_of run.script) unread left before after
stopped_by_count old run unread left before after turned = record {
  bytes = turned.bytes;
  reads = turned.reads;
  stops = inl (turned.goes.lines, run.begun.items, halts old run turned.bytes before after turned.goes, tt, refl);
}

-- a script that was read to its end
pub record Whole (state : State) (first disk : Memory) (unread left before after : Option (List ℕ)) : Type 0 where
  pub input : List ℕ
  pub printed : List ℕ
  pub reads : Consumes unread left input
  pub at_end : IsAtEnd left
  pub script : IsScript state first input printed
  pub disk_is : disk ≡ disk_of script.end
  pub writes : Appends before after printed

-- a run that begins
module _ (state : State) (first : Memory) (start : Run) (script : start.script ≡ Running (beginning state first)) (none : start.begun.items ≡ []) where
  from_start : (bytes : List ℕ) (lines : List (List ℕ)) (printed rest : List ℕ) (end : Script) → Takes start.script start.begun.items bytes lines printed end rest → Takes (Running (beginning state first)) [] bytes lines printed end rest
  from_start bytes lines printed rest end t = subst (λ b. Takes (Running (beginning state first)) b bytes lines printed end rest) none (subst (λ s. Takes s start.begun.items bytes lines printed end rest) script t)

  abbrev begins : (bytes : List ℕ) (lines : List (List ℕ)) (rest : List ℕ) (unread left before after : Option (List ℕ)) → Consumes unread left bytes → Halts start bytes lines rest before after → Begins state first lines rest unread left before after
  begins bytes lines rest unread left before after reads h =
      record { input = bytes; printed = h.printed; end = h.end; reads = reads; takes = from_start bytes lines h.printed rest h.end h.takes; writes = h.writes }

  -- what stops a script, but for the writer
  abbrev StopsAt : ScriptFault → Memory → Option (List ℕ) → Option (List ℕ) → Option (List ℕ) → Option (List ℕ) → Type 0
  StopsAt fault disk unread left before after =
      (lines : List (List ℕ)) × (rest : List ℕ) × (b : Begins state first lines rest unread left before after) × IsNext fault (length lines) × (IsCause fault b.end rest disk ⊎ EndsBefore fault b.end rest disk left)

  stops_at : (fault : ScriptFault) (bytes : List ℕ) (disk : Memory) (unread left before after : Option (List ℕ)) → start.lines ≡ 0 → Consumes unread left bytes
      → (lines : List (List ℕ)) (rest : List ℕ) (h : Halts start bytes lines rest before after) → IsNext fault (start.lines + length lines) → IsCause fault h.end rest disk → StopsAt fault disk unread left before after
  stops_at fault bytes disk unread left before after zero reads lines rest h next cause =
      (lines, rest, begins bytes lines rest unread left before after reads h, subst (IsNext fault) (omega (arith, zero)) next, inl cause)

  stops_in : (fault : ScriptFault) (bytes : List ℕ) (disk : Memory) (unread left before after : Option (List ℕ)) → start.lines ≡ 0 → Consumes unread left bytes → StopsIn fault start bytes disk before after → Stops state first fault disk unread left before after
  stops_in (NotUnderstood k) bytes disk unread left before after zero reads (lines, rest, h, next, cause) = stops_at (NotUnderstood k) bytes disk unread left before after zero reads lines rest h next cause
  stops_in (faults.Memory refused) bytes disk unread left before after zero reads (lines, rest, h, next, cause) = stops_at (faults.Memory refused) bytes disk unread left before after zero reads lines rest h next cause
  stops_in (Opening refused) bytes disk unread left before after zero reads (lines, rest, h, next, cause) = stops_at (Opening refused) bytes disk unread left before after zero reads lines rest h next cause
  stops_in (Storing refused) bytes disk unread left before after zero reads (lines, rest, h, next, cause) = stops_at (Storing refused) bytes disk unread left before after zero reads lines rest h next cause
  stops_in CountTooLarge bytes disk unread left before after zero reads (lines, rest, h, next, cause) = stops_at CountTooLarge bytes disk unread left before after zero reads lines rest h next cause
  stops_in Input bytes disk unread left before after zero reads (lines, rest, h, next, cause) = stops_at Input bytes disk unread left before after zero reads lines rest h next cause
  stops_in Output bytes disk unread left before after zero reads h =
      (bytes, reads, subst (λ b. Tries (Running (beginning state first)) b bytes disk before after) none (subst (λ s. Tries s start.begun.items bytes disk before after) script h))

  ends_in : (fault : ScriptFault) (bytes : List ℕ) (disk : Memory) (unread left before after : Option (List ℕ)) → start.lines ≡ 0 → Consumes unread left bytes → EndsWithin fault start bytes disk left before after → Stops state first fault disk unread left before after
  ends_in (NotUnderstood k) bytes disk unread left before after zero reads (new, g, at_end, some, e, same) =
      (g.lines, new.begun.items, begins bytes g.lines new.begun.items unread left before after reads (halts start new bytes before after g), omega (arith, e, g.count, zero), inr (at_end, some, g.begun.no_lf, same))
  ends_in (faults.Memory refused) bytes disk unread left before after zero reads h = absurd h
  ends_in (Opening refused) bytes disk unread left before after zero reads h = absurd h
  ends_in (Storing refused) bytes disk unread left before after zero reads h = absurd h
  ends_in CountTooLarge bytes disk unread left before after zero reads h = absurd h
  ends_in Input bytes disk unread left before after zero reads h = absurd h
  ends_in Output bytes disk unread left before after zero reads h = absurd h

  pub stops_script : (fault : ScriptFault) (disk : Memory) (unread left before after : Option (List ℕ)) → start.lines ≡ 0 → Stopped fault start disk unread left before after → Stops state first fault disk unread left before after
  stops_script fault disk unread left before after zero s = elim s.stops [
    | inl h ↦ stops_in fault s.bytes disk unread left before after zero s.reads h
    | inr h ↦ ends_in fault s.bytes disk unread left before after zero s.reads h
  ]

  pub whole : (new : Run) (unread left before after : Option (List ℕ)) → Turned true start new unread left before after → Whole state first (disk_of new.script) unread left before after
  whole new unread left before after t =
      let takes = from_start t.bytes t.goes.lines t.goes.printed new.begun.items new.script t.goes.takes in
      let at_end = t.at_end refl in
      record {
        input = t.bytes;
        printed = t.goes.printed;
        reads = t.reads;
        at_end = at_end.0;
        script = record {
          lines = t.goes.lines;
          whole = takes.whole ∙ ap (λ r. text_of_lines t.goes.lines ++ r) at_end.1 ∙ append-nil (text_of_lines t.goes.lines);
          each = takes.each;
          end = new.script;
          prints = takes.prints;
        };
        disk_is = refl;
        writes = t.goes.writes;
      }

-- a fault before anything was read
at_once : (disk now : Memory) (fault : ScriptFault) (unread contents : Option (List ℕ)) → IsToldAtOnce fault disk now → StopsOver disk fault now unread unread contents contents
at_once disk now fault unread contents told = inl (record { told = told; same_unread = refl; same_written = refl })

pub refused_at_once : (disk : Memory) (fault : ScriptFault) (unread contents : Option (List ℕ)) (e : AllocError) → fault ≡ faults.Memory e → StopsOver disk fault disk unread unread contents contents
refused_at_once disk fault unread contents e is = at_once disk disk fault unread contents (subst (λ f. IsToldAtOnce f disk disk) (sym is) refl)

pub not_opened : (disk now : Memory) (fault : ScriptFault) (unread contents : Option (List ℕ)) (told : OpenFault) → fault ≡ Opening told → IsNotOpened disk told now → StopsOver disk fault now unread unread contents contents
not_opened disk now fault unread contents told is so = at_once disk now fault unread contents (subst (λ f. IsToldAtOnce f disk now) (sym is) so)
