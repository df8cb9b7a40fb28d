-- A run over a piece, line by line.
use Rattle.std.proofs.Common.{◌≡◌, ◌+◌, ◌-◌, ◌≤◌, List, [], ◌∷◌, ◌++◌, ℕ, Option, codes, length, take, drop, ap, sym, ◌∙◌, append_assoc, append-nil, arith, subst, length-append, length-drop, inl, inr, take_all}
use Rattle.std.proofs.Math.Seq.{take-add, take-append_seam}
use Rattle.std.proofs.lemmas.List.{take-append-drop}
use Rattle.disk_core.specs.Memory.{Memory}
use Rattle.flush_core.specs.declared.faults.FlushFault.{FlushFault}
use Rattle.recover_core.specs.declared.faults.OpenFault.{OpenFault}
use Rattle.engine_core.specs.declared.script.Script.{Script}
use Rattle.engine_core.specs.Scripts.{Takes, IsLine, HasNoLf, HasNoLine, HasLineTooFar, disk_of, text_of_lines}
use Rattle.engine_core.specs.StepFaults.{HasLineNotOpened, HasLineNotStored}
use Rattle.engine_core.specs.Runs.{Goes, Halts, IsCause, IsNext, IsTooLong, StopsIn}
use Rattle.engine_core.specs.declared.so_far.Run.{Run}
use Rattle.engine_core.specs.declared.fault.ScriptFault.{ScriptFault}
use Rattle.engine_core.specs.declared.fault.ScriptFault.TheVariants.{NotUnderstood, CountTooLarge, Opening, Storing, Input, Output}
use Rattle.engine_core.specs.declared.fault.ScriptFault.TheVariants as faults
use Rattle.std.specs.Io.KnownBytes.{Appends}
use Rattle.engine_core.proofs.LineByLine.{takes_append, appends_append, takes_nothing, appends_nothing, stops_too_long}

pub goes_nothing : (run : Run) (contents : Option (List ℕ)) → IsLine run.begun.items → Goes run [] run contents contents
goes_nothing run contents line = record {
  lines = [];
  printed = [];
  takes = subst (λ r. Takes run.script run.begun.items [] [] [] run.script r) (append-nil run.begun.items) (takes_nothing run.script run.begun.items []);
  begun = line;
  count = omega arith;
  few = omega arith;
  writes = appends_nothing contents;
}

pub goes_append : (old mid new : Run) (x y : List ℕ) (before middle after : Option (List ℕ)) → Goes old x mid before middle → Goes mid y new middle after → Goes old (x ++ y) new before after
goes_append old mid new x y before middle after first second = record {
  lines = first.lines ++ second.lines;
  printed = first.printed ++ second.printed;
  takes = takes_append old.script mid.script new.script old.begun.items x y first.lines second.lines first.printed second.printed mid.begun.items new.begun.items first.takes second.takes;
  begun = second.begun;
  count = omega (arith, first.count, second.count, length-append first.lines second.lines);
  few = omega (arith, first.few, second.few, length-append first.lines second.lines, length-append x y);
  writes = appends_append before middle after first.printed second.printed first.writes second.writes;
}

abbrev halts_later : (old mid : Run) (x y : List ℕ) (lines : List (List ℕ)) (rest : List ℕ) (before middle after : Option (List ℕ)) (g : Goes old x mid before middle) → Halts mid y lines rest middle after → Halts old (x ++ y) (g.lines ++ lines) rest before after
halts_later old mid x y lines rest before middle after g h = record {
  printed = g.printed ++ h.printed;
  end = h.end;
  takes = takes_append old.script mid.script h.end old.begun.items x y g.lines lines g.printed h.printed mid.begun.items rest g.takes h.takes;
  writes = appends_append before middle after g.printed h.printed g.writes h.writes;
}

-- the number of the line that is next
next_later : (fault : ScriptFault) (lines more : ℕ) → lines ≡ more → IsNext fault lines → IsNext fault more
next_later fault lines more same next = subst (IsNext fault) same next

-- what stops a run within bytes, but for the writer
abbrev Halted : ScriptFault → Run → List ℕ → Memory → Option (List ℕ) → Option (List ℕ) → Type 0
Halted fault old bytes disk before after =
    (lines : List (List ℕ)) × (rest : List ℕ) × (h : Halts old bytes lines rest before after) × IsNext fault (old.lines + length lines) × IsCause fault h.end rest disk

halted_later : (fault : ScriptFault) (old mid : Run) (x y : List ℕ) (disk : Memory) (before middle after : Option (List ℕ)) → Goes old x mid before middle → Halted fault mid y disk middle after → Halted fault old (x ++ y) disk before after
halted_later fault old mid x y disk before middle after g (lines, rest, h, next, cause) =
    (g.lines ++ lines, rest, halts_later old mid x y lines rest before middle after g h, next_later fault (mid.lines + length lines) (old.lines + length (g.lines ++ lines)) (omega (arith, g.count, length-append g.lines lines)) next, cause)

pub stops_later : (fault : ScriptFault) (old mid : Run) (x y : List ℕ) (disk : Memory) (before middle after : Option (List ℕ)) → Goes old x mid before middle → StopsIn fault mid y disk middle after → StopsIn fault old (x ++ y) disk before after
stops_later (NotUnderstood k) old mid x y disk before middle after g h = halted_later (NotUnderstood k) old mid x y disk before middle after g h
stops_later (faults.Memory refused) old mid x y disk before middle after g h = halted_later (faults.Memory refused) old mid x y disk before middle after g h
stops_later (Opening refused) old mid x y disk before middle after g h = halted_later (Opening refused) old mid x y disk before middle after g h
stops_later (Storing refused) old mid x y disk before middle after g h = halted_later (Storing refused) old mid x y disk before middle after g h
stops_later CountTooLarge old mid x y disk before middle after g h = halted_later CountTooLarge old mid x y disk before middle after g h
stops_later Input old mid x y disk before middle after g h = halted_later Input old mid x y disk before middle after g h
stops_later Output old mid x y disk before middle after g h = record {
  lines = g.lines ++ h.lines;
  rest = h.rest;
  printed = g.printed ++ h.printed;
  end = h.end;
  takes = takes_append old.script mid.script h.end old.begun.items x y g.lines h.lines g.printed h.printed mid.begun.items h.rest g.takes h.takes;
  line = h.line;
  behind = h.behind;
  text = h.text;
  next = h.next;
  begins = h.begins;
  is_line = h.is_line;
  prints = h.prints;
  disk_is = h.disk_is;
  written = h.written;
  unwritten = h.unwritten;
  split = h.split;
  left = h.left;
  writes = subst (Appends before after) (sym (append_assoc g.printed h.printed h.written)) (appends_append before middle after g.printed (h.printed ++ h.written) g.writes h.writes);
}

takes_before : (s t : Script) (begun x z : List ℕ) (lines : List (List ℕ)) (printed rest : List ℕ) → Takes s begun x lines printed t rest → Takes s begun (x ++ z) lines printed t (rest ++ z)
takes_before s t begun x z lines printed rest takes = record {
  whole = sym (append_assoc begun x z) ∙ ap (λ l. l ++ z) takes.whole ∙ append_assoc (text_of_lines lines) rest z;
  each = takes.each;
  prints = takes.prints;
}

abbrev halts_before : (old : Run) (x z : List ℕ) (lines : List (List ℕ)) (rest : List ℕ) (before after : Option (List ℕ)) → Halts old x lines rest before after → Halts old (x ++ z) lines (rest ++ z) before after
halts_before old x z lines rest before after h = record {
  printed = h.printed;
  end = h.end;
  takes = takes_before old.script h.end old.begun.items x z lines h.printed rest h.takes;
  writes = h.writes;
}

no_line_before : (s : Script) (rest z : List ℕ) → HasNoLine s rest → HasNoLine s (rest ++ z)
no_line_before s rest z (inl (line, behind, whole, no_lf, long)) = inl (line, behind ++ z, ap (λ l. l ++ z) whole ∙ append_assoc line behind z, no_lf, long)
no_line_before s rest z (inr (line, behind, whole, no_lf, form)) = inr (line, behind ++ z, ap (λ l. l ++ z) whole ∙ append_assoc line (10 ∷ behind) z, no_lf, form)

too_far_before : (s : Script) (rest z : List ℕ) → HasLineTooFar s rest → HasLineTooFar s (rest ++ z)
too_far_before s rest z (line, behind, whole, is_line, far) = (line, behind ++ z, ap (λ l. l ++ z) whole ∙ append_assoc line (10 ∷ behind) z, is_line, far)

not_opened_before : (s : Script) (fault : OpenFault) (disk : Memory) (rest z : List ℕ) → HasLineNotOpened s fault rest disk → HasLineNotOpened s fault (rest ++ z) disk
not_opened_before s fault disk rest z (behind, whole, shut) = (behind ++ z, ap (λ l. l ++ z) whole ∙ append_assoc (codes "open") (10 ∷ behind) z, shut)

not_stored_before : (s : Script) (fault : FlushFault) (disk : Memory) (rest z : List ℕ) → HasLineNotStored s fault rest disk → HasLineNotStored s fault (rest ++ z) disk
not_stored_before s fault disk rest z (line, behind, whole, is_line, lost) = (line, behind ++ z, ap (λ l. l ++ z) whole ∙ append_assoc line (10 ∷ behind) z, is_line, lost)

cause_before : (fault : ScriptFault) (s : Script) (rest z : List ℕ) (disk : Memory) → IsCause fault s rest disk → IsCause fault s (rest ++ z) disk
cause_before (NotUnderstood k) s rest z disk cause = (no_line_before s rest z cause.0, cause.1)
cause_before (faults.Memory refused) s rest z disk cause = cause
cause_before (Opening refused) s rest z disk cause = not_opened_before s refused disk rest z cause
cause_before (Storing refused) s rest z disk cause = not_stored_before s refused disk rest z cause
cause_before CountTooLarge s rest z disk cause = (too_far_before s rest z cause.0, cause.1)
cause_before Input s rest z disk cause = cause
cause_before Output s rest z disk cause = cause

halted_before : (fault : ScriptFault) (old : Run) (x z : List ℕ) (disk : Memory) (before after : Option (List ℕ)) → Halted fault old x disk before after → Halted fault old (x ++ z) disk before after
halted_before fault old x z disk before after (lines, rest, h, next, cause) = (lines, rest ++ z, halts_before old x z lines rest before after h, next, cause_before fault h.end rest z disk cause)

pub stops_before : (fault : ScriptFault) (old : Run) (x z : List ℕ) (disk : Memory) (before after : Option (List ℕ)) → StopsIn fault old x disk before after → StopsIn fault old (x ++ z) disk before after
stops_before (NotUnderstood k) old x z disk before after h = halted_before (NotUnderstood k) old x z disk before after h
stops_before (faults.Memory refused) old x z disk before after h = halted_before (faults.Memory refused) old x z disk before after h
stops_before (Opening refused) old x z disk before after h = halted_before (Opening refused) old x z disk before after h
stops_before (Storing refused) old x z disk before after h = halted_before (Storing refused) old x z disk before after h
stops_before CountTooLarge old x z disk before after h = halted_before CountTooLarge old x z disk before after h
stops_before Input old x z disk before after h = halted_before Input old x z disk before after h
stops_before Output old x z disk before after h = record {
  lines = h.lines;
  rest = h.rest ++ z;
  printed = h.printed;
  end = h.end;
  takes = takes_before old.script h.end old.begun.items x z h.lines h.printed h.rest h.takes;
  line = h.line;
  behind = h.behind ++ z;
  text = h.text;
  next = h.next;
  begins = ap (λ l. l ++ z) h.begins ∙ append_assoc h.line (10 ∷ h.behind) z;
  is_line = h.is_line;
  prints = h.prints;
  disk_is = h.disk_is;
  written = h.written;
  unwritten = h.unwritten;
  split = h.split;
  left = h.left;
  writes = h.writes;
}

-- what is left of a piece from a place on
abbrev pub left_of : List ℕ → ℕ → List ℕ
left_of piece at = take (length piece - at) (drop at piece)

pub all_left : (piece : List ℕ) (at : ℕ) → left_of piece at ≡ drop at piece
all_left piece at = take_all (length piece - at) (drop at piece) (omega (arith, length-drop at piece))

-- a line at a place of a piece
pub record LineAt (piece : List ℕ) (at : ℕ) (front : List ℕ) : Type 0 where
  pub within : at + length front + 1 ≤ length piece
  pub taken : take (at + length front + 1) piece ≡ take at piece ++ (front ++ 10 ∷ [])

pub line_at : (piece : List ℕ) (at : ℕ) (front : List ℕ) → at ≤ length piece → left_of piece at ≡ front ++ 10 ∷ drop (length front + 1) (left_of piece at) → LineAt piece at front
line_at piece at front l e =
    let more = drop (length front + 1) (left_of piece at) in
    let rest : drop at piece ≡ (front ++ 10 ∷ []) ++ more = sym (all_left piece at) ∙ e ∙ sym (append_assoc front (10 ∷ []) more) in
    let n : length (front ++ 10 ∷ []) ≡ length front + 1 = length-append front (10 ∷ []) in
    let long : length (drop at piece) ≡ length (front ++ 10 ∷ []) + length more = ap length rest ∙ length-append (front ++ 10 ∷ []) more in
    let first : take (length front + 1) (drop at piece) ≡ front ++ 10 ∷ [] = ap (take (length front + 1)) rest ∙ ap (λ k. take k ((front ++ 10 ∷ []) ++ more)) (sym n) ∙ take-append_seam (front ++ 10 ∷ []) more in
    let sum : at + length front + 1 ≡ at + (length front + 1) = omega arith in
    record {
      within = omega (arith, long, n, length-drop at piece);
      taken = ap (λ k. take k piece) sum ∙ take-add at (length front + 1) piece ∙ ap (λ l. take at piece ++ l) first;
    }

-- a line goes on
pub goes_on : (old mid new : Run) (piece : List ℕ) (at : ℕ) (front : List ℕ) (before middle after : Option (List ℕ)) → LineAt piece at front
    → Goes old (take at piece) mid before middle → Goes mid (front ++ 10 ∷ []) new middle after → Goes old (take (at + length front + 1) piece) new before after
goes_on old mid new piece at front before middle after line first second =
    subst (λ x. Goes old x new before after) (sym line.taken) (goes_append old mid new (take at piece) (front ++ 10 ∷ []) before middle after first second)

-- a line stops
pub stops_on : (fault : ScriptFault) (old mid : Run) (piece : List ℕ) (at : ℕ) (front : List ℕ) (disk : Memory) (before middle after : Option (List ℕ)) → LineAt piece at front
    → Goes old (take at piece) mid before middle → StopsIn fault mid (front ++ 10 ∷ []) disk middle after → StopsIn fault old piece disk before after
stops_on fault old mid piece at front disk before middle after line first second =
    let stopped = stops_later fault old mid (take at piece) (front ++ 10 ∷ []) disk before middle after first second in
    let n = at + length front + 1 in
    let here : StopsIn fault old (take n piece) disk before after = subst (λ x. StopsIn fault old x disk before after) (sym line.taken) stopped in
    subst (λ x. StopsIn fault old x disk before after) (take-append-drop n piece) (stops_before fault old (take n piece) (drop n piece) disk before after here)

-- the last part of a piece is too long
pub stops_at_end : (fault : ScriptFault) (old mid : Run) (piece : List ℕ) (at : ℕ) (disk : Memory) (before after : Option (List ℕ)) → Goes old (take at piece) mid before after → HasNoLf (left_of piece at)
    → disk ≡ disk_of mid.script → IsTooLong fault mid (left_of piece at) → StopsIn fault old piece disk before after
stops_at_end fault old mid piece at disk before after first no_lf same long =
    let stopped : StopsIn fault mid (left_of piece at ++ []) disk after after = stops_too_long fault mid (left_of piece at) [] disk after first.begun no_lf same long in
    let rest : left_of piece at ++ [] ≡ drop at piece = append-nil (left_of piece at) ∙ all_left piece at in
    let here : StopsIn fault mid (drop at piece) disk after after = subst (λ x. StopsIn fault mid x disk after after) rest stopped in
    subst (λ x. StopsIn fault old x disk before after) (take-append-drop at piece) (stops_later fault old mid (take at piece) (drop at piece) disk before after after first here)
