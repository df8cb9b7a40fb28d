use Rattle.std.proofs.Common.{◌≡◌, ◌∙◌, ◌∷◌, [], sym, ap, subst, ◌+◌, Option, Some, None, MatchOption, string_bytes}
use Rattle.engine_core.specs.Scripts.{IsLine, Prints, RunsTooFar, disk_of}
use Rattle.std.specs.Io.KnownBytes.{Appends}
use Rattle.std.proofs.lemmas.Result.{err_from_is_err_and}
use Rattle.engine_core.specs.declared.fault.QueueFault.TheVariants.{CountTooLarge}
use Rattle.engine_core.specs.StepFaults.{IsLineTold}
use Rattle.engine_core.proofs.Performing.{Ignores}
use Rattle.engine_core.proofs.LineByLine.{stops_too_long, stops_at_queue, stops_at_no_form, stops_at_writer, goes_on_line}
use Rattle.engine_core.proofs.run.end_line.Goals as goal

pub returns-in_err-begin_line-clause-err : goal.returns-in_err-begin_line-clause-err
returns-in_err-begin_line-clause-err g c =
    let p = err_from_is_err_and c.from_residual.result c.from_residual.ensures.1 in
    rw (p.1, p.2) (stops_too_long c.in_err-begin_line.field-0.0 c.args.run.now c.args.bytes.now (10 ∷ []) _ _ c.requires.begun c.requires.bytes (ap disk_of c.in_err-begin_line.ensures.same.0) c.in_err-begin_line.ensures.err)

pub returns-in_err-perform-clause-err : goal.returns-in_err-perform-clause-err
returns-in_err-perform-clause-err g c =
    let p = err_from_is_err_and c.from_residual-in_err-perform.result c.from_residual-in_err-perform.ensures.1 in
    let begun = c.in_ok-begin_line.ensures in
    let far = subst (λ s. c.in_err-perform.field-0.0 ≡ CountTooLarge → RunsTooFar s c.as_slice.result.now) begun.same.0 c.in_err-perform.ensures.err in
    let told = subst (λ s. IsLineTold s c.as_slice.result.now (disk_of c.perform.new.self) c.in_err-perform.field-0.0) begun.same.0 c.in_err-perform.ensures.told in
    rw (p.1) (stops_at_queue c.in_err-perform.field-0.0 p.0 c.args.run.now (disk_of c.perform.new.self) c.args.bytes.now c.as_slice.result.now _ (c.as_slice.ensures.value ∙ begun.ok.0) (subst IsLine (sym c.as_slice.ensures.value) begun.ok.1) far told p.2)

option_none : {A : Type 0} (P : Type 0) (Q : A → Type 0) (o : Option A) → o ≡ None → MatchOption o P Q → P
option_none P Q None e h = h
option_none P Q (Some x) e h = cc

option_some : {A : Type 0} (P : Type 0) (Q : A → Type 0) (o : Option A) (x : A) → o ≡ Some x → MatchOption o P Q → Q x
option_some P Q None x e h = cc
option_some P Q (Some y) x e h = let same : y ≡ x = cc in subst Q same h

pub returns-in-None-clause-err : goal.returns-in-None-clause-err
returns-in-None-clause-err g c =
    let begun = c.in_ok-begin_line.ensures in
    let line = c.as_slice.result.now in
    let none = subst (λ s. Ignores s line c.perform.new.self) begun.same.0 (option_none (Ignores c.begin_line.new.run.script line c.perform.new.self) (λ text. Prints c.begin_line.new.run.script line (string_bytes text) c.perform.new.self) c.in_ok-perform.field-0 c.in-None.is c.in_ok-perform.ensures.ok) in
    stops_at_no_form c.args.run.now _ c.args.bytes.now line _ _ c.requires.begun c.requires.bytes (c.as_slice.ensures.value ∙ begun.ok.0) none.0 (ap disk_of none.1) (ap (λ n. n + 1) begun.same.1)

pub returns-in_ok-written-in-Some-clause-ok : goal.returns-in_ok-written-in-Some-clause-ok
returns-in_ok-written-in-Some-clause-ok g c =
    let begun = c.in_ok-begin_line.ensures in
    let text = c.in-Some.text in
    let line = c.as_slice.result.now in
    let some = option_some (Ignores c.begin_line.new.run.script line c.perform.new.self) (λ t. Prints c.begin_line.new.run.script line (string_bytes t) c.perform.new.self) c.in_ok-perform.field-0 text c.in-Some.is c.in_ok-perform.ensures.ok in
    goes_on_line c.args.run.now _ c.args.bytes.now line (string_bytes text) _ _ (c.as_slice.ensures.value ∙ begun.ok.0)
    (subst IsLine (sym c.as_slice.ensures.value) begun.ok.1)
    (subst (λ s. Prints s line (string_bytes text) c.perform.new.self) begun.same.0 some)
    c.clear.ensures.items (ap (λ n. n + 1) begun.same.1)
    (subst (λ t. Appends (g.W.Write.contents c.args.writer.now) (g.W.Write.contents c.write_text-written.new.writer) t) c.as_str.ensures.value c.in_ok-written-in-Some.ensures.ok)

pub returns-in_err-written-in-Some-clause-err : goal.returns-in_err-written-in-Some-clause-err
returns-in_err-written-in-Some-clause-err g c =
    let begun = c.in_ok-begin_line.ensures in
    let text = c.in-Some.text in
    let line = c.as_slice.result.now in
    let p = err_from_is_err_and c.from_residual-in_err-written-in-Some.result c.from_residual-in_err-written-in-Some.ensures.1 in
    let some = option_some (Ignores c.begin_line.new.run.script line c.perform.new.self) (λ t. Prints c.begin_line.new.run.script line (string_bytes t) c.perform.new.self) c.in_ok-perform.field-0 text c.in-Some.is c.in_ok-perform.ensures.ok in
    let failed = c.in_err-written-in-Some.ensures.err in
    rw (p.1, p.2, failed.0) (stops_at_writer c.args.run.now c.args.bytes.now line (string_bytes text) c.perform.new.self _ _ failed.1 failed.2 (c.as_slice.ensures.value ∙ begun.ok.0)
    (subst IsLine (sym c.as_slice.ensures.value) begun.ok.1)
    (subst (λ s. Prints s line (string_bytes text) c.perform.new.self) begun.same.0 some) (sym c.as_str.ensures.value ∙ failed.3) failed.4 failed.5)
