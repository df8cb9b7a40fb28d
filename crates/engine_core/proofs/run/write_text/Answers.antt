use Rattle.std.proofs.Common.{ne_eqb, ◌≡◌, ◌≢◌, ◌==◌, ◌∙◌, ◌++◌, ◌∷◌, [], List, ℕ, ap, append-nil, append_assoc, arith, length, refl, subst, sym, true, false}
use Rattle.std.proofs.lemmas.Bool.{false≢true}
use Rattle.std.specs.Io.KnownBytes.{Appends}
use Rattle.engine_core.proofs.LineByLine.{appends_append, appends_nothing}
use Rattle.engine_core.proofs.run.write_text.Goals as goal

none_left : (l : List ℕ) → (length l == 0) ≡ true → l ≡ []
none_left [] none = refl
none_left (b ∷ l) none = absurd (false≢true (sym (ne_eqb (length (b ∷ l)) 0 (λ e. omega (arith, e))) ∙ none))

some_left : (l : List ℕ) → (length l == 0) ≡ false → l ≢ []
some_left [] some e = cc
some_left (b ∷ l) some e = cc

pub loop-write-init : goal.loop-write-init
loop-write-init g c = ([], sym c.as_bytes-rest.ensures.value, appends_nothing _)

pub returns-then-is_empty-2-clause-ok : goal.returns-then-is_empty-2-clause-ok
returns-then-is_empty-2-clause-ok g c =
    let before = c.loop-write.invariant in
    let none : c.loop-write.rest.now ≡ [] = none_left c.loop-write.rest.now (sym c.is_empty-2.ensures ∙ c.if-is_empty-2.true) in
    subst (Appends (g.W.Write.contents c.args.writer.now) (g.W.Write.contents c.loop-write.writer)) (sym (before.1 ∙ (ap (λ r. before.0 ++ r) none ∙ append-nil before.0))) before.2

pub returns-in-Err-clause-err : goal.returns-in-Err-clause-err
returns-in-Err-clause-err g c =
    let before = c.loop-write.invariant in
    let failed = c.in-Err.ensures.err in (
      failed.0,
      before.0,
      c.loop-write.rest.now,
      before.1,
      some_left c.loop-write.rest.now (sym c.is_empty.ensures ∙ c.if-is_empty.false),
      subst (Appends (g.W.Write.contents c.args.writer.now) (g.W.Write.contents c.write_some.new.writer)) (append-nil before.0) (appends_append _ _ _ before.0 [] before.2 failed.1),
    )

pub loop-write-preserved : goal.loop-write-preserved
loop-write-preserved g c =
    let before = c.loop-write.invariant in
    let some = c.in-Ok.ensures.ok in
    (before.0 ++ some.0, before.1 ∙ (ap (λ r. before.0 ++ r) some.1 ∙ sym (append_assoc before.0 some.0 c.in-Ok.left.now)), appends_append _ _ _ before.0 some.0 before.2 some.2)

pub returns-else-is_empty-2-clause-err : goal.returns-else-is_empty-2-clause-err
returns-else-is_empty-2-clause-err g c =
    let before = c.loop-write.invariant in
    (refl, before.0, c.loop-write.rest.now, before.1, some_left c.loop-write.rest.now (sym c.is_empty-2.ensures ∙ c.if-is_empty-2.false), before.2)
