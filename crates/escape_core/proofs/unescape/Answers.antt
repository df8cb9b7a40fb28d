use Rattle.std.proofs.Common.{arith, rules, ◌≡◌, ◌∙◌, [], sym, refl}
use Rattle.std.proofs.lemmas.Grind.{common_steps}
use Rattle.escape_core.specs.Escapes.{unescaped}
use Rattle.escape_core.proofs.Reading.{read_escape, read_plain, read_backslash, read_end, known_escape, none_from_undefined, after-nil}
use Rattle.escape_core.proofs.unescape.Goals as goal
use Rattle.escape_core.proofs.unescape.Goals.{then-in_escape, else-in_escape+else-b-eq92}

pub returns-then-not-is_defined-clause-undefined :
    goal.returns-then-not-is_defined-clause-undefined
returns-then-not-is_defined-clause-undefined c =
    let none = none_from_undefined (unescaped c.args.bytes.now) (sym c.is_defined.ensures ∙ c.if-not-is_defined.true) in
    (λ _. none, λ _. refl)

pub loop-b-init : goal.loop-b-init
loop-b-init c =
    let empty : c.in_ok-text.text.items ≡ [] = grind (arith, common_steps) in
    rw empty (sym (after-nil (unescaped c.args.bytes.now)))

pub loop-b-preserved : goal.loop-b-preserved
loop-b-preserved c =
    let bytes = c.args.bytes.now in
    let i = c.loop-b.b-index in
    let text = c.loop-b.text.items in
    let next = c.push.new.self.items in
    elim c.if-in_escape.branch [
      | then-in_escape w ↦ read_escape bytes text next _ _ i w.unwrap-meant.result (omega arith) w.if-in_escape.true refl (grind (arith, common_steps)) (grind (arith, common_steps)) c.loop-b.invariant
      | else-in_escape+else-b-eq92 w ↦ read_plain bytes text next _ _ i (omega arith) w.if-in_escape.false refl (λ e. omega arith) (grind (arith, common_steps)) c.loop-b.invariant
    ]

pub returns-in_err-text-clause-undefined : goal.returns-in_err-text-clause-undefined
returns-in_err-text-clause-undefined c = search rules

pub returns-clause-undefined : goal.returns-clause-undefined
returns-clause-undefined c = grind (arith, common_steps)

pub unwrap-meant-requires : goal.unwrap-meant-requires
unwrap-meant-requires c =
    let known = sym c.is_defined.ensures ∙ c.if-not-is_defined.false in
    rw c.meaning_of.ensures (known_escape c.args.bytes.now c.loop-b.text.items _ _ c.loop-b-test.true c.if-in_escape.true known c.loop-b.invariant)

pub loop-b-preserved-then-b-eq92 : goal.loop-b-preserved-then-b-eq92
loop-b-preserved-then-b-eq92 c =
    read_backslash c.args.bytes.now c.loop-b.text.items _ _ c.loop-b-test.true c.if-in_escape.false c.if-b-eq92.true c.loop-b.invariant

pub returns-clause-ok : goal.returns-clause-ok
returns-clause-ok c =
    let known = sym c.is_defined.ensures ∙ c.if-not-is_defined.false in
    read_end c.args.bytes.now c.loop-b.text.items _ _ c.loop-b-test.false known c.loop-b.invariant

pub returns-in_err-map_err-clause-undefined : goal.returns-in_err-map_err-clause-undefined
returns-in_err-map_err-clause-undefined c = search rules

pub returns-in_err-map_err-clause-ok : goal.returns-in_err-map_err-clause-ok
returns-in_err-map_err-clause-ok c = search rules

pub returns-in_err-text-clause-ok : goal.returns-in_err-text-clause-ok
returns-in_err-text-clause-ok c = search rules
