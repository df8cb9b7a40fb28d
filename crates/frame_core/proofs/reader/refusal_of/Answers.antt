use Rattle.std.proofs.Common.{rules, ◌∙◌, inl, inr, refl, sym}
use Rattle.std.specs.Str.{IsUtf8}
use Rattle.frame_core.proofs.HeaderLines.{header_form, header_read}
use Rattle.frame_core.proofs.Meanings.{has_meant, has_none, meant_utf8, stands_utf8}
use Rattle.frame_core.proofs.reader.refusal_of.Goals as goal

pub returns-then-not-has_meaning : goal.returns-then-not-has_meaning
returns-then-not-has_meaning c =
    let name = c.in-Some.name.now in
    let value = c.in-Some.value.now in
    let form = header_form c.args.line.now name value c.requires c.in-Some.ensures in
    (name, value, form, inl (has_none c.args.verb name (sym c.has_meaning.ensures ∙ c.if-not-has_meaning.true)))

pub returns-then-not-has_meaning-2 : goal.returns-then-not-has_meaning-2
returns-then-not-has_meaning-2 c =
    let name = c.in-Some.name.now in
    let value = c.in-Some.value.now in
    let form = header_form c.args.line.now name value c.requires c.in-Some.ensures in
    (name, value, form, inr (has_none c.args.verb value (sym c.has_meaning-2.ensures ∙ c.if-not-has_meaning-2.true)))

pub returns-in_default-from_utf8 : goal.returns-in_default-from_utf8
returns-in_default-from_utf8 c =
    let name = c.in-Some.name.now in
    let value = c.in-Some.value.now in
    let form = header_form c.args.line.now name value c.requires c.in-Some.ensures in
    let n = has_meant c.args.verb name (sym c.has_meaning.ensures ∙ c.if-not-has_meaning.false) in
    let v = has_meant c.args.verb value (sym c.has_meaning-2.ensures ∙ c.if-not-has_meaning-2.false) in
    let broken : IsUtf8 name → ⊥ = search rules in
    (name, value, (n.0, v.0), form, n.1, v.1, inl (λ utf8. broken (stands_utf8 c.args.verb name n.0 n.1 utf8)))

pub returns-in_default-from_utf8-2 : goal.returns-in_default-from_utf8-2
returns-in_default-from_utf8-2 c =
    let name = c.in-Some.name.now in
    let value = c.in-Some.value.now in
    let form = header_form c.args.line.now name value c.requires c.in-Some.ensures in
    let n = has_meant c.args.verb name (sym c.has_meaning.ensures ∙ c.if-not-has_meaning.false) in
    let v = has_meant c.args.verb value (sym c.has_meaning-2.ensures ∙ c.if-not-has_meaning-2.false) in
    let broken : IsUtf8 value → ⊥ = search rules in
    (name, value, (n.0, v.0), form, n.1, v.1, inr (λ utf8. broken (stands_utf8 c.args.verb value v.0 v.1 utf8)))

pub returns : goal.returns
returns c =
    let name = c.in-Some.name.now in
    let value = c.in-Some.value.now in
    let form = header_form c.args.line.now name value c.requires c.in-Some.ensures in
    let n = has_meant c.args.verb name (sym c.has_meaning.ensures ∙ c.if-not-has_meaning.false) in
    let v = has_meant c.args.verb value (sym c.has_meaning-2.ensures ∙ c.if-not-has_meaning-2.false) in
    let n_utf8 : IsUtf8 name = search rules in
    let v_utf8 : IsUtf8 value = search rules in (
      (n.0, v.0),
      header_read c.args.verb c.args.line.now name value n.0 v.0 n.0 v.0 form n.1 v.1
          (refl, meant_utf8 c.args.verb name n.0 n.1 n_utf8) (refl, meant_utf8 c.args.verb value v.0 v.1 v_utf8),
    )
