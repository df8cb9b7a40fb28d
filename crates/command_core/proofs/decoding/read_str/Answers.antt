use Rattle.std.proofs.Common.{◌≡◌, refl, sym, subst}
use Rattle.std.proofs.lemmas.Bool.{false≢true}
use Rattle.command_core.specs.Texts.{IsHeaderText}
use Rattle.command_core.proofs.RecordTexts.{none_read, text_read}
use Rattle.command_core.proofs.decoding.read_str.Goals as goal

pub returns-in_default-clause-read : goal.returns-in_default-clause-read
returns-in_default-clause-read c =
    let read = c.in_ok-text in
    none_read c.args.bytes.now read.text.now read.rest.now read.ensures.read (λ form. c.in_default.ensures.cases.0 form.utf8)

pub returns-then-not-is_header_text-clause-read : goal.returns-then-not-is_header_text-clause-read
returns-then-not-is_header_text-clause-read c =
    let read = c.in_ok-text in
    let same : c.in-Ok.text.now ≡ read.text.now = c.in-Ok.ensures.cases.0 in
    none_read c.args.bytes.now read.text.now read.rest.now read.ensures.read (λ form. false≢true (c.if-not-is_header_text.ensures.1 (subst IsHeaderText (sym same) form.form)))

pub returns-clause-read : goal.returns-clause-read
returns-clause-read c =
    let read = c.in_ok-text in
    let said = c.in-Ok.ensures.cases in
    rw said.0 (text_read c.args.bytes.now read.text.now read.rest.now read.ensures.read (record { utf8 = said.1; form = subst IsHeaderText said.0 (c.if-not-is_header_text.ensures.0 refl) }))
