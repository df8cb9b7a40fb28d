use Rattle.std.proofs.lemmas.Result.{err_from_is_err_and}
use Rattle.frame_core.specs.Heads.{meant}
use Rattle.frame_core.proofs.HeaderLines.{header_form, bad_name, bad_value, broken_name, broken_value, header_read}
use Rattle.frame_core.proofs.reader.header_of.Goals as goal

pub returns-in_err-other_name-clause-fault : goal.returns-in_err-other_name-clause-fault
returns-in_err-other_name-clause-fault c =
    let form = header_form c.args.line.now c.in-Some.name.now c.in-Some.value.now c.requires c.in-Some.ensures in
    let p = err_from_is_err_and c.from_residual.result c.from_residual.ensures.1 in
    rw (p.1, p.2) (bad_name c.args.verb c.args.line.now c.in-Some.name.now c.in-Some.value.now c.in_err-other_name.field-0.0 form c.in_err-other_name.ensures.fault)

pub returns-in_err-other_value-clause-fault : goal.returns-in_err-other_value-clause-fault
returns-in_err-other_value-clause-fault c =
    let form = header_form c.args.line.now c.in-Some.name.now c.in-Some.value.now c.requires c.in-Some.ensures in
    let p = err_from_is_err_and c.from_residual-in_err-other_value.result c.from_residual-in_err-other_value.ensures.1 in
    rw (p.1, p.2) (bad_value c.args.verb c.args.line.now c.in-Some.name.now c.in-Some.value.now c.in_err-other_value.field-0.0 form c.in_err-other_value.ensures.fault)

pub returns-in_err-name-clause-fault : goal.returns-in_err-name-clause-fault
returns-in_err-name-clause-fault c =
    let form = header_form c.args.line.now c.in-Some.name.now c.in-Some.value.now c.requires c.in-Some.ensures in
    let p = err_from_is_err_and c.from_residual-in_err-name.result c.from_residual-in_err-name.ensures.1 in
    rw (p.1, p.2) (broken_name c.args.verb c.args.line.now c.in-Some.name.now c.in-Some.value.now (meant c.in-Some.name.now c.in_ok-other_name.other_name)
    (meant c.in-Some.value.now c.in_ok-other_value.other_value) c.in_err-name.field-0.0 form c.in_ok-other_name.ensures.ok c.in_ok-other_value.ensures.ok c.in_err-name.ensures.fault)

pub returns-in_err-value-clause-fault : goal.returns-in_err-value-clause-fault
returns-in_err-value-clause-fault c =
    let form = header_form c.args.line.now c.in-Some.name.now c.in-Some.value.now c.requires c.in-Some.ensures in
    let p = err_from_is_err_and c.from_residual-in_err-value.result c.from_residual-in_err-value.ensures.1 in
    rw (p.1, p.2) (broken_value c.args.verb c.args.line.now c.in-Some.name.now c.in-Some.value.now (meant c.in-Some.name.now c.in_ok-other_name.other_name)
    (meant c.in-Some.value.now c.in_ok-other_value.other_value) c.in_err-value.field-0.0 form c.in_ok-other_name.ensures.ok c.in_ok-other_value.ensures.ok c.in_err-value.ensures.fault)

pub returns-clause-ok : goal.returns-clause-ok
returns-clause-ok c =
    let form = header_form c.args.line.now c.in-Some.name.now c.in-Some.value.now c.requires c.in-Some.ensures in
    header_read c.args.verb c.args.line.now c.in-Some.name.now c.in-Some.value.now (meant c.in-Some.name.now c.in_ok-other_name.other_name)
    (meant c.in-Some.value.now c.in_ok-other_value.other_value) _ _ form
    c.in_ok-other_name.ensures.ok c.in_ok-other_value.ensures.ok c.in_ok-name.ensures.ok c.in_ok-value.ensures.ok
