use Rattle.session_core.proofs.Hearings.{heard_as_one, heard_in_one_way, nothing_heard, pieces_as_one}
use Rattle.session_core.proofs.laws.pieces_are_heard_as_one.Goals as goal

pub returns-clause-joined : goal.returns-clause-joined
returns-clause-joined c = pieces_as_one

pub returns-clause-one : goal.returns-clause-one
returns-clause-one c = heard_in_one_way

pub returns-clause-kept : goal.returns-clause-kept
returns-clause-kept c = heard_as_one

pub returns-clause-over : goal.returns-clause-over
returns-clause-over c = nothing_heard
