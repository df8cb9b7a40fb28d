use Rattle.frame_core.proofs.Decided.{an_answer}
use Rattle.frame_core.proofs.OneAnswer.{one_reading, one_fault, fault_or_none}
use Rattle.frame_core.proofs.reader.one_answer.Goals as goal

pub returns : goal.returns
returns c = record { some = an_answer; reads = one_reading; fails = one_fault; apart = fault_or_none }
