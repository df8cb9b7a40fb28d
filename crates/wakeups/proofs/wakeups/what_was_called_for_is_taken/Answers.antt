use Rattle.wakeups.proofs.Keeping.{four_run, four_take}
use Rattle.wakeups.proofs.wakeups.what_was_called_for_is_taken.Goals as goal

pub returns : goal.returns
returns c = record {
  taken = λ steps m n reported runs waits called no_one ran. four_take steps m reported runs waits called no_one n ran;
  possible = λ steps m reported runs waits called no_one. four_run steps m reported runs waits called no_one;
}
