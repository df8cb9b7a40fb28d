use Rattle.std.proofs.Common.{◌≡◌, false, take}
use Rattle.std.specs.List.{AllByRecursion}
use Rattle.std.specs.Ordering.{is_lt}
use Rattle.line_core.specs.declared.message.Message.{Message}
use Rattle.line_core.specs.Lines.{by_number}
use Rattle.line_core.proofs.line.Line.place_from_front.Given as goal

abbrev pub invariant-loop-place : goal.invariant-loop-place
invariant-loop-place l =
    AllByRecursion (λ (x : Message). is_lt (by_number l.number x.number) ≡ false) (take l.place l.self-inside.messages.items)
