use Rattle.std.proofs.Common.{◌≡◌, ◌∙◌, false, true, sym, ap, arith, drop, rules}
use Rattle.std.specs.Cmp.{Some-then}
use Rattle.std.specs.List.{AllByRecursion}
use Rattle.std.specs.Ordering.{is_lt, is_some_and, nat_cmp}
use Rattle.std.proofs.lemmas.List.{drop_all}
use Rattle.line_core.specs.declared.message.Message.{Message}
use Rattle.line_core.specs.Lines.{by_number}
use Rattle.line_core.proofs.Inserted.{stands_behind, stands_first}
use Rattle.line_core.proofs.line.Line.place_of.Goals as goal
use Rattle.line_core.proofs.line.Line.place_of.Goals.{else-count-gt0-via-then-count-gt0+else-lt, else-count-gt0-via-else-count-gt0}

pub returns-clause-place : goal.returns-clause-place
returns-clause-place c =
    let line = c.self.inside.messages.items in
    let number = c.args.number.now in
    let count = c.len-count.result in
    let none_behind : AllByRecursion (λ (x : Message). is_lt (by_number number x.number) ≡ true) (drop count line) = rw (drop_all count line (omega arith)) tt in
    elim c.else-count-gt0.branch [
      | else-count-gt0-via-then-count-gt0+else-lt w ↦
          let last = w.index.result.now in
          let not_under : is_lt (by_number number last.number) ≡ false =
          sym (ap (is_some_and is_lt) (Some-then (nat_cmp number.command last.number.command) (nat_cmp number.place last.number.place))) ∙ sym w.lt.ensures ∙ w.if-lt.false in
          let is = ap (λ (x : Message). is_lt (by_number number x.number)) (sym w.index.ensures) ∙ not_under in
          rw (← c.self.view_is) (stands_behind number last line count (omega arith) c.self.invariant none_behind (omega arith) is)
      | else-count-gt0-via-else-count-gt0 w ↦ rw (← c.self.view_is) (stands_first number line count none_behind (omega arith))
    ]

pub returns-then-lt-clause-place : goal.returns-then-lt-clause-place
returns-then-lt-clause-place c = search rules
