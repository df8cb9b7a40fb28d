use Rattle.std.proofs.Common.{◌≡◌, ◌+◌, ◌∷◌, List, Some, suc, slice_get, subst, sym, take, ap, arith, ℕ}
use Rattle.std.proofs.lemmas.Grind.{common_steps}
use Rattle.std.proofs.lemmas.Option.{gets}
use Rattle.broker_tables.specs.Cursors.{AwaitAllDue, cursors_in}
use Rattle.broker_tables.specs.Scopes.{IsScope}
use Rattle.broker_tables.specs.declared.cursors.Cursor.{Cursor}
use Rattle.broker_tables.specs.declared.cursors.Cursors.{Cursors}
use Rattle.broker_tables.proofs.Awaiting.{due_alike}
use Rattle.broker_tables.proofs.Scopes.{await_none, await_some}
use Rattle.broker_tables.proofs.cursors.Cursors.of.Goals as goal
use Rattle.broker_tables.proofs.cursors.Cursors.of.Goals.{in-Some+in_ok-put, in_default}

pub loop-due-preserved : goal.loop-due-preserved
loop-due-preserved c =
    let marks = c.args.marked.now in
    let ws = c.args.order.now.all in
    let k = c.loop-due.due-index in
    let due = c.due-item.result in
    let there : slice_get marks k ≡ Some due = grind (arith, common_steps, gets) in
    let next : suc k ≡ k + 1 = omega arith in
    subst (λ (n : ℕ). AwaitAllDue (cursors_in c.match-scope_of.cursors) (take n marks) ws) next (elim c.match-scope_of.branch [
      | in-Some+in_ok-put w ↦
          subst (λ (l : Cursors). AwaitAllDue (cursors_in l) (take (suc k) marks) ws) (sym w.cursors-is)
          (due_alike (record { from = 0; scope = w.in-Some.scope } ∷ cursors_in c.loop-due.cursors) (cursors_in w.put.new.self) (take (suc k) marks) ws w.in_ok-put.ensures
          (await_some marks k due there (cursors_in c.loop-due.cursors) w.in-Some.scope ws (subst (IsScope due ws) w.in-Some.is c.scope_of.ensures) c.loop-due.invariant))
      | in_default w ↦
          subst (λ (l : Cursors). AwaitAllDue (cursors_in l) (take (suc k) marks) ws) (sym w.cursors-is)
          (await_none marks k due there (cursors_in c.loop-due.cursors) ws (subst (IsScope due ws) w.in_default.is c.scope_of.ensures) c.loop-due.invariant)
    ])
