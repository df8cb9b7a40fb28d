use Rattle.std.proofs.Common.{◌∙◌, ◌≡◌, [], List, ap, arith, length, subst, sym, false}
use Rattle.std.proofs.Common.{eqb-true}
use Rattle.std.proofs.lemmas.Bool.{eqb-false}
use Rattle.area_core.specs.Areas.{commands}
use Rattle.command_core.specs.Commands.{CommandValue}
use Rattle.command_core.specs.Entries.{EntryValue}
use Rattle.outbox_core.specs.Boxes.{SenderValue}
use Rattle.flush_core.specs.Batches.{from_on}
use Rattle.flush_core.specs.Flusher.{Flushed, IsFlusher, gathered}
use Rattle.flush_core.proofs.FlusherKeeps.{nothing}
use Rattle.flush_core.proofs.TakenCommands.{length_commands}
use Rattle.flush_core.proofs.flusher.Flusher.has_none.Goals as goal

pub returns-clause-none : goal.returns-clause-none
returns-clause-none g c = λ t.
    let it = c.self.inside in
    let whole : it.broken ≡ false = ap (λ (f : Flushed g.row.D.Denot). f.broken) c.self.view_is ∙ c.requires.whole in
    let zero : it.batch.len ≡ 0 = eqb-true it.batch.len 0 (sym c.is_empty.ensures ∙ t) in
    let none : commands it.batch.items ≡ [] = ap (λ (l : List (EntryValue SenderValue)). commands l) (nothing it.batch.items (omega (arith, zero, it.batch.ok.0))) in
    subst (λ (f : Flushed g.row.D.Denot). gathered f ≡ []) c.self.view_is (sym (c.self.invariant.1 whole).batch_is ∙ none)

pub returns-clause-some : goal.returns-clause-some
returns-clause-some g c = λ t none.
    let it = c.self.inside in
    let whole : it.broken ≡ false = ap (λ (f : Flushed g.row.D.Denot). f.broken) c.self.view_is ∙ c.requires.whole in
    let empty : from_on it.seat it.stored ≡ [] = subst (λ (f : Flushed g.row.D.Denot). gathered f ≡ []) (sym c.self.view_is) none in
    let zero : it.batch.len ≡ 0 = omega (arith, it.batch.ok.0, length_commands it.batch.items, ap (λ (l : List CommandValue). length l) (c.self.invariant.1 whole).batch_is, ap (λ (l : List CommandValue). length l) empty) in
    eqb-false it.batch.len 0 (sym c.is_empty.ensures ∙ t) zero

pub returns-clause-kept : goal.returns-clause-kept
returns-clause-kept g c = subst (λ (f : Flushed g.row.D.Denot). IsFlusher g.D.Disk.honest g.D.Disk.images f) c.self.view_is c.self.invariant.0
