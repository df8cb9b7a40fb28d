use Rattle.std.proofs.Common.{arith, ap, inl, inr, length, subst, sym, take, ◌∙◌, ◌≡◌, ◌<◌, ◌≤◌, ◌+◌, [], false, List, ℕ}
use Rattle.std.proofs.lemmas.Bool.{cases_lt}
use Rattle.area_core.specs.Areas.{commands}
use Rattle.command_core.specs.Commands.{CommandValue}
use Rattle.command_core.specs.Entries.{EntryValue}
use Rattle.outbox_core.specs.Boxes.{SenderValue}
use Rattle.flush_core.specs.Batches.{from_on}
use Rattle.flush_core.specs.Flusher.{Flushed, gathered}
use Rattle.flush_core.specs.Room.{IsTooLong}
use Rattle.flush_core.proofs.FlusherKeeps.{nothing}
use Rattle.flush_core.proofs.TakenCommands.{length_commands}
use Rattle.flush_core.proofs.flusher.Flusher.fitting.Goals as goal

pub returns-clause-within : goal.returns-clause-within
returns-clause-within g c =
    let it = c.self.inside in
    let w : it.broken ≡ false = ap (λ (f : Flushed g.row.D.Denot). f.broken) c.self.view_is ∙ c.requires.whole in
    let is : commands c.deref.result.now ≡ from_on it.seat it.stored = ap (λ l. commands l) c.deref.ensures.value ∙ (c.self.invariant.1 w).batch_is in
    subst (λ (f : Flushed g.row.D.Denot). c.count_fitting.result ≤ length (gathered f)) c.self.view_is
    (omega (arith, c.count_fitting.ensures.within, length_commands c.deref.result.now, ap (λ (l : List CommandValue). length l) is))

pub returns-clause-some : goal.returns-clause-some
returns-clause-some g c =
    let it = c.self.inside in
    let w : it.broken ≡ false = ap (λ (f : Flushed g.row.D.Denot). f.broken) c.self.view_is ∙ c.requires.whole in
    let is : commands c.deref.result.now ≡ from_on it.seat it.stored = ap (λ l. commands l) c.deref.ensures.value ∙ (c.self.invariant.1 w).batch_is in
    elim (cases_lt 0 (length c.deref.result.now)) [
      | inl some ↦ c.count_fitting.ensures.some some
      | inr none ↦ absurd (c.requires.some (subst (λ (f : Flushed g.row.D.Denot). gathered f ≡ []) c.self.view_is
          (sym is ∙ ap (λ (l : List (EntryValue SenderValue)). commands l) (nothing c.deref.result.now (omega (arith, none))))))
    ]

pub returns-clause-one : goal.returns-clause-one
returns-clause-one g c =
    let it = c.self.inside in
    let w : it.broken ≡ false = ap (λ (f : Flushed g.row.D.Denot). f.broken) c.self.view_is ∙ c.requires.whole in
    let is : commands c.deref.result.now ≡ from_on it.seat it.stored = ap (λ l. commands l) c.deref.ensures.value ∙ (c.self.invariant.1 w).batch_is in
    subst (λ (f : Flushed g.row.D.Denot). IsTooLong f.size f.used (take c.count_fitting.result (gathered f)) → IsTooLong f.size f.used (take 1 (gathered f))) c.self.view_is
    (subst (λ (z : ℕ × ℕ × List CommandValue). IsTooLong z.0 z.1 (take c.count_fitting.result z.2) → IsTooLong z.0 z.1 (take 1 z.2)) (λ i. (c.size.ensures i, c.used.ensures i, is i)) c.count_fitting.ensures.one)

pub returns-clause-more : goal.returns-clause-more
returns-clause-more g c =
    let it = c.self.inside in
    let w : it.broken ≡ false = ap (λ (f : Flushed g.row.D.Denot). f.broken) c.self.view_is ∙ c.requires.whole in
    let is : commands c.deref.result.now ≡ from_on it.seat it.stored = ap (λ l. commands l) c.deref.ensures.value ∙ (c.self.invariant.1 w).batch_is in
    let more : c.count_fitting.result < length (commands c.deref.result.now) → IsTooLong c.size.result c.used.result (take (c.count_fitting.result + 1) (commands c.deref.result.now)) =
    λ less. c.count_fitting.ensures.more (omega (arith, less, length_commands c.deref.result.now)) in
    subst (λ (f : Flushed g.row.D.Denot). c.count_fitting.result < length (gathered f) → IsTooLong f.size f.used (take (c.count_fitting.result + 1) (gathered f))) c.self.view_is
    (subst (λ (z : ℕ × ℕ × List CommandValue). c.count_fitting.result < length z.2 → IsTooLong z.0 z.1 (take (c.count_fitting.result + 1) z.2)) (λ i. (c.size.ensures i, c.used.ensures i, is i)) more)
