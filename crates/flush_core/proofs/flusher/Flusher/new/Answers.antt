use Rattle.std.proofs.Common.{arith, ap, length, refl, sym, subst, ◌∙◌, ◌++◌, ◌≡◌, List}
use Rattle.broker_core.specs.States.{BrokerValue, State}
use Rattle.broker_core.specs.Sound.{IsSound}
use Rattle.area_core.specs.Areas.{commands, records}
use Rattle.command_core.specs.Commands.{CommandValue}
use Rattle.command_core.specs.Outs.{OutValue}
use Rattle.recover_core.specs.Standing.{StandFor}
use Rattle.flush_core.specs.Batches.{IsBatch, block_bytes}
use Rattle.flush_core.proofs.BacklogCounts.{counts_none}
use Rattle.flush_core.proofs.FlusherKeeps.{no_batch, starts}
use Rattle.flush_core.proofs.TakenCommands.{between_none, from_end}
use Rattle.flush_core.proofs.flusher.Flusher.new.Goals as goal

pub invariant_of-result : goal.invariant_of-result
invariant_of-result g c =
    let seat = c.args.seat in
    let broker = c.args.broker in
    let none = c.requires.fresh.0 in
    let base : c.next-next.result ≡ seat.base = omega (arith, c.next-next.ensures.next, ap (λ (l : List CommandValue). length l) none) in
    let whole = c.is_broken-broken.ensures.value ∙ c.requires.whole.1 in
    let opening : c.of.result.value.state ≡ broker.state = ap (λ (b : BrokerValue). b.state) c.of.ensures in (
      starts g.D.Disk.honest g.D.Disk.images _ none c.requires.fresh.1 base base
          (λ i. record { state = sym opening i; broken = c.requires.whole.1 i })
          (ap (λ (s : State). s.count) opening ∙ c.requires.count)
          (subst (λ (s : State). IsSound s) (sym opening) (c.is_broken-broken.ensures.sound c.requires.whole.1))
          (λ h. subst (λ (s : State). StandFor (g.D.Disk.images c.args.journal.disk) s) (sym opening) (c.requires.stands h))
          (λ i. c.new-2.ensures.items i ++ c.new.ensures.items i) c.new-3.ensures.outs.0 c.new-3.ensures.outs.1 whole,
      λ _. record {
        whole = c.requires.whole.0;
        batch_is = ap (λ l. commands l) c.new.ensures.items ∙ sym (from_end seat c.next-next.result c.next-next.ensures.next);
        bytes_is = ap (λ l. length (records (commands l))) (sym c.new.ensures.items);
        done_is = ap (λ l. commands l) c.new-2.ensures.items ∙ sym (between_none seat c.next-next.result);
        few = c.next-next.ensures.most;
        room_is = λ some. omega (arith, some, ap (λ (l : List OutValue). length l) c.new-3.ensures.outs.1);
      },
      λ _. record { none = ap (λ (l : List OutValue). length l) c.new-3.ensures.outs.2; room_is = omega (arith, ap (λ (l : List OutValue). length l) c.new-3.ensures.outs.0) },
      λ _. subst (IsBatch g.W.Width.COMMANDS (block_bytes c.args.journal.area.size g.W.Width.BYTES)) (sym (ap (λ l. commands l) c.new.ensures.items)) (no_batch g.W.Width.COMMANDS (block_bytes c.args.journal.area.size g.W.Width.BYTES)),
      λ _. counts_none c.of.result.value.state seat c.next-next.result c.next-next.result (omega (arith, base)) refl,
    )
