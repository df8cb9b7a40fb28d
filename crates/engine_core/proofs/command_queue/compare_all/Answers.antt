use Rattle.std.proofs.Common.{◌<◌, arith, ap, sym, ◌∙◌, length, set, subst}
use lib.ListN.{get_elem?}
use Rattle.atomic_table.proofs.Lists.{at_index, set_again}
use Rattle.claim_core.specs.Endings.{Agree}
use Rattle.claim_core.specs.Seats.{FlushSeatValue}
use Rattle.flush_core.specs.Flusher.{Flushed}
use Rattle.engine_core.proofs.Placing.{agree_more, below}
use Rattle.engine_core.proofs.command_queue.compare_all.Goals as goal

pub beside-requires-clause-seat : goal.beside-requires-clause-seat
beside-requires-clause-seat g c =
    let before = c.loop-place.invariant in
    let few : c.loop-place.place < length c.loop-place.seats.items = omega (arith, c.loop-place-test.true, c.len-place-end.ensures, ap length before.seats) in
    let at = at_index c.loop-place.seats.items c.loop-place.place c.index_mut.result.now few c.index_mut.ensures.value in
    c.requires.seats c.loop-place.place c.index_mut.result.now (ap (λ l. get_elem? l c.loop-place.place) (sym before.seats) ∙ at)

pub loop-place-preserved : goal.loop-place-preserved
loop-place-preserved g c =
    let before = c.loop-place.invariant in
    let few : c.loop-place.place < length c.loop-place.seats.items = omega (arith, c.loop-place-test.true, c.len-place-end.ensures, ap length before.seats) in
    let at = at_index c.loop-place.seats.items c.loop-place.place c.index_mut.result.now few c.index_mut.ensures.value in
    record {
      flusher = c.beside.ensures.same ∙ before.flusher;
      seats = ap (λ s. set c.loop-place.seats.items c.loop-place.place s) c.beside.ensures.seat ∙ (set_again c.loop-place.seats.items c.loop-place.place c.index_mut.result.now at ∙ before.seats);
      agree = agree_more c.args.flusher.now.seat c.args.seats.now.items c.loop-place.place c.index_mut.result.now (ap (λ l. get_elem? l c.loop-place.place) (sym before.seats) ∙ at) before.agree
          (subst (λ (s : FlushSeatValue). Agree c.index_mut.result.now s) (ap (λ (f : Flushed _). f.seat) before.flusher) c.beside.ensures.agree);
    }

pub returns-clause-agree : goal.returns-clause-agree
returns-clause-agree g c = λ j seat at. c.loop-place.invariant.agree j seat (omega (arith, below c.args.seats.now.items j seat at, c.loop-place-test.false, c.len-place-end.ensures)) at
