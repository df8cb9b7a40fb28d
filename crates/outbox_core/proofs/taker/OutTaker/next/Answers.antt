use Rattle.std.proofs.Common.{List, ◌++◌, ◌∷◌, [], ap, sym, ◌∙◌, subst}
use Rattle.command_core.specs.Outs.{OutValue}
use Rattle.outbox_core.specs.Boxes.{TakerValue}
use Rattle.outbox_core.specs.Ends.{ring_of, taker_value}
use Rattle.outbox_core.specs.Takes.{Takes}
use Rattle.outbox_core.specs.declared.taker.Taken.TheVariants.{Item}
use Rattle.outbox_core.proofs.Prefixes.{front_of_front}
use Rattle.outbox_core.proofs.taker.OutTaker.next.Goals as goal

pub returns : goal.returns
returns c =
    let looked = c.is_abandoned-gone.ensures in
    let ring = c.in-Ok.ensures.ring in
    let took = c.in-Ok.ensures.ok in
    let told = c.self.inside.credits in
    subst (λ (v : TakerValue). Takes c.args.self.now (Item c.in-Ok.out) v) (sym c.tell_from-3.ensures)
    (subst (λ (v : TakerValue). Takes v (Item c.in-Ok.out) (taker_value c.pop.new.self told c.self.inside.bytes)) c.self.view_is (
      λ i. record {
        outputs = record {
          words = (ring.0.0 ∙ looked.0.0.0) i;
          slots = (ring.0.1 ∙ looked.0.0.1) i;
          names = (ring.0.2 ∙ looked.0.0.2) i;
        };
        credits = ring_of told.end;
      },
      took.0 ∙ ap (λ (l : List OutValue). l ++ c.in-Ok.out ∷ []) looked.1,
      front_of_front _ _ _ looked.2 took.1,
      λ i. record { outputs = (ring.1 ∙ looked.0.1) i; bytes = c.self.inside.bytes },
    ))
