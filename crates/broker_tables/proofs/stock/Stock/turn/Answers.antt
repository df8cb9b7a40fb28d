use Rattle.std.proofs.Common.{◌∷◌, ◌∙◌, [], ap, arith, refl}
use Rattle.broker_state.specs.declared.subscription.Subscription.{Subscription}
use Rattle.broker_state.specs.HandOut.{message_out}
use Rattle.broker_tables.specs.Answers.{with_outs}
use Rattle.broker_tables.proofs.stock.Stock.turn.Goals as goal

pub move_last-requires-clause-number : goal.move_last-requires-clause-number
move_last-requires-clause-number c = omega (arith, c.requires.number, c.requires.stocked.tickets)

pub returns : goal.returns
returns c =
    let first = c.first_in-place.ensures in
    record {
      told = c.in_ok-tell_next.ensures.knows;
      turns = record {
        place = c.first_in-place.result;
        first = first;
        order = c.move_last.ensures first.at first.waiter first.there;
        delivery = refl;
        shared = refl;
        held = refl;
        answers = c.in_ok-tell_next.ensures.told ∙ ap (λ (x : Subscription). with_outs (message_out c.args.number x c.args.self.now.next_delivery c.args.message.now ∷ []) c.args.answers.now) (c.get-sub.ensures.sub first.at first.waiter first.there);
      };
    }
