use Rattle.std.proofs.Common.{◌==◌, rules, tests}
use Rattle.std.proofs.lemmas.Iterator.Search.{any_from_yields_List}
use Rattle.std.proofs.lemmas.Iterator.Splits.{YieldsList-from_slice_split}
use Rattle.ws_core.specs.Offers.{has_stomp, is_stomp}
use Rattle.ws_core.proofs.handshake.has_stomp.Goals as goal

pub returns : goal.returns
unfolding has_stomp
returns c =
    any_from_yields_List is_stomp _ _ _ c.any.ensures.ran
    (YieldsList-from_slice_split _ (λ b. b == 44) c.args.offer.now c.split.ensures.rest c.split.ensures.done c.split.ensures.closure (λ x b q k. search (rules, tests)))
    (λ x b q k. search (rules, tests))
