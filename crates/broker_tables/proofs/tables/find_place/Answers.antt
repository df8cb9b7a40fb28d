use Rattle.std.proofs.Common.{arith, sym}
use Rattle.std.proofs.lemmas.Bool.Decides.{nat_tests}
use Rattle.broker_tables.proofs.Operating.{place_free, place_taken, places_taken}
use Rattle.waiting_order.specs.Waiting.{subs_of}
use Rattle.broker_tables.proofs.tables.find_place.Goals as goal

pub returns-in-Some : goal.returns-in-Some
returns-in-Some c = sym (place_taken (subs_of c.args.order.now.all) c.args.session c.args.id.now c.in-Some.ensures.at c.in-Some.ensures.first)

pub returns-then-count_of-ge-MOST_SUBSCRIPTIONS : goal.returns-then-count_of-ge-MOST_SUBSCRIPTIONS
returns-then-count_of-ge-MOST_SUBSCRIPTIONS c =
    sym (places_taken (subs_of c.args.order.now.all) c.args.session c.args.id.now c.in_default.ensures (grind (arith, nat_tests)))

pub returns : goal.returns
returns c =
    sym (place_free (subs_of c.args.order.now.all) c.args.session c.args.id.now c.in_default.ensures (grind (arith, nat_tests)))
