use Rattle.std.proofs.Common.{◌≡◌, ◌<◌, ◌+◌, ◌&&◌, ◌++◌, ◌∷◌, ◌∙◌, [], Bool, List, ℕ, true, false, ap, append_assoc, arith, refl, sym}
use Rattle.std.proofs.lemmas.List.{append-nil}
use Rattle.broker_state.specs.Operations.{is_of}
use Rattle.broker_state.proofs.Weights.{all_at}
use Rattle.broker_core.specs.declared.precheck.PrecheckFlight.{PrecheckFlight}
use Rattle.broker_core.specs.Prechecks.{flight_of}
use Rattle.broker_core.proofs.FlightsFrom.{W, first_from, flights_from, from_first, none_from}
use Rattle.broker_core.proofs.precheck.flights_of.Goals as goal

and_any : (b : Bool) → (b && true) ≡ b
and_any true = refl
and_any false = refl

pub loop-place-init : goal.loop-place-init
loop-place-init c =
    ap (λ (l : List PrecheckFlight). l ++ flights_from c.args.session 0 c.args.order.now.all) c.new-flights.ensures.items ∙ from_first c.args.session c.args.order.now.all

pub get-requires : goal.get-requires
get-requires c =
    let next = c.in-Some.ensures.next in
    (next.at, next.waiter, next.there)

pub overflow_add-from : goal.overflow_add-from
overflow_add-from c =
    let next = c.in-Some.ensures.next in
    omega (arith, next.ticket, c.requires.tickets, all_at (λ (w : W). w.1.ticket < c.args.order.now.next) c.args.order.now.all next.at (c.in-Some.place.key, next.waiter) next.there c.in-Some.ensures.order.under)

pub loop-place-smaller : goal.loop-place-smaller
loop-place-smaller c =
    let next = c.in-Some.ensures.next in
    omega (arith, next.ticket, next.after, all_at (λ (w : W). w.1.ticket < c.args.order.now.next) c.args.order.now.all next.at (c.in-Some.place.key, next.waiter) next.there c.in-Some.ensures.order.under)

pub loop-place-preserved : goal.loop-place-preserved
loop-place-preserved c =
    let next = c.in-Some.ensures.next in
    let session = c.args.session in
    let ws = c.args.order.now.all in
    let w : W = (c.in-Some.place.key, next.waiter) in
    let from = c.loop-place.from in
    let done = c.loop-place.flights.items in
    let step : flights_from session from ws ≡ flight_of next.waiter.sub ∷ flights_from session (next.waiter.ticket + 1) ws =
    first_from session from ws next.at w c.in-Some.ensures.order.rising next.there (omega (arith, next.after, next.ticket)) (sym (and_any (is_of session next.waiter.sub)) ∙ next.passing) (λ i v is after less. sym (and_any (is_of session v.1.sub)) ∙ next.before i v is after less) in
    let flight : c.in_ok-flight.flight ≡ flight_of next.waiter.sub = c.in_ok-flight.ensures ∙ ap flight_of (c.get.ensures.sub next.at next.waiter next.there) in
    ap (λ (l : List PrecheckFlight). l ++ flights_from session (c.in-Some.place.ticket + 1) ws) c.in_ok-push.ensures.items
    ∙ append_assoc done (c.in_ok-flight.flight ∷ []) (flights_from session (c.in-Some.place.ticket + 1) ws)
    ∙ ap (λ (x : PrecheckFlight). done ++ x ∷ flights_from session (c.in-Some.place.ticket + 1) ws) flight
    ∙ ap (λ (n : ℕ). done ++ flight_of next.waiter.sub ∷ flights_from session (n + 1) ws) (sym next.ticket)
    ∙ ap (λ (l : List PrecheckFlight). done ++ l) (sym step)
    ∙ c.loop-place.invariant

pub returns : goal.returns
returns c =
    let none = none_from c.args.session c.loop-place.from c.args.order.now.all (λ i w is after. sym (and_any (is_of c.args.session w.1.sub)) ∙ c.in_default.ensures.next i w is after) in
    sym (append-nil c.loop-place.flights.items) ∙ ap (λ (l : List PrecheckFlight). c.loop-place.flights.items ++ l) (sym none) ∙ c.loop-place.invariant
