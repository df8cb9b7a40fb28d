use Rattle.std.proofs.Common.{◌∙◌, List, Some, ap, arith, remove, subst, sym}
use Rattle.std.proofs.lemmas.Option.{same_Some}
use Rattle.std.specs.List.{sum_by}
use Rattle.broker_core.specs.declared.precheck.PrecheckFlight.{PrecheckFlight}
use Rattle.broker_state.specs.Parts.{IsFirst, NonePass}
use Rattle.broker_core.specs.Prechecks.{has, left_by}
use Rattle.broker_state.proofs.Firsts.{any_first, any_none, changed_first, picked_first}
use Rattle.broker_core.proofs.Flights.{settled_counts, with_first-none}
use Rattle.broker_tables.proofs.Operating.{item_at}
use Rattle.broker_core.proofs.precheck.precheck_settle.Goals as goal

pub returns-in_default-clause-found : goal.returns-in_default-clause-found
returns-in_default-clause-found c =
    let p = has c.args.delivery in
    sym (any_none p c.args.precheck.now.flights.items (subst (NonePass p) c.as_slice.ensures.value c.in_default.ensures))

pub returns-in_default-clause-flights : goal.returns-in_default-clause-flights
returns-in_default-clause-flights c =
    let p = has c.args.delivery in
    sym (with_first-none p (left_by c.args.delivery) c.args.precheck.now.flights.items (subst (NonePass p) c.as_slice.ensures.value c.in_default.ensures))

pub overflow_sub-precheck : goal.overflow_sub-precheck
overflow_sub-precheck c =
    let first = subst (λ (l : List PrecheckFlight). IsFirst (has c.args.delivery) l c.in-Some.at) c.as_slice.ensures.value c.in-Some.ensures in
    let flights = c.args.precheck.now.flights.items in
    let found = item_at flights c.in-Some.at first.within in
    let counts = settled_counts c.args.delivery flights c.in-Some.at found.0 c.in_ok-settled.settled.items found.1 (c.in_ok-settled.ensures.settled found.0 found.1) in
    omega (arith, counts.0, c.requires.held.messages)

pub sum_of-requires : goal.sum_of-requires
sum_of-requires c =
    let first = subst (λ (l : List PrecheckFlight). IsFirst (has c.args.delivery) l c.in-Some.at) c.as_slice.ensures.value c.in-Some.ensures in
    let flights = c.args.precheck.now.flights.items in
    let found = item_at flights c.in-Some.at first.within in
    let counts = settled_counts c.args.delivery flights c.in-Some.at found.0 c.in_ok-settled.settled.items found.1 (c.in_ok-settled.ensures.settled found.0 found.1) in
    omega (arith, counts.1, c.requires.held.small, c.requires.held.bytes, ap (sum_by (λ item. item.1.bytes)) c.as_slice-2.ensures.value)

pub overflow_sub-precheck-2 : goal.overflow_sub-precheck-2
overflow_sub-precheck-2 c =
    let first = subst (λ (l : List PrecheckFlight). IsFirst (has c.args.delivery) l c.in-Some.at) c.as_slice.ensures.value c.in-Some.ensures in
    let flights = c.args.precheck.now.flights.items in
    let found = item_at flights c.in-Some.at first.within in
    let counts = settled_counts c.args.delivery flights c.in-Some.at found.0 c.in_ok-settled.settled.items found.1 (c.in_ok-settled.ensures.settled found.0 found.1) in
    omega (arith, counts.1, c.requires.held.bytes, ap (sum_by (λ item. item.1.bytes)) c.as_slice-2.ensures.value)

pub returns-clause-found : goal.returns-clause-found
returns-clause-found c =
    let first = subst (λ (l : List PrecheckFlight). IsFirst (has c.args.delivery) l c.in-Some.at) c.as_slice.ensures.value c.in-Some.ensures in
    sym (any_first (has c.args.delivery) c.args.precheck.now.flights.items c.in-Some.at first)

pub returns-clause-flights : goal.returns-clause-flights
returns-clause-flights c =
    let first = subst (λ (l : List PrecheckFlight). IsFirst (has c.args.delivery) l c.in-Some.at) c.as_slice.ensures.value c.in-Some.ensures in
    c.in_ok-settled.ensures.left ∙ sym (changed_first (has c.args.delivery) (left_by c.args.delivery) c.args.precheck.now.flights.items c.in-Some.at first)

pub returns-clause-settles : goal.returns-clause-settles
returns-clause-settles c =
    let first = subst (λ (l : List PrecheckFlight). IsFirst (has c.args.delivery) l c.in-Some.at) c.as_slice.ensures.value c.in-Some.ensures in
    let flights = c.args.precheck.now.flights.items in
    let found = item_at flights c.in-Some.at first.within in
    let counts = settled_counts c.args.delivery flights c.in-Some.at found.0 c.in_ok-settled.settled.items found.1 (c.in_ok-settled.ensures.settled found.0 found.1) in
    record {
      settled = λ flight others is.
          let picks = same_Some (found.0, remove flights c.in-Some.at) (flight, others) (sym (picked_first (has c.args.delivery) flights c.in-Some.at found.0 first found.1) ∙ is) in
          c.in_ok-settled.ensures.settled flight (found.1 ∙ ap (λ (p : PrecheckFlight × List PrecheckFlight). Some p.0) picks);
      messages = omega (arith, counts.0, c.requires.held.messages);
      bytes = omega (arith, counts.1, c.requires.held.bytes, ap (sum_by (λ item. item.1.bytes)) c.as_slice-2.ensures.value);
    }
