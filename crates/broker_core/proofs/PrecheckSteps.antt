use Rattle.std.proofs.Common.{◌≡◌, ◌≤◌, ◌+◌, ◌*◌, List, ℕ, Bool, true, false, Some, Result, Ok, Err, OnOk, cond, length, nat_le, refl, sym, ap, ◌∙◌, subst, arith}
use Rattle.std.specs.List.{list_any, sum_by}
use Rattle.std.proofs.lemmas.Bool.{and_parts, le-leb}
use Rattle.std.proofs.lemmas.Bool.Decides.{nat_tests}
use Rattle.command_core.specs.declared.fault.Fault.{Fault}
use Rattle.command_core.specs.declared.fault.Fault.TheVariants.{NoRoom, UnknownAcknowledgement}
use Rattle.command_core.specs.Destinations.{is_queue}
use Rattle.command_core.specs.Sendings.{SendingValue}
use Rattle.line_core.specs.declared.message.Message.{Message}
use Rattle.line_core.specs.Flights.{mapped, settled}
use Rattle.line_core.specs.Messages.{size_of}
use Rattle.line_core.proofs.Flights.{settled-mapped}
use Rattle.broker_state.specs.declared.subscription.Subscription.{Subscription}
use Rattle.broker_core.specs.declared.precheck.Precheck.{Precheck}
use Rattle.broker_core.specs.declared.precheck.PrecheckFlight.{PrecheckFlight}
use Rattle.broker_core.specs.declared.precheck.PrecheckSize.{PrecheckSize}
use Rattle.broker_state.specs.declared.nack_rule.NackRule.TheVariants.{Keeps}
use Rattle.broker_state.specs.Dead.{first_place, is_dropped, nacked}
use Rattle.broker_state.specs.Lists.{picked, with_first}
use Rattle.broker_state.specs.Names.{Name}
use Rattle.broker_state.specs.Operations.{acknowledged, awaits, is_within, message_of, sent, settled_by, fanned_out}
use Rattle.broker_state.specs.Parts.{copies_to, find_room}
use Rattle.broker_state.specs.States.{State, bytes, held_bytes, held_messages, one as one_message}
use Rattle.broker_state.specs.Waiting.{is_own}
use Rattle.broker_core.specs.Prechecks.{Leads, StandsFor, bytes_in, deliveries_in, flight_of, flights_of, has, kept_bytes_in, kept_in, left_by, sized}
use Rattle.broker_core.proofs.Flights.{any_flight, copies-after, copies-copied, few_bytes, few_deliveries, first_flight, flights-copied, kept-mapped, kept_bytes-mapped, length-mapped, picked_flight, sum_by-mapped}
use Rattle.broker_tables.specs.Refusals.{refused_bytes}
use Rattle.broker_state.proofs.Firsts.{picked_some}
use Rattle.broker_state.proofs.Refusals.{fewer, kept_from, kept_in as kept_state, let_go, nacked_by, nacked_none, sum_kept, weight-kept_in, weight-let_go, weight-with_refused}
use Rattle.broker_state.proofs.Weights.{ones}
use Rattle.broker_state.proofs.Sendings.{names-fanned_out, queues-fanned_out, room_by, sent_by, fanned_out_by, weight-fanned_out}

module _ (session : ℕ) (durables : List (Name × List ℕ)) (subs : List Subscription) (old new : Precheck) (s : State) (stands : StandsFor session durables subs old s) where
  pub few_held : deliveries_in old.flights.items ≤ old.held.messages
  few_held =
      omega (arith, few_deliveries session s.subscriptions, ap deliveries_in stands.flights, stands.messages)

  pub small_held : bytes_in old.flights.items ≤ old.held.bytes
  small_held =
      omega (arith, few_bytes session s.subscriptions, ap bytes_in stands.flights, stands.bytes)

  module _ (place : ℕ) (sending : SendingValue) (copies size : ℕ) (counted : copies ≡ copies_to sending.destination durables subs) (weighed : size ≡ size_of sending) (alike : new.flights.items ≡ old.flights.items) where
    here : copies ≡ copies_to sending.destination s.durables s.subscriptions
    here = counted ∙ sym (stands.copies sending.destination)

    total : copies * size ≡ copies_to sending.destination s.durables s.subscriptions * size_of sending
    total =
        ap (λ n. n * size) here ∙ ap (λ n. copies_to sending.destination s.durables s.subscriptions * n) weighed

    room : (b : Bool) → find_room old.held.messages old.held.bytes copies size ≡ b → is_within (fanned_out s (message_of s.count place sending)) ≡ b
    room b is =
        room_by s (message_of s.count place sending) stands.names stands.queues old.held.messages old.held.bytes copies size stands.messages stands.bytes here weighed ∙ is

    fanned_out_flights : flights_of session (fanned_out s (message_of s.count place sending)).subscriptions ≡ flights_of session s.subscriptions
    fanned_out_flights =
        elim (is_queue sending.destination) as (λ b. flights_of session (fanned_out_by s (message_of s.count place sending) b).subscriptions ≡ flights_of session s.subscriptions) [ true ↦ refl | false ↦ flights-copied session (message_of s.count place sending) s.subscriptions ]

    fanned_out_copies : (to : List ℕ) → copies_to to (fanned_out s (message_of s.count place sending)).durables (fanned_out s (message_of s.count place sending)).subscriptions ≡ copies_to to s.durables s.subscriptions
    fanned_out_copies to =
        elim (is_queue sending.destination) as (λ b. copies_to to (fanned_out_by s (message_of s.count place sending) b).durables (fanned_out_by s (message_of s.count place sending) b).subscriptions ≡ copies_to to s.durables s.subscriptions) [ true ↦ refl | false ↦ copies-copied to s.durables (message_of s.count place sending) s.subscriptions ]

    fits_messages : find_room old.held.messages old.held.bytes copies size ≡ true → old.held.messages + copies ≤ 4096
    fits_messages found =
        let fits = and_parts (nat_le (old.held.messages + copies) 4096) (nat_le (old.held.bytes + copies * size) 16777216) found in
        let few = fits.0 in
        grind (arith, nat_tests)

    fits_bytes : find_room old.held.messages old.held.bytes copies size ≡ true → old.held.bytes + copies * size ≤ 16777216
    fits_bytes found =
        let fits = and_parts (nat_le (old.held.messages + copies) 4096) (nat_le (old.held.bytes + copies * size) 16777216) found in
        let small = fits.1 in
        grind (arith, nat_tests)

    fanned_out_stands : find_room old.held.messages old.held.bytes copies size ≡ true → new.held.messages ≡ old.held.messages + copies → new.held.bytes ≡ old.held.bytes + copies * size → StandsFor session durables subs new (fanned_out s (message_of s.count place sending))
    fanned_out_stands found messages held = record {
      messages = omega (arith, messages, stands.messages, here, weight-fanned_out s (message_of s.count place sending) stands.names stands.queues one_message);
      bytes = omega (arith, held, stands.bytes, total, weight-fanned_out s (message_of s.count place sending) stands.names stands.queues bytes);
      few = omega (arith, messages, fits_messages found);
      small = omega (arith, held, fits_bytes found);
      flights = alike ∙ stands.flights ∙ sym fanned_out_flights;
      names = names-fanned_out s (message_of s.count place sending) stands.names stands.queues;
      queues = queues-fanned_out s (message_of s.count place sending) stands.names stands.queues;
      copies = λ to. fanned_out_copies to ∙ stands.copies to;
    }

    sent_leads : (r : Result (Unit {0}) Fault) (b : Bool) → find_room old.held.messages old.held.bytes copies size ≡ b → r ≡ cond b (Ok tt) (Err NoRoom) → OnOk r (new.held.messages ≡ old.held.messages + copies) → OnOk r (new.held.bytes ≡ old.held.bytes + copies * size) → Leads session durables subs new r (sent s place sending)
    sent_leads (Ok _) true is answer messages held =
        subst (Leads session durables subs new (Ok tt)) (sym (sent_by s place sending true (room true is))) (fanned_out_stands is messages held)
    sent_leads (Ok _) false is answer messages held = let no : ⊥ = cc in absurd no
    sent_leads (Err fault) true is answer messages held = let no : ⊥ = cc in absurd no
    sent_leads (Err fault) false is answer messages held =
        let same_fault : fault ≡ NoRoom = cc in
        subst (Leads session durables subs new (Err fault)) (sym (sent_by s place sending false (room false is))) same_fault

    -- a SEND is refused in the precheck where it is refused
    pub send_leads : (r : Result (Unit {0}) Fault) → r ≡ cond (find_room old.held.messages old.held.bytes copies size) (Ok tt) (Err NoRoom) → OnOk r (new.held.messages ≡ old.held.messages + copies) → OnOk r (new.held.bytes ≡ old.held.bytes + copies * size) → Leads session durables subs new r (sent s place sending)
    send_leads r answer messages held =
        sent_leads r (find_room old.held.messages old.held.bytes copies size) refl answer messages held

  module _ (delivery : ℕ) where
    found_by : (b : Bool) → list_any (has delivery) old.flights.items ≡ b → list_any (awaits session delivery) s.subscriptions ≡ b
    found_by b is = sym (any_flight session delivery s.subscriptions) ∙ sym (ap (list_any (has delivery)) stands.flights) ∙ is

    -- none is found
    module _ (none : list_any (has delivery) old.flights.items ≡ false) where
      pub acknowledge_none : Leads session durables subs new (Err UnknownAcknowledgement) (acknowledged s session delivery)
      acknowledge_none =
          subst (Leads session durables subs new (Err UnknownAcknowledgement)) (sym (ap (λ b. cond b (Ok (record s { subscriptions = with_first (awaits session delivery) (settled_by delivery) s.subscriptions })) (Err UnknownAcknowledgement)) (found_by false none))) refl

      pub refuse_none : (place : ℕ) → Leads session durables subs new (Err UnknownAcknowledgement) (nacked Keeps s session place delivery)
      refuse_none place =
          subst (Leads session durables subs new (Err UnknownAcknowledgement)) (sym (nacked_none s session place delivery (found_by false none))) refl

    -- one is found, and that is settled
    module _ (some : list_any (has delivery) old.flights.items ≡ true) (out : List (ℕ × PrecheckSize)) (given : (flight : PrecheckFlight) (others : List PrecheckFlight) → picked (has delivery) old.flights.items ≡ Some (flight, others) → out ≡ settled flight.mode delivery flight.deliveries) (flights : new.flights.items ≡ with_first (has delivery) (left_by delivery) old.flights.items) where
      one : (sub : Subscription) × (others : List Subscription) × (picked (awaits session delivery) s.subscriptions ≡ Some (sub, others))
      one = picked_some (awaits session delivery) s.subscriptions (found_by true some)

      abbrev sub : Subscription
      sub = one.0

      abbrev gone : List (ℕ × Message)
      gone = settled sub.mode delivery sub.unacknowledged

      out_is : out ≡ mapped (sized (is_own sub)) gone
      out_is =
          let found = picked_flight session delivery s.subscriptions sub one.1 one.2 in
          given (flight_of sub) found.0 (ap (picked (has delivery)) stands.flights ∙ found.1) ∙ settled-mapped (sized (is_own sub)) sub.mode delivery sub.unacknowledged

      gone_messages : sum_by (λ (d : ℕ × Message). one_message d.1) gone ≡ length out
      gone_messages = omega (arith, ones gone, ap length out_is, length-mapped (is_own sub) gone)

      gone_bytes : sum_by (λ (d : ℕ × Message). bytes d.1) gone ≡ sum_by (λ (item : ℕ × PrecheckSize). item.1.bytes) out
      gone_bytes =
          omega (arith, ap (sum_by (λ (item : ℕ × PrecheckSize). item.1.bytes)) out_is, sum_by-mapped (is_own sub) gone)

      left_flights : new.flights.items ≡ flights_of session (with_first (awaits session delivery) (settled_by delivery) s.subscriptions)
      left_flights =
          flights ∙ ap (with_first (has delivery) (left_by delivery)) stands.flights ∙ first_flight session delivery s.subscriptions

      module _ (messages : new.held.messages + length out ≡ old.held.messages) (held : new.held.bytes + sum_by (λ item. item.1.bytes) out ≡ old.held.bytes) where
        settled_stands : StandsFor session durables subs new (let_go s session 0 delivery)
        settled_stands = record {
          messages = omega (arith, messages, stands.messages, weight-let_go one_message s session 0 delivery sub one.1 one.2, gone_messages);
          bytes = omega (arith, held, stands.bytes, weight-let_go bytes s session 0 delivery sub one.1 one.2, gone_bytes);
          few = omega (arith, messages, stands.few);
          small = omega (arith, held, stands.small);
          flights = left_flights;
          names = stands.names;
          queues = stands.queues;
          copies = λ to. copies-after to s.durables session delivery s.subscriptions ∙ stands.copies to;
        }

        -- an acknowledgement is refused in the precheck where it is refused
        pub acknowledge_some : Leads session durables subs new (Ok tt) (acknowledged s session delivery)
        acknowledge_some =
            subst (Leads session durables subs new (Ok tt)) (sym (ap (λ b. cond b (Ok (let_go s session 0 delivery)) (Err UnknownAcknowledgement)) (found_by true some))) settled_stands

      -- what is kept comes for it
      module _ (place mid_messages mid_bytes : ℕ) (messages : mid_messages + length out ≡ old.held.messages) (held : mid_bytes + sum_by (λ item. item.1.bytes) out ≡ old.held.bytes) where
        abbrev after : State
        after = kept_state s session place delivery sub

        after_messages : held_messages after ≡ mid_messages + kept_in out
        after_messages =
            omega (arith, messages, stands.messages, weight-kept_in one_message s session place delivery sub one.1 one.2 stands.queues, gone_messages, sum_kept (is_dropped (is_own sub)) s.count one_message (λ m. 1) (λ at m. refl) (first_place place) gone, ap kept_in out_is, kept-mapped (is_own sub) gone)

        after_bytes : held_bytes after ≡ mid_bytes + kept_bytes_in out
        after_bytes =
            omega (arith, held, stands.bytes, weight-kept_in bytes s session place delivery sub one.1 one.2 stands.queues, gone_bytes, sum_kept (is_dropped (is_own sub)) s.count bytes refused_bytes (λ at m. refl) (first_place place) gone, ap kept_bytes_in out_is, kept_bytes-mapped (is_own sub) gone)

        refused_by : (b : Bool) → nat_le (mid_bytes + kept_bytes_in out) 16777216 ≡ b → nacked Keeps s session place delivery ≡ cond b (Ok after) (Err NoRoom)
        refused_by b is =
            nacked_by s session place delivery sub one.1 one.2 (found_by true some) stands.queues (omega (arith, stands.messages, stands.few)) (mid_bytes + kept_bytes_in out) (omega (arith, after_bytes, weight-kept_in bytes s session place delivery sub one.1 one.2 stands.queues)) b is

        pub refuse_full : nat_le (mid_bytes + kept_bytes_in out) 16777216 ≡ false → Leads session durables subs new (Err NoRoom) (nacked Keeps s session place delivery)
        refuse_full full = subst (Leads session durables subs new (Err NoRoom)) (sym (refused_by false full)) refl

        kept_stands : mid_bytes + kept_bytes_in out ≤ 16777216 → new.held.messages ≡ mid_messages + kept_in out → new.held.bytes ≡ mid_bytes + kept_bytes_in out → StandsFor session durables subs new after
        kept_stands fits now_messages now_bytes = record {
          messages = omega (arith, now_messages, after_messages);
          bytes = omega (arith, now_bytes, after_bytes);
          few = omega (arith, now_messages, after_messages, fewer s session place delivery sub one.1 one.2 (found_by true some) stands.queues (omega (arith, stands.messages, stands.few)), stands.messages, stands.few);
          small = omega (arith, now_bytes, fits);
          flights = left_flights;
          names = stands.names;
          queues = (weight-with_refused one_message (kept_from s session place delivery sub) s.shared.queues stands.queues).0;
          copies = λ to. copies-after to s.durables session delivery s.subscriptions ∙ stands.copies to;
        }

        -- and so is a refusal
        pub refuse_some : mid_bytes + kept_bytes_in out ≤ 16777216 → new.held.messages ≡ mid_messages + kept_in out → new.held.bytes ≡ mid_bytes + kept_bytes_in out → Leads session durables subs new (Ok tt) (nacked Keeps s session place delivery)
        refuse_some fits now_messages now_bytes =
            subst (Leads session durables subs new (Ok tt)) (sym (refused_by true (le-leb (mid_bytes + kept_bytes_in out) 16777216 fits))) (kept_stands fits now_messages now_bytes)
