-- How many bytes the snapshot of a state has, and what is left of it once its sessions have ended.
use Rattle.std.proofs.Common.{◌≡◌, ◌<◌, ◌≤◌, ◌+◌, ◌*◌, ◌&&◌, ◌||◌, ◌++◌, List, [], ◌∷◌, ℕ, Bool, Option, Some, None, IfSome, option_map, if◌then◌else◌, true, false, ◌^◌, drop, length, flat_map, nat_le, refl, ap, arith, length-append, length-drop}
use Rattle.std.specs.Int.{to_be_bytes, w32, w64}
use Rattle.std.specs.List.{AllByRecursion, list_all, sum_by}
use Rattle.std.specs.Map.{values_of}
use Rattle.std.proofs.lemmas.Bool.{and_parts, leb-true}
use Rattle.std.proofs.lemmas.List.Sums.{sum_by-cons}
use Rattle.command_core.specs.Destinations.{IsDestination, is_destination_byte, is_name, is_queue, is_topic}
use Rattle.command_core.specs.Sendings.{SendingValue}
use Rattle.command_core.specs.PartSizes.{option_size, text_size}
use Rattle.command_core.proofs.PartsSized.{each_sized, optional_sized}
use Rattle.command_core.specs.PartSpellings.{IsText, counted, headers, mode_byte, optional, pair, sending}
use Rattle.line_core.specs.declared.message.Message.{Message}
use Rattle.line_core.specs.Messages.{header_size, size_of}
use Rattle.broker_state.specs.declared.subscription.Subscription.{Subscription}
use Rattle.broker_core.specs.Lists.{is_none}
use Rattle.broker_core.specs.Names.{Name, name_cmp}
use Rattle.broker_core.specs.Operations.{restarted}
use Rattle.broker_core.specs.Sound.{AreTo, IsSound}
use Rattle.broker_core.specs.States.{State, bytes, one, weight_of_subscription}
use Rattle.broker_core.specs.Waiting.{Lines, Shared, is_own, line_at, weight_of_lines}
use Rattle.broker_state.proofs.Keys.{same_names}
use Rattle.snapshot_core.specs.Snapshots.{HasForm, IsDelivery, IsLine, IsMessage, IsName, IsSession, IsSubscription, Spells, delivery, durable, line, listed, message, own_line, queue, session, snapshot_of, subscription}
use Rattle.recover_core.proofs.Sums.{found-le, looked_up}

-- a text, and more behind it
counted_then : (text more : List ℕ) → length (counted text ++ more) ≡ 4 + length text + length more
counted_then text more = omega (arith, length-append text more)

pairs_size : (hs : List (List ℕ × List ℕ)) → length (flat_map pair hs) ≡ 8 * length hs + sum_by header_size hs
pairs_size [] = refl
pairs_size (h ∷ hs) =
    omega (arith, length-append (pair h) (flat_map pair hs), counted_then h.0 (counted h.1), sum_by-cons header_size h hs, pairs_size hs)

sending_size : (s : SendingValue) → length (sending s) ≡ 10 + 8 * length s.headers + size_of s
sending_size s =
    omega (arith, length-append (counted s.destination ++ headers s.headers) (counted s.body), counted_then s.destination (headers s.headers), pairs_size s.headers)

-- 12 bytes for the number, 10 for counts, and 8 for each of 64 headers
message_size : (m : Message) → IsMessage m → length (message m) ≤ 534 + bytes m
message_size m form = omega (arith, sending_size m.sending, form.sending.form.few)

messages_size : (ms : List Message) → AllByRecursion IsMessage ms → length (flat_map message ms) ≤ 534 * sum_by one ms + sum_by bytes ms
messages_size [] all = omega arith
messages_size (m ∷ ms) all =
    omega (arith, length-append (message m) (flat_map message ms), message_size m all.0, messages_size ms all.1, sum_by-cons one m ms, sum_by-cons bytes m ms)

line_size : (ms : List Message) → IsLine ms → length (line ms) ≤ 4 + 534 * sum_by one ms + sum_by bytes ms
line_size ms form = omega (arith, messages_size ms form.each)

-- the prefix, and a name of at most 200 bytes
pub destination_size : (to : List ℕ) → IsDestination to → length to ≤ 207
destination_size to form =
    let parts = and_parts (is_topic to || is_queue to) (is_name (drop 7 to)) form.valid in
    let lengths = and_parts (nat_le 1 (length (drop 7 to)) && nat_le (length (drop 7 to)) 200) (list_all is_destination_byte (drop 7 to)) parts.1 in
    let most = and_parts (nat_le 1 (length (drop 7 to))) (nat_le (length (drop 7 to)) 200) lengths.0 in
    omega (arith, leb-true (length (drop 7 to)) 200 most.1, length-drop 7 to)

some_message : (ms : List Message) → is_none ms ≡ false → 1 ≤ sum_by one ms
some_message [] some = absurd cc
some_message (m ∷ ms) some = omega (arith, sum_by-cons one m ms)

-- a queue's line is not empty, so what its destination takes is counted with its messages
queues_size : (queues : Lines (List ℕ)) → AllByRecursion (λ e. IsDestination e.0 × IsLine e.1) queues → AllByRecursion (λ e. (is_queue e.0 ≡ true) × (is_none e.1 ≡ false) × AreTo e.0 e.1) queues → length (flat_map queue queues) ≤ 749 * weight_of_lines one queues + weight_of_lines bytes queues
queues_size [] form some = omega arith
queues_size (e ∷ queues) form some =
    let ones_of = sum_by-cons (λ (l : List Message). sum_by one l) e.1 (values_of queues) in
    let bytes_of = sum_by-cons (λ (l : List Message). sum_by bytes l) e.1 (values_of queues) in
    omega (arith, length-append (queue e) (flat_map queue queues), counted_then e.0 (line e.1), destination_size e.0 form.0.0, line_size e.1 form.0.1, some_message e.1 some.0.1, queues_size queues form.1 some.1, ones_of, bytes_of)

-- what waits under the durable name
abbrev waiting : (Message → ℕ) → Lines Name → Name × List ℕ → ℕ
waiting weight names e = sum_by weight (line_at name_cmp e.0 names)

four : (a b c d : List ℕ) → length (a ++ b ++ c ++ d) ≡ length a + length b + length c + length d
four a b c d = omega (arith, length-append (a ++ b ++ c) d, length-append (a ++ b) c, length-append a b)

-- the client's name, the subscription's and the topic, and the line
durable_size : (shared : Shared) → AllByRecursion (λ e. IsLine e.1) shared.names → (e : Name × List ℕ) → IsName e.0 → IsDestination e.1 → length (durable shared e) ≤ 16607 + 534 * waiting one shared.names e + waiting bytes shared.names e
durable_size shared lines e name topic =
    let messages = line_at name_cmp e.0 shared.names in
    let form = looked_up name_cmp IsLine [] (record { each = tt; rising = tt }) e.0 shared.names lines in
    omega (arith, four (counted e.0.0) (counted e.0.1) (counted e.1) (line messages), name.client.form.short, name.own.form.short, destination_size e.1 topic, line_size messages form)

durables_size : (shared : Shared) → AllByRecursion (λ e. IsLine e.1) shared.names → (durables : List (Name × List ℕ)) → AllByRecursion (λ e. IsName e.0 × IsDestination e.1) durables → length (flat_map (durable shared) durables) ≤ 16607 * length durables + 534 * sum_by (waiting one shared.names) durables + sum_by (waiting bytes shared.names) durables
durables_size shared lines [] form = omega arith
durables_size shared lines (e ∷ durables) form =
    omega (arith, length-append (durable shared e) (flat_map (durable shared) durables), durable_size shared lines e form.0.0 form.0.1, durables_size shared lines durables form.1, sum_by-cons (waiting one shared.names) e durables, sum_by-cons (waiting bytes shared.names) e durables)

-- no message of a name's line is counted twice
each_waits_once : (weight : Message → ℕ) (s : State) → IsSound s → sum_by (waiting weight s.shared.names) s.durables ≤ weight_of_lines weight s.shared.names
each_waits_once weight s sound = found-le name_cmp same_names (sum_by weight) [] refl s.shared.names s.durables sound.order.durables

six : (a b c d e f : List ℕ) → length (a ++ b ++ c ++ d ++ e ++ f) ≡ length a + length b + length c + length d + length e + length f
six a b c d e f = omega (arith, four (a ++ b ++ c) d e f, length-append (a ++ b) c, length-append a b)

-- ---- what sessions and subscriptions take

-- a session takes its number, and the name of its client
abbrev pub opening_size : ℕ × Option (List ℕ) → ℕ
opening_size e = 8 + option_size e.1

opening_sized : (e : ℕ × Option (List ℕ)) → opening_size e ≡ length (session e)
opening_sized e = omega (arith, length-append (to_be_bytes w64 e.0) (optional e.1), optional_sized e.1)

deliveries_size : (ds : List (ℕ × Message)) → AllByRecursion IsDelivery ds → length (flat_map delivery ds) ≤ 542 * sum_by (λ d. one d.1) ds + sum_by (λ d. bytes d.1) ds
deliveries_size [] form = omega arith
deliveries_size (d ∷ ds) form =
    omega (
      arith,
      length-append (delivery d) (flat_map delivery ds),
      length-append (to_be_bytes w64 d.0) (message d.1),
      message_size d.1 form.0.1,
      deliveries_size ds form.1,
      sum_by-cons (λ (e : ℕ × Message). one e.1) d ds,
      sum_by-cons (λ (e : ℕ × Message). bytes e.1) d ds,
    )

-- nothing stands there of a line that the subscription shares
own_size : (sub : Subscription) → IsLine sub.line → length (own_line sub) ≤ 4 + 534 * sum_by one sub.line + sum_by bytes sub.line
own_size sub form = by (is_own sub)
  where
    by : (b : Bool) → length (if b then line sub.line else []) ≤ 4 + 534 * sum_by one sub.line + sum_by bytes sub.line
    by true = line_size sub.line form
    by false = omega arith

-- A subscription takes the session's number, its id, its destination, a byte for its mode, its durable name, and two counts of messages.
abbrev pub subscribing_size : Subscription → ℕ
subscribing_size sub = 17 + text_size sub.id + text_size sub.destination + option_size (option_map (λ (n : Name). n.1) sub.durable)

subscription_size : (sub : Subscription) → IsSubscription sub → length (subscription sub) ≤ subscribing_size sub + 542 * weight_of_subscription one sub + weight_of_subscription bytes sub
subscription_size sub form =
    let name = optional (option_map (λ (n : Name). n.1) sub.durable) in
    let front = to_be_bytes w64 sub.session ++ counted sub.id ++ counted sub.destination in
    let flights = listed delivery sub.unacknowledged in
    omega (
      arith,
      four front (mode_byte sub.mode ∷ name) (own_line sub) flights,
      length-append (to_be_bytes w64 sub.session ++ counted sub.id) (counted sub.destination),
      length-append (to_be_bytes w64 sub.session) (counted sub.id),
      length-append (to_be_bytes w32 (length sub.unacknowledged)) (flat_map delivery sub.unacknowledged),
      optional_sized (option_map (λ (n : Name). n.1) sub.durable),
      own_size sub form.line,
      deliveries_size sub.unacknowledged form.each,
    )

subscriptions_size : (subs : List Subscription) → AllByRecursion IsSubscription subs → length (flat_map subscription subs) ≤ sum_by subscribing_size subs + 542 * sum_by (weight_of_subscription one) subs + sum_by (weight_of_subscription bytes) subs
subscriptions_size [] form = omega arith
subscriptions_size (sub ∷ subs) form =
    omega (
      arith,
      length-append (subscription sub) (flat_map subscription subs),
      subscription_size sub form.0,
      subscriptions_size subs form.1,
      sum_by-cons subscribing_size sub subs,
      sum_by-cons (weight_of_subscription one) sub subs,
      sum_by-cons (weight_of_subscription bytes) sub subs,
    )

-- ---- a whole snapshot

-- A snapshot has at most 24,096,544 bytes beside what sessions and subscriptions take.
pub snapshot_size : (s : State) → IsSound s → HasForm s → length (snapshot_of s) ≤ 24096544 + sum_by opening_size s.sessions + sum_by subscribing_size s.subscriptions
snapshot_size s sound form =
    let names = durables_size s.shared form.names s.durables form.durables in
    let queues = queues_size s.shared.queues form.queues sound.lines.queues in
    let whole = six (to_be_bytes w64 s.count) (to_be_bytes w64 s.next_delivery) (listed session s.sessions) (listed (durable s.shared) s.durables) (listed queue s.shared.queues) (listed subscription s.subscriptions) in
    omega (
      arith,
      whole,
      each_sized opening_size session opening_sized s.sessions,
      names,
      queues,
      subscriptions_size s.subscriptions form.subscriptions,
      sound.names.few,
      each_waits_once one s sound,
      each_waits_once bytes s sound,
      sound.limits.messages,
      sound.limits.bytes,
    )

pub restart_fits : (s : State) (snapshot : List ℕ) → Spells snapshot (restarted s) → length snapshot < 24100000
restart_fits s snapshot spells =
    omega (arith, ap (λ (l : List ℕ). length l) spells.spelled, snapshot_size (restarted s) spells.sound spells.form)

-- a text of at most 8,192 bytes, or none
pub optional_size : (text : Option (List ℕ)) → IfSome text IsText → option_size text ≤ 8197
optional_size None form = omega arith
optional_size (Some text) form = omega (arith, form.form.short)

openings_most : (es : List (ℕ × Option (List ℕ))) → AllByRecursion IsSession es → sum_by opening_size es ≤ 8205 * length es
openings_most [] form = omega arith
openings_most (e ∷ es) form = omega (arith, sum_by-cons opening_size e es, optional_size e.1 form.0.1, openings_most es form.1)

own_name : (name : Option Name) → IfSome name IsName → IfSome (option_map (λ (n : Name). n.1) name) IsText
own_name None form = tt
own_name (Some name) form = form.own

subscribing_most : (subs : List Subscription) → AllByRecursion IsSubscription subs → sum_by subscribing_size subs ≤ 17000 * length subs
subscribing_most [] form = omega arith
subscribing_most (sub ∷ subs) form =
    omega (
      arith,
      sum_by-cons subscribing_size sub subs,
      form.0.id.form.short,
      destination_size sub.destination form.0.destination,
      optional_size (option_map (λ (n : Name). n.1) sub.durable) (own_name sub.durable form.0.durable),
      subscribing_most subs form.1,
    )

-- seven bytes count any snapshot
pub seven_count : (s : State) (snapshot : List ℕ) → Spells snapshot s → length snapshot < 2 ^ 56
seven_count s snapshot spells =
    omega (
      arith,
      ap (λ (l : List ℕ). length l) spells.spelled,
      snapshot_size s spells.sound spells.form,
      openings_most s.sessions spells.form.sessions,
      spells.form.few_sessions,
      subscribing_most s.subscriptions spells.form.subscriptions,
      spells.form.few_subscriptions,
    )
