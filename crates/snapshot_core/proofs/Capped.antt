-- Sums that stay at the greatest number of eight bytes.
use Rattle.std.proofs.Common.{◌≡◌, ◌<◌, ◌+◌, ◌∙◌, ◌^◌, ℕ, List, [], ◌∷◌, ◌++◌, ap, sym, length, option_map, length-append, flat_map, get_or, take, arith}
use Rattle.std.specs.Int.{w64, to_be_bytes}
use Rattle.std.proofs.lemmas.List.{take_more, flat_map_more}
use Rattle.command_core.specs.PartSizes.{sending_size}
use Rattle.command_core.specs.PartSpellings.{counted, mode_byte, optional}
use Rattle.command_core.proofs.PartsSized.{sending_sized}
use Rattle.line_core.specs.declared.message.Message.{Message}
use Rattle.snapshot_core.specs.Lengths.{counted_in_eight}
use Rattle.broker_state.specs.declared.subscription.Subscription.{Subscription}
use Rattle.broker_core.specs.Names.{Name, name_cmp}
use Rattle.broker_core.specs.States.{State}
use Rattle.broker_core.specs.Waiting.{Shared, line_at}
use Rattle.snapshot_core.specs.Snapshots.{delivery, durable, line, listed, message, own_line, queue, session, snapshot_of, subscription}

-- what was counted so far, and more
pub more_counted : (a b : ℕ) → counted_in_eight (counted_in_eight a + b) ≡ counted_in_eight (a + b)
more_counted a b = omega arith

pub both_counted : (a b : ℕ) → counted_in_eight (counted_in_eight a + counted_in_eight b) ≡ counted_in_eight (a + b)
both_counted a b = omega arith

-- nothing is left
pub all_counted : (t n : ℕ) → t < 2 ^ 64 → counted_in_eight (t + 0) ≡ counted_in_eight n → t ≡ counted_in_eight n
all_counted t n fits is = omega arith

pub message_counted : (m : Message) → length (message m) ≡ 12 + sending_size m.sending
message_counted m = omega (arith, sending_sized m.sending)

-- and one more of a list
pub next_counted : {X : Type 0} (f : X → List ℕ) (head t more : ℕ) (xs : List X) (i : ℕ) (x : X) → i < length xs → x ≡ get_or xs i x → t ≡ counted_in_eight (head + length (flat_map f (take i xs))) → more ≡ counted_in_eight (length (f x))
    → counted_in_eight (t + more) ≡ counted_in_eight (head + length (flat_map f (take (i + 1) xs)))
next_counted f head t more xs i x lt is so_far here =
    let one : take (i + 1) xs ≡ take i xs ++ x ∷ [] = take_more xs i x lt ∙ ap (λ y. take i xs ++ y ∷ []) (sym is) in
    let joined : flat_map f (take (i + 1) xs) ≡ flat_map f (take i xs) ++ f x = ap (flat_map f) one ∙ sym (flat_map_more f [] (take i xs) x) in
    let long : length (flat_map f (take (i + 1) xs)) ≡ length (flat_map f (take i xs)) + length (f x) = ap length joined ∙ length-append (flat_map f (take i xs)) (f x) in
    omega (arith, so_far, here, long)

four : (a b c d : List ℕ) → length (a ++ b ++ c ++ d) ≡ length a + length b + length c + length d
four a b c d = omega (arith, length-append (a ++ b ++ c) d, length-append (a ++ b) c, length-append a b)

pub durable_counted : (shared : Shared) (e : Name × List ℕ) → length (durable shared e) ≡ length (counted e.0.0) + length (counted e.0.1) + length (counted e.1) + length (line (line_at name_cmp e.0 shared.names))
durable_counted shared e = four (counted e.0.0) (counted e.0.1) (counted e.1) (line (line_at name_cmp e.0 shared.names))

pub queue_counted : (e : List ℕ × List Message) → length (queue e) ≡ length (counted e.0) + length (line e.1)
queue_counted e = length-append (counted e.0) (line e.1)

pub subscription_counted : (sub : Subscription) → length (subscription sub) ≡ 17 + length sub.id + length sub.destination + length (optional (option_map (λ (name : Name). name.1) sub.durable)) + length (own_line sub) + length (listed delivery sub.unacknowledged)
subscription_counted sub =
    let session = to_be_bytes w64 sub.session in
    let head = session ++ counted sub.id ++ counted sub.destination in
    let named = mode_byte sub.mode ∷ optional (option_map (λ (name : Name). name.1) sub.durable) in
    let id = length-append session (counted sub.id) in
    let to = length-append (session ++ counted sub.id) (counted sub.destination) in
    let mode = length-append head named in
    let own = length-append (head ++ named) (own_line sub) in
    let all = length-append (head ++ named ++ own_line sub) (listed delivery sub.unacknowledged) in
    omega (arith, id, to, mode, own, all)

pub state_counted : (s : State) → length (snapshot_of s) ≡ 16 + length (listed session s.sessions) + length (listed (durable s.shared) s.durables) + length (listed queue s.shared.queues) + length (listed subscription s.subscriptions)
state_counted s =
    let head = to_be_bytes w64 s.count ++ to_be_bytes w64 s.next_delivery in
    let sessions = listed session s.sessions in
    let durables = listed (durable s.shared) s.durables in
    let queues = listed queue s.shared.queues in
    let subscriptions = listed subscription s.subscriptions in
    let one = length-append head sessions in
    let two = length-append (head ++ sessions) durables in
    let three = length-append (head ++ sessions ++ durables) queues in
    let all = length-append (head ++ sessions ++ durables ++ queues) subscriptions in
    omega (arith, one, two, three, all)
