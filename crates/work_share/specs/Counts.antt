-- What is counted of commands and topics.
use Rattle.std.specs.Prelude.{◌+◌, ◌-◌, ◌*◌, ◌/◌, ◌%◌, ◌^◌, ◌≡◌, ◌≢◌, ℕ, List, [], Option, None, Some, cond, max, min, nat_le, bit_xor, fold, length, sum_by}
use Rattle.std.specs.List.{AllByRecursion}
use Rattle.command_core.specs.declared.command.Op.{Op}
use Rattle.command_core.specs.declared.command.Op.TheVariants.{Subscribe, Send, Commit}
use Rattle.command_core.specs.declared.command.Member.{Member}
use Rattle.command_core.specs.declared.command.Member.TheVariants as members
use Rattle.command_core.specs.Destinations.{is_queue}
use Rattle.work_share.specs.declared.audiences.TheConstants.{MOST_COPIES}
use Rattle.work_share.specs.declared.audiences.Sample.{Sample}
use Rattle.work_share.specs.declared.audiences.Sample.TheVariants.{Nothing, Joins, Sent}

-- the greatest number that is counted
abbrev pub most : ℕ
most = 2 ^ 64 - 1

-- what a command costs if its ticket is the mark or a later one
abbrev pub cost_at : ℕ → ℕ × ℕ → ℕ
cost_at mark command = cond (nat_le mark command.0) command.1 0

-- what those of these commands cost that are under way at that mark
abbrev pub cost_from : ℕ → List (ℕ × ℕ) → ℕ
cost_from mark commands = sum_by (cost_at mark) commands

-- a step of the hash FNV-1a with 64 bits
abbrev pub with_byte : ℕ → ℕ → ℕ
with_byte h byte = (bit_xor h byte * 1099511628211) % 2 ^ 64

-- that hash of these bytes
abbrev pub hash : List ℕ → ℕ
hash bytes = fold with_byte 14695981039346656037 bytes

-- the place where a topic's audience is counted; a queue has none
abbrev pub place_for : List ℕ → Option ℕ
place_for destination = cond (is_queue destination) None (Some ((hash destination / 2 ^ 32) % 4096))

-- the place of the topic to which a member sends
abbrev pub place_sent : Member → Option ℕ
place_sent (members.Send sending) = place_for sending.destination
place_sent (members.Ack _) = None
place_sent (members.Nack _) = None

-- it sends to a topic that is counted there
abbrev pub SendsTo : ℕ → Member → Type 0
SendsTo place member = place_sent member ≡ Some place

-- what a subscription or a message to that place shows
abbrev pub shown_at : (ℕ → Sample) → Option ℕ → Sample
shown_at shows None = Nothing
shown_at shows (Some place) = shows place

-- what a transaction shows: how many messages it has if all its members are messages to one place, or else nothing
abbrev pub IsSampleOf : List Member → Sample → Type 0
IsSampleOf all Nothing = (place : ℕ) → AllByRecursion (SendsTo place) all → all ≡ []
IsSampleOf all (Joins place) = ⊥
IsSampleOf all (Sent place count) = (count ≡ length all) × (all ≢ []) × AllByRecursion (SendsTo place) all

-- what an operation shows of a topic's audience
abbrev pub Shows : Op → Sample → Type 0
Shows (Subscribe id destination mode durable) sample = sample ≡ shown_at Joins (place_for destination)
Shows (Send sending) sample = sample ≡ shown_at (λ place. Sent place 1) (place_for sending.destination)
Shows (Commit all) sample = IsSampleOf all sample
Shows _ sample = sample ≡ Nothing

-- the place of the topic of which it shows something
abbrev pub place_shown : Sample → Option ℕ
place_shown Nothing = None
place_shown (Joins place) = Some place
place_shown (Sent place _) = Some place

-- The audience that a topic is taken for, once a command that showed this had `outs` outputs. One more joins; or each message went to so many.
-- What is too much falls slowly, since topics share a place.
abbrev pub audience_after : Sample → (known outs : ℕ) → ℕ
audience_after Nothing known outs = known
audience_after (Joins _) known outs = min (known + 1) MOST_COPIES
audience_after (Sent _ count) known outs = max (outs / max count 1) (known - known / 16)
