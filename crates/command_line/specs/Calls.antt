-- What a client does by the words of a command line, and what is told of that.
use Rattle.std.specs.Prelude.{◌≡◌, ◌≢◌, ◌<◌, ◌≤◌, ◌^◌, ◌⊎◌, List, [], ◌∷◌, ◌++◌, ◌==◌, ◌||◌, ◌&&◌, ℕ, Bool, IfSome, None, Option, Some, true, false, ⊤, bytes_eq, codes, cond, length, nat_eq, not}
use Rattle.std.specs.Borrow.{Bor}
use Rattle.std.specs.List.{AllByRecursion, before_first, position_or_len, starts_with}
use Rattle.std.specs.Fmt.{decimal}
use Rattle.client_core.specs.Doubts.{doubt_text}
use Rattle.client_core.specs.Requests.{is_own, is_unnamed}
use Rattle.client_core.specs.Texts.{client_text, is_unknown}
use Rattle.client_core.specs.declared.peer.Address.{Address}
use Rattle.client_core.specs.declared.fault.ClientFault.{ClientFault}
use Rattle.client_core.specs.declared.fault.Doubt.{Doubt}
use Rattle.client_core.specs.declared.plan.Errand.{Errand}
use Rattle.client_core.specs.declared.plan.Plan.{Plan}
use Rattle.command_line.specs.Addresses.{IsAddress}
use Rattle.command_line.specs.Numbers.{IsNumber}
use Rattle.command_line.specs.declared.calling.Call.{Call}
use Rattle.command_line.specs.declared.calling.Call.TheVariants.{Send, Listen, Move, Forget}
use Rattle.command_line.specs.declared.calling.Uncalled.{Uncalled}
use Rattle.command_line.specs.declared.calling.Uncalled.TheVariants.{Words, Word}
use Rattle.command_line.specs.declared.words.WordKind.{WordKind}
use Rattle.command_line.specs.declared.words.WordKind.TheVariants as kinds

-- the words that name what a client does
abbrev pub is_call_name : List ℕ → Bool
is_call_name name = bytes_eq name (codes "send") || bytes_eq name (codes "listen") || bytes_eq name (codes "move") || bytes_eq name (codes "forget")

-- the word after the program's name is one
abbrev pub names_call : List (List ℕ) → Bool
names_call [] = false
names_call (program ∷ []) = false
names_call (program ∷ name ∷ words) = is_call_name name

-- what is told of a conversation that was not finished, also if a message may have been taken
abbrev pub call_text : ClientFault → List ℕ
call_text fault = cond (is_unknown fault.step fault.cause) (client_text fault ++ codes "; the server may have taken it, or not") (client_text fault)

-- what is told of the lines before one that was not sent
abbrev pub taken_text : ℕ → List ℕ
taken_text taken = decimal taken ++ codes " lines before it were taken"

-- what is told of the lines that were sent from it on, of which that one has no RECEIPT
abbrev pub unsure_text : ℕ → List ℕ
unsure_text unsure = decimal unsure ++ codes " lines from it on were sent; the server may have taken each of them, or not"

-- what is told of how many messages were moved
abbrev pub moved_line : ℕ → List ℕ
moved_line moved = codes "moved " ++ decimal moved ++ codes " messages" ++ 10 ∷ []

-- why no more were, and what is not known of the next one
abbrev pub unmoved_text : Doubt → ClientFault → List ℕ
unmoved_text doubt fault = client_text fault ++ doubt_text doubt

-- Others may get what is shown, and it is not taken: the messages of a queue or a durable name, if none is settled.
abbrev pub is_lent : Plan → Bool
is_lent plan = cond plan.settles false (not (is_own plan))

-- how many messages can be waited for: 16 of those that others may get (docs/PROTOCOL.md, "Limits")
abbrev pub most_of : Plan → ℕ
most_of plan = cond (is_lent plan) 16 18446744073709551615

-- so many can come
abbrev pub CanCome : Plan → ℕ → Type 0
CanCome plan count = (0 < count) × (count ≤ most_of plan)

-- a queue has no durable names
abbrev pub names_queue : Plan → Bool
names_queue plan = cond (is_unnamed plan.name) false (starts_with nat_eq plan.destination.now (codes "/queue/"))

-- a word that may be left out is not empty
abbrev pub IsFilled : Option (Bor (List ℕ)) → Type 0
IsFilled None = ⊤
IsFilled (Some word) = word.now ≢ []

-- the headers that `send` writes into a SEND, or the server into a MESSAGE
abbrev pub is_own_name : List ℕ → Bool
is_own_name name =
    bytes_eq name (codes "destination") || bytes_eq name (codes "receipt") || bytes_eq name (codes "content-length")
    || bytes_eq name (codes "subscription") || bytes_eq name (codes "message-id") || bytes_eq name (codes "ack")

-- A header of this name may be given: it has a name, which is none of those, and names no transaction, since `send` opens none.
abbrev pub MayBeGiven : List ℕ → Type 0
MayBeGiven name = (name ≢ []) × (is_own_name name ≡ false) × (name ≢ codes "transaction")

-- messages are kept there: a queue has no durable names, and a topic keeps messages for no other
abbrev pub Keeps : List ℕ → Option (Bor (List ℕ)) → Type 0
Keeps place None = starts_with nat_eq place (codes "/topic/") ≡ false
Keeps place (Some name) = starts_with nat_eq place (codes "/queue/") ≡ false

-- Messages can be moved: one at least, for which it is waited a second at least. They are kept where they are: in a queue, or under a durable
-- name, which has its client, and neither is empty.
pub record CanBeMoved (client : Option (Bor (List ℕ))) (errand : Errand) : Type 0 where
  pub count : IfSome errand.count (λ count. 0 < count)
  pub timeout : 0 < errand.timeout
  pub place : Keeps errand.from.now errand.name
  pub both : is_unnamed client ≡ is_unnamed errand.name
  pub owner : IsFilled client
  pub durable : IsFilled errand.name

-- What is asked of a client can be done. Each header may be given, and lines of standard input come with no other body. A durable name has
-- its client, and neither is empty.
abbrev pub CanBeDone : Call → Type 0
CanBeDone (Send address destination headers body by_lines) = AllByRecursion (λ header. MayBeGiven header.0.now) headers.items × (by_lines ≡ true → body ≡ None)
CanBeDone (Listen address client plan) = CanCome plan plan.count × (names_queue plan ≡ false) × (is_unnamed client ≡ is_unnamed plan.name) × IsFilled client × IsFilled plan.name
CanBeDone (Move address client other errand) = CanBeMoved client errand × (other ≡ None → errand.from.now ≢ errand.to.now)
CanBeDone (Forget address client name) = (client.now ≢ []) × (name.now ≢ [])

-- the name in `NAME:VALUE`
abbrev pub name_in : List ℕ → List ℕ
name_in word = before_first (λ b. b == 58) word

-- The word is not of that kind: no address, no number from 1 on, a number over 16, or no header, since it has no colon or no name before it.
-- Or that name may not be given.
abbrev pub IsNoneOf : WordKind → List ℕ → Type 0
IsNoneOf kinds.Address word = (address : Address) → IsAddress word address → ⊥
IsNoneOf kinds.Count word = (n : ℕ) → IsNumber word n → 0 < n → 2 ^ 64 ≤ n
IsNoneOf kinds.UnsettledCount word = (n : ℕ) × IsNumber word n × (16 < n)
IsNoneOf kinds.Header word = (position_or_len (λ b. b == 58) word ≡ length word) ⊎ (name_in word ≡ [])
IsNoneOf kinds.OwnHeader word = is_own_name (name_in word) ≡ true
IsNoneOf kinds.Transaction word = name_in word ≡ codes "transaction"
IsNoneOf kinds.BodyOfLines word = ⊤
IsNoneOf kinds.DurableQueue word = ⊤
IsNoneOf kinds.EmptyName word = word ≡ []
IsNoneOf kinds.PlainTopic word = starts_with nat_eq word (codes "/topic/") ≡ true
IsNoneOf kinds.SamePlace word = ⊤
IsNoneOf kinds.Timeout word = (n : ℕ) → IsNumber word n → 0 < n → 2 ^ 64 ≤ n
IsNoneOf _ word = ⊥

-- why nothing is asked of a client is true of the word that is named
abbrev pub IsRefused : Uncalled → Type 0
IsRefused (Words error) = ⊤
IsRefused (Word kind word) = IsNoneOf kind word.now
