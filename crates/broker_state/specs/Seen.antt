use Rattle.std.specs.Prelude.{◌≡◌, Bool, List, MatchOption, Option, ℕ, cond, count_by, false}
use Rattle.std.specs.Borrow.{Bor}
use Rattle.std.specs.BTreeMap.{is_at}
use Rattle.std.specs.BTreeSet.{BTreeSet, contains}
use Rattle.std.specs.Ordering.{ordering_then}
use Rattle.std.specs.declared.cmp.Ordering.{Ordering}
use Rattle.line_core.specs.declared.message.Message.{Message}
use Rattle.line_core.specs.declared.message.MessageNumber.{MessageNumber}
use Rattle.line_core.specs.Lines.{by_number, is_same}
use Rattle.broker_state.specs.declared.subscription.Subscription.{Subscription}

-- a key behind a reference with the number of a message compares by the key, and then by the number
abbrev pub seen_cmp : {K : Type 0} → (K → K → Ordering) → Bor K × MessageNumber → Bor K × MessageNumber → Ordering
seen_cmp cmp x y = ordering_then (cmp x.0.now y.0.now) (by_number x.1 y.1)

-- one if a message of that number was seen under that key, and else none
abbrev pub seen_at : {K : Type 0} → (K → K → Ordering) → BTreeSet (Bor K × MessageNumber) → K → MessageNumber → ℕ
seen_at cmp seen key number = cond (contains (seen_cmp cmp) seen (record { ref_ptr = (0, 0); now = key }, number)) 1 0

-- how many messages have that number
abbrev pub count_of : MessageNumber → List Message → ℕ
count_of number messages = count_by (λ m. is_same number m.number) messages

-- Each call tells from which key's line a subscription takes: from that of the given key and of no other, or from none.
abbrev pub Tells : {K : Type 0} → (K → K → Ordering) → (Bor Subscription → Option (Bor K) → Type 0) → (K → Subscription → Bool) → Type 0
Tells {K} cmp post takes =
    (sub : Bor Subscription) (result : Option (Bor K)) → post sub result
    → MatchOption result ((key : K) → takes key sub.now ≡ false) (λ own. (key : K) → takes key sub.now ≡ is_at (cmp key) own.now)
