-- What reads take of a stream, and what writes give it, one behind the other.
use Rattle.std.proofs.Common.{◌≡◌, ◌∙◌, ◌++◌, ◌+◌, List, [], ℕ, Option, Some, None, ap, append_assoc, drop, refl, subst, sym, take, arith}
use Rattle.std.proofs.lemmas.List.{drop-take, take-append-drop, take-take}
use Rattle.std.specs.Io.KnownBytes.{Appends, Consumes, Keeps}
use Rattle.ws_core.specs.Handshakes.{ReadsOn, WritesOn}

pub consumes_nothing : (unread : Option (List ℕ)) → Consumes unread unread []
consumes_nothing None = tt
consumes_nothing (Some a) = refl

pub consumes_append : (unread middle left : Option (List ℕ)) (x y : List ℕ) → Consumes unread middle x → Consumes middle left y → Consumes unread left (x ++ y)
consumes_append None middle left x y first second = tt
consumes_append (Some a) None left x y first second = absurd first
consumes_append (Some a) (Some b) None x y first second = absurd second
consumes_append (Some a) (Some b) (Some c) x y first second = first ∙ ap (λ z. x ++ z) second ∙ sym (append_assoc x y c)

-- a read that gave nothing leaves what was read
pub consumes_kept : (unread middle left : Option (List ℕ)) (x : List ℕ) → Consumes unread middle x → Keeps middle left → Consumes unread left x
consumes_kept None middle left x first kept = tt
consumes_kept (Some a) None left x first kept = absurd first
consumes_kept (Some a) (Some b) None x first kept = absurd kept
consumes_kept (Some a) (Some b) (Some c) x first kept = first ∙ ap (λ z. x ++ z) (sym kept)

pub appends_append : (held middle new : Option (List ℕ)) (x y : List ℕ) → Appends held middle x → Appends middle new y → Appends held new (x ++ y)
appends_append None middle new x y first second = tt
appends_append (Some a) None new x y first second = absurd first
appends_append (Some a) (Some b) None x y first second = absurd second
appends_append (Some a) (Some b) (Some c) x y first second = second ∙ ap (λ z. z ++ y) first ∙ append_assoc a x y

pub appends_kept : (held middle new : Option (List ℕ)) (x : List ℕ) → Appends held middle x → Keeps middle new → Appends held new x
appends_kept None middle new x first kept = tt
appends_kept (Some a) None new x first kept = absurd first
appends_kept (Some a) (Some b) None x first kept = absurd kept
appends_kept (Some a) (Some b) (Some c) x first kept = kept ∙ first

-- what a read gave comes behind what was read
pub read_on : (old new : Option (List ℕ)) (head piece : List ℕ) → Consumes old new piece → ReadsOn old new head (head ++ piece)
read_on old new head piece more unread before = consumes_append unread old new head piece before more

pub read_nothing : (old new : Option (List ℕ)) (head : List ℕ) → Keeps old new → ReadsOn old new head head
read_nothing old new head kept unread before = consumes_kept unread old new head before kept

take_on : (n k : ℕ) (xs : List ℕ) → take n xs ++ take k (drop n xs) ≡ take (n + k) xs
take_on n k xs =
    ap (λ a. a ++ take k (drop n xs)) (sym (take-take n (n + k) xs (omega arith)))
    ∙ (ap (λ b. take n (take (n + k) xs) ++ b) (sym (drop-take n k xs)) ∙ take-append-drop n (take (n + k) xs))

-- what a write took of the rest of a response comes behind what was written
pub wrote_on : (old new : Option (List ℕ)) (n k : ℕ) (xs : List ℕ) → Appends old new (take k (drop n xs)) → WritesOn old new (take n xs) (take (n + k) xs)
wrote_on old new n k xs more held before =
    subst (Appends held new) (take_on n k xs) (appends_append held old new (take n xs) (take k (drop n xs)) before more)

pub wrote_nothing : (old new : Option (List ℕ)) (said : List ℕ) → Keeps old new → WritesOn old new said said
wrote_nothing old new said kept held before = appends_kept held old new said before kept
