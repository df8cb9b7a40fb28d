-- What becomes of boxes that are kept by session, and given outputs.
use Rattle.std.specs.Prelude.{◌≡◌, ◌==◌, ◌+◌, ◌<◌, ◌⊎◌, ℕ, List, ◌++◌, true, false, Option, Some, None, is_none, filter, fold, length, take}
use Rattle.std.specs.BTreeMap.{insert_entry, is_at}
use Rattle.std.specs.Map.{lookup, remove_entry}
use Rattle.std.specs.Ordering.{nat_cmp}
use Rattle.command_core.specs.Outs.{OutValue}
use Rattle.outbox_core.specs.Boxes.{CutsOff, SenderValue}
use Rattle.outbox_core.specs.Weights.{Overfill}

-- boxes with the numbers of their sessions, in rising order
abbrev pub Kept : Type 0
Kept = List (ℕ × SenderValue)

-- the box of a session
abbrev pub box_of : ℕ → Kept → Option SenderValue
box_of session boxes = lookup (is_at (nat_cmp session)) boxes

-- with the box of one more session
abbrev pub with_box : Kept → ℕ → SenderValue → Kept
with_box boxes session box = insert_entry nat_cmp boxes session box

-- without the boxes of some sessions
abbrev pub without : Kept → List ℕ → Kept
without boxes sessions = fold (λ boxes session. remove_entry (is_at (nat_cmp session)) boxes) boxes sessions

-- the outputs that go to a session, in their order
abbrev pub to_session : ℕ → List OutValue → List OutValue
to_session session outs = filter (λ out. out.session == session) outs

-- the outputs that go to sessions without a box, in their order
abbrev pub unboxed : Kept → List OutValue → List OutValue
unboxed boxes outs = filter (λ out. is_none (box_of out.session boxes)) outs

-- a box to which more outputs were given
abbrev pub with_all : SenderValue → List OutValue → SenderValue
with_all box outs = record box { given = box.given ++ outs }

-- A box is cut once it was given `number` of the outputs: none if it was cut before, and otherwise those before the first that it had no
-- room for. With that one, all that was ever given overfills it.
pub record CutAfter (outs : List OutValue) (old new : SenderValue) : Type 0 where
  pub number : ℕ
  pub full : ((old.cut ≡ true) × (number ≡ 0)) ⊎ ((old.cut ≡ false) × (number < length outs) × Overfill old.size (old.given ++ take (number + 1) outs))
  pub cut : CutsOff (with_all old (take number outs)) new

-- A box was given outputs in their order: all of them, or those until it was cut.
abbrev pub IsGiven : List OutValue → SenderValue → SenderValue → Type 0
IsGiven outs old new = ((old.cut ≡ false) × (new ≡ with_all old outs)) ⊎ CutAfter outs old new

-- the same for the box that a session has, if it has one
abbrev pub GivesTo : List OutValue → Option SenderValue → Option SenderValue → Type 0
GivesTo outs None new = new ≡ None
GivesTo outs (Some old) new = (box : SenderValue) × (new ≡ Some box) × IsGiven outs old box

-- Each session's box was given the outputs that go to that session, and no others.
abbrev pub AreGiven : List OutValue → Kept → Kept → Type 0
AreGiven outs old new = (session : ℕ) → GivesTo (to_session session outs) (box_of session old) (box_of session new)
