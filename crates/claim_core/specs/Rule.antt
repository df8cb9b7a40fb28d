-- The rule of the ring: what holds of its words, of its places and of what its seats know, between any two steps.
use Rattle.std.specs.Prelude.{◌≡◌, ◌≢◌, ℕ, ◌+◌, ◌*◌, ◌%◌, ◌<◌, ◌≤◌, ◌⊎◌, List, [], ◌∷◌, ◌++◌, length, slice_index_or, Option, Some, None, Bool, true, false}
use mathlib.Core.Option.{some, none}
use mathlib.Core.Option as maybe
use lib.ListN.{get_elem?}
use Rattle.atomic_table.specs.Table.{State}
use Rattle.command_core.specs.Commands.{CommandValue}
use Rattle.command_core.specs.Entries.{EntryValue}
use Rattle.claim_core.specs.declared.views.Limits.{Limits}
use Rattle.claim_core.specs.declared.views.Claimer.{Claimer}
use Rattle.claim_core.specs.declared.views.Owner.{Owner}
use Rattle.claim_core.specs.declared.views.View.{View}
use Rattle.claim_core.specs.declared.views.View.TheVariants.{Owns, Claims, Spent}
use Rattle.claim_core.specs.Counts.{Pair, sum_of, times, above, times_of, pends_of, heads}
use Rattle.claim_core.specs.Places.{free_for, ready_at, taken_at}

-- 2 ^ 60: from here on nothing more is claimed
abbrev pub far : ℕ
far = 1152921504606846976

-- what the stop word reads
abbrev pub stop_word : Bool → ℕ
stop_word true = 1
stop_word false = 0

abbrev pub first_view : Limits → View
first_view key = Owns record { base = key.base; taken = []; held = false; published = key.base; stopped = false; count = 0; joined = [] }

-- each ticket is over the one before it, and lo or more
abbrev pub IsRising : ℕ → List Pair → Type 0
IsRising lo [] = Unit {0}
IsRising lo (p ∷ ps) = (lo ≤ p.0) × IsRising (p.0 + 1) ps

-- each own pair is a ticket and the command that the history has there
abbrev pub IsOwnOf : ℕ → List CommandValue → List Pair → Type 0
IsOwnOf base log own = (k : ℕ) (p : Pair) → get_elem? own k ≡ some p → (i : ℕ) × (p.0 ≡ base + i) × (get_elem? log i ≡ some p.1)

-- What a session's seat knows is true. `mark` and `stopped` are the owner's, `next` is the ticket after those taken, and `log` is the
-- history, the commands of all tickets from the base on
pub record ClaimerOk (base window mark : ℕ) (stopped : Bool) (next : ℕ) (log : List CommandValue) (c : Claimer) : Type 0 where
  pub pairs : IsOwnOf base log c.own
  pub rising : IsRising base c.own
  -- few of its commands wait for the mark that it has seen, which the mark has reached
  pub window_kept : above c.seen c.own ≤ window
  pub seen_low : c.seen ≤ mark
  pub stop_seen : c.stopped ≡ true → stopped ≡ true
  -- few of its tickets are far, so no word wraps
  pub few_far : above far c.own ≤ window
  -- a pending ticket is its own, and was not taken
  pub pending_own : (t : ℕ) → c.pending ≡ Some t → (1 ≤ times t c.own) × (next ≤ t)

-- the view of the seat j: the owner's is the first, and those that it has taken back have nothing pending
abbrev pub Fits : ℕ → ℕ → ℕ → Bool → ℕ → List CommandValue → ℕ → View → Type 0
Fits base window mark stopped next log j (Owns o) = (j ≡ 0) × ((k : ℕ) (c : Claimer) → get_elem? o.joined k ≡ some c → (c.pending ≡ None) × ClaimerOk base window mark stopped next log c)
Fits base window mark stopped next log j (Claims c) = ClaimerOk base window mark stopped next log c
Fits base window mark stopped next log j Spent = Unit {0}

-- the place of the ticket t, if there are n places
module _ {B : Type 0} (n : ℕ) (words : List ℕ) (homes : List (maybe.Option (Option (EntryValue B)))) where
  abbrev pub face : ℕ → ℕ
  face t = slice_index_or words (t % n + 3) 0

  abbrev pub home : ℕ → maybe.Option (maybe.Option (Option (EntryValue B)))
  home t = get_elem? homes (t % n)

  -- It is free for t; or claimed, and out with the seat that t waits for; or ready, with the entry that the history has at t. Here p counts
  -- the seats that t is pending at.
  abbrev pub Stands : ℕ → List CommandValue → ℕ → ℕ → Type 0
  Stands base log p t =
      ((base + length log ≤ t) × (face t ≡ free_for t) × (home t ≡ some (some None)))
      ⊎ (((t < base + length log) × (p ≡ 1) × (face t ≡ free_for t) × (home t ≡ some none))
      ⊎ ((t < base + length log) × (p ≡ 0) × (face t ≡ ready_at t) × ((e : EntryValue B) × (i : ℕ) × (home t ≡ some (some (Some e))) × (t ≡ base + i) × (get_elem? log i ≡ some e.command))))

  -- it is out with the flusher
  abbrev pub IsHeld : ℕ → Type 0
  IsHeld t = (face t ≡ taken_at t) × (home t ≡ some none)

pub record RingRule {B : Type 0} (key : Limits) (s : State (Option (EntryValue B)) View) : Type 0 where
  -- the history, and the owner's view
  pub log : List CommandValue
  pub owner : Owner
  -- the limits
  pub base_low : key.base ≤ 2 * far
  pub roomy : key.seats * key.window ≤ length s.homes
  pub some_place : 0 < length s.homes
  pub small : length s.homes ≤ 4096
  pub wide : length s.words ≡ length s.homes + 3
  -- the words: the next ticket, the mark, and whether the ring is stopped
  pub tail_is : slice_index_or s.words 0 0 ≡ key.base + length log
  pub mark_is : slice_index_or s.words 1 0 ≡ owner.published
  pub stop_is : slice_index_or s.words 2 0 ≡ stop_word owner.stopped
  -- the owner: what it has taken begins the history, and the mark lies between the base and what was taken
  pub at_owner : get_elem? s.views 0 ≡ some (Owns owner)
  pub base_is : owner.base ≡ key.base
  pub low : key.base ≤ owner.published
  pub published_low : owner.published ≤ key.base + length owner.taken
  pub prefix : (rest : List CommandValue) × (log ≡ owner.taken ++ rest)
  -- the sessions: each ticket of the history is one seat's own
  pub counted : sum_of heads s.views ≡ owner.count
  pub few : owner.count ≤ key.seats
  pub once : (i : ℕ) → i < length log → sum_of (times_of (key.base + i)) s.views ≡ 1
  pub each_view : (j : ℕ) (v : View) → get_elem? s.views j ≡ some v → Fits key.base key.window owner.published owner.stopped (key.base + length owner.taken) log j v
  -- the places of one round of tickets, from the first that was not taken; if the flusher holds a place, the last of these isn't free yet
  pub places : (t : ℕ) → key.base + length owner.taken ≤ t → t < key.base + length owner.taken + length s.homes
      → (owner.held ≡ true → t + 1 ≢ key.base + length owner.taken + length s.homes) → Stands (length s.homes) s.words s.homes key.base log (sum_of (pends_of t) s.views) t
  pub held : owner.held ≡ true → (t : ℕ) × (t + 1 ≡ key.base + length owner.taken) × (owner.published ≤ t) × IsHeld (length s.homes) s.words s.homes t
