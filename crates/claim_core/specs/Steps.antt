-- What each step lets the seat that makes it know.
use Rattle.std.specs.Prelude.{◌≡◌, ℕ, ◌+◌, ◌*◌, ◌%◌, ◌<◌, ◌≤◌, List, [], ◌∷◌, ◌++◌, ◌≢◌, length, Bool, Option, Some, None, true, false}
use mathlib.Core.Option.{some}
use Rattle.atomic_table.specs.Seated.{TableId}
use Rattle.atomic_table.specs.Table.{Step, Me, rest}
use Rattle.command_core.specs.Commands.{CommandValue}
use Rattle.command_core.specs.Entries.{EntryValue}
use Rattle.claim_core.specs.declared.views.Claimer.{Claimer}
use Rattle.claim_core.specs.declared.views.Owner.{Owner}
use Rattle.claim_core.specs.declared.views.View.{View}
use Rattle.claim_core.specs.declared.views.View.TheVariants.{Owns, Claims, Spent}
use lib.ListN.{get_elem?}
use Rattle.claim_core.specs.Counts.{Pair, above, sum_of, times}
use Rattle.claim_core.specs.Rule.{far, stop_word, IsRising, IsOwnOf}

abbrev pub claimer : List Pair → Option ℕ → ℕ → Bool → Claimer
claimer own pending seen stopped = record { own = own; pending = pending; seen = seen; stopped = stopped }

abbrev pub owning : ℕ → List CommandValue → Bool → ℕ → Bool → ℕ → List Claimer → Owner
owning base taken held published stopped count joined = record { base = base; taken = taken; held = held; published = published; stopped = stopped; count = count; joined = joined }

-- the ticket after those taken
abbrev pub next_of : Owner → ℕ
next_of o = o.base + length o.taken

-- the owner deals a seat
abbrev pub dealt : View → View
dealt (Owns o) = Owns (owning o.base o.taken o.held o.published o.stopped (o.count + 1) o.joined)
dealt (Claims c) = Claims c
dealt Spent = Spent

abbrev pub fresh : View → View
fresh (Owns o) = Claims (claimer [] None o.base false)
fresh (Claims c) = Spent
fresh Spent = Spent

-- the owner takes a seat back
abbrev pub joined_with : Owner → View → View
joined_with o (Owns p) = Owns o
joined_with o (Claims c) = Owns (owning o.base o.taken o.held o.published o.stopped o.count (o.joined ++ c ∷ []))
joined_with o Spent = Owns o

abbrev pub joined_to : View → View → View
joined_to (Owns o) w = joined_with o w
joined_to (Claims c) w = Claims c
joined_to Spent w = Spent

-- the owner hands out again, as it came, the first of the seats that it has taken back
abbrev pub without_first : List Claimer → List Claimer
without_first [] = []
without_first (c ∷ cs) = cs

abbrev pub first_of : List Claimer → View
first_of [] = Spent
first_of (c ∷ cs) = Claims c

abbrev pub handed_back : View → View
handed_back (Owns o) = Owns (owning o.base o.taken o.held o.published o.stopped o.count (without_first o.joined))
handed_back (Claims c) = Claims c
handed_back Spent = Spent

abbrev pub came_back : View → View
came_back (Owns o) = first_of o.joined
came_back (Claims c) = Spent
came_back Spent = Spent

-- the owner splits off a seat that knows nothing
abbrev pub nobody : View → View
nobody v = Spent

-- the seat is at that table, which has three words before those of its places
abbrev pub IsAt : TableId → TableId → Type 0
IsAt seat board = (seat ≡ board) × (board.words ≡ board.slots + 3)

-- the place of a ticket, if there are n
abbrev pub IsPlaceOf : ℕ → ℕ → ℕ → Type 0
IsPlaceOf ticket place n = (place ≡ ticket % n) × (place < n)

-- a ticket may be claimed: none is pending, few commands wait for the mark, and the mark isn't far
abbrev pub MayClaim : ℕ → View → Type 0
MayClaim window v = (c : Claimer) × (v ≡ Claims c) × (c.pending ≡ None) × (above c.seen c.own < window) × (c.seen < far)

-- the ticket n comes after all of these
abbrev pub IsLast : ℕ → List Pair → Type 0
IsLast n own = (k : ℕ) (p : Pair) → get_elem? own k ≡ some p → p.0 < n

-- a seat: what it knows, and the places that it has out
abbrev pub Sat : Type 0 → Type 0
Sat B = Me (Option (EntryValue B)) View

-- What the owner learns at its last load: there is one history, and what was taken is its beginning. If every seat has come back, each
-- ticket of the history stands once in one seat's own pairs. A seat's pairs rise, and are the history's commands.
abbrev pub Ended : Owner → ℕ → Type 0
Ended o tail =
    (log : List CommandValue)
    × (tail ≡ o.base + length log)
    × ((rest : List CommandValue) × (log ≡ o.taken ++ rest))
    × (o.base ≤ o.published)
    × (o.published ≤ next_of o)
    × (length o.joined ≡ o.count → (i : ℕ) → i < length log → sum_of (λ (c : Claimer). times (o.base + i) c.own) o.joined ≡ 1)
    × ((k : ℕ) (c : Claimer) → get_elem? o.joined k ≡ some c → IsRising o.base c.own × (c.seen ≤ o.published) × (c.stopped ≡ true → o.stopped ≡ true) × IsOwnOf o.base log c.own)

-- the ticket is the last own one, for the entry's command, and pending; its place was taken last, and is empty
abbrev pub MayFill : {B : Type 0} → ℕ → ℕ → EntryValue B → Sat B → Type 0
MayFill {B} ticket place e me = (c : Claimer) × (own : List Pair) × (more : List (ℕ × Option (EntryValue B)))
    × (me.0 ≡ Claims c) × (c.pending ≡ Some ticket) × (c.own ≡ own ++ (ticket, e.command) ∷ []) × (me.1 ≡ (place, None) ∷ more)

-- the ticket was taken last, and its place is held and empty
abbrev pub MayFree : {B : Type 0} → ℕ → ℕ → Sat B → Type 0
MayFree {B} ticket place me = (o : Owner) × (more : List (ℕ × Option (EntryValue B))) × (me.0 ≡ Owns o) × (o.held ≡ true) × (ticket + 1 ≡ next_of o) × (me.1 ≡ (place, None) ∷ more)

-- the mark may be raised to m
abbrev pub MayRaise : ℕ → View → Type 0
MayRaise m v = (o : Owner) × (v ≡ Owns o) × (o.held ≡ false) × (o.published ≤ m) × (m ≤ next_of o)

-- Each of these says what becomes of the view. It speaks of a step, the seat before it, the number that it found (or at a store, stored),
-- and the seat after it.
module _ {B : Type 0} where
  -- the mark is loaded
  abbrev pub saw_mark : Step (Option (EntryValue B)) → Sat B → ℕ → Sat B → Type 0
  saw_mark st m n m' = (m'.1 ≡ m.1) × ((c : Claimer) → m.0 ≡ Claims c → (c.seen ≤ n) × (m'.0 ≡ Claims (claimer c.own c.pending n c.stopped)))

  -- the stop word is loaded
  abbrev pub saw_stop : Step (Option (EntryValue B)) → Sat B → ℕ → Sat B → Type 0
  saw_stop st m n m' = (m'.1 ≡ m.1) × ((c : Claimer) → m.0 ≡ Claims c → (b : Bool) × (n ≡ stop_word b) × (m'.0 ≡ Claims (claimer c.own c.pending c.seen b)))

  -- the next ticket is claimed for the command x
  abbrev pub claimed : CommandValue → Step (Option (EntryValue B)) → Sat B → ℕ → Sat B → Type 0
  claimed x st m n m' = (m'.1 ≡ (n % st.slots, None) ∷ m.1) × (n < 4 * far)
      × ((c : Claimer) → m.0 ≡ Claims c → (m'.0 ≡ Claims (claimer (c.own ++ (n, x) ∷ []) (Some n) c.seen c.stopped)) × (c.seen ≤ n) × IsLast n c.own)

  -- the same, for the command that the call was given
  abbrev pub claimed_for : Option CommandValue → Step (Option (EntryValue B)) → Sat B → ℕ → Sat B → Type 0
  claimed_for said st m n m' = (x : CommandValue) → said ≡ Some x → claimed x st m n m'

  -- the pending ticket is made ready
  abbrev pub readied : Step (Option (EntryValue B)) → Sat B → ℕ → Sat B → Type 0
  readied st m n m' = (m'.1 ≡ rest m.1) × ((c : Claimer) → m.0 ≡ Claims c → m'.0 ≡ Claims (claimer c.own None c.seen c.stopped))

  -- the next ready entry is taken, or nothing is
  abbrev pub took : Step (Option (EntryValue B)) → Sat B → ℕ → Sat B → Type 0
  took st m n m' =
      (n ≢ st.first → m' ≡ m)
      × (n ≡ st.first → (o : Owner) → m.0 ≡ Owns o → (e : EntryValue B) × (m'.1 ≡ (next_of o % st.slots, Some e) ∷ m.1) × (m'.0 ≡ Owns (owning o.base (o.taken ++ e.command ∷ []) true o.published o.stopped o.count o.joined)) × (next_of o < 4 * far))

  -- the place of what was taken is freed
  abbrev pub freed : Step (Option (EntryValue B)) → Sat B → ℕ → Sat B → Type 0
  freed st m n m' = (m'.1 ≡ rest m.1) × ((o : Owner) → m.0 ≡ Owns o → m'.0 ≡ Owns (owning o.base o.taken false o.published o.stopped o.count o.joined))

  -- the mark is raised
  abbrev pub raised : Step (Option (EntryValue B)) → Sat B → ℕ → Sat B → Type 0
  raised st m n m' = (m'.1 ≡ m.1) × ((o : Owner) → m.0 ≡ Owns o → m'.0 ≡ Owns (owning o.base o.taken o.held n o.stopped o.count o.joined))

  -- the ring is stopped
  abbrev pub stopped : Step (Option (EntryValue B)) → Sat B → ℕ → Sat B → Type 0
  stopped st m n m' = (m'.1 ≡ m.1) × ((o : Owner) → m.0 ≡ Owns o → m'.0 ≡ Owns (owning o.base o.taken o.held o.published true o.count o.joined))

  -- the owner's last load
  abbrev pub ended : Step (Option (EntryValue B)) → Sat B → ℕ → Sat B → Type 0
  ended st m n m' = (m' ≡ m) × ((o : Owner) → m.0 ≡ Owns o → Ended o n)
