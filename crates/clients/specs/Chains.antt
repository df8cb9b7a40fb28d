-- The whole life of a connection at a desk.
use Rattle.std.specs.Prelude.{◌≡◌, ◌==◌, ◌⊎◌, ◌++◌, ℕ, List, [], ◌∷◌, Option, cond, option_map}
use Rattle.std.proofs.Common.{inl, inr}
use Rattle.std.specs.List.{AllByRecursion}
use Rattle.clients.specs.Connections.{evicted}
use Rattle.clients.specs.declared.desk.Seated.{Seated}
use Rattle.clients.specs.declared.turned.Turned.{Turned}
use Rattle.clients.specs.Effects.{Effect}
use Rattle.claim_core.specs.Seats.{with_seen}
use Rattle.clients.specs.Desks.{Admits, Changes, DeskValue, desk, Leaves, Others, SitsAt, Touches, Turns}
use Rattle.clients.specs.Histories.{LivesAt}

module _ {B L : Type 0} (sent : L → Option (List (List ℕ))) (received : L → Option (List ℕ)) where
  -- the seat has read the ring's mark, and nothing else has changed
  abbrev pub Looks : DeskValue B L → DeskValue B L → Type 0
  Looks old new = (mark : ℕ) × (new ≡ desk old.limit old.before (with_seen old.seat mark) old.places)

  -- One call of a desk: a turn at a place; a ping or a loss there; an eviction; a look at the mark; or a client comes, or goes.
  abbrev pub Calls : DeskValue B L → DeskValue B L → ℕ → Type 0
  Calls old new at = ((turned : Turned) × Turns sent received old new at turned × Others old.places new.places at) ⊎ (Touches sent received old new at ⊎ (Changes evicted old new at ⊎ (Looks old new ⊎ ((link : L) × (Admits old new link at ⊎ Leaves old new at link)))))

  -- from one desk to others, each by one call
  abbrev pub Chain : DeskValue B L → List (DeskValue B L) → Type 0
  Chain old [] = Unit {0}
  Chain old (new ∷ others) = ((at : ℕ) × Calls old new at) × Chain new others

  abbrev pub deeds_of : (old new : DeskValue B L) (at : ℕ) → Calls old new at → List Effect
  deeds_of old new at (inl turn) = turn.1.effects
  deeds_of old new at (inr other) = []

  -- what was done by the turns at that place
  abbrev pub deeds_at : ℕ → (old : DeskValue B L) (others : List (DeskValue B L)) → Chain old others → List Effect
  deeds_at place old [] chain = []
  deeds_at place old (new ∷ others) chain = cond (chain.0.0 == place) (deeds_of old new chain.0.0 chain.0.1) [] ++ deeds_at place new others chain.1

-- the last of them
abbrev pub last_of : {B L : Type 0} → DeskValue B L → List (DeskValue B L) → DeskValue B L
last_of first [] = first
last_of first (next ∷ others) = last_of next others

-- in each of them somebody sits at that place
abbrev pub AreTaken : {B L : Type 0} → ℕ → List (DeskValue B L) → Type 0
AreTaken {B} {L} place desks = AllByRecursion (λ (d : DeskValue B L). (seated : Seated B L) × SitsAt d.places place seated) desks

-- The link has given these bytes since, and with these effects the connection lives by them.
pub record Lived {B L : Type 0} (received : L → Option (List ℕ)) (from : L) (is : Seated B L) (effects : List Effect) : Type 0 where
  pub got : List ℕ
  pub read : received is.link ≡ option_map (λ bytes. bytes ++ got) (received from)
  pub lives : LivesAt got effects is.client
