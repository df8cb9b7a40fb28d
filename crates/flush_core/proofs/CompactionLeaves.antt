-- What a compaction leaves.
use Rattle.std.proofs.Common.{◌≡◌, ◌≤◌, ℕ, List, false, ap, ◌∙◌, subst, sym}
use Rattle.disk_core.specs.declared.disk.Disk.{Ghosts}
use Rattle.disk_core.specs.Moments.{LeavesOnly}
use Rattle.broker_core.specs.States.{BrokerValue, State}
use Rattle.recover_core.specs.Standing.{StandFor, Stands}
use Rattle.flush_core.specs.Batches.{state_at}
use Rattle.flush_core.specs.Flusher.{Flushed, IsFlusher}

-- where all that is stored is executed, the broker's state is the one after it
pub stored_state : {D : Type 0} (honest : D → Type 0) (images : D → List ℕ → Type 0) (f : Flushed D) → IsFlusher honest images f → f.broken ≡ false → f.executed ≡ f.stored → f.broker.state ≡ state_at f.opening f.seat f.stored
stored_state honest images f kept whole executed =
    ap (λ (b : BrokerValue). b.state) (kept.running whole).broker ∙ ap (λ (n : ℕ). state_at f.opening f.seat n) executed

-- the same by what a call asks of the flusher that it is given
pub given_state : {D : Type 0} (honest : D → Type 0) (images : D → List ℕ → Type 0) (f now : Flushed D) → f ≡ now → IsFlusher honest images f → f.broken ≡ false
    → now.executed ≡ now.stored → f.broker.state ≡ state_at f.opening f.seat f.stored
given_state {D} honest images f now is kept whole executed =
    stored_state honest images f kept whole (subst (λ (f : Flushed D). f.executed ≡ f.stored) (sym is) executed)

module _ {D : Type 0} (disk : Ghosts D) (old new : D) (s t : State) (same : t ≡ s) (leaves : LeavesOnly disk.moment disk.images_since old new (λ c. Stands c t)) where
  pub leaves_state : LeavesOnly disk.moment disk.images_since old new (λ c. Stands c s)
  leaves_state = subst (λ (s : State). LeavesOnly disk.moment disk.images_since old new (λ c. Stands c s)) same leaves

  -- what holds at each moment holds at the end
  pub stand_then : ((t : ℕ) (c : List ℕ) → t ≤ disk.moment new → disk.images new c → disk.images_since new t c) → StandFor (disk.images new) s
  stand_then counts image among = leaves_state.each image (counts (disk.moment old) image leaves.later among)
