-- The ring is stopped, and nothing else changes.
use Rattle.std.proofs.Common.{◌≡◌, ℕ, Bool, List, refl, subst, sym}
use Rattle.claim_core.specs.Seats.{FlushSeatValue, when_stopped}
use Rattle.command_core.specs.Entries.{EntryValue}
use Rattle.flush_core.specs.Flusher.{Flushed, IsFlusher, IsHeld}
use Rattle.flush_core.proofs.FlusherKeeps.{hold_stopped}

module _ {D : Type 0} (honest : D → Type 0) (images : D → List ℕ → Type 0) where
  pub stops : (f : Flushed D) (seat : FlushSeatValue) → seat ≡ when_stopped f.seat → IsFlusher honest images f → IsFlusher honest images (record f { seat = seat })
  stops f seat is kept = subst (λ (s : FlushSeatValue). IsFlusher honest images (record f { seat = s })) (sym is) (record {
    begun = kept.begun;
    marked = kept.marked;
    executed = kept.executed;
    stored = kept.stored;
    opened = kept.opened;
    sound = kept.sound;
    each = λ h. hold_stopped (images f.disk) f.opening f.seat (kept.each h);
    under = kept.under;
    stopped = λ _. refl;
    running = λ whole. let run = kept.running whole in record {
      stands = run.stands;
      broker = run.broker;
      brought = run.brought;
      waiting = run.waiting;
    };
  })

pub held : {B : Type 0} (old seat : FlushSeatValue) (stored executed : ℕ) (journal : Bool) (batch done : List (EntryValue B)) (bytes left waiting room : ℕ)
    → seat ≡ when_stopped old → IsHeld old stored executed journal batch done bytes left waiting room → IsHeld seat stored executed journal batch done bytes left waiting room
held old seat stored executed journal batch done bytes left waiting room is kept =
    subst (λ (s : FlushSeatValue). IsHeld s stored executed journal batch done bytes left waiting room) (sym is) (record {
      whole = kept.whole;
      batch_is = kept.batch_is;
      bytes_is = kept.bytes_is;
      done_is = kept.done_is;
      few = kept.few;
      room_is = kept.room_is;
    })
