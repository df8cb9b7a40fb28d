-- What the ring and the flusher keep makes what is promised hold.
use Rattle.std.proofs.Common.{◌≡◌, ℕ, zero, suc, ◌+◌, ◌-◌, ◌<◌, ◌≤◌, List, ◌++◌, length, All, sym, ◌∙◌, ap, arith, length-append}
use Rattle.std.proofs.Math.Logic.{∥∥₁_map}
use Rattle.std.proofs.lemmas.List.Elements.{All-nil, All-cons}
use Rattle.command_core.specs.Commands.{CommandValue}
use Rattle.broker_core.specs.Operations.{restarted}
use Rattle.broker_core.specs.States.{State}
use Rattle.world_core.specs.Promises.{HoldsOn, IsAfterSome, numbers, shown}
use Rattle.world_core.specs.Worlds.{state_under}
use Rattle.world_core.proofs.Logs.{state_longer}

numbers_under : (m from k : ℕ) → from + k ≤ m → All (λ n. n < m) (numbers from k)
numbers_under m from zero le = All-nil (λ n. n < m)
numbers_under m from (suc k) le = All-cons (λ n. n < m) from (numbers (from + 1) k) (omega arith) (numbers_under m (from + 1) k (omega arith))

pub shown_holds : (base : ℕ) (opening : State) (taken rest history : List CommandValue) (published seen : ℕ) (images : List ℕ → Type 0)
    → history ≡ taken ++ rest → base ≤ published → published ≤ base + length taken → base ≤ seen → seen ≤ published
    → ((image : List ℕ) → images image → ∥ IsAfterSome base opening taken published image ∥₁)
    → HoldsOn (shown base opening history (base + length taken) published seen) images
shown_holds base opening taken rest history published seen images prefix low high begun under each = record {
  each = λ image is. ∥∥₁_map (each image is) (λ (h : IsAfterSome base opening taken published image).
      let state : state_under base opening taken h.number ≡ state_under base opening history h.number =
      sym (state_longer base opening taken rest h.number h.taken_first) ∙ ap (λ (l : List CommandValue). state_under base opening l h.number) (sym prefix) in
      record {
        number = h.number;
        told = h.marked;
        taken = h.taken_first;
        state = state_under base opening taken h.number;
        stands = h.stands;
        same = ap restarted state;
        running = λ r. state;
      });
  claimed = omega (arith, ap (λ (l : List CommandValue). length l) prefix, length-append taken rest);
  released = numbers_under published base (seen - base) (omega arith);
  earlier = numbers_under base 0 base (omega arith);
}
