-- What sessions were told in a life, and what of it the images of a disk have to keep.
use Rattle.std.specs.Prelude.{◌≡◌, ℕ, zero, suc, ◌+◌, ◌-◌, ◌<◌, ◌≤◌, List, [], ◌∷◌, length, All}
use Rattle.command_core.specs.Commands.{CommandValue}
use Rattle.broker_core.specs.Operations.{restarted}
use Rattle.broker_core.specs.States.{State}
use Rattle.recover_core.specs.Standing.{Stands}
use Rattle.world_core.specs.declared.parts.Period.{Period}
use Rattle.world_core.specs.declared.parts.Period.TheVariants.{Running}
use Rattle.world_core.specs.Worlds.{state_under}

-- A life, as far as the promises speak of it: its first number, its opening state, and the claimed commands. Then the number under which
-- commands are taken, and the one under which sessions were told of them. Then the released numbers of this life, and of those before it.
pub record Life : Type 0 where
  pub base : ℕ
  pub opening : State
  pub history : List CommandValue
  pub taken : ℕ
  pub mark : ℕ
  pub phase : Period
  pub released : List ℕ
  pub earlier : List ℕ

-- the state after the commands of a life whose numbers are under n
abbrev pub state_of_life : Life → ℕ → State
state_of_life life n = state_under life.base life.opening life.history n

-- An image has a prefix of the history, with all that sessions were told of. It stands for the state after those commands; if the life has
-- ended, it may instead stand for a state with the same restart.
pub record IsPrefixKept (life : Life) (image : List ℕ) : Type 0 where
  pub number : ℕ
  pub told : life.mark ≤ number
  pub taken : number ≤ life.taken
  pub state : State
  pub stands : Stands image state
  pub same : restarted state ≡ restarted (state_of_life life number)
  pub running : life.phase ≡ Running → state ≡ state_of_life life number

-- Each of these images has such a prefix. What is taken was claimed, and all released numbers are under what the images have.
pub record HoldsOn (life : Life) (images : List ℕ → Type 0) : Type 0 where
  pub each : (image : List ℕ) → images image → ∥ IsPrefixKept life image ∥₁
  pub claimed : life.taken ≤ life.base + length life.history
  pub released : All (λ n. n < life.mark) life.released
  pub earlier : All (λ n. n < life.base) life.earlier

-- this many numbers, from one on
abbrev pub numbers : ℕ → ℕ → List ℕ
numbers from zero = []
numbers from (suc k) = from ∷ numbers (from + 1) k

-- What running threads show once they have ended: the history of the ring, the flusher's opening state, and how many commands were taken
-- and published. Released are all numbers under the greatest mark that a session has read.
abbrev pub shown : ℕ → State → List CommandValue → ℕ → ℕ → ℕ → Life
shown base opening history taken published seen = record {
  base = base;
  opening = opening;
  history = history;
  taken = taken;
  mark = published;
  phase = Running;
  released = numbers base (seen - base);
  earlier = numbers 0 base;
}

-- an image stands for the state after some of the commands taken: all those under the mark, and perhaps more
pub record IsAfterSome (base : ℕ) (opening : State) (taken : List CommandValue) (published : ℕ) (image : List ℕ) : Type 0 where
  pub number : ℕ
  pub marked : published ≤ number
  pub taken_first : number ≤ base + length taken
  pub stands : Stands image (state_under base opening taken number)
