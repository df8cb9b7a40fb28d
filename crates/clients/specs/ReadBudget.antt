-- What a read of a client's socket does.
use Rattle.std.specs.Prelude.{◌≡◌, ◌≢◌, ◌≤◌, ◌<◌, ◌+◌, ◌-◌, ◌^◌, ℕ, min, Bool, true, false, List, [], Option, Result, Ok, Err, IsOk, MatchResult, drop, length}
use Rattle.std.specs.IoError.{error_kind}
use Rattle.std.specs.Io.KnownBytes.{prepend_known}
use Rattle.std.specs.declared.io.Error.{Error}
use Rattle.std.specs.declared.io.ErrorKind.TheVariants as kinds
use Rattle.clients.specs.Supplies.{drained, is_dry, with_reported}
use Rattle.clients.specs.declared.read_budget.Flow.{Flow}
use Rattle.clients.specs.declared.read_budget.ReadBudget.{ReadBudget}
use Rattle.clients.specs.declared.read_budget.TheConstants.{READS}
use Rattle.clients.specs.declared.read_budget.Reported.{Reported}

-- how many bytes a socket gave in all, with one read more: 2^64 - 1 if they are more
abbrev pub counted_by : Result ℕ Error → ℕ → ℕ
counted_by (Ok count) given = min (given + count) (2 ^ 64 - 1)
counted_by (Err error) given = given

module _ {S : Type 0} where
  -- what is left to be given: what was read and not given, and what the socket has
  abbrev pub left_in : (S → Option (List ℕ)) → ReadBudget S → Option (List ℕ)
  left_in remaining budget = prepend_known budget.spare.items (remaining budget.socket)

  -- The socket was not asked, and nothing was given: at the end of a portion or not. Another portion begins.
  pub record Declines (has_rest : Bool) (old new : ReadBudget S) (result : Result ℕ Error) : Type 0 where
    pub none : MatchResult result (λ _. ⊥) (λ error. error_kind error ≡ kinds.WouldBlock)
    pub socket : new.socket ≡ old.socket
    pub left : new.left ≡ READS
    pub rest : new.flow.has_rest ≡ has_rest
    pub spare : new.spare ≡ old.spare
    pub given : new.given ≡ old.given

  -- no more changed than what is kept, and how far it has come in a frame
  pub record IsSame (old new : ReadBudget S) : Type 0 where
    pub socket : new.socket ≡ old.socket
    pub left : new.left ≡ old.left
    pub flow : new.flow ≡ old.flow
    pub supply : new.supply ≡ old.supply
    pub given : new.given ≡ old.given

  -- Of these bytes, so many are given: some, unless there are none. The others are kept.
  pub record IsPortion (bytes : List ℕ) (old new : ReadBudget S) (count : ℕ) : Type 0 where
    pub within : count ≤ length bytes
    pub some : 0 < length bytes → 0 < count
    pub spare : new.spare.items ≡ drop count bytes
    pub same : IsSame old new

  -- The socket was asked for so many bytes, and came to that. What it gave is counted.
  pub record Asks (asked : ℕ) (old new : ReadBudget S) (result : Result ℕ Error) : Type 0 where
    pub read : Result ℕ Error
    pub left : MatchResult read (λ _. new.left + 1 ≡ old.left) (λ _. new.left ≡ READS)
    pub flow : new.flow ≡ old.flow
    pub supply_is : new.supply ≡ drained asked read old.supply
    pub gives : MatchResult result (λ _. IsOk read) (λ error. read ≡ Err error)
    pub given : new.given ≡ counted_by read old.given

  -- Something was given of what was read before, if so many bytes are asked for.
  pub record Gives (asked : ℕ) (old new : ReadBudget S) (result : Result ℕ Error) : Type 0 where
    pub some : MatchResult result (λ count. 0 < asked → 0 < count) (λ _. ⊥)
    pub left : new.left + 1 ≡ old.left
    pub flow : new.flow ≡ old.flow
    pub supply_is : new.supply ≡ old.supply
    pub given : new.given ≡ old.given

  -- once the poll had told this
  abbrev pub told_of : Reported → ReadBudget S → ReadBudget S
  told_of reported old = record old { supply = with_reported reported old.supply; flow = record old.flow { has_rest = false } }

  -- A read that asked for so many bytes, if the poll had told this since the one before. If nothing is kept, and the socket isn't dry, it
  -- asks that. Or it gives of what is kept. At the end of a portion it does neither.
  pub record Reads (reported : Reported) (asked : ℕ) (old new : ReadBudget S) (result : Result ℕ Error) : Type 0 where
    pub dry : old.spare.items ≡ [] → is_dry (with_reported reported old.supply) ≡ true → Declines false old new result × (new.supply ≡ with_reported reported old.supply)
    pub over : (old.spare.items ≡ [] → is_dry (with_reported reported old.supply) ≡ false) → old.left ≡ 0 → Declines true old new result × (new.supply ≡ with_reported reported old.supply)
    pub asks : old.spare.items ≡ [] → is_dry (with_reported reported old.supply) ≡ false → old.left ≢ 0 → Asks asked (told_of reported old) new result
    pub gives : old.spare.items ≢ [] → old.left ≢ 0 → Gives asked (told_of reported old) new result
    pub taken : new.flow.taken ≡ old.flow.taken
