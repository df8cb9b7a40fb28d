use Rattle.std.specs.Prelude.{List, ℕ, Bool}

-- what a reader shows: the bytes of the unfinished frame, and whether it has failed for good
pub record Reading : Type 0 where
  pub rest : List ℕ
  pub failed : Bool
