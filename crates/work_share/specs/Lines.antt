-- Where a command stands among the desks that wait in line.
use Rattle.std.specs.Prelude.{◌&&◌, ◌||◌, ℕ, Bool, List, cond, eqb, nat_lt}
use Rattle.std.specs.List.{list_any}
use Rattle.work_share.specs.declared.load.Load.{Load}
use Rattle.work_share.specs.declared.costs.Standing.{Standing}
use Rattle.work_share.specs.declared.costs.Standing.TheVariants.{Alone, First, Behind}

-- a desk with the number `line` waits, and stands before a command that has the number `own`, or none yet
abbrev pub is_before : (own line : ℕ) → Bool
is_before own line = nat_lt 0 line && (eqb own 0 || nat_lt line own)

-- one of these desks waits
abbrev pub does_one_wait : List Load → Bool
does_one_wait loads = list_any (λ (load : Load). nat_lt 0 load.line) loads

-- one of these desks stands before a command with that number
abbrev pub is_one_before : ℕ → List Load → Bool
is_one_before own loads = list_any (λ (load : Load). is_before own load.line) loads

-- where a command with that number stands among these desks
abbrev pub standing : ℕ → List Load → Standing
standing own loads = cond (is_one_before own loads) Behind (cond (does_one_wait loads) First Alone)
