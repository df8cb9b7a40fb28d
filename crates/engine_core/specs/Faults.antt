-- Which faults come from where.
use Rattle.std.specs.Prelude.{◌≡◌, ℕ, Bool, Result, IfErr, IfOk, false, true}
use Rattle.disk_core.specs.Faults.{IsOneMore}
use Rattle.area_core.specs.declared.faults.AreaFault.TheVariants as areas
use Rattle.recover_core.specs.declared.faults.OpenFault.{OpenFault}
use Rattle.recover_core.specs.declared.faults.OpenFault.TheVariants as opens
use Rattle.flush_core.specs.declared.faults.FlushFault.{FlushFault}
use Rattle.flush_core.specs.declared.faults.FlushFault.TheVariants.{Device, Full, Broken, Memory}

-- what keeps a command from the ring: memory is refused, or the ring refuses it
abbrev pub IsOfRing : FlushFault → Type 0
IsOfRing Device = ⊥
IsOfRing Full = ⊥
IsOfRing Broken = Unit {0}
IsOfRing (Memory refused) = Unit {0}

-- the disk failed, or a call came where none may
abbrev pub IsOutOfStep : FlushFault → Type 0
IsOutOfStep Device = Unit {0}
IsOutOfStep Full = ⊥
IsOutOfStep Broken = Unit {0}
IsOutOfStep (Memory refused) = ⊥

-- the disk failed exactly if that is the fault
abbrev pub IsCausedBy : ℕ → ℕ → FlushFault → Type 0
IsCausedBy before now Device = IsOneMore before now
IsCausedBy before now Full = now ≡ before
IsCausedBy before now Broken = now ≡ before
IsCausedBy before now (Memory refused) = now ≡ before

-- the disk did not fail if all went, it failed if not all did, and else exactly if that is the fault
pub record IsStopCaused (before now : ℕ) (went : Result Bool FlushFault) : Type 0 where
  pub calm : IfOk went (λ all. all ≡ true → now ≡ before)
  pub stopped : IfOk went (λ all. all ≡ false → IsOneMore before now)
  pub cause : IfErr went (IsCausedBy before now)

-- a journal is not opened because memory was refused
abbrev pub IsWantOfMemory : OpenFault → Type 0
IsWantOfMemory (opens.Area (areas.Memory refused)) = Unit {0}
IsWantOfMemory _ = ⊥
