-- What a look at a file's path and folder shows of the path later on.
use Rattle.std.specs.Prelude.{◌≡◌, ◌-◌, ℕ, ◌<◌, ◌<ℤ◌, ◌⊎◌, ◌==◌, Bool, true, false, Option, Some, None, List, codes, length, if◌then◌else◌}
use Rattle.std.specs.Path.{path_parent}
use Rattle.std.specs.declared.io.ErrorKind.{ErrorKind}
use Rattle.std.specs.declared.io.ErrorKind.TheVariants as kinds
use Rattle.disk_core.specs.declared.naming.Look.{Look}
use Rattle.disk_core.specs.declared.naming.Noted.{Noted}

-- for how many calls in turn one look stands
abbrev pub most : ℕ
most = 63

-- a time is earlier than another
abbrev pub IsBefore : Noted → Noted → Type 0
IsBefore a b = (a.seconds <ℤ b.seconds) ⊎ ((a.seconds ≡ b.seconds) × (a.nanoseconds <ℤ b.nanoseconds))

-- A look stands for a call if calls are left, and the folder's last change is the one that it was seen with.
abbrev pub Holds : Look → Noted → Type 0
Holds look changed = (0 < look.left) × (look.seen ≡ Some changed)

-- the last look, if there was one, stands for a call
abbrev pub StandsFor : Option Look → Noted → Type 0
StandsFor None changed = ⊥
StandsFor (Some look) changed = Holds look changed

-- once it stood for a call, it stands for one call less, and else it is as it was
abbrev pub IsCounted : Bool → Option Look → Option Look → Type 0
IsCounted false old new = new ≡ old
IsCounted true old new = (look : Look) × (old ≡ Some look) × (new ≡ Some (record look { left = look.left - 1 }))

-- A look after the folder had last changed, at a path of a file that was written at that time: it notes the folder's last change only if the
-- path named the file, and the file was written later.
pub record IsOf (changed written : Noted) (is_named : Bool) (look : Look) : Type 0 where
  pub named : is_named ≡ true → IsBefore changed written → look.seen ≡ Some changed
  pub other : is_named ≡ false → look.seen ≡ None
  pub unsure : (IsBefore changed written → ⊥) → look.seen ≡ None
  pub calls : look.left ≡ most

-- an error of this kind says that a path names nothing
abbrev pub says_missing : ErrorKind → Bool
says_missing kinds.NotFound = true
says_missing kinds.NotADirectory = true
says_missing _ = false

-- the folder that has a name: the name's parent, and the current one for a bare name or the root
abbrev pub folder_of : List ℕ → List ℕ
folder_of path = elim (path_parent path) as (λ o. List ℕ) [ None ↦ codes "." | Some folder ↦ if length folder == 0 then codes "." else folder ]
