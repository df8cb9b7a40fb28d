-- What the writes of a block may leave.
use Rattle.std.proofs.Common.{◌≡◌, inl, inr, ⊎_elim, ℕ, ◌+◌, ◌≤◌, List, [], ◌∷◌, ◌++◌, length, refl, sym, subst, arith}
use Rattle.disk_core.specs.Images.{patched, Torn}
use Rattle.area_core.specs.declared.area.Area.{Area}
use Rattle.command_core.specs.Commands.{CommandValue}
use Rattle.command_core.specs.Entries.{EntryValue}
use Rattle.area_core.specs.Areas.{closed, commands, front, records, IsBlock}
use Rattle.area_core.specs.Held.{IsAt}
use Rattle.area_core.specs.Journals.{is_odd, start, Reads}
use Rattle.area_core.specs.Puts.{Each, IsGated}
use Rattle.area_core.specs.Steps.{IsBeforeOrAfter}
use Rattle.area_core.proofs.Areas.{length-pushed}
use Rattle.area_core.proofs.Journals.{stays, torn_open, is_open}

-- a batch whose commands are none is empty
pub no_entries : {B : Type 0} (batch : List (EntryValue B)) → commands batch ≡ [] → batch ≡ []
no_entries [] e = refl
no_entries (x ∷ batch) e = absurd (cc)

module _ (area : Area) (batch : List CommandValue) (gate : ℕ) (content : List ℕ) (images : List ℕ → Type 0)
    (form : IsBlock batch) (room : area.gate + 10 + length (records batch) ≤ area.size) (at : gate ≡ start area.size (is_odd area.selector) + area.gate) (reads : images content) where
  pub gated : (bytes : List ℕ) → bytes ≡ closed (records batch) → (c : List ℕ) → IsGated gate bytes content images c → IsBeforeOrAfter images area batch c
  gated bytes are c (inl torn) snapshot blocks held =
      let was = held torn.0 torn.1 in
      inl (record { reads = stays area.version area.size area.selector snapshot blocks (gate + 1) (length bytes) torn.0 c was.reads (omega (arith, at, was.gate)) torn.2; gate = was.gate })
  gated bytes are c (inr torn) snapshot blocks held =
      let was = held content reads in
      ⊎_elim (λ (r : Reads area.version area.size area.selector snapshot blocks c). inl (record { reads = r; gate = was.gate })) (λ (r : Reads area.version area.size area.selector snapshot (blocks ++ batch ∷ []) c). inr r)
      (torn_open area.version area.size area.selector snapshot blocks batch gate content form (omega (arith, room, was.gate)) was.reads (omega (arith, at, was.gate)) c
      (subst (λ (l : List ℕ). Torn gate 1 (patched (gate + 1) l content) c) are torn))

  pub added : (bytes : List ℕ) → bytes ≡ closed (records batch) → (snapshot : List ℕ) (blocks : List (List CommandValue)) → Each images (IsAt area snapshot blocks)
      → Reads area.version area.size area.selector snapshot (blocks ++ batch ∷ []) (patched gate (1 ∷ []) (patched (gate + 1) bytes content)) × (area.gate + (9 + length (records batch)) ≡ length (front area.version snapshot (blocks ++ batch ∷ [])))
  added bytes are snapshot blocks held =
      let was = held content reads in (
        subst (λ (l : List ℕ). Reads area.version area.size area.selector snapshot (blocks ++ batch ∷ []) (patched gate (1 ∷ []) (patched (gate + 1) l content))) (sym are)
            (is_open area.version area.size area.selector snapshot blocks batch gate content form (omega (arith, room, was.gate)) was.reads (omega (arith, at, was.gate))),
        omega (arith, was.gate, length-pushed area.version snapshot blocks batch),
      )
