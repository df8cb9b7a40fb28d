-- The records of a batch, entry by entry.
use Rattle.std.proofs.Common.{◌≡◌, ◌<◌, ◌≤◌, ◌+◌, ℕ, List, [], ◌∷◌, ◌++◌, length, take, get_or, flat_map, refl, sym, ◌∙◌, ap, arith, length-append}
use Rattle.std.proofs.lemmas.List.{take_more, flat_map_more}
use Rattle.std.proofs.lemmas.List.Folds.{length-flat_map-take}
use Rattle.std.specs.List.{AllByRecursion}
use Rattle.command_core.specs.Commands.{CommandValue}
use Rattle.command_core.specs.Entries.{EntryValue}
use Rattle.command_core.specs.Spellings.{Spells, record_of}
use Rattle.area_core.specs.Areas.{HasRecord, commands, records}

-- the record of an entry's command
abbrev pub entry_record : {B : Type 0} → EntryValue B → List ℕ
entry_record entry = record_of entry.command

-- it has one
abbrev pub EntryHasRecord : {B : Type 0} → EntryValue B → Type 0
EntryHasRecord entry = HasRecord entry.command

pub batch_records : {B : Type 0} (batch : List (EntryValue B)) → records (commands batch) ≡ flat_map entry_record batch
batch_records [] = refl
batch_records (e ∷ batch) = ap (λ (l : List ℕ). record_of e.command ++ l) (batch_records batch)

pub batch_forms : {B : Type 0} (batch : List (EntryValue B)) → AllByRecursion EntryHasRecord batch → AllByRecursion HasRecord (commands batch)
batch_forms [] each = tt
batch_forms (e ∷ batch) each = (each.0, batch_forms batch each.1)

-- the bytes that an entry carries are the record of its command
pub carried : (bytes : List ℕ) (c : CommandValue) → Spells bytes c → HasRecord c
carried bytes c s = record { session = s.session; receipt = s.receipt; operation = s.operation; form = s.form; spelled = refl }

-- the records so far, and one more
pub total_more : {B : Type 0} (batch : List (EntryValue B)) (i total : ℕ) (e : EntryValue B) (bytes : List ℕ) → i < length batch → e ≡ get_or batch i e → Spells bytes e.command
    → total ≡ length (flat_map entry_record (take i batch)) → total + length bytes ≡ length (flat_map entry_record (take (i + 1) batch))
total_more batch i total e bytes lt is spells so_far =
    let one : take (i + 1) batch ≡ take i batch ++ e ∷ [] = take_more batch i e lt ∙ ap (λ y. take i batch ++ y ∷ []) (sym is) in
    let more : length (flat_map entry_record (take (i + 1) batch)) ≡ length (flat_map entry_record (take i batch) ++ entry_record e) = ap (λ ys. length (flat_map entry_record ys)) one ∙ sym (ap (λ (l : List ℕ). length l) (flat_map_more entry_record [] (take i batch) e)) in
    omega (arith, so_far, more, length-append (flat_map entry_record (take i batch)) (entry_record e), ap (λ (l : List ℕ). length l) spells.spelled)

-- no more than all of them
pub total_most : {B : Type 0} (batch : List (EntryValue B)) (i total : ℕ) (e : EntryValue B) (bytes : List ℕ) → i < length batch → e ≡ get_or batch i e → Spells bytes e.command
    → total ≡ length (flat_map entry_record (take i batch)) → total + length bytes ≤ length (records (commands batch))
total_most batch i total e bytes lt is spells so_far =
    omega (arith, so_far, length-flat_map-take entry_record batch i e lt, ap (λ y. length (entry_record y)) is, ap (λ (l : List ℕ). length l) spells.spelled, ap (λ (l : List ℕ). length l) (batch_records batch))
