-- The records of the first of some commands, and of the others.
use Rattle.std.proofs.Common.{◌≡◌, ◌<◌, ◌≤◌, ◌+◌, ◌-◌, inl, inr, ℕ, List, length, length-append, take, drop, flat_map, sym, ◌∙◌, ap, arith}
use Rattle.std.proofs.lemmas.Bool.{cases_lt}
use Rattle.std.proofs.lemmas.List.{drop-take, drop_all, length-drop, take-append-drop, take-map, take-take}
use Rattle.std.proofs.lemmas.Grind.{flat_map-append}
use Rattle.area_core.specs.Areas.{commands, records}
use Rattle.area_core.proofs.Batches.{batch_records, entry_record}
use Rattle.command_core.specs.Commands.{CommandValue}
use Rattle.command_core.specs.Entries.{EntryValue}
use Rattle.command_core.specs.Spellings.{record_of}
use Rattle.flush_core.specs.Batches.{IsBatch}
use Rattle.flush_core.specs.Room.{IsLongest, IsTooLong}

pub records_cut : (i : ℕ) (cs : List CommandValue) → length (records (take i cs)) + length (records (drop i cs)) ≡ length (records cs)
records_cut i cs =
    sym (length-append (records (take i cs)) (records (drop i cs)))
    ∙ (ap (λ (l : List ℕ). length l) (sym (flat_map-append record_of (take i cs) (drop i cs))) ∙ ap (λ (l : List CommandValue). length (records l)) (take-append-drop i cs))

-- a longer front has no fewer bytes
pub front_less : (i j : ℕ) (cs : List CommandValue) → i ≤ j → length (records (take i cs)) ≤ length (records (take j cs))
front_less i j cs le = omega (arith, records_cut i (take j cs), ap (λ (l : List CommandValue). length (records l)) (take-take i j cs le))

pub front_records : {B : Type 0} (i : ℕ) (batch : List (EntryValue B)) → length (records (take i (commands batch))) ≡ length (flat_map entry_record (take i batch))
front_records {B} i batch =
    ap (λ (l : List CommandValue). length (records l)) (take-map (λ (entry : EntryValue B). entry.command) i batch) ∙ ap (λ (l : List ℕ). length l) (batch_records (take i batch))

-- Where so many commands are the most that fit into the room behind what is used, and one is taken where none does.
module _ (size used most count : ℕ) (cs : List CommandValue) (fits : length (records (take most cs)) ≤ size - used - 9) where
  pub one_too_long : count ≤ most → IsTooLong size used (take count cs) → IsTooLong size used (take 1 cs)
  one_too_long le long = omega (arith, fits, long, front_less count most cs le)

  pub more_too_long : most ≤ count → size - used - 9 < length (records (take (most + 1) cs)) → IsTooLong size used (take (count + 1) cs)
  more_too_long le more = omega (arith, more, front_less (most + 1) (count + 1) cs (omega (arith, le)))

-- the longest front, where not all fit
pub is_longest : (size used count : ℕ) (cs : List CommandValue) → 0 < count → count ≤ length cs → (count < length cs → IsTooLong size used (take (count + 1) cs)) → IsLongest size used cs count
is_longest size used count cs some within more = record {
  some = some;
  within = within;
  all = λ fits. elim (cases_lt count (length cs)) [
    | inl less ↦ absurd (omega (arith, fits, more less, records_cut (count + 1) cs))
    | inr least ↦ omega (arith, within, least)
  ];
  more = more;
}

-- what is behind the first of a batch is one
pub rest_is_batch : (most most_bytes k : ℕ) (cs : List CommandValue) → IsBatch most most_bytes cs → IsBatch most most_bytes (drop k cs)
rest_is_batch most most_bytes k cs batch = record {
  few = omega (arith, batch.few, length-drop k cs);
  small = λ some.
      let m = length (drop k cs) - 1 in
      let lt : k < length cs = elim (cases_lt k (length cs)) [ inl less ↦ less | inr least ↦ absurd (some (drop_all k cs least)) ] in
      let sum : k + m ≡ length cs - 1 = omega (arith, lt, length-drop k cs) in
      omega (
        arith,
        batch.small (λ none. absurd (omega (arith, lt, ap (λ (l : List CommandValue). length l) none))),
        records_cut k (take (length cs - 1) cs),
        ap (λ (l : List CommandValue). length (records l)) (sym (drop-take k m cs)),
        ap (λ (n : ℕ). length (records (drop k (take n cs)))) sum,
      );
}
