-- What was read of an area, a gate or a block more.
use Rattle.std.proofs.Common.{◌≡◌, ◌≢◌, ℕ, ◌+◌, ◌<◌, ◌≤◌, ◌^◌, List, [], ◌∷◌, ◌++◌, length, get_or, take, drop, refl, sym, ◌∙◌, ap, subst, arith, Result, Ok, Err, IfErr, length-drop, take-append-drop, append_assoc}
use Rattle.std.specs.Int.{w64, to_be_bytes}
use Rattle.std.specs.List.{AllByRecursion}
use Rattle.std.proofs.lemmas.List.{drop_at, drop-drop, append-nil}
use Rattle.disk_core.specs.declared.disk.Disk.{Ghosts}
use Rattle.disk_core.proofs.Runs.{joined, weaker}
use Rattle.command_core.specs.Commands.{CommandValue}
use Rattle.area_core.specs.declared.version.Version.{Version}
use Rattle.area_core.specs.Areas.{HasRecord, counted, front, headed, records, word_of, IsBlock, IsArea}
use Rattle.area_core.specs.declared.faults.ReadFault.{ReadFault}
use Rattle.area_core.specs.declared.faults.ReadFault.TheVariants as reads
use Rattle.area_core.specs.Damage.{IsBadWord, IsFrontTold, IsWordTold}
use Rattle.area_core.specs.Journals.{is_odd, start, IsJournal}
use Rattle.area_core.specs.Reading.{Quiet, ReadsOnly}
use Rattle.area_core.proofs.Areas.{block_read, pushed}

first_rest : (l : List ℕ) → 1 ≤ length l → l ≡ get_or l 0 0 ∷ drop 1 l
first_rest [] some = absurd (omega arith)
first_rest (x ∷ l) some = refl

first_taken : (l : List ℕ) → get_or (take 1 l) 0 0 ≡ get_or l 0 0
first_taken [] = refl
first_taken (x ∷ l) = refl

pub single : (l : List ℕ) (x : ℕ) → length l ≡ 1 → get_or l 0 0 ≡ x → l ≡ x ∷ []
single [] x one is = absurd (omega arith)
single (y ∷ []) x one is = ap (λ (n : ℕ). n ∷ []) is
single (y ∷ z ∷ l) x one is = absurd (omega arith)

-- the next gate is closed
pub closes : (version : Version) (size base gate : ℕ) (snapshot : List ℕ) (blocks : List (List CommandValue)) (rest content read : List ℕ) → drop base content ≡ front version snapshot blocks ++ rest → gate ≡ length (front version snapshot blocks) → length snapshot < 2 ^ 56 → gate + 1 ≤ size → base + size ≤ length content
    → AllByRecursion IsBlock blocks → read ≡ take 1 (drop (base + gate) content) → get_or read 0 0 ≢ 1 → IsArea version size snapshot blocks (drop base content)
closes version size base gate snapshot blocks rest content read whole at seven within room each is shut =
    let here : drop (base + gate) content ≡ rest =
    sym (drop-drop gate base content) ∙ ap (λ (l : List ℕ). drop gate l) whole ∙ drop_at (front version snapshot blocks) rest gate (sym at) in
    let long : 1 ≤ length rest = omega (arith, ap (λ (l : List ℕ). length l) here, length-drop (base + gate) content, within, room) in
    let same : get_or read 0 0 ≡ get_or rest 0 0 = ap (λ (l : List ℕ). get_or l 0 0) (is ∙ ap (λ (l : List ℕ). take 1 l) here) ∙ first_taken rest in
    record {
      gate = get_or rest 0 0;
      rest = drop 1 rest;
      whole = whole ∙ ap (λ (l : List ℕ). front version snapshot blocks ++ l) (first_rest rest long);
      shut = λ e. shut (same ∙ e);
      fits = omega (arith, at, within);
      seven = seven;
      each = each;
    }

-- the next block
pub block_next : (version : Version) (base gate : ℕ) (snapshot : List ℕ) (blocks : List (List CommandValue)) (rest content v : List ℕ) (cs : List CommandValue) → v ≡ records cs → drop base content ≡ front version snapshot blocks ++ rest → gate ≡ length (front version snapshot blocks)
    → take 1 (drop (base + gate) content) ≡ 1 ∷ [] → take 8 (drop (base + gate + 1) content) ≡ to_be_bytes w64 (length v) → take (length v) (drop (base + gate + 9) content) ≡ v
    → drop base content ≡ front version snapshot (blocks ++ cs ∷ []) ++ drop (9 + length v) rest
block_next version base gate snapshot blocks rest content v cs are whole at first second third =
    whole
    ∙ ap (λ (l : List ℕ). front version snapshot blocks ++ l) (block_read base gate (front version snapshot blocks) rest content v whole at first second third)
    ∙ ap (λ (l : List ℕ). front version snapshot blocks ++ 1 ∷ (counted l ++ drop (9 + length v) rest)) are
    ∙ sym (pushed version snapshot blocks cs (drop (9 + length v) rest))

pub is_block : (cs : List CommandValue) → length (records cs) ≢ 0 → AllByRecursion HasRecord cs → IsBlock cs
is_block cs some each = record { some = λ e. some (ap (λ (l : List CommandValue). length (records l)) e); each = each }

-- a snapshot, which was read in two parts
pub front_read : (version : Version) (base : ℕ) (content v : List ℕ) → take 8 (drop base content) ≡ to_be_bytes w64 (word_of version (length v)) → take (length v) (drop (base + 8) content) ≡ v → drop base content ≡ front version v [] ++ drop (8 + length v) (drop base content)
front_read version base content v first second =
    let later : drop 8 (drop base content) ≡ drop (base + 8) content = drop-drop 8 base content in
    let rest : drop (length v) (drop (base + 8) content) ≡ drop (8 + length v) (drop base content) = ap (λ (l : List ℕ). drop (length v) l) (sym later) ∙ drop-drop (length v) 8 (drop base content) in
    sym (take-append-drop 8 (drop base content))
    ∙ ap (λ (l : List ℕ). l ++ drop 8 (drop base content)) first
    ∙ ap (λ (l : List ℕ). to_be_bytes w64 (word_of version (length v)) ++ l) (later ∙ sym (take-append-drop (length v) (drop (base + 8) content)))
    ∙ ap (λ (l : List ℕ). to_be_bytes w64 (word_of version (length v)) ++ (l ++ drop (length v) (drop (base + 8) content))) second
    ∙ ap (λ (l : List ℕ). to_be_bytes w64 (word_of version (length v)) ++ (v ++ l)) rest
    ∙ sym (append_assoc (to_be_bytes w64 (word_of version (length v))) v (drop (8 + length v) (drop base content)))
    ∙ ap (λ (l : List ℕ). l ++ drop (8 + length v) (drop base content)) (sym (append-nil (headed version v)))

pub quiet_then : {D : Type 0} (disk : Ghosts D) (a b c : D) → Quiet disk a b → Quiet disk b c → Quiet disk a c
quiet_then disk a b c x y = record {
  content = y.content ∙ x.content;
  images = record { no_more = λ l i. x.images.no_more l (y.images.no_more l i); no_fewer = λ l i. y.images.no_fewer l (x.images.no_fewer l i) };
  leaves = joined disk a b c (disk.images a) x.leaves (weaker disk b c _ _ y.leaves x.images.no_more);
}

pub reads_then : {D : Type 0} (disk : Ghosts D) (a b c : D) → ReadsOnly disk a b → ReadsOnly disk b c → ReadsOnly disk a c
reads_then disk a b c x y = record {
  quiet = λ honest. quiet_then disk a b c (x.quiet honest) (y.quiet (x.honest honest));
  size = y.size ∙ x.size;
  honest = λ h. y.honest (x.honest h);
  was_honest = λ h. x.was_honest (y.was_honest h);
}

-- what is told of the live area's first word is told of its front
pub front_told : {T : Type 0} (size selector place : ℕ) (content : List ℕ) (answer : Result T ReadFault) → IsJournal size selector content → place ≡ start size (is_odd selector)
    → IfErr answer (λ fault. IsWordTold fault place size content) → IfErr answer (λ fault. IsFrontTold fault content)
front_told size selector place content (Ok read) journal at told = tt
front_told size selector place content (Err reads.NotAJournal) journal at so = absurd so
front_told size selector place content (Err (reads.Damaged told)) journal at so =
    record { size = size; selector = selector; journal = journal; at = so.0 ∙ at; bad = subst (λ (n : ℕ). IsBadWord size content n) (sym so.0) so.1 }
front_told size selector place content (Err reads.Device) journal at told = told
front_told size selector place content (Err reads.UnknownVersion) journal at so = absurd so
front_told size selector place content (Err reads.TooSmall) journal at so = absurd so
front_told size selector place content (Err (reads.Memory refused)) journal at so = absurd so
