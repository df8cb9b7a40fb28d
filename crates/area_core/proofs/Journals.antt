-- What writes behind the header keep of a journal.
use Rattle.std.proofs.Common.{◌≡◌, ◌⊎◌, inl, inr, ℕ, ◌+◌, ◌-◌, ◌≤◌, Bool, true, false, List, [], ◌∷◌, ◌++◌, length, drop, get_or, refl, sym, ◌∙◌, subst, arith}
use Rattle.disk_core.specs.Images.{patched, Torn}
use Rattle.disk_core.proofs.Torn.{take_before, drop_after, byte_outside, torn_patched}
use Rattle.disk_core.specs.declared.file.TheConstants.{SLACK_AT, SLACK_BYTES}
use Rattle.disk_core.proofs.Patched.{length-patched}
use Rattle.command_core.specs.Commands.{CommandValue}
use Rattle.area_core.specs.declared.version.Version.{Version}
use Rattle.area_core.specs.Areas.{closed, front, records, IsBlock, IsArea}
use Rattle.area_core.specs.Journals.{is_odd, start, IsJournal, Reads}
use Rattle.area_core.proofs.Areas.{with_block, with_gate, length-closed}
use Rattle.area_core.proofs.Ranges.{torn_behind, torn_from, staged, gate_torn, gate_set}

pub start_least : (size : ℕ) (second : Bool) → 32 ≤ start size second
start_least size true = omega arith
start_least size false = omega arith

pub start_most : (size : ℕ) (second : Bool) → start size second ≤ 32 + size
start_most size true = omega arith
start_most size false = omega arith

pub journal_stays : (size selector at n : ℕ) (d c : List ℕ) → IsJournal size selector d → 17 ≤ at → Torn at n d c → IsJournal size selector c
journal_stays size selector at n d c j le torn = record {
  named = j.named;
  begins = take_before at n 16 d c torn (omega (arith, le)) ∙ j.begins;
  selects = byte_outside at n 16 d c torn (inl (omega (arith, le))) ∙ j.selects;
  least = j.least;
  most = j.most;
  fits = omega (arith, torn.size, j.fits);
}

-- a torn write behind the first closed gate keeps the area
pub area_stays : (version : Version) (size base : ℕ) (snapshot : List ℕ) (bs : List (List CommandValue)) (at n : ℕ) (d c : List ℕ) → IsArea version size snapshot bs (drop base d) → base + length (front version snapshot bs) + 1 ≤ at → Torn at n d c → IsArea version size snapshot bs (drop base c)
area_stays version size base snapshot bs at n d c a le torn =
    let again : base + (at - base) ≡ at = omega (arith, le) in
    let inside : Torn (at - base) n (drop base d) (drop base c) = torn_from base (at - base) n d c (subst (λ (m : ℕ). Torn m n d c) (sym again) torn) in
    let here : Torn (at - base) n (front version snapshot bs ++ a.gate ∷ a.rest) (drop base c) = subst (λ (l : List ℕ). Torn (at - base) n l (drop base c)) a.whole inside in
    record {
      gate = a.gate;
      rest = drop (length (front version snapshot bs) + 1) (drop base c);
      whole = torn_behind (front version snapshot bs) a.gate a.rest (drop base c) (at - base) n (omega (arith, le)) here;
      shut = a.shut;
      fits = a.fits;
      seven = a.seven;
      each = a.each;
    }

pub stays : (version : Version) (size selector : ℕ) (snapshot : List ℕ) (bs : List (List CommandValue)) (at n : ℕ) (d c : List ℕ) → Reads version size selector snapshot bs d → start size (is_odd selector) + length (front version snapshot bs) + 1 ≤ at → Torn at n d c → Reads version size selector snapshot bs c
stays version size selector snapshot bs at n d c r le torn = record {
  journal = journal_stays size selector at n d c r.journal (omega (arith, le, start_least size (is_odd selector))) torn;
  area = area_stays version size (start size (is_odd selector)) snapshot bs at n d c r.area le torn;
}

-- bytes between the selector and the areas mean nothing
pub reads_torn : (version : Version) (size selector : ℕ) (snapshot : List ℕ) (bs : List (List CommandValue)) (d c : List ℕ) → Torn SLACK_AT SLACK_BYTES d c → Reads version size selector snapshot bs d → Reads version size selector snapshot bs c
reads_torn version size selector snapshot bs d c torn r =
    let base = start size (is_odd selector) in
    let same = drop_after SLACK_AT SLACK_BYTES base d c torn (start_least size (is_odd selector)) in
    record {
      journal = journal_stays size selector SLACK_AT SLACK_BYTES d c r.journal (omega arith) torn;
      area = subst (λ (l : List ℕ). IsArea version size snapshot bs l) (sym same) r.area;
    }

module _ (version : Version) (size selector : ℕ) (snapshot : List ℕ) (bs : List (List CommandValue)) (b : List CommandValue) (gate : ℕ) (d : List ℕ)
    (form : IsBlock b) (room : length (front version snapshot bs) + 10 + length (records b) ≤ size) (reads : Reads version size selector snapshot bs d) (at : gate ≡ start size (is_odd selector) + length (front version snapshot bs)) where
  within : gate + 1 + length (closed (records b)) ≤ length d
  within = omega (arith, at, room, reads.journal.fits, start_most size (is_odd selector), length-closed (records b))

  behind : Torn (gate + 1) (length (closed (records b))) d (patched (gate + 1) (closed (records b)) d)
  behind = torn_patched (gate + 1) (length (closed (records b))) (closed (records b)) d refl within

  ready : Reads version size selector snapshot bs (patched (gate + 1) (closed (records b)) d)
  ready = stays version size selector snapshot bs (gate + 1) (length (closed (records b))) d (patched (gate + 1) (closed (records b)) d) reads (omega (arith, at)) behind

  there : drop (start size (is_odd selector)) (patched (gate + 1) (closed (records b)) d) ≡ front version snapshot bs ++ reads.area.gate ∷ (closed (records b) ++ drop (length (closed (records b))) reads.area.rest)
  there = staged (start size (is_odd selector)) gate (front version snapshot bs) reads.area.gate reads.area.rest (closed (records b)) d at (omega (arith, within)) reads.area.whole

  -- the block's gate is torn
  pub torn_open : (c : List ℕ) → Torn gate 1 (patched (gate + 1) (closed (records b)) d) c → Reads version size selector snapshot bs c ⊎ Reads version size selector snapshot (bs ++ b ∷ []) c
  torn_open c torn =
      let rest = drop (length (closed (records b))) reads.area.rest in
      let journal = journal_stays size selector gate 1 (patched (gate + 1) (closed (records b)) d) c ready.journal (omega (arith, at, start_least size (is_odd selector))) torn in
      let whole = gate_torn (start size (is_odd selector)) gate (front version snapshot bs) reads.area.gate (closed (records b) ++ rest) (patched (gate + 1) (closed (records b)) d) c at there torn in
      elim (with_gate version size snapshot bs b rest (drop (start size (is_odd selector)) c) (get_or (drop (start size (is_odd selector)) c) (length (front version snapshot bs)) 0) reads.area.seven reads.area.each form room whole) [
        | inl old ↦ inl (record { journal = journal; area = old })
        | inr new ↦ inr (record { journal = journal; area = new })
      ]

  -- the block's gate is open
  pub is_open : Reads version size selector snapshot (bs ++ b ∷ []) (patched gate (1 ∷ []) (patched (gate + 1) (closed (records b)) d))
  is_open =
      let long : gate + 1 ≤ length (patched (gate + 1) (closed (records b)) d) = omega (arith, within, length-patched (gate + 1) (closed (records b)) d within) in
      record {
        journal = journal_stays size selector gate 1 (patched (gate + 1) (closed (records b)) d) (patched gate (1 ∷ []) (patched (gate + 1) (closed (records b)) d)) ready.journal (omega (arith, at, start_least size (is_odd selector)))
            (torn_patched gate 1 (1 ∷ []) (patched (gate + 1) (closed (records b)) d) refl long);
        area = with_block version size snapshot bs b (drop (length (closed (records b))) reads.area.rest) _ reads.area.seven reads.area.each form room
            (gate_set (start size (is_odd selector)) gate (front version snapshot bs) reads.area.gate 1 (closed (records b) ++ drop (length (closed (records b))) reads.area.rest) (patched (gate + 1) (closed (records b)) d) at (omega (arith, long)) there);
      }
