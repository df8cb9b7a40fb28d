-- What is read of a disk, and of what the writes of the lists leave, torn and whole.
use Rattle.std.proofs.Common.{◌≡◌, ◌⊎◌, inl, inr, ⊎_elim, ℕ, ◌+◌, ◌%◌, ◌<◌, ◌≤◌, ◌^◌, Bool, true, false, List, [], ◌∷◌, ◌++◌, length, drop, slice_index, refl, sym, ◌∙◌, ap, subst, arith}
use Rattle.command_core.specs.Commands.{CommandValue}
use Rattle.broker_core.specs.States.{State}
use Rattle.broker_core.specs.Steps.{state_after, state_after_by}
use Rattle.snapshot_core.specs.Snapshots.{Spells}
use Rattle.disk_core.specs.Images.{patched, Torn}
use Rattle.area_core.specs.declared.area.Area.{Area}
use Rattle.area_core.specs.declared.version.Version.{Version}
use Rattle.area_core.specs.declared.version.Version.TheVariants.{Two}
use Rattle.area_core.specs.Areas.{IsArea, IsBlock, closed, closed_snapshot, front, records}
use Rattle.area_core.specs.Held.{IsAt}
use Rattle.area_core.specs.Journals.{Reads, is_odd, other, start}
use Rattle.area_core.specs.Switches.{IsBoth}
use Rattle.area_core.proofs.Areas.{length-closed, length-pushed, length-fresh}
use Rattle.area_core.proofs.Journals.{is_open, start_most, stays, torn_open}
use Rattle.area_core.proofs.Single.{reads_one}
use Rattle.area_core.proofs.Switches.{idle_is, keeps_both, keeps_live, switched}
use Rattle.recover_core.specs.Standing.{Leads, rule_of}
use Rattle.recover_core.proofs.Single.{stands_one}
use Rattle.recover_core.proofs.Stores.{leads_on, stands}
use Rattle.world_core.specs.Readings.{IsRead, Reading}

same_or_other : (a b : Bool) → (a ≡ b) ⊎ (other b ≡ a)
same_or_other true true = inl refl
same_or_other true false = inr refl
same_or_other false true = inr refl
same_or_other false false = inl refl

-- what these blocks lead to is read
abbrev pub is_read : (version : Version) (size selector : ℕ) (snapshot : List ℕ) (blocks : List (List CommandValue)) (c : List ℕ) (s : State) → Reads version size selector snapshot blocks c → Leads version snapshot blocks s
    → IsRead size c (record { version = version; gate = length (front version snapshot blocks); state = s })
is_read version size selector snapshot blocks c s reads leads = record { selector = selector; snapshot = snapshot; blocks = blocks; reads = reads; gate = refl; leads = leads }

-- bytes are read in one way
pub same_gate : (a b : ℕ) (c : List ℕ) (r t : Reading) → IsRead a c r → IsRead b c t → r.gate ≡ t.gate
same_gate a b c r t x y =
    let one = reads_one r.version t.version a b x.selector y.selector x.snapshot y.snapshot x.blocks y.blocks c x.reads y.reads in
    x.gate ∙ ap (λ (v : Version). length (front v x.snapshot x.blocks)) one.0 ∙ ap (λ (l : List ℕ). length (front t.version l x.blocks)) one.3
    ∙ ap (λ (bs : List (List CommandValue)). length (front t.version y.snapshot bs)) one.4 ∙ sym y.gate

pub same_version : (a b : ℕ) (c : List ℕ) (r t : Reading) → IsRead a c r → IsRead b c t → r.version ≡ t.version
same_version a b c r t x y = (reads_one r.version t.version a b x.selector y.selector x.snapshot y.snapshot x.blocks y.blocks c x.reads y.reads).0

pub same_state : (a b : ℕ) (c : List ℕ) (r t : Reading) → IsRead a c r → IsRead b c t → r.state ≡ t.state
same_state a b c r t x y =
    stands_one c r.state t.state (stands r.version a x.selector x.snapshot x.blocks c r.state x.reads x.leads) (stands t.version b y.selector y.snapshot y.blocks c t.state y.reads y.leads)

-- the gate lies within its area
pub gate_within : (size : ℕ) (c : List ℕ) (r : Reading) → IsRead size c r → r.gate + 1 ≤ size
gate_within size c r x = omega (arith, x.gate, x.reads.area.fits)

module _ (size : ℕ) (d : List ℕ) (r : Reading) (x : IsRead size d r) where
  abbrev base : ℕ
  base = start size (is_odd x.selector)

  -- what is written behind the closed gate is not read
  pub block_reads : (n : ℕ) (c : List ℕ) → Torn (base + r.gate + 1) n d c → Reads r.version size x.selector x.snapshot x.blocks c
  block_reads n c torn = stays r.version size x.selector x.snapshot x.blocks (base + r.gate + 1) n d c x.reads (omega (arith, x.gate)) torn

  abbrev pub block_torn : (n : ℕ) (c : List ℕ) → Torn (base + r.gate + 1) n d c → IsRead size c r
  block_torn n c torn = record {
    selector = x.selector;
    snapshot = x.snapshot;
    blocks = x.blocks;
    reads = block_reads n c torn;
    gate = x.gate;
    leads = x.leads;
  }

  pub block_fits : (bytes : List ℕ) → r.gate + 10 + length bytes ≤ size → base + r.gate + 1 + length (closed bytes) ≤ length d
  block_fits bytes room = omega (arith, room, length-closed bytes, x.reads.journal.fits, start_most size (is_odd x.selector))

  -- the state and the gate with a block more
  abbrev pub with_block : List CommandValue → Reading
  with_block cs = record { version = r.version; gate = r.gate + (9 + length (records cs)); state = state_after r.state cs }

  module _ (two : r.version ≡ Two) (cs : List CommandValue) (form : IsBlock cs) (room : r.gate + 10 + length (records cs) ≤ size) where
    abbrev gate : ℕ
    gate = base + r.gate

    abbrev staged : List ℕ
    staged = patched (gate + 1) (closed (records cs)) d

    at_gate : gate ≡ base + length (front r.version x.snapshot x.blocks)
    at_gate = ap (λ (n : ℕ). base + n) x.gate

    room_there : length (front r.version x.snapshot x.blocks) + 10 + length (records cs) ≤ size
    room_there = omega (arith, room, x.gate)

    pushed : (c : List ℕ) → Reads r.version size x.selector x.snapshot (x.blocks ++ cs ∷ []) c → IsRead size c (with_block cs)
    pushed c reads = record {
      selector = x.selector;
      snapshot = x.snapshot;
      blocks = x.blocks ++ cs ∷ [];
      reads = reads;
      gate = omega (arith, x.gate, length-pushed r.version x.snapshot x.blocks cs);
      leads = subst (λ (s : State). Leads r.version x.snapshot (x.blocks ++ cs ∷ []) s) (ap (λ (v : Version). state_after_by (rule_of v) r.state cs) two)
          (leads_on r.version x.snapshot x.blocks r.state cs x.leads);
    }

    -- once it is there, and its gate torn, it counts or it doesn't
    pub gate_torn : (c : List ℕ) → Torn gate 1 staged c → IsRead size c r ⊎ IsRead size c (with_block cs)
    gate_torn c torn = elim (torn_open r.version size x.selector x.snapshot x.blocks cs gate d form room_there x.reads at_gate c torn) [
      | inl old ↦ inl (record { selector = x.selector; snapshot = x.snapshot; blocks = x.blocks; reads = old; gate = x.gate; leads = x.leads })
      | inr new ↦ inr (pushed c new)
    ]

    -- with its gate open it counts
    pub gate_open : IsRead size (patched gate (1 ∷ []) staged) (with_block cs)
    gate_open = pushed (patched gate (1 ∷ []) staged) (is_open r.version size x.selector x.snapshot x.blocks cs gate d form room_there x.reads at_gate)

  -- the area, as it is held
  least_size : (n : ℕ) → n ≤ 4087 → n + 9 ≤ size
  least_size n le = omega (arith, le, x.reads.journal.least)

  abbrev held : (n : ℕ) → n + 9 ≤ size → Area
  held n le = record { version = r.version; size = size; selector = x.selector; gate = r.gate; written = n; broken = false; within = gate_within size d r x; idle = le; most = x.reads.journal.most }

  abbrev area : Area
  area = held 0 (least_size 0 (omega arith))

  -- where the idle area begins
  abbrev idle : ℕ
  idle = start size (other (is_odd x.selector))

  -- what is written into the idle area is not read
  pub idle_reads : (n : ℕ) (c : List ℕ) → n ≤ size → Torn idle n d c → Reads r.version size x.selector x.snapshot x.blocks c
  idle_reads n c le torn =
      (keeps_live area (λ l. l ≡ d) idle n c refl le (d, refl, torn) x.snapshot x.blocks (λ l same. subst (λ (b : List ℕ). IsAt area x.snapshot x.blocks b) (sym same) (record { reads = x.reads; gate = x.gate }))).reads

  abbrev pub idle_torn : (n : ℕ) (c : List ℕ) → n ≤ size → Torn idle n d c → IsRead size c r
  idle_torn n c le torn = record {
    selector = x.selector;
    snapshot = x.snapshot;
    blocks = x.blocks;
    reads = idle_reads n c le torn;
    gate = x.gate;
    leads = x.leads;
  }

  pub idle_fits : (n : ℕ) → n ≤ size → idle + n ≤ length d
  idle_fits n le = omega (arith, le, x.reads.journal.fits, start_most size (other (is_odd x.selector)))

  pub idle_written : (next : List ℕ) → length next < 2 ^ 56 → length next + 9 ≤ size → IsArea Two size next [] (drop idle (patched idle (closed_snapshot Two next) d))
  idle_written next seven room = idle_is size idle idle next (closed_snapshot Two next) d refl (omega (arith, idle_fits 0 (omega arith))) seven room refl

  module _ (next : List ℕ) (s : State) (spells : Spells next s) (there : IsArea Two size next [] (drop idle d)) where
    new_leads : Leads Two next [] s
    new_leads = record { first = s; spells = spells; is = refl }

    either_area : (c : List ℕ) → IsBoth area x.snapshot x.blocks next c → IsRead size c r ⊎ IsRead size c (record { version = Two; gate = length (front Two next []); state = s })
    either_area c both = ⊎_elim
        (λ (e : is_odd both.selector ≡ is_odd x.selector). inl (record {
          selector = both.selector;
          snapshot = x.snapshot;
          blocks = x.blocks;
          reads = record { journal = both.journal; area = subst (λ (b : Bool). IsArea r.version size x.snapshot x.blocks (drop (start size b) c)) (sym e) both.live };
          gate = x.gate;
          leads = x.leads;
        }))
        (λ (e : other (is_odd x.selector) ≡ is_odd both.selector). inr (is_read Two size both.selector next [] c s
        (record { journal = both.journal; area = subst (λ (b : Bool). IsArea Two size next [] (drop (start size b) c)) e both.idle }) new_leads))
        (same_or_other (is_odd both.selector) (is_odd x.selector))

    -- whatever the selector is, the one or the other area is read
    pub selector_torn : (c : List ℕ) → Torn 16 1 d c → IsRead size c r ⊎ IsRead size c (record { version = Two; gate = length (front Two next []); state = s })
    selector_torn c torn =
        let room : length next + 9 ≤ size = omega (arith, there.fits, length-fresh Two next) in
        let both = keeps_both (held (length next) room) (λ l. l ≡ d) c (d, refl, torn) x.snapshot x.blocks next
        (λ l same. subst (λ (b : List ℕ). IsAt (held (length next) room) x.snapshot x.blocks b) (sym same) (record { reads = x.reads; gate = x.gate }))
        (λ l same. record { idle = subst (λ (b : List ℕ). IsArea Two size next [] (drop idle b)) (sym same) there; written = refl }) in
        either_area c (record { selector = both.selector; journal = both.journal; live = both.live; idle = both.idle })

    -- the selector plus 1 names the other
    pub selector_written : IsRead size (patched 16 ((x.selector + 1) % 256 ∷ []) d) (record { version = Two; gate = length (front Two next []); state = s })
    selector_written =
        is_read Two size ((x.selector + 1) % 256) next [] (patched 16 ((x.selector + 1) % 256 ∷ []) d) s (switched size x.selector next d x.reads.journal there) new_leads

-- the selector is the byte that stands there
abbrev pub at_selector : (size : ℕ) (c : List ℕ) (r : Reading) → IsRead size c r → IsRead size c r
at_selector size c r x = record {
  selector = slice_index c 16;
  snapshot = x.snapshot;
  blocks = x.blocks;
  reads = subst (λ (s : ℕ). Reads r.version size s x.snapshot x.blocks c) (sym x.reads.journal.selects) x.reads;
  gate = x.gate;
  leads = x.leads;
}
