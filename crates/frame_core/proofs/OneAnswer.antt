use Rattle.std.proofs.Common.{inl, ◌≡◌, ℕ, List, [], ◌∷◌, ◌++◌, Bool, true, false, flat_map, None, refl, sym, ap, ◌∙◌, subst, arith, append_assoc}
use Rattle.std.specs.Bool.{⊤}
use Rattle.std.proofs.lemmas.List.{append-nil}
use Rattle.frame_core.specs.declared.frame.Frame.{Frame}
use Rattle.frame_core.specs.declared.fault.FrameFault.{FrameFault}
use Rattle.frame_core.specs.Heads.{eol}
use Rattle.frame_core.specs.Spelling.{Spells, IsWithinLimits}
use Rattle.frame_core.specs.Streams.{Frames, Reads, Fails, IsReadFirst}
use Rattle.frame_core.proofs.OneHead.{one_line}
use Rattle.frame_core.proofs.Joins.{joined, one_frame}
use Rattle.frame_core.proofs.Machine.{Outcome, waits, skipped, given, failed, run, start}
use Rattle.frame_core.proofs.MachineHeads.{eol_run}
use Rattle.frame_core.proofs.MachineBodies.{spelled_run}
use Rattle.frame_core.proofs.MachineFaults.{unfinished_run, faulty_run}

-- no EOL is skipped there
abbrev NoSkip : Outcome → Type 0
NoSkip (skipped x) = ⊥
NoSkip outcome = ⊤

-- neither an EOL nor a frame begins there
abbrev IsEnd : Outcome → Type 0
IsEnd (skipped x) = ⊥
IsEnd (given frame x) = ⊥
IsEnd outcome = ⊤

no_skip : (o : Outcome) → IsEnd o → NoSkip o
no_skip waits h = tt
no_skip (skipped x) h = h
no_skip (given frame x) h = tt
no_skip (failed fault x) h = tt

gap_run : (cr : Bool) (x : List ℕ) → run (eol cr ++ x) start ≡ skipped x
gap_run true x = eol_run None [] true x 0 (omega arith)
gap_run false x = eol_run None [] false x 0 (omega arith)

no_gap : (bytes : List ℕ) (cr : Bool) (x : List ℕ) → NoSkip (run bytes start) → bytes ≡ eol cr ++ x → ⊥
no_gap bytes cr x h e = subst NoSkip (ap (λ z. run z start) e ∙ gap_run cr x) h

spelled_no_skip : (bytes more : List ℕ) (frame : Frame) → Spells bytes frame → IsWithinLimits bytes frame → NoSkip (run (bytes ++ more) start)
spelled_no_skip bytes more frame h within = subst NoSkip (sym (spelled_run bytes more frame h within)) tt

-- EOLs before bytes that no EOL begins begin with those before others
same_gaps : (g h : List Bool) (x y : List ℕ) → NoSkip (run y start) → flat_map eol g ++ x ≡ flat_map eol h ++ y → (i : List Bool) × (x ≡ flat_map eol i ++ y)
same_gaps [] h x y s e = (h, e)
same_gaps (cr ∷ g) [] x y s e = absurd (no_gap y cr (flat_map eol g ++ x) s (sym e ∙ append_assoc (eol cr) (flat_map eol g) x))
same_gaps (cr ∷ g) (other ∷ h) x y s e =
    let cut : [] ++ (eol cr ++ (flat_map eol g ++ x)) ≡ [] ++ (eol other ++ (flat_map eol h ++ y)) =
    sym (append_assoc (eol cr) (flat_map eol g) x) ∙ e ∙ append_assoc (eol other) (flat_map eol h) y in
    same_gaps g h x y s (one_line [] [] cr other (flat_map eol g ++ x) (flat_map eol h ++ y) tt tt cut).2

-- bytes that begin with no EOL have none before others
no_gaps : (i : List Bool) (x y : List ℕ) → NoSkip (run x start) → x ≡ flat_map eol i ++ y → x ≡ y
no_gaps [] x y s e = e
no_gaps (cr ∷ i) x y s e = absurd (no_gap x cr (flat_map eol i ++ y) s (e ∙ append_assoc (eol cr) (flat_map eol i) y))

-- one answer's frames begin the other's, which ends for good
pub continues : (stream : List ℕ) (a b : List Frame) (q r : List ℕ) → Frames stream a q → Frames stream b r → IsEnd (run r start) → (c : List Frame) × (b ≡ a ++ c) × Frames q c r
continues stream [] [] q r h k last =
    let gaps = same_gaps h.0 k.0 q r (no_skip (run r start) last) (sym h.1 ∙ k.1) in
    ([], refl, gaps)
continues stream [] (frame ∷ b) q r h k last =
    let gaps = same_gaps h.0 k.0 q (k.1 ++ k.2) (spelled_no_skip k.1 k.2 frame k.3 k.4) (sym h.1 ∙ k.5) in
    (frame ∷ b, refl, (gaps.0, k.1, k.2, k.3, k.4, gaps.1, k.6))
continues stream (frame ∷ a) [] q r h k last =
    let gaps = same_gaps h.0 k.0 (h.1 ++ h.2) r (no_skip (run r start) last) (sym h.5 ∙ k.1) in
    let same = no_gaps gaps.0 (h.1 ++ h.2) r (spelled_no_skip h.1 h.2 frame h.3 h.4) gaps.1 in
    absurd (subst IsEnd (ap (λ z. run z start) (sym same) ∙ spelled_run h.1 h.2 frame h.3 h.4) last)
continues stream (frame ∷ a) (other ∷ b) q r h k last =
    let gaps = same_gaps h.0 k.0 (h.1 ++ h.2) (k.1 ++ k.2) (spelled_no_skip k.1 k.2 other k.3 k.4) (sym h.5 ∙ k.5) in
    let same = no_gaps gaps.0 (h.1 ++ h.2) (k.1 ++ k.2) (spelled_no_skip h.1 h.2 frame h.3 h.4) gaps.1 in
    let both : given frame h.2 ≡ given other k.2 = sym (spelled_run h.1 h.2 frame h.3 h.4) ∙ ap (λ z. run z start) same ∙ spelled_run k.1 k.2 other k.3 k.4 in
    let one : frame ≡ other = cc in
    let more : k.2 ≡ h.2 = cc in
    let P : List ℕ → Type 0 = λ z. Frames z b r in
    let rest = continues h.2 a b q r h.6 (subst P more k.6) last in
    (rest.0, (λ i. sym one i ∷ rest.1 i), rest.2)

-- where no frame begins there are no more frames
ends_there : (q r : List ℕ) (c : List Frame) → Frames q c r → IsEnd (run q start) → (c ≡ []) × (q ≡ r)
ends_there q r [] h last = (refl, no_gaps h.0 q r (no_skip (run q start) last) h.1)
ends_there q r (frame ∷ c) h last =
    let same = no_gaps h.0 q (h.1 ++ h.2) (no_skip (run q start) last) h.5 in
    absurd (subst IsEnd (ap (λ z. run z start) same ∙ spelled_run h.1 h.2 frame h.3 h.4) last)

same_end : (stream : List ℕ) (a b : List Frame) (q r : List ℕ) → Frames stream a q → Frames stream b r → IsEnd (run q start) → IsEnd (run r start) → (a ≡ b) × (q ≡ r)
same_end stream a b q r h k last other =
    let c = continues stream a b q r h k other in
    let e = ends_there q r c.0 c.2 last in
    (sym (c.1 ∙ ap (λ z. a ++ z) e.0 ∙ append-nil a), e.1)

pub one_reading : (stream : List ℕ) (a b : List Frame) (q r : List ℕ) → Reads stream a q → Reads stream b r → (a ≡ b) × (q ≡ r)
one_reading stream a b q r h k =
    same_end stream a b q r h.0 k.0 (subst IsEnd (sym (unfinished_run q h.1)) tt) (subst IsEnd (sym (unfinished_run r k.1)) tt)

pub one_fault : (stream : List ℕ) (a b : List Frame) (f g : FrameFault) → Fails stream a f → Fails stream b g → (a ≡ b) × (f ≡ g)
one_fault stream a b f g h k =
    let this = faulty_run f h.0 h.1 h.3 in
    let that = faulty_run g k.0 k.1 k.3 in
    let e = same_end stream a b (h.0 ++ h.1) (k.0 ++ k.1) h.2 k.2 (subst IsEnd (sym this) tt) (subst IsEnd (sym that) tt) in
    let both : failed f h.1 ≡ failed g k.1 = sym this ∙ ap (λ z. run z start) e.1 ∙ that in
    (e.0, (cc))

pub fault_or_none : (stream : List ℕ) (a b : List Frame) (q : List ℕ) (f : FrameFault) → Reads stream a q → Fails stream b f → ⊥
fault_or_none stream a b q f h k =
    let this = unfinished_run q h.1 in
    let that = faulty_run f k.0 k.1 k.3 in
    let e = same_end stream a b q (k.0 ++ k.1) h.0 k.2 (subst IsEnd (sym this) tt) (subst IsEnd (sym that) tt) in
    let both : waits ≡ failed f k.1 = sym this ∙ ap (λ z. run z start) e.1 ∙ that in
    cc

longer : (stream more : List ℕ) (a : List Frame) (q : List ℕ) → Frames stream a q → Frames (stream ++ more) a (q ++ more)
longer stream more a q h =
    let P : List Frame → Type 0 = λ z. Frames (stream ++ more) z (q ++ more) in
    subst P (append-nil a) (joined stream more a [] q (q ++ more) h ([], refl))

pub reads_on : (stream more : List ℕ) (a b : List Frame) (q r : List ℕ) → Reads stream a q → Reads (stream ++ more) b r → (c : List Frame) × (b ≡ a ++ c) × Reads (q ++ more) c r
reads_on stream more a b q r h k =
    let c = continues (stream ++ more) a b (q ++ more) r (longer stream more a q h.0) k.0 (subst IsEnd (sym (unfinished_run r k.1)) tt) in
    (c.0, c.1, (c.2, k.1))

pub fails_on : (stream more : List ℕ) (a b : List Frame) (q : List ℕ) (f : FrameFault) → Reads stream a q → Fails (stream ++ more) b f → (c : List Frame) × (b ≡ a ++ c) × Fails (q ++ more) c f
fails_on stream more a b q f h k =
    let c = continues (stream ++ more) a b (q ++ more) (k.0 ++ k.1) (longer stream more a q h.0) k.2 (subst IsEnd (sym (faulty_run f k.0 k.1 k.3)) tt) in
    (c.0, c.1, (k.0, k.1, c.2, k.3))

-- a spelling within the limits is read first
pub read_first : (bytes : List ℕ) (frame : Frame) → Spells bytes frame → IsWithinLimits bytes frame → IsReadFirst bytes frame
read_first bytes frame spells within =
    let alone : Reads bytes (frame ∷ []) [] =
    (one_frame bytes frame spells within, inl (record { lines = []; part = []; with_cr = false; whole = refl; begun = inl refl; each = tt; size = omega arith })) in
    record {
      alone = alone;
      reads = λ more frames rest k. reads_on bytes more (frame ∷ []) frames [] rest alone k;
      fails = λ more frames fault k. fails_on bytes more (frame ∷ []) frames [] fault alone k;
    }
