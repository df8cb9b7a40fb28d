-- RECEIPTs are noted one after another.
use Rattle.std.proofs.Common.{◌≡◌, ◌∙◌, ◌<◌, ◌+◌, ◌++◌, ◌⊎◌, List, [], ◌∷◌, ℕ, ap, drop, get_or, inl, inr, length, refl, subst, sym, take}
use Rattle.std.proofs.lemmas.List.{drop_more, take-append-drop}
use Rattle.frame_core.specs.declared.frame.Frame.{Frame}
use Rattle.client_core.specs.Answers.{IsCauseBy}
use Rattle.client_core.specs.Lines.{AreSettled, IsStray, MaySettle, Misses, Settles, StopsAt}
use Rattle.client_core.specs.Talks.{IsOfPeer}
use Rattle.client_core.specs.Windows.{Lines}
use Rattle.client_core.specs.declared.fault.Cause.{Cause}
use Rattle.client_core.specs.declared.fault.Cause.TheVariants.{Memory}
use Rattle.client_core.proofs.Doing.{one_more}

-- one more
settled_more : (frames : List Frame) (frame : Frame) (x y z : Lines) → AreSettled frames x y → Settles frame y z → AreSettled (frames ++ frame ∷ []) x z
settled_more [] frame x y z are one = (z, subst (λ l. Settles frame l z) are one, refl)
settled_more (f ∷ fs) frame x y z are one = (are.0, are.1, settled_more fs frame are.0 y z are.2 one)

pub goes_on : (frames : List Frame) (i : ℕ) (frame : Frame) (x y z : Lines) → i < length frames → frame ≡ get_or frames i frame → AreSettled (take i frames) x y → Settles frame y z → AreSettled (take (i + 1) frames) x z
goes_on frames i frame x y z within is are one =
    subst (λ l. AreSettled l x z) (sym (one_more frames i frame within is)) (settled_more (take i frames) frame x y z are one)

-- a frame that is no RECEIPT of a line under way
why : (cause : Cause) (frame : Frame) (others more : List Frame) (z : Lines) → others ≡ frame ∷ more → IsStray frame z → (cause ≡ Memory) ⊎ IsCauseBy frame cause
    → (cause ≡ Memory) ⊎ ((f : Frame) × (m : List Frame) × (others ≡ f ∷ m) × IsStray f z × IsCauseBy f cause)
why cause frame others more z split stray (inl memory) = inl memory
why cause frame others more z split stray (inr is) = inr (frame, more, split, stray, is)

pub stops : (frames : List Frame) (i : ℕ) (frame : Frame) (x y z : Lines) (cause : Cause) → i < length frames → frame ≡ get_or frames i frame → AreSettled (take i frames) x y → z ≡ y → IsStray frame y
    → (cause ≡ Memory) ⊎ IsCauseBy frame cause → StopsAt frames x z cause
stops frames i frame x y z cause within is are same stray because = (
  take i frames,
  drop i frames,
  sym (take-append-drop i frames),
  subst (λ l. AreSettled (take i frames) x l) (sym same) are,
  why cause frame (drop i frames) (drop (i + 1) frames) z (drop_more frames i frame within ∙ ap (λ f. f ∷ drop (i + 1) frames) (sym is)) (subst (λ l. IsStray frame l) (sym same) stray) because,
)

-- and more
settled_then : (a b : List Frame) (x y z : Lines) → AreSettled a x y → AreSettled b y z → AreSettled (a ++ b) x z
settled_then [] b x y z are more = subst (λ l. AreSettled b l z) are more
settled_then (f ∷ fs) b x y z are more = (are.0, are.1, settled_then fs b are.0 y z are.2 more)

pub settles_more : (frames : List Frame) (x y z : Lines) → MaySettle x y → AreSettled frames y z → MaySettle x z
settles_more frames x y z may are = (may.0 ++ frames, settled_then may.0 frames x y z may.1 are)

missed : (bytes : List ℕ) (x y z : Lines) (cause : Cause) → MaySettle x y → Misses bytes y z cause → MaySettle x z
missed bytes x y z cause may (inl none) = settles_more [] x y z may none.1
missed bytes x y z cause may (inr (frames, fault, gives, inl stops)) = settles_more stops.0 x y z may stops.3
missed bytes x y z cause may (inr (frames, fault, gives, inr ends)) = settles_more frames x y z may ends.3

pub settled_by_fault : {Told : List ℕ → Type 0} (unread : List ℕ) (x y z : Lines) (cause : Cause) → MaySettle x y → (IsOfPeer cause × (z ≡ y)) ⊎ ((piece : List ℕ) × Told piece × Misses (unread ++ piece) y z cause)
    → MaySettle x z
settled_by_fault unread x y z cause may (inl own) = settles_more [] x y z may own.1
settled_by_fault unread x y z cause may (inr heard) = missed (unread ++ heard.0) x y z cause may heard.2
