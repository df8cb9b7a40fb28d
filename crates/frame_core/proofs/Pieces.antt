use Rattle.std.proofs.Common.{◌≡◌, ◌<◌, ◌+◌, ℕ, List, [], ◌∷◌, ◌++◌, flat_map, length, take, drop, get_or, sym, ap, subst, ◌∙◌}
use Rattle.std.proofs.lemmas.List.{append-nil, take_more, take-append-drop}
use Rattle.std.proofs.lemmas.List.Concat.{flat_map-append}
use Rattle.frame_core.specs.declared.frame.Frame.{Frame}
use Rattle.frame_core.specs.declared.fault.FrameFault.{FrameFault}
use Rattle.frame_core.specs.Streams.{Frames, Fails}
use Rattle.frame_core.proofs.Joins.{joined, joined_fault, fault_stays}

-- one piece more
pieces_more : {X : Type 0} (bytes : X → List ℕ) (pieces : List X) (i : ℕ) (p : X) (piece : List ℕ) → i < length pieces → p ≡ get_or pieces i p → piece ≡ bytes p
    → flat_map bytes (take (i + 1) pieces) ≡ flat_map bytes (take i pieces) ++ piece
pieces_more bytes pieces i p piece lt is e =
    ap (flat_map bytes) (take_more pieces i p lt) ∙ flat_map-append bytes (take i pieces) (get_or pieces i p ∷ [])
    ∙ ap (λ x. flat_map bytes (take i pieces) ++ x) (append-nil (bytes (get_or pieces i p)) ∙ ap bytes (sym is) ∙ sym e)

pub pieces_read : {X : Type 0} (bytes : X → List ℕ) (pieces : List X) (i : ℕ) (p : X) (piece rest last : List ℕ) (a b frames : List Frame) → i < length pieces → p ≡ get_or pieces i p → piece ≡ bytes p
    → Frames (flat_map bytes (take i pieces)) a rest → Frames (rest ++ piece) b last → frames ≡ a ++ b → Frames (flat_map bytes (take (i + 1) pieces)) frames last
pieces_read bytes pieces i p piece rest last a b frames lt is e h k f =
    let P : List ℕ → Type 0 = λ x. Frames x (a ++ b) last in
    let Q : List Frame → Type 0 = λ x. Frames (flat_map bytes (take (i + 1) pieces)) x last in
    subst Q (sym f) (subst P (sym (pieces_more bytes pieces i p piece lt is e)) (joined (flat_map bytes (take i pieces)) piece a b rest last h k))

pub pieces_fail : {X : Type 0} (bytes : X → List ℕ) (pieces : List X) (i : ℕ) (p : X) (piece rest : List ℕ) (a b frames : List Frame) (fault : FrameFault) → i < length pieces → p ≡ get_or pieces i p
    → piece ≡ bytes p → Frames (flat_map bytes (take i pieces)) a rest → Fails (rest ++ piece) b fault → frames ≡ a ++ b → Fails (flat_map bytes pieces) frames fault
pieces_fail bytes pieces i p piece rest a b frames fault lt is e h k f =
    let P : List ℕ → Type 0 = λ x. Fails x (a ++ b) fault in
    let Q : List Frame → Type 0 = λ x. Fails (flat_map bytes pieces) x fault in
    let first = subst P (sym (pieces_more bytes pieces i p piece lt is e)) (joined_fault (flat_map bytes (take i pieces)) piece a b rest fault h k) in
    let all = fault_stays (flat_map bytes (take (i + 1) pieces)) (flat_map bytes (drop (i + 1) pieces)) (a ++ b) fault first in
    let whole : flat_map bytes (take (i + 1) pieces) ++ flat_map bytes (drop (i + 1) pieces) ≡ flat_map bytes pieces =
    sym (flat_map-append bytes (take (i + 1) pieces) (drop (i + 1) pieces)) ∙ ap (flat_map bytes) (take-append-drop (i + 1) pieces) in
    subst Q (sym f) (subst P whole all)
