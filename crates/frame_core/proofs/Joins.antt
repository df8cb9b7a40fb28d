use Rattle.std.proofs.Common.{◌≡◌, ◌<◌, ◌+◌, ℕ, List, [], ◌∷◌, ◌++◌, Bool, length, take, drop, get_or, flat_map, refl, sym, ap, ◌∙◌, subst, append_assoc}
use Rattle.std.proofs.lemmas.List.{append-nil, take_more}
use Rattle.std.proofs.lemmas.List.Concat.{flat_map-append}
use Rattle.frame_core.specs.declared.frame.Frame.{Frame}
use Rattle.frame_core.specs.declared.fault.FrameFault.{FrameFault}
use Rattle.frame_core.specs.Heads.{eol}
use Rattle.frame_core.specs.Spelling.{Spells, IsWithinLimits}
use Rattle.frame_core.specs.Faults.{Faulty}
use Rattle.frame_core.specs.Streams.{Frames, Fails}
use Rattle.frame_core.proofs.Places.{cut_at}

-- ends of lines may stand before frames
pub behind_gaps : (gaps : List Bool) (stream : List ℕ) (frames : List Frame) (rest : List ℕ) → Frames stream frames rest → Frames (flat_map eol gaps ++ stream) frames rest
behind_gaps gaps stream [] rest h =
    (gaps ++ h.0, ap (λ x. flat_map eol gaps ++ x) h.1 ∙ sym (append_assoc (flat_map eol gaps) (flat_map eol h.0) rest) ∙ ap (λ x. x ++ rest) (sym (flat_map-append eol gaps h.0)))
behind_gaps gaps stream (frame ∷ frames) rest h = (
  gaps ++ h.0,
  h.1,
  h.2,
  h.3,
  h.4,
  ap (λ x. flat_map eol gaps ++ x) h.5 ∙ sym (append_assoc (flat_map eol gaps) (flat_map eol h.0) (h.1 ++ h.2)) ∙ ap (λ x. x ++ (h.1 ++ h.2)) (sym (flat_map-append eol gaps h.0)),
  h.6,
)

-- What is left of a stream is read on with what comes behind it.
pub joined : (stream piece : List ℕ) (a b : List Frame) (rest last : List ℕ) → Frames stream a rest → Frames (rest ++ piece) b last → Frames (stream ++ piece) (a ++ b) last
joined stream piece [] b rest last h k =
    let whole : stream ++ piece ≡ flat_map eol h.0 ++ (rest ++ piece) = ap (λ x. x ++ piece) h.1 ∙ append_assoc (flat_map eol h.0) rest piece in
    let P : List ℕ → Type 0 = λ x. Frames x b last in
    subst P (sym whole) (behind_gaps h.0 (rest ++ piece) b last k)
joined stream piece (frame ∷ a) b rest last h k = (
  h.0,
  h.1,
  h.2 ++ piece,
  h.3,
  h.4,
  ap (λ x. x ++ piece) h.5 ∙ append_assoc (flat_map eol h.0) (h.1 ++ h.2) piece ∙ ap (λ x. flat_map eol h.0 ++ x) (append_assoc h.1 h.2 piece),
  joined h.2 piece a b rest last h.6 k,
)

pub joined_fault : (stream piece : List ℕ) (a b : List Frame) (rest : List ℕ) (fault : FrameFault) → Frames stream a rest → Fails (rest ++ piece) b fault → Fails (stream ++ piece) (a ++ b) fault
joined_fault stream piece a b rest fault h k = (k.0, k.1, joined stream piece a b rest (k.0 ++ k.1) h k.2, k.3)

-- a fault stays, whatever follows
pub fault_stays : (stream more : List ℕ) (a : List Frame) (fault : FrameFault) → Fails stream a fault → Fails (stream ++ more) a fault
fault_stays stream more a fault k =
    let still : Frames ((k.0 ++ k.1) ++ more) [] (k.0 ++ (k.1 ++ more)) = ([], append_assoc k.0 k.1 more) in
    let P : List Frame → Type 0 = λ x. Frames (stream ++ more) x (k.0 ++ (k.1 ++ more)) in
    (k.0, k.1 ++ more, subst P (append-nil a) (joined stream more a [] (k.0 ++ k.1) (k.0 ++ (k.1 ++ more)) k.2 still), k.3)

-- one whole frame
pub one_frame : (bytes : List ℕ) (frame : Frame) → Spells bytes frame → IsWithinLimits bytes frame → Frames bytes (frame ∷ []) []
one_frame bytes frame spells within = ([], bytes, [], spells, within, sym (append-nil bytes), ([], refl))

pub take_first : (piece : List ℕ) → 0 < length piece → take 1 piece ≡ get_or piece 0 0 ∷ []
take_first piece lt = take_more piece 0 0 lt

-- a fault at a place of the piece
pub fails_at : (bytes piece : List ℕ) (n : ℕ) (fault : FrameFault) → n < length piece → Faulty fault ((bytes ++ take n piece) ++ get_or piece n 0 ∷ []) → Fails (bytes ++ piece) [] fault
fails_at bytes piece n fault lt h =
    let whole : bytes ++ piece ≡ ((bytes ++ take n piece) ++ get_or piece n 0 ∷ []) ++ drop (n + 1) piece =
    ap (λ x. bytes ++ x) (cut_at piece n lt) ∙ simp append_assoc in
    ((bytes ++ take n piece) ++ get_or piece n 0 ∷ [], drop (n + 1) piece, ([], whole), h)

-- a fault at its first byte
pub fails_first : (bytes piece : List ℕ) (fault : FrameFault) → 0 < length piece → Faulty fault (bytes ++ get_or piece 0 0 ∷ []) → Fails (bytes ++ piece) [] fault
fails_first bytes piece fault lt h =
    let P : List ℕ → Type 0 = λ x. Faulty fault (x ++ get_or piece 0 0 ∷ []) in
    fails_at bytes piece 0 fault lt (subst P (sym (append-nil bytes)) h)
