use Rattle.std.proofs.Common.{◌≡◌, ◌+◌, ℕ, List, [], ◌++◌, Bool, inl, inr, take, drop, refl, sym, ap, subst, ◌∙◌, append_assoc, arith}
use Rattle.std.proofs.lemmas.List.{append-nil, take-take, take-append-drop, drop-take}
use Rattle.frame_core.specs.declared.frame.Frame.{Frame}
use Rattle.frame_core.specs.declared.fault.FrameFault.{FrameFault}
use Rattle.frame_core.specs.declared.reader.Section.{Section}
use Rattle.frame_core.specs.declared.reader.Section.TheVariants.{Command, HeaderLines, Body}
use Rattle.frame_core.specs.Parts.{IsPartOfHead, IsUnfinished}
use Rattle.frame_core.specs.Streams.{Frames, Fails}
use Rattle.frame_core.specs.Partials.{IsAt}
use Rattle.frame_core.proofs.OpenLines.{part_of_head}
use Rattle.frame_core.proofs.Joins.{joined, joined_fault}

-- what is kept is an unfinished frame
pub unfinished : (section : Section) (head : List ℕ) (line : ℕ) (cr : Bool) (headers : List (List ℕ × List ℕ)) (body : List ℕ) → IsAt section head line cr headers body → IsUnfinished (head ++ body)
unfinished Command head line cr headers body h =
    let part = part_of_head Command head line cr headers body tt h in
    inl (subst IsPartOfHead (sym (ap (λ x. head ++ x) h.2 ∙ append-nil head)) part.0)
unfinished (HeaderLines verb) head line cr headers body h =
    let part = part_of_head (HeaderLines verb) head line cr headers body tt h in
    inl (subst IsPartOfHead (sym (ap (λ x. head ++ x) h.4 ∙ append-nil head)) part.0)
unfinished (Body verb plan) head line cr headers body h =
    inr (record { verb = verb; headers = headers; head = head; plan = plan; part = body; whole = refl; is_head = h.0; plans = h.1; is_part = h.2 })

take_add : (n m : ℕ) (xs : List ℕ) → take (n + m) xs ≡ take n xs ++ take m (drop n xs)
take_add n m xs =
    sym (take-append-drop n (take (n + m) xs)) ∙ ap (λ ys. ys ++ drop n (take (n + m) xs)) (take-take n (n + m) xs (omega arith))
    ∙ ap (λ ys. take n xs ++ ys) (drop-take n m xs)

-- some bytes of the piece more are read
pub piece_advances : (bytes piece rest last : List ℕ) (at count : ℕ) (a done : List Frame) → Frames (bytes ++ take at piece) a rest → Frames (rest ++ take count (drop at piece)) done last
    → Frames (bytes ++ take (at + count) piece) (a ++ done) last
piece_advances bytes piece rest last at count a done h k =
    let whole : bytes ++ take (at + count) piece ≡ (bytes ++ take at piece) ++ take count (drop at piece) =
    ap (λ x. bytes ++ x) (take_add at count piece) ∙ sym (append_assoc bytes (take at piece) (take count (drop at piece))) in
    let P : List ℕ → Type 0 = λ x. Frames x (a ++ done) last in
    subst P (sym whole) (joined (bytes ++ take at piece) (take count (drop at piece)) a done rest last h k)

-- a fault in the rest of the piece is one of the whole
pub piece_fails : (bytes piece rest : List ℕ) (at : ℕ) (a : List Frame) (fault : FrameFault) → Frames (bytes ++ take at piece) a rest → Fails (rest ++ drop at piece) [] fault
    → Fails (bytes ++ piece) a fault
piece_fails bytes piece rest at a fault h k =
    let whole : (bytes ++ take at piece) ++ drop at piece ≡ bytes ++ piece =
    append_assoc bytes (take at piece) (drop at piece) ∙ ap (λ x. bytes ++ x) (take-append-drop at piece) in
    let P : List ℕ → Type 0 = λ x. Fails x (a ++ []) fault in
    let Q : List Frame → Type 0 = λ x. Fails (bytes ++ piece) x fault in
    subst Q (append-nil a) (subst P whole (joined_fault (bytes ++ take at piece) (drop at piece) a [] rest fault h k))
