use Rattle.std.proofs.Common.{◌≡◌, ◌++◌, List, ℕ, refl, ap, subst}
use Rattle.frame_core.specs.Partials.{bytes_of}
use Rattle.frame_core.specs.Streams.{Fails, Frames}
use Rattle.frame_core.proofs.Kept.{unfinished}
use Rattle.frame_core.proofs.reader.FrameReader.feed.Goals as goal

pub returns-in-Ok-clause-fed : goal.returns-in-Ok-clause-fed
returns-in-Ok-clause-fed c =
    let h = c.in-Ok.ensures.ok in
    let p = c.read_piece.new.partial in
    let rest : bytes_of c.self.inside.partial ≡ c.args.self.now.rest = ap (λ v. v.rest) c.self.view_is in
    let P : List ℕ → Type 0 = λ x. Frames (x ++ c.args.piece.now) c.read_piece.new.frames.items (bytes_of p) in
    ((subst P rest h.0, unfinished p.section p.head.items p.line p.with_cr p.headers.items p.body.items h.1), refl)

pub returns-in-Err-Fault-clause-fed : goal.returns-in-Err-Fault-clause-fed
returns-in-Err-Fault-clause-fed c =
    let found = c.in-Err-Fault.fault in
    let rest : bytes_of c.self.inside.partial ≡ c.args.self.now.rest = ap (λ v. v.rest) c.self.view_is in
    let P : List ℕ → Type 0 = λ x. Fails (x ++ c.args.piece.now) c.read_piece.new.frames.items found in
    let fails : P (bytes_of c.self.inside.partial) = rw c.in-Err-Fault.field-0-is at c.in-Err-Fault.ensures.fault in
    (subst P rest fails, refl)

pub read_piece-requires-clause-kept : goal.read_piece-requires-clause-kept
read_piece-requires-clause-kept c = c.self.invariant c.if-self.false
