use Rattle.std.proofs.Common.{◌≡◌, ◌≤◌, refl, arith, take, get_or, length, sym, ap, ◌∙◌, ◌∷◌, [], ◌++◌, Some, length-append}
use Rattle.std.proofs.lemmas.List.{append-nil, length-take-le}
use Rattle.frame_core.specs.declared.fault.FrameFault.TheVariants.{Malformed}
use Rattle.frame_core.specs.Partials.{bytes_of}
use Rattle.frame_core.proofs.Joins.{fails_first, take_first}
use Rattle.frame_core.proofs.BodySteps.{body_reads, framed, frame_ends, no_end}
use Rattle.frame_core.proofs.reader.Partial.take_counted.Goals as goal

pub returns-then-piece-ne0-clause-fault : goal.returns-then-piece-ne0-clause-fault
returns-then-piece-ne0-clause-fault c =
    let p = c.args.self.now in
    let full : length p.body.items ≡ c.args.announced = omega (arith, c.requires.kept.2) in (
      refl,
      fails_first (bytes_of p) c.args.piece.now Malformed c.requires.some_byte
          (no_end c.args.verb c.args.announced p.head.items p.line p.with_cr p.headers.items p.body.items _ c.requires.kept full c.if-piece-ne0.true),
    )

pub returns-then-left-eq0-clause-ok : goal.returns-then-left-eq0-clause-ok
returns-then-left-eq0-clause-ok c =
    let p = c.args.self.now in
    let piece = c.args.piece.now in
    let full : length p.body.items ≡ c.args.announced = omega (arith, c.requires.kept.2) in
    let nul : get_or piece 0 0 ≡ 0 = c.if-piece-ne0.false in
    let one : take 1 piece ≡ 0 ∷ [] = take_first piece c.requires.some_byte ∙ ap (λ b. b ∷ []) nul in
    let ends = frame_ends c.args.verb (Some c.args.announced) p.head.items p.headers.items p.body.items c.requires.kept.0 c.requires.kept.1 c.requires.kept.2 full in
    record {
      done = framed c.args.verb p.headers.items p.body.items ∷ [];
      some_byte = omega arith;
      within = c.requires.some_byte;
      frames = c.in_ok-finish.ensures.frames;
      reads = rw (one, c.in_ok-finish.ensures.empty) ends;
      kept = c.in_ok-finish.ensures.kept;
    }

pub returns-clause-ok : goal.returns-clause-ok
returns-clause-ok c =
    let p = c.args.self.now in
    let piece = c.args.piece.now in
    let count = c.min-count.result in
    let within : count ≤ length piece = omega arith in
    let fits : length (p.body.items ++ take count piece) ≤ c.args.announced = omega (arith, length-append p.body.items (take count piece), length-take-le count piece within, c.requires.kept.2) in
    record {
      done = [];
      some_byte = omega arith;
      within = within;
      frames = sym (append-nil c.args.frames.now.items);
      reads = rw c.in_ok-extend_from_slice.ensures.items (body_reads p.head.items p.body.items (take count piece));
      kept = rw (c.requires.section, c.in_ok-extend_from_slice.ensures.items) (c.requires.kept.0, c.requires.kept.1, fits);
    }
