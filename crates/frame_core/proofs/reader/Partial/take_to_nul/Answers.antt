use Rattle.std.proofs.Common.{◌≡◌, ◌≢◌, ◌<◌, ◌≤◌, ◌-◌, refl, arith, take, get_or, length, subst, sym, ap, ◌∙◌, ◌∷◌, [], ◌++◌, ℕ, None, true, false, length-append}
use Rattle.std.proofs.lemmas.List.{append-nil, length-take-le}
use Rattle.frame_core.specs.declared.fault.FrameFault.TheVariants.{BodyNotAllowed, TooLarge}
use Rattle.frame_core.specs.Verbs.{has_body}
use Rattle.frame_core.specs.Writable.{HasNoNul}
use Rattle.frame_core.specs.Partials.{bytes_of}
use Rattle.frame_core.proofs.Joins.{fails_first, fails_at, take_first}
use Rattle.frame_core.proofs.BodySteps.{body_reads, framed, frame_ends, wrong_body, run_kept, long_body, at_run, shorter_run}
use Rattle.frame_core.proofs.reader.Partial.take_to_nul.Goals as goal

pub returns-then-count-eq0-clause-ok : goal.returns-then-count-eq0-clause-ok
returns-then-count-eq0-clause-ok c =
    let p = c.args.self.now in
    let piece = c.args.piece.now in
    let nul : get_or piece 0 0 ≡ 0 =
    let P : ℕ → Type 0 = λ n. n < length piece → get_or piece n 0 ≡ 0 in
    subst P c.if-count-eq0.true c.run_before_nul-count.ensures.nul c.requires.some_byte in
    let one : take 1 piece ≡ 0 ∷ [] = take_first piece c.requires.some_byte ∙ ap (λ b. b ∷ []) nul in
    let ends = frame_ends c.args.verb None p.head.items p.headers.items p.body.items c.requires.kept.0 c.requires.kept.1 c.requires.kept.2 tt in
    record {
      done = framed c.args.verb p.headers.items p.body.items ∷ [];
      some_byte = omega arith;
      within = c.requires.some_byte;
      frames = c.in_ok-finish.ensures.frames;
      reads = rw (one, c.in_ok-finish.ensures.empty) ends;
      kept = c.in_ok-finish.ensures.kept;
    }

pub returns-then-not-has_body-clause-fault : goal.returns-then-not-has_body-clause-fault
returns-then-not-has_body-clause-fault c =
    let p = c.args.self.now in
    let piece = c.args.piece.now in
    let count = c.run_before_nul-count.result in
    let bare : has_body c.args.verb ≡ false = sym c.has_body.ensures ∙ c.if-not-has_body.true in
    let ne : get_or piece 0 0 ≢ 0 = at_run (λ b. b ≢ 0) piece count 0 c.run_before_nul-count.ensures.within (omega arith) c.run_before_nul-count.ensures.run in (
      refl,
      fails_first (bytes_of p) piece BodyNotAllowed c.requires.some_byte
          (wrong_body c.args.verb p.head.items p.line p.with_cr p.headers.items p.body.items _ c.requires.kept bare ne),
    )

pub returns-then-count-len-clause-fault : goal.returns-then-count-len-clause-fault
returns-then-count-len-clause-fault c =
    let p = c.args.self.now in
    let piece = c.args.piece.now in
    let count = c.run_before_nul-count.result in
    let n : ℕ = 65536 - length p.body.items in
    let allowed : has_body c.args.verb ≡ true = sym c.has_body.ensures ∙ c.if-not-has_body.false in
    let below : n < count = omega arith in
    let within = c.run_before_nul-count.ensures.within in
    let run = c.run_before_nul-count.ensures.run in
    let ne : get_or piece n 0 ≢ 0 = at_run (λ b. b ≢ 0) piece count n within below run in
    let none : HasNoNul (take n piece) = shorter_run (λ b. b ≢ 0) piece count n (omega arith) run in
    let full : length (p.body.items ++ take n piece) ≡ 65536 = omega (arith, length-append p.body.items (take n piece), length-take-le n piece (omega arith), c.requires.kept.2.1) in (
      refl,
      fails_at (bytes_of p) piece n TooLarge (omega arith)
          (long_body c.args.verb p.head.items p.line p.with_cr p.headers.items p.body.items (take n piece) _ c.requires.kept none full allowed ne),
    )

pub returns-clause-ok : goal.returns-clause-ok
returns-clause-ok c =
    let p = c.args.self.now in
    let piece = c.args.piece.now in
    let count = c.run_before_nul-count.result in
    let allowed : has_body c.args.verb ≡ true = sym c.has_body.ensures ∙ c.if-not-has_body.false in
    let within = c.run_before_nul-count.ensures.within in
    let run = c.run_before_nul-count.ensures.run in
    let fits : length (p.body.items ++ take count piece) ≤ 65536 = omega (arith, length-append p.body.items (take count piece), length-take-le count piece within, c.requires.kept.2.1) in
    record {
      done = [];
      some_byte = omega arith;
      within = within;
      frames = sym (append-nil c.args.frames.now.items);
      reads = rw c.in_ok-extend_from_slice.ensures.items (body_reads p.head.items p.body.items (take count piece));
      kept = rw (c.requires.section, c.in_ok-extend_from_slice.ensures.items)
          (c.requires.kept.0, c.requires.kept.1, run_kept c.args.verb p.body.items (take count piece) c.requires.kept.2 run fits allowed);
    }
