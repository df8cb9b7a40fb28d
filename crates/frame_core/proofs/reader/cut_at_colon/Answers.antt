use Rattle.std.proofs.Common.{◌≡◌, ◌∷◌, ◌++◌, ◌+◌, ◌-◌, ◌∙◌, ap, arith, drop, length, sym, take}
use Rattle.std.proofs.lemmas.List.{length-drop, length-take-le, take_all}
use Rattle.frame_core.proofs.Places.{cut_at}
use Rattle.frame_core.proofs.reader.cut_at_colon.Goals as goal

pub returns-in-Some : goal.returns-in-Some
returns-in-Some c =
    let line = c.args.line.now in
    let colon = c.in-Some.colon in
    let found = c.in-Some.ensures in
    let behind : take (length line - (colon + 1)) (drop (colon + 1) line) ≡ drop (colon + 1) line = take_all _ _ (omega (arith, length-drop (colon + 1) line)) in
    let cut = cut_at line colon found.0 ∙ ap (λ b. take colon line ++ (b ∷ drop (colon + 1) line)) found.2 ∙ ap (λ value. take colon line ++ (58 ∷ value)) (sym behind) in
    (cut, omega (arith, length-take-le colon line (omega (arith, found.0))), found.1)
