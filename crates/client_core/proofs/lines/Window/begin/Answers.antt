use Rattle.std.proofs.Common.{◌≡◌, ◌+◌, ◌++◌, ◌∷◌, [], ap, arith, subst, sym, ◌∙◌}
use Rattle.client_core.specs.Windows.{Rises}
use Rattle.client_core.proofs.Rising.{one_more}
use Rattle.client_core.proofs.lines.Window.begin.Goals as goal

pub invariant_of-self-2 : goal.invariant_of-self-2
invariant_of-self-2 c =
    let inside = c.self.inside in
    let number = c.in-Some.number in
    let next : number ≡ inside.sent + 1 = omega (arith, c.in-Some.ensures) in
    subst (λ n. Rises 0 c.push.new.self.items n) (sym next)
    (subst (λ l. Rises 0 l (inside.sent + 1)) (sym (c.in_ok-push.ensures.items ∙ ap (λ n. inside.owed.items ++ n ∷ []) next)) (one_more 0 inside.owed.items inside.sent c.self.invariant))
