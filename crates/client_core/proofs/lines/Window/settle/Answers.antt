use Rattle.std.proofs.Common.{◌==◌, ◌∙◌, ap, not, rules, subst, sym, List, ℕ}
use Rattle.std.proofs.lemmas.Fn.{filter_same}
use Rattle.client_core.specs.Windows.{Lines, Rises, settled}
use Rattle.client_core.proofs.Rising.{without}
use Rattle.client_core.proofs.lines.Window.settle.Goals as goal

pub invariant_of-self : goal.invariant_of-self
invariant_of-self c =
    let n = c.args.number in
    let kept = filter_same _ (λ line. not (line == n)) _ (λ x b f' k. search rules) _ _ c.retain.ensures.filtered in
    subst (λ l. Rises 0 l c.self.inside.sent) (sym kept) (without (λ line. not (line == n)) 0 c.self.inside.owed.items c.self.inside.sent c.self.invariant)

pub returns-clause-settled : goal.returns-clause-settled
returns-clause-settled c is =
    let n = c.args.number in
    let kept = filter_same _ (λ line. not (line == n)) _ (λ x b f' k. search rules) _ _ c.retain.ensures.filtered in
    let with_owed : List ℕ → Lines = λ l. record { sent = c.self.inside.sent; owed = l } in
    ap with_owed kept ∙ ap (settled n) c.self.view_is
