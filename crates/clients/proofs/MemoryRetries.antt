-- Who tries again to whom memory was refused.
use Rattle.std.proofs.Common.{◌≡◌, ◌+◌, ℕ, cond, refl, subst, suc, arith}
use Rattle.clients.specs.Schedules.{client_at, is_short, woken_short}
use Rattle.clients.specs.Turns.{woken}
use Rattle.clients.specs.declared.clients.Clients.{Clients}
use Rattle.clients.specs.declared.lines.Lines.{Lines}

pub none_yet : (c : Clients) (l : Lines) → woken_short 0 c l ≡ l
unfolding woken_short
none_yet c l = refl

-- the next number is looked at behind those under it
pub one_more : (n : ℕ) (c : Clients) (l : Lines)
    → woken_short (n + 1) c l ≡ cond (is_short (client_at n c)) (woken n (woken_short n c l)) (woken_short n c l)
unfolding woken_short
one_more n c l =
    let next : suc n ≡ n + 1 = omega arith in
    subst (λ m. woken_short m c l ≡ cond (is_short (client_at n c)) (woken n (woken_short n c l)) (woken_short n c l)) next refl
