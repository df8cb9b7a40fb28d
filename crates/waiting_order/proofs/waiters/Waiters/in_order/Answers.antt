use Rattle.std.proofs.Common.{◌++◌, ◌∙◌, List, ℕ, ap, map}
use Rattle.waiting_order.specs.declared.waiters.Key.{Key}
use Rattle.waiting_order.proofs.Listing.{keys_listed}
use Rattle.waiting_order.proofs.waiters.Waiters.in_order.Goals as goal

pub loop-ticket-init : goal.loop-ticket-init
loop-ticket-init c =
    ap (λ (l : List Key). l ++ map (λ (e : ℕ × Key). e.1) c.in_ok-by_ticket.by_ticket.entries) c.new-keys.ensures.items
    ∙ ap (map (λ (e : ℕ × Key). e.1)) c.in_ok-by_ticket.ensures ∙ keys_listed c.args.self.now.all
