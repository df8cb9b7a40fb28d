use Rattle.std.proofs.Common.{sym, ap, subst, ◌≡◌, ◌<◌, ◌≤◌, IfOk, IfErr}
use Rattle.claim_core.specs.Seats.{SessionSeatValue}
use Rattle.claim_core.proofs.ring.Ring.release.Goals as goal

pub returns-clause-released : goal.returns-clause-released
returns-clause-released g c = subst (λ m. IfOk c.under.result (λ released. (released ≡ c.args.out) × (c.args.out.number < m))) (sym (ap (λ (s : SessionSeatValue). s.seen) c.read_mark-mark.ensures.seen)) c.under.ensures.ok

pub returns-clause-not_yet : goal.returns-clause-not_yet
returns-clause-not_yet g c = subst (λ m. IfErr c.under.result (λ back. (back.0 ≡ c.args.out) × (back.1.0 ≡ m) × (m ≤ c.args.out.number))) (sym (ap (λ (s : SessionSeatValue). s.seen) c.read_mark-mark.ensures.seen)) c.under.ensures.not_yet
