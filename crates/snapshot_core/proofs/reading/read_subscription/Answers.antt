use Rattle.std.proofs.Common.{◌≡◌, ◌∙◌, List, Option, ℕ, ap, subst, sym}
use Rattle.std.proofs.lemmas.Result.{err_from_is_err_and}
use Rattle.command_core.specs.PartReading.{Fails}
use Rattle.broker_core.specs.Names.{Name}
use Rattle.snapshot_core.specs.Reading.{had_at}
use Rattle.snapshot_core.proofs.SubscriptionParts.{Front, fails_in_front, fails_in_had, fails_in_name, subscription_is, takes_own}
use Rattle.snapshot_core.proofs.reading.read_subscription.Goals as goal

pub returns-in_err-session : goal.returns-in_err-session
returns-in_err-session c =
    let p = err_from_is_err_and c.from_residual.result c.from_residual.ensures.1 in
    rw (p.1, p.2) (fails_in_front c.args.sessions.now.entries c.args.bytes.now c.in_err-session.field-0.0 c.in_err-session.ensures)

pub returns-in_err-durable : goal.returns-in_err-durable
returns-in_err-durable c =
    let front : Front × List ℕ = ((c.in_ok-session.session, c.in_ok-session.id, c.in_ok-session.destination, c.in_ok-session.mode), c.in_ok-session.rest.now) in
    let p = err_from_is_err_and c.from_residual-in_err-durable.result c.from_residual-in_err-durable.ensures.1 in
    rw (p.1, p.2) (fails_in_name c.args.sessions.now.entries c.args.bytes.now front c.in_ok-session.ensures c.in_err-durable.field-0.0 c.in_err-durable.ensures)

pub returns-in_err-line : goal.returns-in_err-line
returns-in_err-line c =
    let front : Front × List ℕ = ((c.in_ok-session.session, c.in_ok-session.id, c.in_ok-session.destination, c.in_ok-session.mode), c.in_ok-session.rest.now) in
    let name : Option Name × List ℕ = (c.in_ok-durable.durable, c.in_ok-durable.rest.now) in
    let own : c.has_own_line-is_own.result ≡ takes_own front.0 name.0 = c.has_own_line-is_own.ensures in
    let fails = subst (λ b. Fails c.in_err-line.field-0.0 (had_at b name.1)) own c.in_err-line.ensures in
    let p = err_from_is_err_and c.from_residual-in_err-line.result c.from_residual-in_err-line.ensures.1 in
    rw (p.1, p.2) (fails_in_had c.args.sessions.now.entries c.args.bytes.now front c.in_ok-session.ensures name c.in_ok-durable.ensures c.in_err-line.field-0.0 fails)

pub returns : goal.returns
returns c =
    let front : Front × List ℕ = ((c.in_ok-session.session, c.in_ok-session.id, c.in_ok-session.destination, c.in_ok-session.mode), c.in_ok-session.rest.now) in
    let name : Option Name × List ℕ = (c.in_ok-durable.durable, c.in_ok-durable.rest.now) in
    let own : c.has_own_line-is_own.result ≡ takes_own front.0 name.0 = c.has_own_line-is_own.ensures in
    subscription_is c.args.sessions.now.entries c.args.bytes.now front c.in_ok-session.ensures name c.in_ok-durable.ensures
    ((c.in_ok-line.line, c.in_ok-line.unacknowledged), c.in_ok-line.rest.now) (ap (λ b. had_at b name.1) (sym own) ∙ c.in_ok-line.ensures)
