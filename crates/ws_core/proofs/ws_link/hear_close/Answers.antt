use Rattle.std.proofs.Common.{inr, rules}
use Rattle.ws_core.proofs.Failing.{breach}
use Rattle.ws_core.proofs.ws_link.hear_close.Goals as goal

pub returns-in-Some : goal.returns-in-Some
returns-in-Some g c = inr (c.in-Some.field-0, breach g.S.Read.remaining _ c.read.new.self c.in-Err.error c.in-Some.field-0 c.in-Err.ensures (search rules))
