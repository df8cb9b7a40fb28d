use Rattle.std.proofs.Common.{rules}
use Rattle.ws_core.proofs.ws_link.WsLink.send_bytes.Goals as goal

pub returns-clause-sends : goal.returns-clause-sends
returns-clause-sends g c = search rules
