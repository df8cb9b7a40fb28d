use Rattle.std.proofs.Common.{◌≡◌, List, OnOk, rules, subst, ℕ}
use Rattle.frame_core.specs.Written.{written}
use Rattle.ws_core.specs.Sending.{Sends}
use Rattle.ws_core.proofs.ws_link.WsLinkOutgoing.send.Goals as goal

pub returns-clause-sends : goal.returns-clause-sends
returns-clause-sends g c =
    let same : c.in_ok-written.written.bytes ≡ written c.args.released.now.frame = search rules in
    subst (λ (bytes : List ℕ). OnOk c.send_bytes.result (Sends g.S.Write.contents bytes c.args.self.now c.send_bytes.new.self)) same c.send_bytes.ensures.sends
