use Rattle.std.proofs.Common.{ap, map}
use Rattle.ws_core.proofs.Recalling.{made}
use Rattle.ws_core.proofs.mem_link.MemLink.new.Goals as goal

pub returns : goal.returns
returns c =
    made (map (λ v. v.items) c.args.messages.items) (map (λ v. v.items) c.of-all.result.value.items) (map (λ v. v.items) c.from.result.items) (map (λ v. v.items) c.new.result.items)
    (ap (λ messages. map (λ v. v.items) messages.items) c.of-all.ensures) (ap (map (λ v. v.items)) c.from.ensures.0) (ap (map (λ v. v.items)) c.new.ensures.items)
