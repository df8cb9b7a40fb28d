use Rattle.std.proofs.Common.{map}
use Rattle.ws_core.proofs.Recalling.{popped, recalls}
use Rattle.ws_core.proofs.mem_link.MemLinkLink.receive.Goals as goal

pub invariant_of-self-2 : goal.invariant_of-self-2
invariant_of-self-2 c = popped (λ v. v.items) _ c.self.inside.coming.items c.pop_front.new.self.items c.pop_front.result c.self.invariant c.pop_front.ensures.items

pub returns : goal.returns
returns c =
    rw (← c.self.view_is)
    (recalls (λ v. v.items) (map (λ v. v.items) c.self.inside.all.value.items) (map (λ v. v.items) c.self.inside.sent.items) c.self.inside.coming.items c.pop_front.new.self.items
    c.in-Some.message c.self.inside.over c.self.invariant c.in-Some.ensures.items c.if-self.false)
