use Rattle.waiting_order.proofs.Rising.{rising_pushed, ticket}
use Rattle.waiting_order.proofs.groups.Places.add.Goals as goal

pub invariant_of-self-2 : goal.invariant_of-self-2
invariant_of-self-2 c =
    rw c.in_ok-push_back.ensures.items (rising_pushed ticket c.self.inside.all.items c.args.place c.self.invariant (rw (← c.self.view_is) at c.requires))
