use Rattle.std.proofs.Common.{rules, ◌∷◌, [], arith, ap, length, length-append, append-nil, refl, sym, ◌∙◌}
use Rattle.std.proofs.lemmas.Iterator.Consumers.{YieldsList-turn}
use Rattle.std.proofs.lemmas.Iterator.Adapters.{YieldsList-from_vec}
use Rattle.outbox_core.specs.Giving.{unboxed}
use Rattle.outbox_core.proofs.Gifts.{are_more, are_none, left_few, left_more}
use Rattle.outbox_core.proofs.boxes.Boxes.give_each.Goals as goal

pub loop-out-init : goal.loop-out-init
loop-out-init g c = record { given = are_none c.args.self.now; left = sym (append-nil _); room = refl }

pub give-requires : goal.give-requires
give-requires g c =
    let h = c.into_iter-out-iterator.ensures.into_iter_gives in
    let t = YieldsList-turn (YieldsList-from_vec {s = c.into_iter-out-iterator.result} c.args.outs.items h.0 (search rules)) c.loop-out.yielded c.loop-out.out-iterator c.loop-out.yielded_by c.next.result c.next.new.self c.in-Some.out c.in-Some.is c.next.ensures.steps in
    let before = unboxed c.args.self.now c.loop-out.yielded in
    record { room = omega (arith, t.0, ap (λ l. length l) c.loop-out.invariant.left, length-append c.args.left.now.items before, left_few c.args.self.now c.loop-out.yielded, c.loop-out.invariant.room, c.requires.room) }

pub loop-out-preserved : goal.loop-out-preserved
loop-out-preserved g c = record {
  given = are_more c.loop-out.yielded (c.in-Some.out ∷ []) c.args.self.now c.loop-out.self c.give.new.self c.loop-out.invariant.given c.give.ensures.given;
  left = left_more c.loop-out.yielded c.in-Some.out c.args.self.now c.loop-out.self c.args.left.now.items c.loop-out.left.items c.give.new.left.items c.loop-out.invariant.given c.loop-out.invariant.left c.give.ensures.left;
  room = c.give.ensures.room ∙ c.loop-out.invariant.room;
}
