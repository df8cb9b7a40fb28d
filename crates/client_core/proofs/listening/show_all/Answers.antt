use Rattle.std.proofs.Common.{arith, inl, inr, refl}
use Rattle.std.proofs.lemmas.List.{drop_all}
use Rattle.client_core.proofs.Doing.{goes_on, one_more, split}
use Rattle.client_core.proofs.listening.show_all.Goals as goal

pub returns-then-left-eq0 : goal.returns-then-left-eq0
returns-then-left-eq0 g c =
    let i = c.loop-frame.frame-index in
    split c.args.plan.now c.args.frames.now i c.args.left 0 (g.L.Peer.talk c.args.peer.now) (g.L.Peer.talk c.loop-frame.peer)
    (omega arith) (omega (arith, c.loop-frame.invariant.left, c.if-left-eq0.true)) (inl refl) c.loop-frame.invariant.done

pub loop-frame-preserved : goal.loop-frame-preserved
loop-frame-preserved g c =
    let i = c.loop-frame.frame-index in
    let frames = c.args.frames.now in
    let frame = c.frame-item.result in
    record {
      left = omega (arith, c.loop-frame.invariant.left, c.if-left-eq0.false);
      done = goes_on c.args.plan.now frames i frame (g.L.Peer.talk c.args.peer.now) (g.L.Peer.talk c.loop-frame.peer) (g.L.Peer.talk c.show.new.peer)
          (one_more frames i frame (omega arith) c.frame-item.is) c.loop-frame.invariant.done c.in_ok-show.ensures;
    }

pub returns : goal.returns
returns g c =
    split c.args.plan.now c.args.frames.now c.loop-frame.frame-index c.args.left c.loop-frame.left (g.L.Peer.talk c.args.peer.now) (g.L.Peer.talk c.loop-frame.peer)
    (omega arith) (omega (arith, c.loop-frame.invariant.left)) (inr (drop_all c.loop-frame.frame-index c.args.frames.now (omega arith))) c.loop-frame.invariant.done
