use Rattle.std.proofs.Common.{◌≡◌, ◌+◌, List, take}
use Rattle.client_core.specs.Deeds.{AreDone}
use Rattle.client_core.specs.Talks.{Adds, Spoken}
use Rattle.client_core.proofs.listening.show_all.Given as goal

abbrev pub invariant-loop-frame : goal.invariant-loop-frame
invariant-loop-frame g l = record {
  left : l.left + l.frame-index ≡ l.fn.left;
  done : (acts : List Spoken) × AreDone l.plan (take l.frame-index l.frames) acts × Adds acts (g.L.Peer.talk l.fn.peer) (g.L.Peer.talk l.peer);
}
