use Rattle.std.proofs.Common.{IsSomeAnd, string_bytes, subst}
use Rattle.engine_core.specs.Refusals.{RefusesActs}
use Rattle.engine_core.specs.Running.{Loses, LosesSuch, on_disk}
use Rattle.engine_core.proofs.Counting.{loses_such}
use Rattle.engine_core.proofs.Receiving.{lost_by}
use Rattle.engine_core.proofs.Refusing.{refuses_acts}
use Rattle.engine_core.proofs.running_script.RunningScript.lose.Goals as goal
use Rattle.engine_core.proofs.running_script.RunningScript.lose.Goals.{in-Ok, in-Err}

pub returns-clause-ok : goal.returns-clause-ok
returns-clause-ok c = elim c.match-do_loss.branch [
  | in-Ok w ↦ rw (w.result-is) (subst (λ s. Loses s c.args.n (string_bytes c.do_loss.new.text) (record { connections = c.take_connection-session.new.connections.entries; queue = c.do_loss.new.queue.queue; disk = c.do_loss.new.queue.disk })) c.self.view_is
      (lost_by c.self.inside.connections.entries c.self.inside.queue.queue c.do_loss.new.queue.queue c.self.inside.queue.disk c.do_loss.new.queue.disk c.args.n _ _ c.take_connection-session.result c.take_connection-session.new.connections.entries c.lost-act.result _
      c.take_connection-session.ensures.taken c.take_connection-session.ensures.others c.lost-act.ensures.act w.in-Ok.ensures.within c.new-text.ensures.bytes w.in-Ok.ensures.ok))
  | in-Err w ↦ rw (w.result-is) tt
]

pub returns-clause-refuses : goal.returns-clause-refuses
returns-clause-refuses c = elim c.match-do_loss.branch [
  | in-Ok w ↦ rw (w.result-is) tt
  | in-Err w ↦ rw (w.result-is) (subst (λ s. RefusesActs (λ Such. LosesSuch Such s c.args.n) (on_disk s) c.do_loss.new.queue w.in-Err.fault) c.self.view_is
      (refuses_acts (λ Such. IsSomeAnd c.lost-act.result (Such c.args.n c.self.inside.queue.queue)) _ c.self.inside.queue c.do_loss.new.queue w.in-Err.fault
      (λ Such such. loses_such Such (record { connections = c.self.inside.connections.entries; queue = c.self.inside.queue.queue; disk = c.self.inside.queue.disk }) c.args.n c.take_connection-session.result c.lost-act.result
      c.take_connection-session.ensures.taken c.lost-act.ensures.act such) w.in-Err.ensures.refuses))
]
