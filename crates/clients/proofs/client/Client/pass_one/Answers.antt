use Rattle.std.proofs.Common.{◌≡◌, ◌∙◌, None, Some, refl, sym, ap}
use Rattle.clients.specs.Connections.{connection_of}
use Rattle.clients.specs.Progress.{number_in}
use Rattle.clients.specs.Relays.{passage}
use Rattle.clients.proofs.ConversationEnds.{concludes_quietly, concludes_relaying}
use Rattle.clients.proofs.ClientProgress.{heeds_quietly}
use Rattle.clients.proofs.ConnectionLife.{loses, same_stage, waits_still}
use Rattle.clients.proofs.MessagesSent.{keeps_own, quiet, refused_on, relayed_on, same_number, client_relayed, still}
use Rattle.clients.proofs.TurnReports.{relays_one, sends_none}
use Rattle.clients.proofs.client.Client.pass_one.Goals as goal

pub returns-then-not-runs-clause-served : goal.returns-then-not-runs-clause-served
returns-then-not-runs-clause-served g c = quiet g.L.Outgoing.sent _ _ _ _ (still _ _ refl refl refl) refl

pub returns-in_default-clause-served : goal.returns-in_default-clause-served
returns-in_default-clause-served g c = quiet g.L.Outgoing.sent _ _ _ _ (still _ _ refl refl refl) refl

pub returns-in_default-outbox-clause-served : goal.returns-in_default-outbox-clause-served
returns-in_default-outbox-clause-served g c = quiet g.L.Outgoing.sent _ _ _ _ (still _ _ refl refl refl) refl

pub returns-in-Ok-clause-served : goal.returns-in-Ok-clause-served
returns-in-Ok-clause-served g c =
    let number : number_in c.note.new.progress ≡ number_in c.args.self.now.progress = same_number c.args.self.now.progress c.note.new.progress c.note.ensures.ends in
    client_relayed g.L.Outgoing.sent c.args.self.now _ c.args.link.now c.relay.new.link c.in-Some-outbox.taker c.relay.new.taker c.relay.new.kept
    c.in-Some-outbox.is refl refl number
    (relayed_on c.in-Some.session _ _ _ c.relay.new.seat.seen c.in-Ok.relayed (number ∙ sym c.number.ensures ∙ c.in-Some.is) c.in-Ok.ensures.relays)

pub returns-in-Err-Memory-clause-served : goal.returns-in-Err-Memory-clause-served
returns-in-Err-Memory-clause-served g c =
    client_relayed g.L.Outgoing.sent c.args.self.now _ c.args.link.now c.relay.new.link c.in-Some-outbox.taker c.relay.new.taker c.relay.new.kept
    c.in-Some-outbox.is refl refl refl
    (refused_on c.in-Some.session _ _ _ c.relay.new.seat.seen c.in-Err-Memory.ensures.refused)

pub returns-in-Err-Gone-clause-served : goal.returns-in-Err-Gone-clause-served
returns-in-Err-Gone-clause-served g c =
    client_relayed g.L.Outgoing.sent c.args.self.now _ c.args.link.now c.relay.new.link c.in-Some-outbox.taker c.relay.new.taker c.relay.new.kept
    c.in-Some-outbox.is refl refl refl
    (refused_on c.in-Some.session _ _ _ c.relay.new.seat.seen c.in-Err-Gone.ensures.refused)

pub returns-then-not-runs-clause-concludes : goal.returns-then-not-runs-clause-concludes
returns-then-not-runs-clause-concludes g c = concludes_quietly g.L.Outgoing.sent _ _ _ _ refl refl (λ t. t)

pub returns-in_default-clause-concludes : goal.returns-in_default-clause-concludes
returns-in_default-clause-concludes g c = concludes_quietly g.L.Outgoing.sent _ _ _ _ refl refl (λ t. t)

pub returns-in_default-outbox-clause-concludes : goal.returns-in_default-outbox-clause-concludes
returns-in_default-outbox-clause-concludes g c = concludes_quietly g.L.Outgoing.sent _ _ _ _ refl refl (λ t. t)

pub returns-in-Ok-clause-concludes : goal.returns-in-Ok-clause-concludes
returns-in-Ok-clause-concludes g c =
    concludes_relaying g.L.Outgoing.sent (connection_of c.args.self.now) _ c.args.link.now c.relay.new.link c.in-Some.session (passage c.in-Some-outbox.taker c.args.self.now.kept (g.L.Outgoing.sent c.args.link.now))
    (passage c.relay.new.taker c.relay.new.kept (g.L.Outgoing.sent c.relay.new.link)) c.relay.new.seat.seen c.in-Ok.relayed (c.runs.ensures c.if-not-runs.false) refl refl c.in-Ok.ensures.relays c.note.ensures.error (c.note.ensures.rest (connection_of c.args.self.now)).tells

pub returns-in-Err-Memory-clause-concludes : goal.returns-in-Err-Memory-clause-concludes
returns-in-Err-Memory-clause-concludes g c = concludes_quietly g.L.Outgoing.sent _ _ _ _ refl c.in-Err-Memory.ensures.refused.untold (λ t. t)

pub returns-in-Err-Gone-clause-concludes : goal.returns-in-Err-Gone-clause-concludes
returns-in-Err-Gone-clause-concludes g c =
    concludes_quietly g.L.Outgoing.sent _ _ _ _ refl c.in-Err-Gone.ensures.refused.untold (loses (connection_of c.args.self.now) _ (ap (λ x. record (connection_of c.args.self.now) { stage = x }) c.lost-self.ensures)).tells

pub returns-then-not-runs-clause-lives : goal.returns-then-not-runs-clause-lives
returns-then-not-runs-clause-lives g c = heeds_quietly g.L.Outgoing.received _ _ _ _ refl (same_stage _ _ refl) refl

pub returns-in_default-clause-lives : goal.returns-in_default-clause-lives
returns-in_default-clause-lives g c = heeds_quietly g.L.Outgoing.received _ _ _ _ refl (same_stage _ _ refl) refl

pub returns-in_default-outbox-clause-lives : goal.returns-in_default-outbox-clause-lives
returns-in_default-outbox-clause-lives g c = heeds_quietly g.L.Outgoing.received _ _ _ _ refl (same_stage _ _ refl) refl

pub returns-in-Ok-clause-lives : goal.returns-in-Ok-clause-lives
returns-in-Ok-clause-lives g c = heeds_quietly g.L.Outgoing.received _ _ _ _ c.relay.ensures.unread (c.note.ensures.rest (connection_of c.args.self.now)) refl

pub returns-in-Err-Memory-clause-lives : goal.returns-in-Err-Memory-clause-lives
returns-in-Err-Memory-clause-lives g c = heeds_quietly g.L.Outgoing.received _ _ _ _ c.relay.ensures.unread (same_stage _ _ refl) refl

pub returns-in-Err-Gone-clause-lives : goal.returns-in-Err-Gone-clause-lives
returns-in-Err-Gone-clause-lives g c = heeds_quietly g.L.Outgoing.received _ _ _ _ c.relay.ensures.unread (loses (connection_of c.args.self.now) _ (ap (λ x. record (connection_of c.args.self.now) { stage = x }) c.lost-self.ensures)) refl

pub invariant_of-self-in-Ok : goal.invariant_of-self-in-Ok
invariant_of-self-in-Ok g c =
    let number : number_in c.note.new.progress ≡ Some c.in-Some.session =
    same_number c.args.self.now.progress c.note.new.progress c.note.ensures.ends ∙ sym c.number.ensures ∙ c.in-Some.is in record {
      opened = λ none. absurd (let both : None ≡ Some c.in-Some.session = sym none ∙ number in cc);
      own = keeps_own c.in-Some.session (record (connection_of c.args.self.now) { progress = c.note.new.progress; stage = c.note.new.stage }) _ _ c.relay.new.seat.seen c.in-Ok.relayed c.in-Ok.ensures.relays c.note.ensures.gives_up;
      boxed = c.args.self.now.boxed;
      next = waits_still (connection_of c.args.self.now) _ _ _ (c.note.ensures.rest (connection_of c.args.self.now)).restaged refl c.args.self.now.next;
    }

pub returns-then-not-runs-clause-few : goal.returns-then-not-runs-clause-few
returns-then-not-runs-clause-few g c =
    sends_none g.L.Outgoing.sent _ _ _ refl

pub returns-in_default-clause-few : goal.returns-in_default-clause-few
returns-in_default-clause-few g c =
    sends_none g.L.Outgoing.sent _ _ _ refl

pub returns-in_default-outbox-clause-few : goal.returns-in_default-outbox-clause-few
returns-in_default-outbox-clause-few g c =
    sends_none g.L.Outgoing.sent _ _ _ refl

pub returns-in-Ok-clause-few : goal.returns-in-Ok-clause-few
returns-in-Ok-clause-few g c =
    relays_one g.L.Outgoing.sent c.args.link.now c.relay.new.link c.in-Some.session (passage c.in-Some-outbox.taker c.args.self.now.kept (g.L.Outgoing.sent c.args.link.now)) (passage c.relay.new.taker c.relay.new.kept (g.L.Outgoing.sent c.relay.new.link)) c.relay.new.seat.seen c.in-Ok.relayed refl refl c.in-Ok.ensures.relays

pub returns-in-Err-Memory-clause-few : goal.returns-in-Err-Memory-clause-few
returns-in-Err-Memory-clause-few g c =
    sends_none g.L.Outgoing.sent _ _ _ c.in-Err-Memory.ensures.refused.untold

pub returns-in-Err-Gone-clause-few : goal.returns-in-Err-Gone-clause-few
returns-in-Err-Gone-clause-few g c =
    sends_none g.L.Outgoing.sent _ _ _ c.in-Err-Gone.ensures.refused.untold
