use Rattle.std.proofs.Common.{ap, refl, subst, List, ℕ}
use Rattle.std.specs.Prelude.{OnOk}
use Rattle.clients.specs.Connections.{HearsBytes, connection_of}
use Rattle.clients.proofs.TurnAnswers.{no_more}
use Rattle.clients.proofs.ClientProgress.{heeds_bytes, heeds_silence}
use Rattle.clients.proofs.ConnectionLife.{gives_up, loses, same_stage}
use Rattle.clients.proofs.client.Client.listen.Goals as goal

pub returns-in-Bytes-clause-lives : goal.returns-in-Bytes-clause-lives
returns-in-Bytes-clause-lives g c =
    heeds_bytes g.L.Outgoing.received c.args.self.now _ c.args.link.now c.receive.new.self c.in-Bytes.bytes.items c.hear.result c.requires.listens c.requires.nothing
    (subst (λ (b : List ℕ). OnOk c.hear.result (HearsBytes (connection_of c.args.self.now) b (connection_of c.hear.new.self))) c.as_slice.ensures.value c.hear.ensures.heard) c.hear.ensures.failed c.in-Bytes.ensures.read c.hear.ensures.same.0

pub returns-in-Skipped-clause-lives : goal.returns-in-Skipped-clause-lives
returns-in-Skipped-clause-lives g c = heeds_silence g.L.Outgoing.received _ _ _ _ c.in-Skipped.ensures.read (same_stage (connection_of c.args.self.now) _ refl) refl

pub returns-in-Nothing-clause-lives : goal.returns-in-Nothing-clause-lives
returns-in-Nothing-clause-lives g c = heeds_silence g.L.Outgoing.received _ _ _ _ c.in-Nothing.ensures.read (same_stage (connection_of c.args.self.now) _ refl) refl

pub returns-in-Failed-clause-lives : goal.returns-in-Failed-clause-lives
returns-in-Failed-clause-lives g c = heeds_silence g.L.Outgoing.received _ _ _ _ c.in-Failed.ensures.read (gives_up (connection_of c.args.self.now) _ (ap (λ x. record (connection_of c.args.self.now) { stage = x }) c.given_up-self.ensures)) refl

pub returns-in-Closed-clause-lives : goal.returns-in-Closed-clause-lives
returns-in-Closed-clause-lives g c = heeds_silence g.L.Outgoing.received _ _ _ _ c.in-Closed.ensures.read (loses (connection_of c.args.self.now) _ (ap (λ x. record (connection_of c.args.self.now) { stage = x }) c.lost-self.ensures)) refl

pub returns-in-Closed-clause-heard : goal.returns-in-Closed-clause-heard
returns-in-Closed-clause-heard g c = no_more _ _ c.in-Closed.ensures.read

pub returns-in-Nothing-clause-heard : goal.returns-in-Nothing-clause-heard
returns-in-Nothing-clause-heard g c = no_more _ _ c.in-Nothing.ensures.read
