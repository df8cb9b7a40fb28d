use Rattle.std.proofs.Common.{ap, refl}
use Rattle.clients.specs.Connections.{connection_of}
use Rattle.clients.proofs.TurnAnswers.{no_more}
use Rattle.clients.proofs.ClientProgress.{heeds_silence, heeds_unheard}
use Rattle.clients.proofs.ConnectionLife.{loses, same_stage, waits_still}
use Rattle.clients.proofs.client.Client.await_close.Goals as goal

pub returns-in-Closed-clause-lives : goal.returns-in-Closed-clause-lives
returns-in-Closed-clause-lives g c = heeds_silence g.L.Outgoing.received _ _ _ _ c.in-Closed.ensures.read (loses (connection_of c.args.self.now) _ (ap (λ x. record (connection_of c.args.self.now) { stage = x }) c.lost-self.ensures)) refl

pub returns-in-Nothing-clause-lives : goal.returns-in-Nothing-clause-lives
returns-in-Nothing-clause-lives g c = heeds_silence g.L.Outgoing.received _ _ _ _ c.in-Nothing.ensures.read (same_stage (connection_of c.args.self.now) _ refl) refl

pub returns-in-Skipped-clause-lives : goal.returns-in-Skipped-clause-lives
returns-in-Skipped-clause-lives g c = heeds_silence g.L.Outgoing.received _ _ _ _ c.in-Skipped.ensures.read (same_stage (connection_of c.args.self.now) _ refl) refl

pub returns-in-Failed-clause-lives : goal.returns-in-Failed-clause-lives
returns-in-Failed-clause-lives g c = heeds_silence g.L.Outgoing.received _ _ _ _ c.in-Failed.ensures.read (same_stage (connection_of c.args.self.now) _ refl) refl

pub returns-in-Bytes-clause-lives : goal.returns-in-Bytes-clause-lives
returns-in-Bytes-clause-lives g c = heeds_unheard g.L.Outgoing.received c.args.self.now _ _ _ c.in-Bytes.bytes.items c.in-Bytes.ensures.read c.requires (same_stage (connection_of c.args.self.now) _ refl) refl

pub returns-in-Closed-clause-heard : goal.returns-in-Closed-clause-heard
returns-in-Closed-clause-heard g c = no_more _ _ c.in-Closed.ensures.read

pub returns-in-Nothing-clause-heard : goal.returns-in-Nothing-clause-heard
returns-in-Nothing-clause-heard g c = no_more _ _ c.in-Nothing.ensures.read

pub invariant_of-self-clause-next : goal.invariant_of-self-clause-next
invariant_of-self-clause-next g c = waits_still (connection_of c.args.self.now) _ _ _ (loses (connection_of c.args.self.now) _ (ap (λ x. record (connection_of c.args.self.now) { stage = x }) c.lost-self.ensures)).restaged refl c.args.self.now.next
