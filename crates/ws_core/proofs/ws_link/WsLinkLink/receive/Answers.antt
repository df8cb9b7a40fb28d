use Rattle.std.proofs.Common.{rules, subst, sym}
use Rattle.ws_core.specs.Links.{Linked}
use Rattle.ws_core.specs.Receiving.{Listens}
use Rattle.ws_core.proofs.ws_link.WsLinkLink.receive.Goals as goal

pub returns-in-Open-clause-receives : goal.returns-in-Open-clause-receives
returns-in-Open-clause-receives g c = record {
  listens = λ _.
      let l = c.listen-received.ensures.listens in
      subst (λ (n : Linked g.row.S.Denot). Listens g.S.Read.remaining g.S.Write.contents c.args.self.now n c.listen-received.result) (sym c.note.ensures) (record { next = l.next; first = l.first });
  drops = λ is. search rules;
  leaves = λ is. search rules;
  phase = λ not. search rules;
  dropped = λ not. search rules;
  held_up = λ not other. search rules;
  rest = λ is failed free. search rules;
  stays = λ is. search rules;
}

pub returns-in-Open-clause-counts : goal.returns-in-Open-clause-counts
returns-in-Open-clause-counts g c = record {
  reads = λ is. search rules;
  leaves = λ is. search rules;
  fed = λ is. search rules;
  stays = λ other. search rules;
}
