use Rattle.std.proofs.Common.{◌++◌, ◌∷◌, ◌∙◌, [], List, MatchOption, Option, ap, arith, refl, subst, sym}
use Rattle.command_core.specs.Outs.{OutValue}
use Rattle.broker_tables.specs.Answers.{with_outs}
use Rattle.broker_tables.specs.Cursors.{IsReady, NoneReady, cursors_in}
use Rattle.broker_tables.specs.Stocks.{shown}
use Rattle.waiting_order.specs.declared.waiters.Key.{Key}
use Rattle.broker_tables.proofs.Answering.{with_more, with_none}
use Rattle.broker_tables.proofs.Settling.{fewer_wait, settles_all, settles_on, still_awaited, still_stocked}
use Rattle.broker_tables.proofs.stock.Stock.hand_out.Goals as goal

pub loop-key-init : goal.loop-key-init
loop-key-init c = record {
  awaited = c.requires.awaited;
  stocked = c.requires.stocked;
  way = record {
    outs = [];
    answers = sym (with_none c.args.answers.now);
    settles = λ _ _. record { state = refl; all = refl; passed = tt };
  };
}

pub loop-key-smaller : goal.loop-key-smaller
loop-key-smaller c =
    let served = c.in_ok-serve.ensures.served in
    omega (arith, fewer_wait c.args.number c.loop-key.self c.serve.new.self c.in-Some.key served.out served.served c.loop-key.invariant.stocked)

pub loop-key-preserved : goal.loop-key-preserved
loop-key-preserved c =
    let old = c.loop-key.self in
    let new = c.serve.new.self in
    let key = c.in-Some.key in
    let out = c.in_ok-serve.ensures.served.out in
    let served = c.in_ok-serve.ensures.served.served in
    let kept = c.loop-key.invariant.stocked in
    let way = c.loop-key.invariant.way in
    record {
      awaited = still_awaited c.args.number old new key out served kept (cursors_in c.next_ready.new.cursors) c.stand_in_order.ensures.order c.in_ok-key.ensures.awaited;
      stocked = still_stocked c.args.number old new key out served kept;
      way = record {
        outs = way.outs ++ out ∷ [];
        answers = c.in_ok-serve.ensures.served.answers ∙ ap (with_outs (out ∷ [])) way.answers ∙ with_more way.outs (out ∷ []) c.args.answers.now;
        settles = λ sessions durables.
            settles_on c.args.number old new key out served kept sessions durables (shown c.args.number sessions durables c.args.self.now) [] way.outs (way.settles sessions durables);
      };
    }

pub returns-clause-settled : goal.returns-clause-settled
returns-clause-settled c sessions durables =
    let way = c.loop-key.invariant.way in
    let all = settles_all (shown c.args.number sessions durables c.args.self.now) (shown c.args.number sessions durables c.loop-key.self) [] way.outs (way.settles sessions durables) (subst (λ (o : Option Key). MatchOption o (NoneReady c.loop-key.self) (IsReady c.loop-key.self)) c.in_default.is c.in_ok-key.ensures.ready) in
    (all.0, way.answers ∙ ap (λ (outs : List OutValue). with_outs outs c.args.answers.now) all.1)
