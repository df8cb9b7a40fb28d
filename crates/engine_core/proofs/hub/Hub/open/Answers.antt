use Rattle.std.proofs.Common.{sym, subst, ◌∙◌, ap}
use Rattle.disk_core.specs.Calls.{Lasts}
use Rattle.disk_core.specs.Moments.{LeavesOnly}
use Rattle.recover_core.specs.declared.faults.OpenFault.{OpenFault}
use Rattle.recover_core.specs.Opened.{HandsBack}
use Rattle.recover_core.specs.Opens.{KeepsRestart}
use Rattle.engine_core.specs.Hubs.{TakesOver}
use Rattle.engine_core.proofs.Beginning.{of_hub, all_whole, of_refused, restarts}
use Rattle.engine_core.proofs.hub.Hub.open.Goals as goal

pub returns-in-Ok-clause-whole : goal.returns-in-Ok-clause-whole
returns-in-Ok-clause-whole g c = all_whole _ _ _ c.begin.ensures.ok

pub returns-in-Ok-clause-takes_over : goal.returns-in-Ok-clause-takes_over
returns-in-Ok-clause-takes_over g c =
    let opens = c.in-Ok.ensures.opens in
    let Kept : g.row.D.Denot → Type 0 = λ d. LeavesOnly g.D.Disk.moment g.D.Disk.images_since c.args.disk d (KeepsRestart (g.D.Disk.images c.args.disk)) in
    let Lasting : g.row.D.Denot → Type 0 = λ d. Lasts g.D.Disk c.args.disk d in
    of_hub _ _ _ (TakesOver g.D.Disk c.args.disk) c.begin.ensures.ok (λ f e o. record {
      any_moment = λ honest. subst Kept (sym e) (opens.any_moment honest);
      state = λ honest. restarts _ _ _ opens.opened o (opens.state honest);
      cause = ap g.D.Disk.failures e ∙ opens.cause;
      lasts = subst Lasting (sym e) opens.lasts;
    })

pub returns-in-Ok-clause-hands_back : goal.returns-in-Ok-clause-hands_back
returns-in-Ok-clause-hands_back g c =
    let opens = c.in-Ok.ensures.opens in
    of_refused _ _ (λ (back : g.row.D.Denot × OpenFault). HandsBack g.D.Disk c.args.disk back.0 back.1) c.begin.ensures.err (λ want. record {
      any_moment = opens.any_moment;
      header = opens.header;
      refused = λ honest. tt;
      full = tt;
      unwritten = λ honest. tt;
      cause = opens.cause;
      lasts = opens.lasts;
    })
