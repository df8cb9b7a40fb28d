use Rattle.std.proofs.Common.{◌∙◌, inl, ◌∷◌, ◌++◌, ap, append_assoc, subst}
use Rattle.disk_core.specs.Losses.{IsJudged}
use Rattle.disk_core.specs.Syncing.{written_back}
use Rattle.disk_core.specs.declared.loss.Found.{Found}
use Rattle.disk_core.specs.declared.synced_file.FileEvent.TheVariants.{SizeIs, Synced}
use Rattle.disk_core.proofs.Events.{then}
use Rattle.disk_core.proofs.file.sync_by.Goals as goal

pub returns : goal.returns
returns g c = λ honest.
    let known = c.args.known.now in
    let events = g.F.SyncedFile.events in
    let size = c.in_ok-found.field-0 in
    let named = c.in_ok-found-2.field-0 in
    let wrote = (c.in_ok-write_back_if_stale.ensures honest).ok in
    let stable = c.in_ok-make_stable.ensures wrote.0 in
    let measured = c.in_ok-found.ensures stable.honest in
    let asked = (c.in_ok-found-2.ensures measured.honest).ok in
    let answers = asked.0 in
    let back = written_back c.args.kept.now.is_stale in
    inl (
      record {
        size = size;
        named = named;
        answers = answers;
        names = asked.1;
        asked = then _ _ _ _ _ stable.ok (then _ _ _ answers _ measured.ok asked.2) ∙ ap (λ l. l ++ (Synced ∷ SizeIs size ∷ answers)) wrote.1 ∙ append_assoc (events c.args.file.now) back (Synced ∷ SizeIs size ∷ answers);
        fresh = wrote.2;
        judged = subst (λ (found : Found). IsJudged (record { named = named; size = size; header = found.header; last = found.last }) known c.judge.result) c.expected-found.ensures c.judge.ensures;
      },
      asked.3 ∙ measured.cause.ok ∙ stable.cause.ok ∙ wrote.3,
    )
