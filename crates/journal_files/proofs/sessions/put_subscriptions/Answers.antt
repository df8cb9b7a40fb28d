use Rattle.std.proofs.Common.{◌∙◌}
use Rattle.journal_files.proofs.Gathered.{on_ok}
use Rattle.journal_files.proofs.Listed.{list_added}
use Rattle.journal_files.proofs.sessions.put_subscriptions.Goals as goal

pub returns : goal.returns
returns c =
    let begun = c.in_ok-begin_list.ensures in
    let each = c.in_ok-put_each_subscription.ensures in (
      c.end_array.ensures.room.0 ∙ each.0 ∙ begun.0,
      on_ok c.end_array.result _ _ c.end_array.ensures.ok (λ last. list_added _ _ _ _ _ _ begun.1 each.1 last),
    )
