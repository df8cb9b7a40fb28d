use Rattle.client_core.proofs.Joining.{join_four}
use Rattle.client_core.proofs.moving.transaction_text.Goals as goal

pub returns-clause-ok : goal.returns-clause-ok
returns-clause-ok c =
    join_four _ _ _ _ c.in_ok-text.text.items c.in_ok-ack_text.field-0.items c.in_ok-moved_text.field-0.items c.in_ok-commit_text.field-0.items
    c.join.new.text.items c.join-2.new.text.items c.join-3.new.text.items
    c.in_ok-text.ensures.ok c.in_ok-ack_text.ensures.ok c.in_ok-moved_text.ensures.ok c.in_ok-commit_text.ensures.ok
    c.in_ok-join.ensures.ok c.in_ok-join-2.ensures.ok c.in_ok-join-3.ensures.ok
