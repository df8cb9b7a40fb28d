use Rattle.std.proofs.Common.{◌++◌, ◌∷◌, [], arith, ap, ◌∙◌}
use Rattle.atomic_table.proofs.Lists.{at_index}
use Rattle.engine_core.proofs.Placing.{placed_here, still_placed, still_ring}
use Rattle.engine_core.proofs.journal.append_one.Goals as goal

pub append_at-requires : goal.append_at-requires
append_at-requires c = c.requires _ c.index_mut.result.now (at_index c.args.seats.now.items _ c.index_mut.result.now (omega (arith, c.if-place-len.false, c.len.ensures)) c.index_mut.ensures.value)

pub returns-in-Ok-append_at-clause-seats : goal.returns-in-Ok-append_at-clause-seats
returns-in-Ok-append_at-clause-seats c = still_ring _ _ _ _ _ (at_index c.args.seats.now.items _ c.index_mut.result.now (omega (arith, c.if-place-len.false, c.len.ensures)) c.index_mut.ensures.value) c.append_at.ensures.ring c.requires

pub returns-in-Err-append_at-clause-seats : goal.returns-in-Err-append_at-clause-seats
returns-in-Err-append_at-clause-seats c = still_ring _ _ _ _ _ (at_index c.args.seats.now.items _ c.index_mut.result.now (omega (arith, c.if-place-len.false, c.len.ensures)) c.index_mut.ensures.value) c.append_at.ensures.ring c.requires

pub returns-in-Ok-append_at-clause-placed : goal.returns-in-Ok-append_at-clause-placed
returns-in-Ok-append_at-clause-placed c = placed_here _ _ _ _ _ _ (at_index c.args.seats.now.items _ c.index_mut.result.now (omega (arith, c.if-place-len.false, c.len.ensures)) c.index_mut.ensures.value) (c.in-Ok-append_at.ensures.own ∙ ap (λ e. c.index_mut.result.now.own ++ (c.args.ticket, e.command) ∷ []) c.in-Ok.ensures.ok)

pub returns-in-Ok-append_at-clause-others : goal.returns-in-Ok-append_at-clause-others
returns-in-Ok-append_at-clause-others c = still_placed _ _ _ _ _ _ (at_index c.args.seats.now.items _ c.index_mut.result.now (omega (arith, c.if-place-len.false, c.len.ensures)) c.index_mut.ensures.value) (c.in-Ok-append_at.ensures.own ∙ ap (λ e. c.index_mut.result.now.own ++ (c.args.ticket, e.command) ∷ []) c.in-Ok.ensures.ok)
