use Rattle.std.proofs.Common.{rules, ◌≤◌, ◌+◌, ◌*◌, ℕ, subst, sym}
use Rattle.engine_core.specs.declared.hub.TheConstants.{HELD_BYTES}
use Rattle.engine_core.proofs.Desks.{room_of_desks}
use Rattle.engine_core.proofs.Shares.{limits_fit}
use Rattle.engine_core.proofs.hub.desk_bytes.Goals as goal

pub returns-clause-value : goal.returns-clause-value
returns-clause-value c = search rules

pub returns-clause-within : goal.returns-clause-within
returns-clause-within c large =
    subst (λ (m : ℕ). HELD_BYTES + c.args.desks * m ≤ c.args.area) (sym (returns-clause-value c)) (limits_fit c.args.desks c.args.most_clients c.args.area large)

pub returns-clause-room : goal.returns-clause-room
returns-clause-room c large rule s commands snapshot sound none spells keep =
    room_of_desks rule s commands sound none c.args.desks c.max.result c.args.area snapshot keep spells (returns-clause-within c large)
