use Rattle.std.proofs.Common.{◌≡◌, ◌+◌, ◌≤◌, arith, length, rules}
use Rattle.server_core.specs.Serving.{count_mailboxes}
use Rattle.server_core.proofs.Counting.{count_pop}
use Rattle.server_core.proofs.serving.last_worker.Goals as goal

pub move_last-requires-clause-enough : goal.move_last-requires-clause-enough
move_last-requires-clause-enough g c =
    let whole : count_mailboxes c.args.setups.now.items ≡ count_mailboxes c.pop.new.self.items + length c.unwrap-setup.result.mailboxes.items = count_pop _ _ _ c.unwrap-setup.result c.pop.ensures.items (search rules) in
    let len : c.len.result ≡ length c.unwrap-setup.result.mailboxes.items = search rules in
    let desks : count_mailboxes c.args.setups.now.items ≡ length c.args.seats.now.items = c.requires.desks in
    omega (arith, whole, len, desks)

pub move_last-requires-clause-room : goal.move_last-requires-clause-room
move_last-requires-clause-room g c =
    let whole : count_mailboxes c.args.setups.now.items ≡ count_mailboxes c.pop.new.self.items + length c.unwrap-setup.result.mailboxes.items = count_pop _ _ _ c.unwrap-setup.result c.pop.ensures.items (search rules) in
    let len : c.len.result ≡ length c.unwrap-setup.result.mailboxes.items = search rules in
    let desks : count_mailboxes c.args.setups.now.items ≡ length c.args.seats.now.items = c.requires.desks in
    let room = c.requires.room.1 in
    (c.requires.room.0, omega (arith, whole, len, desks, room))

pub invariant_of-result : goal.invariant_of-result
invariant_of-result g c = c.move_last.ensures.moved _ c.requires.at

pub returns-clause-desks : goal.returns-clause-desks
returns-clause-desks g c =
    let whole : count_mailboxes c.args.setups.now.items ≡ count_mailboxes c.pop.new.self.items + length c.unwrap-setup.result.mailboxes.items = count_pop _ _ _ c.unwrap-setup.result c.pop.ensures.items (search rules) in
    let len : c.len.result ≡ length c.unwrap-setup.result.mailboxes.items = search rules in
    let desks : count_mailboxes c.args.setups.now.items ≡ length c.args.seats.now.items = c.requires.desks in
    let left = c.move_last.ensures.count in
    omega (arith, whole, len, desks, left)

pub returns-clause-at : goal.returns-clause-at
returns-clause-at g c = c.move_last.ensures.rest _ c.requires.at
