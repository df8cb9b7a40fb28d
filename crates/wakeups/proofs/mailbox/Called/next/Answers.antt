use Rattle.std.proofs.Common.{rules}
use Rattle.wakeups.proofs.Calling.{next_call, not_more}
use Rattle.wakeups.proofs.mailbox.Called.next.Goals as goal

-- src/calls.rt:99:9
pub overflow_sub-self : goal.overflow_sub-self
overflow_sub-self c = not_more c.args.self.now.bits (search rules) (search rules)

-- src/calls.rt:91:5
pub returns-clause-some : goal.returns-clause-some
returns-clause-some c = next_call c.args.self.now (search rules) (search rules) c.saturating_add.result (search rules)
