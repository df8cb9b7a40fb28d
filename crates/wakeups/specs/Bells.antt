-- What contracts see of doorbells, and of what rings them.
use Rattle.std.specs.Prelude.{ℕ}
use Rattle.std.specs.Arc.{arc_value}
use Rattle.wakeups.specs.declared.mailbox.Mailbox.{Mailbox}
use Rattle.wakeups.specs.declared.mailbox.ClientWaker.{ClientWaker}
use Rattle.wakeups.specs.declared.mailbox.ClientWakers.{ClientWakers}

-- which worker a waker wakes, and for which client
abbrev pub called_by : ClientWaker → Mailbox × ℕ
called_by waker = (arc_value waker.mailbox, waker.client)

-- for which client wakers are made
abbrev pub called_for : ClientWakers → Mailbox × ℕ
called_for wakers = (arc_value wakers.mailbox.now, wakers.client)
