use Rattle.std.proofs.Common.{◌≡◌, ◌<◌, ◌^◌, ◌++◌, rules}
use Rattle.std.proofs.lemmas.Result.{on_ok_weaker}
use Rattle.std.specs.Int.{w64, to_be_bytes}
use Rattle.snapshot_core.specs.Snapshots.{durable, listed, queue, session, subscription}
use Rattle.snapshot_core.proofs.Counted.{few_in_queues, few_queues, few_under_names}
use Rattle.snapshot_core.proofs.Puts.{last_put, then_put}
use Rattle.snapshot_core.proofs.SnapshotForms.{names_formed}
use Rattle.snapshot_core.specs.Parts.{written}
use Rattle.snapshot_core.proofs.writing.list_state.Goals as goal

pub list_durables-requires-clause-short : goal.list_durables-requires-clause-short
list_durables-requires-clause-short c =
    λ name. rw c.shared-shared.ensures (few_under_names c.args.broker.now.state (c.is_broken.ensures.sound c.requires.whole) name)

pub list_queues-requires-clause-few : goal.list_queues-requires-clause-few
list_queues-requires-clause-few c =
    rw (c.queues.ensures, c.shared-shared.ensures) (few_queues c.args.broker.now.state (c.is_broken.ensures.sound c.requires.whole))

pub list_queues-requires-clause-short : goal.list_queues-requires-clause-short
list_queues-requires-clause-short c =
    rw (c.queues.ensures, c.shared-shared.ensures) (few_in_queues c.args.broker.now.state (c.is_broken.ensures.sound c.requires.whole))

pub returns-clause-sound : goal.returns-clause-sound
returns-clause-sound c = c.is_broken.ensures.sound c.requires.whole

pub returns-clause-put : goal.returns-clause-put
returns-clause-put c =
    let s = c.args.broker.now.state in
    let old = written c.args.parts.now.items in
    let count = to_be_bytes w64 s.count in
    let next = to_be_bytes w64 s.next_delivery in
    let sessions = rw c.sessions.ensures at c.in_ok-list_sessions.ensures in
    let durables = rw (c.shared-shared.ensures, c.durables.ensures) at c.in_ok-list_durables.ensures in
    let queues = rw (c.queues.ensures, c.shared-shared.ensures) at c.in_ok-list_queues.ensures in
    let first : written c.list_number.new.parts.items ≡ old ++ count = search rules in
    let second : written c.list_number-2.new.parts.items ≡ written c.list_number.new.parts.items ++ next = search rules in
    let head = then_put old count next _ _ first second in
    let with_sessions = then_put old (count ++ next) (listed session s.sessions) _ _ head sessions.put in
    let with_durables = then_put old (count ++ next ++ listed session s.sessions) (listed (durable s.shared) s.durables) _ _ with_sessions durables.put in
    let with_queues = then_put old (count ++ next ++ listed session s.sessions ++ listed (durable s.shared) s.durables) (listed queue s.shared.queues) _ _ with_durables queues.put in
    last_put c.list_subscriptions.result old (count ++ next ++ listed session s.sessions ++ listed (durable s.shared) s.durables ++ listed queue s.shared.queues) (listed subscription s.subscriptions) _ _ with_queues c.list_subscriptions.ensures.put

pub returns-clause-form : goal.returns-clause-form
returns-clause-form c =
    let s = c.args.broker.now.state in
    let sound = c.is_broken.ensures.sound c.requires.whole in
    let sessions = rw c.sessions.ensures at c.in_ok-list_sessions.ensures in
    let durables = rw (c.shared-shared.ensures, c.durables.ensures) at c.in_ok-list_durables.ensures in
    let queues = rw (c.queues.ensures, c.shared-shared.ensures) at c.in_ok-list_queues.ensures in
    let count : s.count < 2 ^ 64 = search rules in
    on_ok_weaker c.list_subscriptions.result (λ subscriptions. record {
      count = count;
      sessions = sessions.form;
      few_sessions = c.requires.few_sessions;
      durables = durables.form;
      names = names_formed s sound durables.lines;
      queues = queues.form;
      subscriptions = subscriptions;
      few_subscriptions = c.requires.few_subscriptions;
    }) c.list_subscriptions.ensures.form
