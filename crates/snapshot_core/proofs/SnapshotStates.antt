-- States in snapshots.
use Rattle.std.proofs.Common.{◌≡◌, ℕ, ◌<◌, ◌^◌, ◌++◌, List, length, flat_map, map, Option, Some, refl, ap, sym, subst, ◌∙◌, append_assoc, arith}
use Rattle.std.specs.Int.{w32, w64, to_be_bytes}
use Rattle.std.specs.List.{AllByRecursion}
use Rattle.std.specs.Ordering.{nat_cmp}
use Rattle.std.proofs.lemmas.List.{length-map}
use Rattle.std.proofs.lemmas.List.Folds.{flat_map-map}
use Rattle.command_core.specs.PartReading.{◌>>=◌, number_at}
use Rattle.command_core.specs.PartSpellings.{AreBytes}
use Rattle.command_core.proofs.Formats.{Format, Listed, Takes, Takes-then, last_takes}
use Rattle.broker_state.specs.declared.subscription.Subscription.{Subscription}
use Rattle.broker_core.specs.Names.{Name, name_cmp, text_cmp}
use Rattle.broker_core.specs.States.{State}
use Rattle.broker_core.specs.Waiting.{Lines, Shared}
use Rattle.command_core.specs.PartReading.{listed_at}
use Rattle.snapshot_core.specs.Reading.{durable_at, keyed_at, lines_of, queue_at, session_at, state_at, subscription_at}
use Rattle.snapshot_core.specs.Snapshots.{IsSession, durable, listed, queue, session, snapshot_of, subscription}
use Rattle.snapshot_core.proofs.SnapshotParts.{Keyed, keyed_format, listed_format, numbers64, step_again, step_takes}
use Rattle.snapshot_core.proofs.SnapshotEntries.{Entry, IsEntry, IsQueueEntry, durable_format, entry, queue_format, session_format}
use Rattle.snapshot_core.proofs.SnapshotSubscriptions.{IsRead, subscription_format}
use Rattle.snapshot_core.proofs.SnapshotNames.{bound_again, bound_in, entries_again, entry_in}

-- the durable names of a state, each with its topic and its line
abbrev pub entries_of : State → List Entry
entries_of s = map (entry_in s.shared.names) s.durables

-- What is read of a state: its parts have their forms, and lines stand under its durable names alone.
pub record IsShaped (s : State) : Type 0 where
  pub count : s.count < 2 ^ 64
  pub next : s.next_delivery < 2 ^ 64
  pub sessions : Keyed nat_cmp IsSession s.sessions
  pub durables : Keyed name_cmp IsEntry (entries_of s)
  pub names : lines_of (entries_of s) ≡ s.shared.names
  pub queues : Keyed text_cmp IsQueueEntry s.shared.queues
  pub subscriptions : Listed (IsRead s.sessions) s.subscriptions

-- entries stand there as durable names do
entries_spell : (shared : Shared) (durables : List (Name × List ℕ)) → listed entry (map (entry_in shared.names) durables) ≡ listed (durable shared) durables
entries_spell shared durables =
    ap (λ (n : ℕ). to_be_bytes w32 n ++ flat_map entry (map (entry_in shared.names) durables)) (length-map durables (entry_in shared.names))
    ∙ ap (λ (bytes : List ℕ). to_be_bytes w32 (length durables) ++ bytes) (flat_map-map entry (entry_in shared.names) durables)

-- ---- steps

abbrev sessions_format : Format (listed session) (Keyed nat_cmp IsSession) (keyed_at nat_cmp session_at)
sessions_format = keyed_format nat_cmp session_format (λ x. omega arith)

abbrev entries_format : Format (listed entry) (Keyed name_cmp IsEntry) (keyed_at name_cmp durable_at)
entries_format = keyed_format name_cmp durable_format (λ x. omega arith)

abbrev queues_format : Format (listed queue) (Keyed text_cmp IsQueueEntry) (keyed_at text_cmp queue_at)
queues_format = keyed_format text_cmp queue_format (λ x. omega arith)

subscriptions_format : (sessions : List (ℕ × Option (List ℕ))) → AllByRecursion IsSession sessions → Format (listed subscription) (Listed (IsRead sessions)) (listed_at (subscription_at sessions))
subscriptions_format sessions each = listed_format (subscription_format sessions each) (λ x. omega arith)

abbrev made : ℕ → ℕ → List (ℕ × Option (List ℕ)) → List Entry → Lines (List ℕ) → List Subscription → State
made count next sessions entries queues subscriptions =
    record { count = count; next_delivery = next; sessions = sessions; durables = map bound_in entries; shared = record { names = lines_of entries; queues = queues }; subscriptions = subscriptions }

abbrev after_queues : ℕ → ℕ → List (ℕ × Option (List ℕ)) → List Entry → Lines (List ℕ) × List ℕ → Option (State × List ℕ)
after_queues c n ss es qs = listed_at (subscription_at ss) qs.1 >>= λ subs. Some (made c n ss es qs.0 subs.0, subs.1)

abbrev after_names : ℕ → ℕ → List (ℕ × Option (List ℕ)) → List Entry × List ℕ → Option (State × List ℕ)
after_names c n ss es = keyed_at text_cmp queue_at es.1 >>= after_queues c n ss es.0

abbrev after_sessions : ℕ → ℕ → List (ℕ × Option (List ℕ)) × List ℕ → Option (State × List ℕ)
after_sessions c n ss = keyed_at name_cmp durable_at ss.1 >>= after_names c n ss.0

abbrev after_next : ℕ → ℕ × List ℕ → Option (State × List ℕ)
after_next c n = keyed_at nat_cmp session_at n.1 >>= after_sessions c n.0

abbrev after_count : ℕ × List ℕ → Option (State × List ℕ)
after_count c = number_at w64 c.1 >>= after_next c.0

-- ---- what is read is spelled

-- the parts behind one another, where the entries are those of a state
joined : (s : State) (b0 b1 b2 b3 b4 b5 b6 : List ℕ) → Takes b0 (to_be_bytes w64 s.count) b1 → Takes b1 (to_be_bytes w64 s.next_delivery) b2 → Takes b2 (listed session s.sessions) b3 → Takes b3 (listed entry (entries_of s)) b4 → Takes b4 (listed queue s.shared.queues) b5
    → Takes b5 (listed subscription s.subscriptions) b6 → Takes b0 (snapshot_of s) b6
joined s b0 b1 b2 b3 b4 b5 b6 count next sessions entries queues subscriptions =
    let c = to_be_bytes w64 s.count in
    let n = to_be_bytes w64 s.next_delivery in
    let ss = listed session s.sessions in
    let ds = listed (durable s.shared) s.durables in
    let qs = listed queue s.shared.queues in
    let names : Takes b3 ds b4 = subst (λ (bytes : List ℕ). Takes b3 bytes b4) (entries_spell s.shared s.durables) entries in
    let t1 = Takes-then b0 c b1 n b2 count next in
    let t2 = Takes-then b0 (c ++ n) b2 ss b3 t1 sessions in
    let t3 = Takes-then b0 (c ++ n ++ ss) b3 ds b4 t2 names in
    let t4 = Takes-then b0 (c ++ n ++ ss ++ ds) b4 qs b5 t3 queues in
    Takes-then b0 (c ++ n ++ ss ++ ds ++ qs) b5 (listed subscription s.subscriptions) b6 t4 subscriptions

made_takes : (c n : ℕ) (ss : List (ℕ × Option (List ℕ))) (es : List Entry) (qs : Lines (List ℕ)) (subs : List Subscription) (b0 b1 b2 b3 b4 b5 b6 : List ℕ) → c < 2 ^ 64 → n < 2 ^ 64 → Keyed nat_cmp IsSession ss → Keyed name_cmp IsEntry es → Keyed text_cmp IsQueueEntry qs → Listed (IsRead ss) subs
    → Takes b0 (to_be_bytes w64 c) b1 → Takes b1 (to_be_bytes w64 n) b2 → Takes b2 (listed session ss) b3 → Takes b3 (listed entry es) b4 → Takes b4 (listed queue qs) b5 → Takes b5 (listed subscription subs) b6
    → Takes b0 (snapshot_of (made c n ss es qs subs)) b6 × IsShaped (made c n ss es qs subs)
made_takes c n ss es qs subs b0 b1 b2 b3 b4 b5 b6 small next_small ss_form es_form qs_form subs_form count next sessions entries queues subscriptions =
    let same : entries_of (made c n ss es qs subs) ≡ es = entries_again es es_form.1 in
    let names : Takes b3 (listed entry (entries_of (made c n ss es qs subs))) b4 = subst (λ (xs : List Entry). Takes b3 (listed entry xs) b4) (sym same) entries in (
      joined (made c n ss es qs subs) b0 b1 b2 b3 b4 b5 b6 count next sessions names queues subscriptions,
      record { count = small; next = next_small; sessions = ss_form; durables = subst (Keyed name_cmp IsEntry) (sym same) es_form; names = ap lines_of same; queues = qs_form; subscriptions = subs_form },
    )

state_takes : (bytes : List ℕ) (s : State) (rest : List ℕ) → AreBytes bytes → state_at bytes ≡ Some (s, rest) → Takes bytes (snapshot_of s) rest × IsShaped s
unfolding state_at
state_takes bytes s rest fits e =
    let c = step_takes numbers64 after_count bytes (s, rest) fits e in
    let n = step_takes numbers64 (after_next c.value) c.rest (s, rest) c.taken.fits c.then in
    let ss = step_takes sessions_format (after_sessions c.value n.value) n.rest (s, rest) n.taken.fits n.then in
    let es = step_takes entries_format (after_names c.value n.value ss.value) ss.rest (s, rest) ss.taken.fits ss.then in
    let qs = step_takes queues_format (after_queues c.value n.value ss.value es.value) es.rest (s, rest) es.taken.fits es.then in
    let subs = step_takes (subscriptions_format ss.value ss.form.0.1) (λ x. Some (made c.value n.value ss.value es.value qs.value x.0, x.1)) qs.rest (s, rest) qs.taken.fits qs.then in
    last_takes snapshot_of IsShaped bytes (made c.value n.value ss.value es.value qs.value subs.value, subs.rest) (s, rest) subs.then
    (made_takes c.value n.value ss.value es.value qs.value subs.value bytes c.rest n.rest ss.rest es.rest qs.rest subs.rest c.form n.form ss.form es.form qs.form subs.form c.taken n.taken ss.taken es.taken qs.taken subs.taken)

-- ---- what is spelled is read

made_again : (s : State) → IsShaped s → made s.count s.next_delivery s.sessions (entries_of s) s.shared.queues s.subscriptions ≡ s
made_again s form =
    ap (λ (ds : List (Name × List ℕ)). record s { durables = ds; shared = record { names = lines_of (entries_of s); queues = s.shared.queues } }) (bound_again s.shared.names s.durables)
    ∙ ap (λ (names : Lines Name). record s { shared = record { names = names; queues = s.shared.queues } }) form.names

names_again : (s : State) (rest : List ℕ) → IsShaped s → after_sessions s.count s.next_delivery (s.sessions, listed (durable s.shared) s.durables ++ (listed queue s.shared.queues ++ (listed subscription s.subscriptions ++ rest))) ≡ Some (s, rest)
names_again s rest form =
    let b5 = listed subscription s.subscriptions ++ rest in
    let b4 = listed queue s.shared.queues ++ b5 in
    step_again entries_format (after_names s.count s.next_delivery s.sessions) (listed (durable s.shared) s.durables ++ b4) (entries_of s) b4 (Some (s, rest)) (ap (λ (bytes : List ℕ). bytes ++ b4) (sym (entries_spell s.shared s.durables))) form.durables
    (step_again queues_format (after_queues s.count s.next_delivery s.sessions (entries_of s)) b4 s.shared.queues b5 (Some (s, rest)) refl form.queues
    (step_again (subscriptions_format s.sessions form.sessions.0.1) (λ x. Some (made s.count s.next_delivery s.sessions (entries_of s) s.shared.queues x.0, x.1)) b5 s.subscriptions rest (Some (s, rest)) refl form.subscriptions (ap (λ (x : State). Some (x, rest)) (made_again s form))))

state_again : (s : State) (rest : List ℕ) → IsShaped s → state_at (snapshot_of s ++ rest) ≡ Some (s, rest)
unfolding state_at
state_again s rest form =
    let c = to_be_bytes w64 s.count in
    let n = to_be_bytes w64 s.next_delivery in
    let ss = listed session s.sessions in
    let ds = listed (durable s.shared) s.durables in
    let qs = listed queue s.shared.queues in
    let b5 = listed subscription s.subscriptions ++ rest in
    let b3 = ds ++ (qs ++ b5) in
    let parts : snapshot_of s ++ rest ≡ c ++ (n ++ (ss ++ b3)) =
    append_assoc (c ++ n ++ ss ++ ds ++ qs) (listed subscription s.subscriptions) rest ∙ append_assoc (c ++ n ++ ss ++ ds) qs b5 ∙ append_assoc (c ++ n ++ ss) ds (qs ++ b5) ∙ append_assoc (c ++ n) ss b3 ∙ append_assoc c n (ss ++ b3) in
    step_again numbers64 after_count (snapshot_of s ++ rest) s.count (n ++ (ss ++ b3)) (Some (s, rest)) parts form.count
    (step_again numbers64 (after_next s.count) (n ++ (ss ++ b3)) s.next_delivery (ss ++ b3) (Some (s, rest)) refl form.next
    (step_again sessions_format (after_sessions s.count s.next_delivery) (ss ++ b3) s.sessions b3 (Some (s, rest)) refl form.sessions (names_again s rest form)))

pub state_format : Format snapshot_of IsShaped state_at
state_format = record { takes = state_takes; again = state_again }
