-- Sessions, durable names and queues in snapshots.
use Rattle.std.proofs.Common.{◌≡◌, ℕ, ◌<◌, ◌++◌, List, length, Option, Some, refl, ◌∙◌, append_assoc}
use Rattle.std.specs.Int.{w64, to_be_bytes}
use Rattle.std.proofs.lemmas.Bool.{ltb-true, lt-ltb}
use Rattle.std.specs.Prelude.{nat_lt}
use Rattle.command_core.specs.Destinations.{IsDestination}
use Rattle.command_core.specs.PartReading.{◌>>=◌, destination_at, name_at, text_at}
use Rattle.command_core.specs.PartSpellings.{AreBytes, IsText, counted, optional}
use Rattle.command_core.proofs.Formats.{Format, Takes, Takes-then, last_takes, tested}
use Rattle.command_core.proofs.RecordTexts.{destination_format, name_format, text_format}
use Rattle.line_core.specs.declared.message.Message.{Message}
use Rattle.broker_core.specs.Names.{Name}
use Rattle.snapshot_core.specs.Reading.{durable_at, given_at, queue_at, session_at, waiting_at}
use Rattle.snapshot_core.specs.Snapshots.{IsName, IsSession, line, queue, session}
use Rattle.snapshot_core.proofs.SnapshotParts.{IsWaiting, numbers64, step_again, step_takes, waiting_format}

-- ---- sessions

abbrev session_value : ℕ → Option (List ℕ) × List ℕ → Option ((ℕ × Option (List ℕ)) × List ℕ)
session_value n client = Some ((n, client.0), client.1)

session_takes : (bytes : List ℕ) (e : ℕ × Option (List ℕ)) (rest : List ℕ) → AreBytes bytes → session_at bytes ≡ Some (e, rest) → Takes bytes (session e) rest × IsSession e
unfolding session_at
session_takes bytes e rest fits is =
    let n = step_takes numbers64 (λ n. name_at n.1 >>= session_value n.0) bytes (e, rest) fits is in
    let client = step_takes name_format (session_value n.value) n.rest (e, rest) n.taken.fits n.then in
    let both = Takes-then bytes (to_be_bytes w64 n.value) n.rest (optional client.value) client.rest n.taken client.taken in
    last_takes session IsSession bytes ((n.value, client.value), client.rest) (e, rest) client.then (both, (n.form, client.form.0, client.form.1))

session_again : (e : ℕ × Option (List ℕ)) (rest : List ℕ) → IsSession e → session_at (session e ++ rest) ≡ Some (e, rest)
unfolding session_at
session_again e rest form =
    step_again numbers64 (λ n. name_at n.1 >>= session_value n.0) (session e ++ rest) e.0 (optional e.1 ++ rest) (Some (e, rest)) (append_assoc (to_be_bytes w64 e.0) (optional e.1) rest) form.0
    (step_again name_format (session_value e.0) (optional e.1 ++ rest) e.1 rest (Some (e, rest)) refl (form.1, form.2) refl)

pub session_format : Format session IsSession session_at
session_format = record { takes = session_takes; again = session_again }

-- ---- texts that are not empty

abbrev pub IsGivenText : List ℕ → Type 0
IsGivenText text = IsText text × (0 < length text)

pub given_format : Format counted IsGivenText given_at
unfolding given_at
given_format =
    tested counted IsText IsGivenText text_at (λ text. nat_lt 0 (length text)) text_format (λ text e form. (form, ltb-true 0 (length text) e)) (λ text form. (form.0, lt-ltb 0 (length text) form.1))

-- ---- durable names

-- a durable name with its topic and its line
abbrev pub Entry : Type 0
Entry = Name × (List ℕ × List Message)

abbrev pub entry : Entry → List ℕ
entry e = counted e.0.0 ++ counted e.0.1 ++ counted e.1.0 ++ line e.1.1

abbrev pub IsEntry : Entry → Type 0
IsEntry e = IsName e.0 × IsDestination e.1.0 × IsWaiting e.1.1

abbrev durable_value : List ℕ → List ℕ → List ℕ → List Message × List ℕ → Option (Entry × List ℕ)
durable_value client own topic waiting = Some (((client, own), (topic, waiting.0)), waiting.1)

durable_takes : (bytes : List ℕ) (e : Entry) (rest : List ℕ) → AreBytes bytes → durable_at bytes ≡ Some (e, rest) → Takes bytes (entry e) rest × IsEntry e
unfolding durable_at
durable_takes bytes e rest fits is =
    let c = step_takes given_format (λ c. given_at c.1 >>= λ o. destination_at o.1 >>= λ t. waiting_at t.1 >>= durable_value c.0 o.0 t.0) bytes (e, rest) fits is in
    let o = step_takes given_format (λ o. destination_at o.1 >>= λ t. waiting_at t.1 >>= durable_value c.value o.0 t.0) c.rest (e, rest) c.taken.fits c.then in
    let t = step_takes destination_format (λ t. waiting_at t.1 >>= durable_value c.value o.value t.0) o.rest (e, rest) o.taken.fits o.then in
    let w = step_takes waiting_format (durable_value c.value o.value t.value) t.rest (e, rest) t.taken.fits t.then in
    let name = Takes-then bytes (counted c.value) c.rest (counted o.value) o.rest c.taken o.taken in
    let bound = Takes-then bytes (counted c.value ++ counted o.value) o.rest (counted t.value) t.rest name t.taken in
    let whole = Takes-then bytes (counted c.value ++ counted o.value ++ counted t.value) t.rest (line w.value) w.rest bound w.taken in
    last_takes entry IsEntry bytes (((c.value, o.value), (t.value, w.value)), w.rest) (e, rest) w.then
    (whole, (record { client = c.form.0; client_given = c.form.1; own = o.form.0; own_given = o.form.1 }, t.form, w.form))

durable_again : (e : Entry) (rest : List ℕ) → IsEntry e → durable_at (entry e ++ rest) ≡ Some (e, rest)
unfolding durable_at
durable_again e rest form =
    let behind = line e.1.1 ++ rest in
    step_again given_format (λ c. given_at c.1 >>= λ o. destination_at o.1 >>= λ t. waiting_at t.1 >>= durable_value c.0 o.0 t.0) (entry e ++ rest) e.0.0 (counted e.0.1 ++ (counted e.1.0 ++ behind)) (Some (e, rest))
    (append_assoc (counted e.0.0 ++ counted e.0.1 ++ counted e.1.0) (line e.1.1) rest ∙ append_assoc (counted e.0.0 ++ counted e.0.1) (counted e.1.0) behind ∙ append_assoc (counted e.0.0) (counted e.0.1) (counted e.1.0 ++ behind)) (form.0.client, form.0.client_given)
    (step_again given_format (λ o. destination_at o.1 >>= λ t. waiting_at t.1 >>= durable_value e.0.0 o.0 t.0) (counted e.0.1 ++ (counted e.1.0 ++ behind)) e.0.1 (counted e.1.0 ++ behind) (Some (e, rest)) refl (form.0.own, form.0.own_given)
    (step_again destination_format (λ t. waiting_at t.1 >>= durable_value e.0.0 e.0.1 t.0) (counted e.1.0 ++ behind) e.1.0 behind (Some (e, rest)) refl form.1
    (step_again waiting_format (durable_value e.0.0 e.0.1 e.1.0) behind e.1.1 rest (Some (e, rest)) refl form.2 refl)))

pub durable_format : Format entry IsEntry durable_at
durable_format = record { takes = durable_takes; again = durable_again }

-- ---- queues

abbrev pub IsQueueEntry : List ℕ × List Message → Type 0
IsQueueEntry e = IsDestination e.0 × IsWaiting e.1

abbrev queue_value : List ℕ → List Message × List ℕ → Option ((List ℕ × List Message) × List ℕ)
queue_value d waiting = Some ((d, waiting.0), waiting.1)

queue_takes : (bytes : List ℕ) (e : List ℕ × List Message) (rest : List ℕ) → AreBytes bytes → queue_at bytes ≡ Some (e, rest) → Takes bytes (queue e) rest × IsQueueEntry e
unfolding queue_at
queue_takes bytes e rest fits is =
    let d = step_takes destination_format (λ d. waiting_at d.1 >>= queue_value d.0) bytes (e, rest) fits is in
    let w = step_takes waiting_format (queue_value d.value) d.rest (e, rest) d.taken.fits d.then in
    let both = Takes-then bytes (counted d.value) d.rest (line w.value) w.rest d.taken w.taken in
    last_takes queue IsQueueEntry bytes ((d.value, w.value), w.rest) (e, rest) w.then (both, (d.form, w.form))

queue_again : (e : List ℕ × List Message) (rest : List ℕ) → IsQueueEntry e → queue_at (queue e ++ rest) ≡ Some (e, rest)
unfolding queue_at
queue_again e rest form =
    step_again destination_format (λ d. waiting_at d.1 >>= queue_value d.0) (queue e ++ rest) e.0 (line e.1 ++ rest) (Some (e, rest)) (append_assoc (counted e.0) (line e.1) rest) form.0
    (step_again waiting_format (queue_value e.0) (line e.1 ++ rest) e.1 rest (Some (e, rest)) refl form.1 refl)

pub queue_format : Format queue IsQueueEntry queue_at
queue_format = record { takes = queue_takes; again = queue_again }
