-- Subscriptions in snapshots.
use Rattle.std.proofs.Common.{◌≡◌, ℕ, ◌<◌, ◌^◌, ◌++◌, ◌||◌, Bool, true, false, cond, List, [], ◌∷◌, length, not, is_some, unwrap_or, IfSome, Option, Some, None, refl, ap, sym, subst, ◌∙◌, append_assoc, arith}
use Rattle.std.specs.BTreeMap.{is_at}
use Rattle.std.specs.Int.{w64, to_be_bytes}
use Rattle.std.specs.List.{AllByRecursion}
use Rattle.std.specs.Map.{lookup}
use Rattle.std.specs.Option.{option_map}
use Rattle.std.specs.Ordering.{nat_cmp}
use Rattle.std.proofs.lemmas.Option.{none-some, same_Some}
use Rattle.frame_core.proofs.Lists.{all_weaker}
use Rattle.command_core.specs.declared.command.AckMode.{AckMode}
use Rattle.command_core.specs.Destinations.{IsDestination, is_queue}
use Rattle.command_core.specs.PartReading.{◌>>=◌, destination_at, mode_at, name_at, text_at}
use Rattle.command_core.specs.PartSpellings.{AreBytes, IsText, counted, mode_byte, optional}
use Rattle.command_core.proofs.Formats.{Format, Takes, Takes-then, bind_some, last_takes}
use Rattle.command_core.proofs.RecordModes.{mode_format}
use Rattle.command_core.proofs.RecordTexts as texts
use Rattle.command_core.proofs.RecordTexts.{destination_format, name_format, text_format}
use Rattle.line_core.specs.declared.message.Message.{Message}
use Rattle.broker_state.specs.declared.subscription.Subscription.{Subscription}
use Rattle.broker_core.specs.Names.{Name}
use Rattle.broker_core.specs.Operations.{client_in}
use Rattle.broker_core.specs.Waiting.{is_own}
use Rattle.snapshot_core.specs.Reading.{delivery_at, keyed_at, named_by, own_line_at, subscription_at}
use Rattle.snapshot_core.specs.Snapshots.{IsDelivery, IsName, IsSession, IsSubscription, delivery, line, listed, own_line, subscription}
use Rattle.snapshot_core.proofs.SnapshotParts.{IsWaiting, Keyed, delivery_format, keyed_format, numbers64, step_again, step_takes, waiting_format}

-- ---- the line of a subscription's own

abbrev line_where : Bool → List Message → List ℕ
line_where own messages = cond own (line messages) []

abbrev IsLineWhere : Bool → List Message → Type 0
IsLineWhere own messages = (own ≡ false → messages ≡ []) × IsWaiting messages

own_takes : (own : Bool) (bytes : List ℕ) (messages : List Message) (rest : List ℕ) → AreBytes bytes → own_line_at own bytes ≡ Some (messages, rest) → Takes bytes (line_where own messages) rest × IsLineWhere own messages
own_takes true bytes messages rest fits e = let t = waiting_format.takes bytes messages rest fits e in (t.0, ((λ is. absurd cc), t.1))
own_takes false bytes messages rest fits e =
    last_takes (line_where false) (IsLineWhere false) bytes ([], bytes) (messages, rest) e (record { parts = refl; fits = fits }, ((λ is. refl), (omega arith, record { each = tt; rising = tt })))

own_again : (own : Bool) (messages : List Message) (rest : List ℕ) → IsLineWhere own messages → own_line_at own (line_where own messages ++ rest) ≡ Some (messages, rest)
own_again true messages rest form = waiting_format.again messages rest form.1
own_again false messages rest form = ap (λ m. Some (m, rest)) (sym (form.0 refl))

own_format : (own : Bool) → Format (line_where own) (IsLineWhere own) (own_line_at own)
own_format own = record { takes = own_takes own; again = own_again own }

-- ---- durable names of subscriptions

-- what each value has, and what stands in place of none, the value of a key has
pub found_has : {K X : Type 0} (P : X → Type 0) (test : K → Bool) (none : X) → P none → (es : List (K × X)) → AllByRecursion (λ (e : K × X). P e.1) es → P (unwrap_or (lookup test es) none)
found_has P test none has [] each = has
found_has P test none has (e ∷ es) each =
    let rest = found_has P test none has es each.1 in
    elim (test e.0) as (λ b. P (unwrap_or (cond b (Some e.1) (lookup test es)) none)) [ true ↦ each.0 | false ↦ rest ]

-- the name of a session's client is one that was read with the session
client_formed : (sessions : List (ℕ × Option (List ℕ))) → AllByRecursion IsSession sessions → (n : ℕ) → texts.IsName (client_in sessions n)
client_formed sessions each n =
    found_has texts.IsName (is_at (nat_cmp n)) None (tt, tt) sessions (all_weaker IsSession (λ (e : ℕ × Option (List ℕ)). texts.IsName e.1) (λ e form. (form.1, form.2)) sessions each)

-- its own part of a durable name
abbrev pub own_part : Option Name → Option (List ℕ)
own_part durable = option_map (λ (name : Name). name.1) durable

named_takes : (client own : Option (List ℕ)) (durable : Option Name) → texts.IsName client → texts.IsName own → named_by client own ≡ Some durable → (own_part durable ≡ own) × IfSome durable IsName
named_takes client None durable client_form own_form e =
    subst (λ (d : Option Name). (own_part d ≡ None) × IfSome d IsName) (same_Some None durable e) (refl, tt)
named_takes None (Some own) durable client_form own_form e = absurd (none-some durable e)
named_takes (Some client) (Some own) durable client_form own_form e =
    subst (λ (d : Option Name). (own_part d ≡ Some own) × IfSome d IsName) (same_Some (Some (client, own)) durable e) (refl, record { client = client_form.0; client_given = client_form.1; own = own_form.0; own_given = own_form.1 })

own_named : (durable : Option Name) → IfSome durable IsName → texts.IsName (own_part durable)
own_named None form = (tt, tt)
own_named (Some name) form = (form.own, form.own_given)

-- ---- subscriptions

-- What is read of a subscription: its line stands empty where it has none of its own, and the client of its durable name is
-- that of its session.
pub record IsRead (sessions : List (ℕ × Option (List ℕ))) (sub : Subscription) : Type 0 where
  pub form : IsSubscription sub
  pub own : is_own sub ≡ false → sub.line ≡ []
  pub few_waiting : length sub.line < 2 ^ 32
  pub few_deliveries : length sub.unacknowledged < 2 ^ 32
  pub named : named_by (client_in sessions sub.session) (own_part sub.durable) ≡ Some sub.durable

abbrev deliveries_format : Format (listed delivery) (Keyed nat_cmp IsDelivery) (keyed_at nat_cmp delivery_at)
deliveries_format = keyed_format nat_cmp delivery_format (λ x. omega arith)

abbrev made : ℕ → List ℕ → List ℕ → AckMode → Option Name → List Message → List (ℕ × Message) → Subscription
made session id destination mode durable waiting unacknowledged =
    record { session = session; id = id; destination = destination; mode = mode; durable = durable; line = waiting; unacknowledged = unacknowledged }

-- what stands before the line
abbrev head : ℕ → List ℕ → List ℕ → AckMode → Option (List ℕ) → List ℕ
head s i d m own = to_be_bytes w64 s ++ counted i ++ counted d ++ mode_byte m ∷ optional own

module _ (sessions : List (ℕ × Option (List ℕ))) where
  abbrev after_line : ℕ → List ℕ → List ℕ → AckMode → Option Name → List Message × List ℕ → Option (Subscription × List ℕ)
  after_line s i d m durable w = keyed_at nat_cmp delivery_at w.1 >>= λ u. Some (made s i d m durable w.0 u.0, u.1)

  abbrev after_name : ℕ → List ℕ → List ℕ → AckMode → List ℕ → Option Name → Option (Subscription × List ℕ)
  after_name s i d m behind durable = own_line_at (not (is_some durable || is_queue d)) behind >>= after_line s i d m durable

  abbrev after_mode : ℕ → List ℕ → List ℕ → AckMode × List ℕ → Option (Subscription × List ℕ)
  after_mode s i d m = name_at m.1 >>= λ o. named_by (client_in sessions s) o.0 >>= after_name s i d m.0 o.1

  abbrev after_destination : ℕ → List ℕ → List ℕ × List ℕ → Option (Subscription × List ℕ)
  after_destination s i d = mode_at d.1 >>= after_mode s i d.0

  abbrev after_id : ℕ → List ℕ × List ℕ → Option (Subscription × List ℕ)
  after_id s i = destination_at i.1 >>= after_destination s i.0

  abbrev after_session : ℕ × List ℕ → Option (Subscription × List ℕ)
  after_session s = text_at s.1 >>= after_id s.0

  -- the line and the deliveries, behind what was read of a subscription
  rest_takes : (s : ℕ) (i d : List ℕ) (m : AckMode) (durable : Option Name) (bytes behind : List ℕ) → s < 2 ^ 64 → IsText i → IsDestination d → IfSome durable IsName → named_by (client_in sessions s) (own_part durable) ≡ Some durable → Takes bytes (head s i d m (own_part durable)) behind
      → (sub : Subscription) (rest : List ℕ) → after_name s i d m behind durable ≡ Some (sub, rest) → Takes bytes (subscription sub) rest × IsRead sessions sub
  rest_takes s i d m durable bytes behind small id_form destination_form name_form named taken sub rest e =
      let w = step_takes (own_format (not (is_some durable || is_queue d))) (after_line s i d m durable) behind (sub, rest) taken.fits e in
      let u = step_takes deliveries_format (λ u. Some (made s i d m durable w.value u.0, u.1)) w.rest (sub, rest) w.taken.fits w.then in
      let it = made s i d m durable w.value u.value in
      let front = Takes-then bytes (head s i d m (own_part durable)) behind (own_line it) w.rest taken w.taken in
      let whole = Takes-then bytes (head s i d m (own_part durable) ++ own_line it) w.rest (listed delivery u.value) u.rest front u.taken in
      let form : IsSubscription it = record { session = small; id = id_form; destination = destination_form; durable = name_form; line = w.form.1.1; each = u.form.0.1; rising = u.form.1 } in
      last_takes subscription (IsRead sessions) bytes (it, u.rest) (sub, rest) u.then
      (whole, record { form = form; own = w.form.0; few_waiting = w.form.1.0; few_deliveries = u.form.0.0; named = named })

  -- the durable name, as what stands before it was read
  name_takes : AllByRecursion IsSession sessions → (s : ℕ) (i d : List ℕ) (m : AckMode) (own : Option (List ℕ)) (bytes behind : List ℕ) → s < 2 ^ 64 → IsText i → IsDestination d → texts.IsName own → Takes bytes (head s i d m own) behind
      → (sub : Subscription) (rest : List ℕ) → (named_by (client_in sessions s) own >>= after_name s i d m behind) ≡ Some (sub, rest) → Takes bytes (subscription sub) rest × IsRead sessions sub
  name_takes each s i d m own bytes behind small id_form destination_form own_form taken sub rest e =
      let n = bind_some (named_by (client_in sessions s) own) (after_name s i d m behind) (sub, rest) e in
      let name = named_takes (client_in sessions s) own n.0 (client_formed sessions each s) own_form n.1 in
      let named : named_by (client_in sessions s) (own_part n.0) ≡ Some n.0 = ap (named_by (client_in sessions s)) name.0 ∙ n.1 in
      let before : Takes bytes (head s i d m (own_part n.0)) behind = subst (λ (o : Option (List ℕ)). Takes bytes (head s i d m o) behind) (sym name.0) taken in
      rest_takes s i d m n.0 bytes behind small id_form destination_form name.1 named before sub rest n.2

  subscription_takes : AllByRecursion IsSession sessions → (bytes : List ℕ) (sub : Subscription) (rest : List ℕ) → AreBytes bytes → subscription_at sessions bytes ≡ Some (sub, rest) → Takes bytes (subscription sub) rest × IsRead sessions sub
  unfolding subscription_at
  subscription_takes each bytes sub rest fits e =
      let s = step_takes numbers64 after_session bytes (sub, rest) fits e in
      let i = step_takes text_format (after_id s.value) s.rest (sub, rest) s.taken.fits s.then in
      let d = step_takes destination_format (after_destination s.value i.value) i.rest (sub, rest) i.taken.fits i.then in
      let m = step_takes mode_format (after_mode s.value i.value d.value) d.rest (sub, rest) d.taken.fits d.then in
      let o = step_takes name_format (λ o. named_by (client_in sessions s.value) o.0 >>= after_name s.value i.value d.value m.value o.1) m.rest (sub, rest) m.taken.fits m.then in
      let t1 = Takes-then bytes (to_be_bytes w64 s.value) s.rest (counted i.value) i.rest s.taken i.taken in
      let t2 = Takes-then bytes (to_be_bytes w64 s.value ++ counted i.value) i.rest (counted d.value) d.rest t1 d.taken in
      let t3 = Takes-then d.rest (mode_byte m.value ∷ []) m.rest (optional o.value) o.rest m.taken o.taken in
      let t4 = Takes-then bytes (to_be_bytes w64 s.value ++ counted i.value ++ counted d.value) d.rest (mode_byte m.value ∷ optional o.value) o.rest t2 t3 in
      name_takes each s.value i.value d.value m.value o.value bytes o.rest s.form i.form d.form o.form t4 sub rest o.then

  rest_again : (sub : Subscription) (rest : List ℕ) → IsRead sessions sub → after_name sub.session sub.id sub.destination sub.mode (own_line sub ++ (listed delivery sub.unacknowledged ++ rest)) sub.durable ≡ Some (sub, rest)
  rest_again sub rest read =
      let behind = listed delivery sub.unacknowledged ++ rest in
      step_again (own_format (is_own sub)) (after_line sub.session sub.id sub.destination sub.mode sub.durable) (own_line sub ++ behind) sub.line behind (Some (sub, rest)) refl (read.own, (read.few_waiting, read.form.line))
      (step_again deliveries_format (λ u. Some (made sub.session sub.id sub.destination sub.mode sub.durable sub.line u.0, u.1)) behind sub.unacknowledged rest (Some (sub, rest)) refl ((read.few_deliveries, read.form.each), read.form.rising) refl)

  subscription_again : (sub : Subscription) (rest : List ℕ) → IsRead sessions sub → subscription_at sessions (subscription sub ++ rest) ≡ Some (sub, rest)
  unfolding subscription_at
  subscription_again sub rest read =
      let form = read.form in
      let session = to_be_bytes w64 sub.session in
      let id = counted sub.id in
      let destination = counted sub.destination in
      let name = mode_byte sub.mode ∷ optional (own_part sub.durable) in
      let b4 = own_line sub ++ (listed delivery sub.unacknowledged ++ rest) in
      let b3 = optional (own_part sub.durable) ++ b4 in
      let b2 = mode_byte sub.mode ∷ b3 in
      let b1 = destination ++ b2 in
      let parts : subscription sub ++ rest ≡ session ++ (id ++ b1) =
      append_assoc (session ++ id ++ destination ++ name ++ own_line sub) (listed delivery sub.unacknowledged) rest ∙ append_assoc (session ++ id ++ destination ++ name) (own_line sub) (listed delivery sub.unacknowledged ++ rest)
      ∙ append_assoc (session ++ id ++ destination) name b4 ∙ append_assoc (session ++ id) destination b2 ∙ append_assoc session id b1 in
      step_again numbers64 after_session (subscription sub ++ rest) sub.session (id ++ b1) (Some (sub, rest)) parts form.session
      (step_again text_format (after_id sub.session) (id ++ b1) sub.id b1 (Some (sub, rest)) refl form.id
      (step_again destination_format (after_destination sub.session sub.id) b1 sub.destination b2 (Some (sub, rest)) refl form.destination
      (step_again mode_format (after_mode sub.session sub.id sub.destination) b2 sub.mode b3 (Some (sub, rest)) refl tt
      (step_again name_format (λ o. named_by (client_in sessions sub.session) o.0 >>= after_name sub.session sub.id sub.destination sub.mode o.1) b3 (own_part sub.durable) b4 (Some (sub, rest)) refl (own_named sub.durable form.durable)
      (ap (λ o. o >>= after_name sub.session sub.id sub.destination sub.mode b4) read.named ∙ rest_again sub rest read)))))

  pub subscription_format : AllByRecursion IsSession sessions → Format subscription (IsRead sessions) (subscription_at sessions)
  subscription_format each = record { takes = subscription_takes each; again = subscription_again }
