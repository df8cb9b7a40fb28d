-- States that are sound and have the form of a snapshot, against those that are read from one.
use Rattle.std.proofs.Common.{◌≡◌, ℕ, ◌<◌, ◌^◌, ◌++◌, List, [], ◌∷◌, length, map, true, false, IfSome, Option, Some, None, refl, ap, sym, subst, ◌∙◌, append-nil, arith, eqb, true≢false}
use Rattle.std.specs.BTreeMap.{is_at}
use Rattle.std.specs.List.{AllByRecursion}
use Rattle.std.specs.List.Sorted.{IsStrictlySortedBy}
use Rattle.std.specs.Map.{keys_of}
use Rattle.std.proofs.lemmas.List.{length-map, nil_from_length}
use Rattle.std.proofs.lemmas.Bool.{eqb-true}
use Rattle.std.proofs.lemmas.Option.{none-some, some_pair_parts}
use Rattle.frame_core.proofs.Lists.{all_both, all_weaker}
use Rattle.command_core.specs.Destinations.{IsDestination}
use Rattle.command_core.specs.PartSpellings.{AreBytes}
use Rattle.line_core.specs.declared.message.Message.{Message}
use Rattle.broker_state.specs.declared.subscription.Subscription.{Subscription}
use Rattle.broker_core.specs.Lists.{is_none}
use Rattle.broker_core.specs.Names.{Name, name_cmp, text_cmp}
use Rattle.broker_core.specs.Operations.{client_in, topic_of}
use Rattle.broker_core.specs.Sound.{AreTo, IsSound, OwnsName}
use Rattle.broker_core.specs.States.{State}
use Rattle.broker_core.specs.Waiting.{Lines, is_own, line_at}
use Rattle.broker_state.proofs.Alls.{all_given, each_given}
use Rattle.snapshot_core.specs.Reading.{lines_of, named_by, state_at}
use Rattle.snapshot_core.specs.Snapshots.{HasForm, IsLine, IsName, IsSubscription, Spells, snapshot_of}
use Rattle.snapshot_core.proofs.SnapshotParts.{Keyed}
use Rattle.snapshot_core.proofs.SnapshotEntries.{Entry, IsEntry, IsQueueEntry}
use Rattle.snapshot_core.proofs.SnapshotSubscriptions.{IsRead, found_has, own_part}
use Rattle.snapshot_core.proofs.SnapshotNames.{all_lines, entry_in, lines_again}
use Rattle.snapshot_core.proofs.Counted.{HoldsFew, few_held, few_in_queues, few_queues, few_under_names}
use Rattle.snapshot_core.proofs.SnapshotStates.{IsShaped, entries_of, state_format}

-- ---- what is read has the form

pub formed : (s : State) → IsShaped s → HasForm s
formed s shaped =
    let bound = each_given IsEntry (entry_in s.shared.names) s.durables shaped.durables.0.1 in
    let lines = all_lines (λ (l : Name × List Message). IsLine l.1) (entries_of s) (all_weaker IsEntry (λ (e : Entry). IsLine e.1.1) (λ e form. form.2.1) (entries_of s) shaped.durables.0.1) in
    record {
      count = shaped.count;
      sessions = shaped.sessions.0.1;
      few_sessions = shaped.sessions.0.0;
      durables = all_weaker (λ (d : Name × List ℕ). IsEntry (entry_in s.shared.names d)) (λ (d : Name × List ℕ). IsName d.0 × IsDestination d.1) (λ d form. (form.0, form.1)) s.durables bound;
      names = subst (AllByRecursion (λ (l : Name × List Message). IsLine l.1)) shaped.names lines;
      queues = all_weaker IsQueueEntry (λ (q : List ℕ × List Message). IsDestination q.0 × IsLine q.1) (λ q form. (form.0, form.1.1)) s.shared.queues shaped.queues.0.1;
      subscriptions = all_weaker (IsRead s.sessions) IsSubscription (λ sub read. read.form) s.subscriptions shaped.subscriptions.1;
      few_subscriptions = shaped.subscriptions.0;
    }

-- ---- what is sound and has the form is read

keys_again : (names : Lines Name) (durables : List (Name × List ℕ)) → keys_of (map (entry_in names) durables) ≡ keys_of durables
keys_again names [] = refl
keys_again names (d ∷ durables) = ap (λ (ks : List Name). d.0 ∷ ks) (keys_again names durables)

entries_shaped : (s : State) → IsSound s → HasForm s → Keyed name_cmp IsEntry (entries_of s)
entries_shaped s sound form =
    let few : length (entries_of s) < 2 ^ 32 = omega (arith, length-map s.durables (entry_in s.shared.names), sound.names.few) in
    let entry = λ (d : Name × List ℕ) (is : IsName d.0 × IsDestination d.1).
    let whole : IsEntry (entry_in s.shared.names d) = (is.0, is.1, (few_under_names s sound d.0, found_has IsLine (is_at (name_cmp d.0)) [] (record { each = tt; rising = tt }) s.shared.names form.names)) in
    whole in
    let each = all_given IsEntry (entry_in s.shared.names) s.durables (all_weaker (λ (d : Name × List ℕ). IsName d.0 × IsDestination d.1) (λ (d : Name × List ℕ). IsEntry (entry_in s.shared.names d)) entry s.durables form.durables) in
    ((few, each), subst (IsStrictlySortedBy name_cmp) (sym (keys_again s.shared.names s.durables)) sound.order.durables)

names_shaped : (s : State) → IsSound s → lines_of (entries_of s) ≡ s.shared.names
names_shaped s sound =
    let some = all_weaker (λ (l : Name × List Message). (is_none l.1 ≡ false) × IfSome (topic_of l.0 s.durables) (λ topic. AreTo topic l.1)) (λ (l : Name × List Message). is_none l.1 ≡ false) (λ l is. is.0) s.shared.names sound.lines.names in
    lines_again s.durables s.shared.names sound.order.durables (record { rising = sound.order.names; some = some; bound = sound.names.lines })

-- where the lines under all bound names have the form, all lines have it
pub names_formed : (s : State) → IsSound s → AllByRecursion (λ (d : Name × List ℕ). IsLine (line_at name_cmp d.0 s.shared.names)) s.durables → AllByRecursion (λ (l : Name × List Message). IsLine l.1) s.shared.names
names_formed s sound each =
    subst (AllByRecursion (λ (l : Name × List Message). IsLine l.1)) (names_shaped s sound) (all_lines (λ (l : Name × List Message). IsLine l.1) (entries_of s) (all_given (λ (e : Entry). IsLine e.1.1) (entry_in s.shared.names) s.durables each))

queues_shaped : (s : State) → IsSound s → HasForm s → Keyed text_cmp IsQueueEntry s.shared.queues
queues_shaped s sound form =
    let each = all_both (λ (q : List ℕ × List Message). length q.1 < 2 ^ 32) (λ (q : List ℕ × List Message). IsDestination q.0 × IsLine q.1) IsQueueEntry (λ q short is. (is.0, (short, is.1))) s.shared.queues (few_in_queues s sound) form.queues in
    ((few_queues s sound, each), sound.order.queues)

-- the client of a subscription's durable name is that of its session
named_again : (client : Option (List ℕ)) (durable : Option Name) → IfSome durable (λ name. client ≡ Some name.0) → named_by client (own_part durable) ≡ Some durable
named_again client None owns = refl
named_again client (Some name) owns = ap (λ c. named_by c (Some name.1)) owns

subscriptions_shaped : (s : State) → IsSound s → HasForm s → AllByRecursion (IsRead s.sessions) s.subscriptions
subscriptions_shaped s sound form =
    all_of s.subscriptions form.subscriptions sound.lines.own (few_held s sound) sound.names.own
  where
    named : (sub : Subscription) → OwnsName s sub → named_by (client_in s.sessions sub.session) (own_part sub.durable) ≡ Some sub.durable
    named sub owns = named_again (client_in s.sessions sub.session) sub.durable (client sub.durable owns)
      where
        client : (durable : Option Name) → IfSome durable (λ name. (client_in s.sessions sub.session ≡ Some name.0) × (topic_of name s.durables ≡ Some sub.destination)) → IfSome durable (λ name. client_in s.sessions sub.session ≡ Some name.0)
        client None has = tt
        client (Some name) has = has.0

    all_of : (subs : List Subscription) → AllByRecursion IsSubscription subs → AllByRecursion (λ (sub : Subscription). is_own sub ≡ false → sub.line ≡ []) subs → AllByRecursion HoldsFew subs → AllByRecursion (OwnsName s) subs → AllByRecursion (IsRead s.sessions) subs
    all_of [] forms own few owns = tt
    all_of (sub ∷ subs) forms own few owns =
        (record { form = forms.0; own = own.0; few_waiting = few.0.0; few_deliveries = few.0.1; named = named sub owns.0 }, all_of subs forms.1 own.1 few.1 owns.1)

pub shaped : (s : State) → IsSound s → HasForm s → IsShaped s
shaped s sound form = record {
  count = form.count;
  next = omega (arith, sound.numbers.most);
  sessions = ((form.few_sessions, form.sessions), sound.order.sessions);
  durables = entries_shaped s sound form;
  names = names_shaped s sound;
  queues = queues_shaped s sound form;
  subscriptions = (form.few_subscriptions, subscriptions_shaped s sound form);
}

-- ---- what is spelled is read, whatever follows

pub spelled_is_read : (bytes rest : List ℕ) (s : State) → Spells bytes s → state_at (bytes ++ rest) ≡ Some (s, rest)
spelled_is_read bytes rest s spells =
    ap (λ b. state_at (b ++ rest)) spells.spelled ∙ state_format.again s rest (shaped s spells.sound spells.form)

-- no snapshot begins another
pub begins_no_other : (a b : State) (p q x y : List ℕ) → Spells p a → Spells q b → p ++ x ≡ q ++ y → (a ≡ b) × (p ≡ q)
begins_no_other a b p q x y first second same =
    let both : Some (a, x) ≡ Some (b, y) = sym (spelled_is_read p x a first) ∙ ap state_at same ∙ spelled_is_read q y b second in
    let one = some_pair_parts a b x y both in
    (one.0, first.spelled ∙ ap snapshot_of one.0 ∙ sym second.spelled)

-- ---- whole bytes

-- bytes that spell a state are read to their end
whole_is_read : (bytes : List ℕ) (s : State) → Spells bytes s → state_at bytes ≡ Some (s, [])
whole_is_read bytes s spells = ap state_at (sym (append-nil bytes)) ∙ spelled_is_read bytes [] s spells

pub none_is_spelled : (bytes : List ℕ) → state_at bytes ≡ None → (s : State) → Spells bytes s → ⊥
none_is_spelled bytes none s spells = none-some (s, []) (sym none ∙ whole_is_read bytes s spells)

module _ (bytes : List ℕ) (t : State) (rest : List ℕ) (read : state_at bytes ≡ Some (t, rest)) where
  -- what bytes spell is what is read of them
  read_is : (s : State) → Spells bytes s → (s ≡ t) × ([] ≡ rest)
  read_is s spells = some_pair_parts s t [] rest (sym (whole_is_read bytes s spells) ∙ read)

  -- where bytes are left, or no broker can have the state, nothing is spelled
  pub longer_is_none : eqb (length rest) 0 ≡ false → (s : State) → Spells bytes s → ⊥
  longer_is_none left s spells = true≢false (ap (λ (r : List ℕ). eqb (length r) 0) (read_is s spells).1 ∙ left)

  pub unsound_is_none : (IsSound t → ⊥) → (s : State) → Spells bytes s → ⊥
  unsound_is_none unsound s spells = unsound (subst IsSound (read_is s spells).0 spells.sound)

  pub read_is_spelled : AreBytes bytes → eqb (length rest) 0 ≡ true → IsSound t → Spells bytes t
  read_is_spelled fits whole sound =
      let taken = state_format.takes bytes t rest fits read in
      record { sound = sound; form = formed t taken.1; spelled = taken.0.parts ∙ ap (λ (r : List ℕ). snapshot_of t ++ r) (nil_from_length rest (eqb-true (length rest) 0 whole)) ∙ append-nil (snapshot_of t) }
