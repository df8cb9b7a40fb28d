use Rattle.std.proofs.Common.{◌≡◌, ◌&&◌, ◌++◌, List, [], ◌∷◌, ℕ, Bool, true, false, Option, Some, None, cond, fold, is_some, map, not, refl, sym, ap, ◌∙◌, unwrap_or, if◌then◌else◌}
use Rattle.std.specs.BTreeMap.{insert_entry, is_at}
use Rattle.std.specs.Cmp.{IsTotalOrder}
use Rattle.std.specs.Map.{remove_entry}
use Rattle.std.specs.Ordering.{is_eq, is_lt}
use Rattle.std.specs.Str.{bytes_eq}
use Rattle.std.specs.declared.cmp.Ordering.{Ordering}
use Rattle.std.proofs.lemmas.Map.Text.{is_eq-slice_cmp}
use Rattle.command_core.specs.Destinations.{is_queue}
use Rattle.line_core.specs.declared.message.Message.{Message}
use Rattle.line_core.specs.Lines.{by_number, inserted}
use Rattle.broker_state.specs.declared.subscription.Subscription.{Subscription}
use Rattle.broker_state.specs.Kept.{kept_in_queue, kept_under, takes_from, unacknowledged_by, with_all}
use Rattle.broker_state.specs.Lists.{is_none}
use Rattle.broker_state.specs.Names.{AreSame, Name, name_cmp, text_cmp}
use Rattle.broker_state.specs.Operations.{restarted, uses}
use Rattle.broker_state.specs.States.{State}
use Rattle.broker_state.specs.Waiting.{Lines, Shared, line_at, returned, returned_from, with_deliveries, with_message}
use Rattle.broker_state.proofs.KeyedLines.{other_line}
use Rattle.broker_state.proofs.Lookups.{is_equal, lookup_new}
use Rattle.broker_state.proofs.Keys.{is_eq-name_cmp, names_total, same_names, same_texts, texts_total}

-- a message is among those of the line that it is put into
pub some_in : (m : Message) (line : List Message) → is_none (inserted m line) ≡ false
some_in m [] = refl
some_in m (x ∷ line) =
    elim (is_lt (by_number m.number x.number)) as (λ b. is_none (if b then m ∷ x ∷ line else x ∷ inserted m line) ≡ false) [ true ↦ refl | false ↦ refl ]

module _ {K : Type 0} (cmp : K → K → Ordering) (total : IsTotalOrder cmp) (same : AreSame cmp) where
  -- a line has the message that is put there
  pub message_put : (key : K) (m : Message) (lines : Lines K) → is_eq (cmp key key) ≡ true → line_at cmp key (with_message cmp key m lines) ≡ inserted m (line_at cmp key lines)
  message_put key m lines itself =
      let line = inserted m (line_at cmp key lines) in
      let others = remove_entry (is_at (cmp key)) lines in
      ap (λ b. line_at cmp key (cond b others (insert_entry cmp others key line))) (some_in m (line_at cmp key lines))
      ∙ ap (λ o. unwrap_or o []) (lookup_new cmp key line others itself)

  all_put : (key : K) (deliveries : List (ℕ × Message)) (lines : Lines K) → is_eq (cmp key key) ≡ true → line_at cmp key (with_deliveries cmp key deliveries lines) ≡ with_all (line_at cmp key lines) (map (λ (d : ℕ × Message). d.1) deliveries)
  all_put key [] lines itself = refl
  all_put key (d ∷ deliveries) lines itself =
      all_put key deliveries (with_message cmp key d.1 lines) itself
      ∙ ap (λ line. with_all line (map (λ (x : ℕ × Message). x.1) deliveries)) (message_put key d.1 lines itself)

  others_put : (q key : K) (deliveries : List (ℕ × Message)) (lines : Lines K) → is_eq (cmp q key) ≡ false → line_at cmp q (with_deliveries cmp key deliveries lines) ≡ line_at cmp q lines
  others_put q key [] lines other = refl
  others_put q key (d ∷ deliveries) lines other =
      others_put q key deliveries (with_message cmp key d.1 lines) other
      ∙ other_line cmp same q key other (inserted d.1 (line_at cmp key lines)) lines

  -- the line of a key once what was delivered under another is put back, or the same
  put_by : (q key : K) (b : Bool) → is_eq (cmp q key) ≡ b → (deliveries : List (ℕ × Message)) (lines : Lines K) → line_at cmp q (with_deliveries cmp key deliveries lines) ≡ with_all (line_at cmp q lines) (if b then map (λ (d : ℕ × Message). d.1) deliveries else [])
  put_by q key true is deliveries lines =
      let it : q ≡ key = same q key (is_equal (cmp q key) is) in
      let itself : is_eq (cmp key key) ≡ true = sym (ap (λ k. is_eq (cmp k key)) it) ∙ is in
      ap (λ k. line_at cmp k (with_deliveries cmp key deliveries lines)) it ∙ all_put key deliveries lines itself
      ∙ sym (ap (λ k. with_all (line_at cmp k lines) (map (λ (d : ℕ × Message). d.1) deliveries)) it)
  put_by q key false other deliveries lines = others_put q key deliveries lines other

pub all_after : (line more less : List Message) → with_all (with_all line more) less ≡ with_all line (more ++ less)
all_after line [] less = refl
all_after line (m ∷ more) less = all_after (inserted m line) more less

module _ (line_of : Shared → List Message) (such : Subscription → Bool) (one_back : (shared : Shared) (sub : Subscription) → line_of (returned shared sub) ≡ with_all (line_of shared) (if such sub then map (λ (d : ℕ × Message). d.1) sub.unacknowledged else [])) where
  -- once all subscriptions have ended, all that they had not acknowledged is back
  pub all_back : (subs : List Subscription) (shared : Shared) → line_of (fold returned shared subs) ≡ with_all (line_of shared) (unacknowledged_by such subs)
  all_back [] shared = refl
  all_back (sub ∷ subs) shared =
      all_back subs (returned shared sub)
      ∙ ap (λ line. with_all line (unacknowledged_by such subs)) (one_back shared sub)
      ∙ all_after (line_of shared) (if such sub then map (λ (d : ℕ × Message). d.1) sub.unacknowledged else []) (unacknowledged_by such subs)

queue_back_by : (to : List ℕ) (shared : Shared) (sub : Subscription) (kind : Bool) → line_at text_cmp to (if kind then record shared { queues = with_deliveries text_cmp sub.destination sub.unacknowledged shared.queues } else shared).queues ≡ with_all (line_at text_cmp to shared.queues) (if kind && bytes_eq to sub.destination then map (λ (d : ℕ × Message). d.1) sub.unacknowledged else [])
queue_back_by to shared sub true =
    put_by text_cmp texts_total same_texts to sub.destination (bytes_eq to sub.destination) (is_eq-slice_cmp to sub.destination) sub.unacknowledged shared.queues
queue_back_by to shared sub false = refl

pub queue_back_from : (to : List ℕ) (shared : Shared) (sub : Subscription) (o : Option Name) → line_at text_cmp to (returned_from shared sub o).queues ≡ with_all (line_at text_cmp to shared.queues) (if not (is_some o) && is_queue sub.destination && bytes_eq to sub.destination then map (λ (d : ℕ × Message). d.1) sub.unacknowledged else [])
queue_back_from to shared sub (Some name) = refl
queue_back_from to shared sub None = queue_back_by to shared sub (is_queue sub.destination)

name_back_by : (name : Name) (shared : Shared) (sub : Subscription) (kind : Bool) → line_at name_cmp name (if kind then record shared { queues = with_deliveries text_cmp sub.destination sub.unacknowledged shared.queues } else shared).names ≡ line_at name_cmp name shared.names
name_back_by name shared sub true = refl
name_back_by name shared sub false = refl

-- whether it is the durable name that a subscription has
abbrev pub uses_by : Name → Option Name → Bool
uses_by name o = elim o as (λ x. Bool) [ None ↦ false | Some other ↦ bytes_eq name.0 other.0 && bytes_eq name.1 other.1 ]

pub name_back_from : (name : Name) (shared : Shared) (sub : Subscription) (o : Option Name) → line_at name_cmp name (returned_from shared sub o).names ≡ with_all (line_at name_cmp name shared.names) (if uses_by name o then map (λ (d : ℕ × Message). d.1) sub.unacknowledged else [])
name_back_from name shared sub (Some other) =
    put_by name_cmp names_total same_names name other (bytes_eq name.0 other.0 && bytes_eq name.1 other.1) (is_eq-name_cmp name other) sub.unacknowledged shared.names
name_back_from name shared sub None = name_back_by name shared sub (is_queue sub.destination)

-- a restart leaves what queues and durable names keep
pub kept_in_queues : (to : List ℕ) (s : State) → kept_in_queue to (restarted s) ≡ kept_in_queue to s
kept_in_queues to s =
    all_back (λ shared. line_at text_cmp to shared.queues) (takes_from to) (λ shared sub. queue_back_from to shared sub sub.durable) s.subscriptions s.shared

pub kept_under_names : (name : Name) (s : State) → kept_under name (restarted s) ≡ kept_under name s
kept_under_names name s =
    all_back (λ shared. line_at name_cmp name shared.names) (uses name) (λ shared sub. name_back_from name shared sub sub.durable) s.subscriptions s.shared
