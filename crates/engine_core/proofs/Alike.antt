-- Scripts that are alike: they differ at most in what sessions keep that are over, which they never read, and in their disks.
use Rattle.std.proofs.Common.{◌≡◌, List, [], ◌∷◌, ◌++◌, ℕ, ◌⊎◌, Bool, true, false, cond, Ordering, Less, Equal, Greater, Some, refl, ap, sym, ◌∙◌, subst, inl, inr}
use Rattle.std.specs.Prelude.{unwrap_or}
use Rattle.std.specs.BTreeMap.{insert_entry, is_at}
use Rattle.std.specs.List.{fold}
use Rattle.std.specs.Map.{lookup, remove_entry}
use Rattle.std.specs.Ordering.{match_ordering, nat_cmp}
use Rattle.disk_core.specs.Memory.{fresh}
use Rattle.frame_core.proofs.OneAnswer.{one_reading, fault_or_none}
use Rattle.session_core.specs.declared.session.Act.{Act}
use Rattle.session_core.specs.declared.session.Phase.{Phase}
use Rattle.session_core.specs.declared.session.Phase.TheVariants.{New, Open, Ended, Failed}
use Rattle.session_core.specs.Sessions.{Hearing, Hears, IsOver, loss_of}
use Rattle.session_core.proofs.Hearings.{heard_in_one_way, nothing_heard}
use Rattle.engine_core.specs.declared.running_script.ScriptConnection.{ScriptConnection}
use Rattle.engine_core.specs.Connections.{new_connection}
use Rattle.engine_core.specs.Queues.{QueueValue, Progress, acted, acted_on}
use Rattle.engine_core.specs.Running.{ScriptValue, connection_at, with_connection, Loses, Receives}

-- what a session keeps, and nothing once it is over
abbrev pub kept : Phase → List ℕ → List ℕ
kept New rest = rest
kept (Open transactions) rest = rest
kept Ended rest = []
kept (Failed held) rest = []

abbrev pub shown_of : Hearing → Hearing
shown_of h = record { rest = kept h.phase h.rest; phase = h.phase }

abbrev pub shown : ScriptConnection → ScriptConnection
shown c = record { session = shown_of c.session; number = c.number }

abbrev pub bare : List (ℕ × ScriptConnection) → List (ℕ × ScriptConnection)
bare [] = []
bare (e ∷ connections) = (e.0, shown e.1) ∷ bare connections

-- a script without what sessions keep that are over, and without its disk
abbrev pub all_bare : ScriptValue → ScriptValue
all_bare s = record { connections = bare s.connections; queue = s.queue; disk = fresh 0 }

-- connections that are looked up, taken out and put in
bare_lookup : (test : ℕ → Bool) (connections : List (ℕ × ScriptConnection)) → unwrap_or (lookup test (bare connections)) new_connection ≡ shown (unwrap_or (lookup test connections) new_connection)
bare_lookup test [] = refl
bare_lookup test (e ∷ connections) = by (test e.0) (bare_lookup test connections)
  where
    by : (found : Bool) → unwrap_or (lookup test (bare connections)) new_connection ≡ shown (unwrap_or (lookup test connections) new_connection)
        → unwrap_or (cond found (Some (shown e.1)) (lookup test (bare connections))) new_connection ≡ shown (unwrap_or (cond found (Some e.1) (lookup test connections)) new_connection)
    by true others = refl
    by false others = others

bare_remove : (test : ℕ → Bool) (connections : List (ℕ × ScriptConnection)) → remove_entry test (bare connections) ≡ bare (remove_entry test connections)
bare_remove test [] = refl
bare_remove test (e ∷ connections) = by (test e.0) (bare_remove test connections)
  where
    by : (found : Bool) → remove_entry test (bare connections) ≡ bare (remove_entry test connections)
        → cond found (bare connections) ((e.0, shown e.1) ∷ remove_entry test (bare connections)) ≡ bare (cond found connections (e ∷ remove_entry test connections))
    by true others = refl
    by false others = ap (λ x. (e.0, shown e.1) ∷ x) others

bare_insert : (compare : ℕ → ℕ → Ordering) (connections : List (ℕ × ScriptConnection)) (n : ℕ) (c : ScriptConnection) → insert_entry compare (bare connections) n (shown c) ≡ bare (insert_entry compare connections n c)
bare_insert compare [] n c = refl
bare_insert compare (e ∷ connections) n c = by (compare n e.0) (bare_insert compare connections n c)
  where
    by : (order : Ordering) → insert_entry compare (bare connections) n (shown c) ≡ bare (insert_entry compare connections n c)
        → match_ordering order ((n, shown c) ∷ (e.0, shown e.1) ∷ bare connections) ((e.0, shown c) ∷ bare connections) ((e.0, shown e.1) ∷ insert_entry compare (bare connections) n (shown c))
        ≡ bare (match_ordering order ((n, c) ∷ e ∷ connections) ((e.0, c) ∷ connections) (e ∷ insert_entry compare connections n c))
    by Less others = refl
    by Equal others = refl
    by Greater others = ap (λ x. (e.0, shown e.1) ∷ x) others

-- a connection of alike scripts
alike_at : (n : ℕ) (s t : ScriptValue) → all_bare s ≡ all_bare t → shown (connection_at n s) ≡ shown (connection_at n t)
alike_at n s t alike = sym (bare_lookup (is_at (nat_cmp n)) s.connections) ∙ ap (connection_at n) alike ∙ bare_lookup (is_at (nat_cmp n)) t.connections

bare_with : (n : ℕ) (c : ScriptConnection) (connections : List (ℕ × ScriptConnection)) → bare (with_connection n c connections) ≡ with_connection n (shown c) (bare connections)
bare_with n c connections =
    sym (bare_insert nat_cmp (remove_entry (is_at (nat_cmp n)) connections) n c) ∙ ap (λ others. insert_entry nat_cmp others n (shown c)) (sym (bare_remove (is_at (nat_cmp n)) connections))

-- sessions
over_or_not : (phase : Phase) → IsOver phase ⊎ (IsOver phase → ⊥)
over_or_not New = inr (λ over. over)
over_or_not (Open transactions) = inr (λ over. over)
over_or_not Ended = inl tt
over_or_not (Failed held) = inl tt

kept_going : (phase : Phase) (rest : List ℕ) → (IsOver phase → ⊥) → kept phase rest ≡ rest
kept_going New rest going = refl
kept_going (Open transactions) rest going = refl
kept_going Ended rest going = absurd (going tt)
kept_going (Failed held) rest going = absurd (going tt)

same_hearing : (s t : Hearing) → s.rest ≡ t.rest → s.phase ≡ t.phase → s ≡ t
same_hearing s t rest phase =
    let of : List ℕ → Phase → Hearing = λ r p. record { rest = r; phase = p } in
    ap (λ r. of r s.phase) rest ∙ ap (of t.rest) phase

shown_ended : (s : Hearing) → s.phase ≡ Ended → shown_of s ≡ record { rest = []; phase = Ended }
shown_ended s ended = ap (λ (p : Phase). record { rest = kept p s.rest; phase = p }) ended

-- what a session hears leaves it in one way, but for what it keeps once it is over
left_in_one_way : (s t u : Hearing) (bytes : List ℕ) (acts more : List Act) → Hears s bytes acts t → Hears s bytes more u → shown_of t ≡ shown_of u
left_in_one_way s t u bytes acts more (inl h) k = ap shown_of (h.2 ∙ sym (nothing_heard s u bytes more h.0 k).1)
left_in_one_way s t u bytes acts more (inr (inl h)) (inl k) = absurd (h.0 k.0)
left_in_one_way s t u bytes acts more (inr (inl h)) (inr (inl k)) =
    ap shown_of (same_hearing t u (one_reading (s.rest ++ bytes) h.1.frames k.1.frames t.rest u.rest h.1.reads k.1.reads).1
    (heard_in_one_way s t u bytes acts more (inr (inl h)) (inr (inl k))).1)
left_in_one_way s t u bytes acts more (inr (inl h)) (inr (inr k)) = absurd (fault_or_none (s.rest ++ bytes) h.1.frames k.1.frames t.rest k.1.fault h.1.reads k.1.fails)
left_in_one_way s t u bytes acts more (inr (inr h)) (inl k) = absurd (h.0 k.0)
left_in_one_way s t u bytes acts more (inr (inr h)) (inr (inl k)) = absurd (fault_or_none (s.rest ++ bytes) k.1.frames h.1.frames u.rest h.1.fault k.1.reads h.1.fails)
left_in_one_way s t u bytes acts more (inr (inr h)) (inr (inr k)) = shown_ended t h.1.phase ∙ sym (shown_ended u k.1.phase)

-- the acts of alike sessions, and what they leave
abbrev pub HearAlike : Hearing → Hearing → List Act → List Act → Type 0
HearAlike t u acts more = (acts ≡ more) × (shown_of t ≡ shown_of u)

alike_over : (s r t u : Hearing) (bytes : List ℕ) (acts more : List Act) → shown_of s ≡ shown_of r → IsOver s.phase → Hears s bytes acts t → Hears r bytes more u → HearAlike t u acts more
alike_over s r t u bytes acts more alike over h k =
    let first = nothing_heard s t bytes acts over h in
    let second = nothing_heard r u bytes more (subst IsOver (ap (λ (x : Hearing). x.phase) alike) over) k in
    (first.0 ∙ sym second.0, ap shown_of first.1 ∙ alike ∙ sym (ap shown_of second.1))

alike_going : (s r t u : Hearing) (bytes : List ℕ) (acts more : List Act) → shown_of s ≡ shown_of r → (IsOver s.phase → ⊥) → Hears s bytes acts t → Hears r bytes more u → HearAlike t u acts more
alike_going s r t u bytes acts more alike going h k =
    let phase : s.phase ≡ r.phase = ap (λ (x : Hearing). x.phase) alike in
    let rest : s.rest ≡ r.rest = sym (kept_going s.phase s.rest going) ∙ ap (λ (x : Hearing). x.rest) alike ∙ kept_going r.phase r.rest (subst (λ p. IsOver p → ⊥) phase going) in
    let one : Hears s bytes more u = subst (λ (x : Hearing). Hears x bytes more u) (sym (same_hearing s r rest phase)) k in
    ((heard_in_one_way s t u bytes acts more h one).0, left_in_one_way s t u bytes acts more h one)

hear_alike : (s r t u : Hearing) (bytes : List ℕ) (acts more : List Act) → shown_of s ≡ shown_of r → Hears s bytes acts t → Hears r bytes more u → HearAlike t u acts more
hear_alike s r t u bytes acts more alike h k = elim (over_or_not s.phase) [
  | inl over ↦ alike_over s r t u bytes acts more alike over h k
  | inr going ↦ alike_going s r t u bytes acts more alike going h k
]

-- two texts are one, and two scripts are alike
abbrev pub PrintAlike : List ℕ → List ℕ → ScriptValue → ScriptValue → Type 0
PrintAlike printed other t u = (printed ≡ other) × (all_bare t ≡ all_bare u)

-- what a connection's acts lead to
abbrev led_to : ℕ → ℕ → QueueValue → List Act → Progress
led_to n number queue acts = fold (acted n) (record { number = number; queue = queue; text = [] }) acts

pub receive_alike : (s r t u : ScriptValue) (n : ℕ) (bytes printed other : List ℕ) → all_bare s ≡ all_bare r → Receives s n bytes printed t → Receives r n bytes other u → PrintAlike printed other t u
receive_alike s r t u n bytes printed other alike h k =
    let connection = alike_at n s r alike in
    let queue : s.queue ≡ r.queue = ap (λ (x : ScriptValue). x.queue) alike in
    let number : (connection_at n s).number ≡ (connection_at n r).number = ap (λ (c : ScriptConnection). c.number) connection in
    let heard = hear_alike (connection_at n s).session (connection_at n r).session h.session k.session bytes h.acts k.acts (ap (λ (c : ScriptConnection). c.session) connection) h.hears k.hears in
    let progress : h.progress ≡ k.progress = h.done ∙ ap (λ m. led_to n m s.queue h.acts) number ∙ ap (λ q. led_to n (connection_at n r).number q h.acts) queue
    ∙ ap (led_to n (connection_at n r).number r.queue) heard.0 ∙ sym k.done in
    let of : Hearing → ℕ → ScriptConnection = λ session m. record { session = session; number = m } in
    let left : of (shown_of h.session) h.progress.number ≡ of (shown_of k.session) k.progress.number =
    ap (λ x. of x h.progress.number) heard.1 ∙ ap (λ (p : Progress). of (shown_of k.session) p.number) progress in
    let after : ScriptValue → ScriptConnection → Progress → ScriptValue = λ x c p. record { connections = with_connection n c x.connections; queue = p.queue; disk = fresh 0 } in
    let bared : (x : ScriptValue) (c : ScriptConnection) (p : Progress) → all_bare (after x c p) ≡ after (all_bare x) (shown c) p =
    λ x c p. ap (λ cs. record { connections = cs; queue = p.queue; disk = fresh 0 }) (bare_with n c x.connections) in (
      h.same_text ∙ ap (λ (p : Progress). p.text) progress ∙ sym k.same_text,
      ap all_bare h.after ∙ bared s (of h.session h.progress.number) h.progress
          ∙ ap (λ x. after x (of (shown_of h.session) h.progress.number) h.progress) alike
          ∙ ap (λ c. after (all_bare r) c h.progress) left
          ∙ ap (after (all_bare r) (of (shown_of k.session) k.progress.number)) progress
          ∙ sym (ap all_bare k.after ∙ bared r (of k.session k.progress.number) k.progress),
    )

pub lose_alike : (s r t u : ScriptValue) (n : ℕ) (printed other : List ℕ) → all_bare s ≡ all_bare r → Loses s n printed t → Loses r n other u → PrintAlike printed other t u
lose_alike s r t u n printed other alike h k =
    let of : ScriptConnection → QueueValue → Progress = λ c q. acted_on n (record { number = c.number; queue = q; text = [] }) (loss_of c.session.phase) in
    let queue : s.queue ≡ r.queue = ap (λ (x : ScriptValue). x.queue) alike in
    let progress : h.progress ≡ k.progress = h.done ∙ ap (λ c. of c s.queue) (alike_at n s r alike) ∙ ap (of (connection_at n r)) queue ∙ sym k.done in
    let after : ScriptValue → Progress → ScriptValue = λ x p. record { connections = remove_entry (is_at (nat_cmp n)) x.connections; queue = p.queue; disk = fresh 0 } in
    let bared : (x : ScriptValue) (p : Progress) → all_bare (after x p) ≡ after (all_bare x) p =
    λ x p. ap (λ cs. record { connections = cs; queue = p.queue; disk = fresh 0 }) (sym (bare_remove (is_at (nat_cmp n)) x.connections)) in (
      h.same_text ∙ ap (λ (p : Progress). p.text) progress ∙ sym k.same_text,
      ap all_bare h.after ∙ bared s h.progress ∙ ap (λ x. after x h.progress) alike ∙ ap (after (all_bare r)) progress ∙ sym (ap all_bare k.after ∙ bared r k.progress),
    )
