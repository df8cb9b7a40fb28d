-- What a connection receives, from what its parts do.
use Rattle.std.proofs.Common.{◌≡◌, List, [], ℕ, Option, Some, IsSomeAnd, refl, ap, sym, ◌∙◌, subst}
use Rattle.std.specs.BTreeMap.{insert_entry, is_at}
use Rattle.std.specs.List.{fold}
use Rattle.std.specs.Map.{remove_entry}
use Rattle.std.specs.Ordering.{nat_cmp}
use Rattle.disk_core.specs.Memory.{Memory}
use Rattle.engine_core.specs.declared.running_script.ScriptConnection.{ScriptConnection}
use Rattle.session_core.specs.declared.session.Act.{Act}
use Rattle.session_core.specs.Sessions.{Hearing, Hears, loss_of}
use Rattle.engine_core.specs.Queues.{QueueValue, Progress, ComeTo, IsTooFar, acted, acted_on}
use Rattle.engine_core.specs.Running.{connection_at, Loses, Receives}

pub received : (connections : List (ℕ × ScriptConnection)) (queue after : QueueValue) (disk left : Memory) (n : ℕ) (bytes start text : List ℕ) (taken : ScriptConnection) (others all : List (ℕ × ScriptConnection)) (acts : List Act) (session : Hearing) (number : ℕ)
    → taken ≡ connection_at n (record { connections = connections; queue = queue; disk = disk })
    → others ≡ remove_entry (is_at (nat_cmp n)) connections
    → Hears taken.session bytes acts session
    → (ComeTo n IsTooFar (record { number = taken.number; queue = queue; text = start }) acts → ⊥)
    → start ≡ []
    → record { number = number; queue = after; text = text } ≡ fold (acted n) (record { number = taken.number; queue = queue; text = start }) acts
    → all ≡ insert_entry nat_cmp others n (record { session = session; number = number })
    → Receives (record { connections = connections; queue = queue; disk = disk }) n bytes text (record { connections = all; queue = after; disk = left })
received connections queue after disk left n bytes start text taken others all acts session number is_taken are_others hears within none done inserted =
    let IsFree : ScriptConnection → List ℕ → Type 0 = λ c t. ComeTo n IsTooFar (record { number = c.number; queue = queue; text = t }) acts → ⊥ in
    let from : ScriptConnection → List ℕ → Progress = λ c t. fold (acted n) (record { number = c.number; queue = queue; text = t }) acts in
    record {
      acts = acts;
      session = session;
      hears = subst (λ (c : ScriptConnection). Hears c.session bytes acts session) is_taken hears;
      within = subst (λ (c : ScriptConnection). IsFree c []) is_taken (subst (IsFree taken) none within);
      progress = record { number = number; queue = after; text = text };
      done = done ∙ ap (from taken) none ∙ ap (λ (c : ScriptConnection). from c []) is_taken;
      same_text = refl;
      after = ap (λ cs. record { connections = cs; queue = after; disk = left }) (inserted ∙ ap (λ (os : List (ℕ × ScriptConnection)). insert_entry nat_cmp os n (record { session = session; number = number })) are_others);
    }

some_such : (P : Act → Type 0) (act : Option Act) (one : Act) → act ≡ Some one → P one → IsSomeAnd act P
some_such P act one is such = subst (λ a. IsSomeAnd a P) (sym is) such

-- what the loss of a connection brings
pub lost_by : (connections : List (ℕ × ScriptConnection)) (queue after : QueueValue) (disk left : Memory) (n : ℕ) (start text : List ℕ) (taken : ScriptConnection) (others : List (ℕ × ScriptConnection)) (act : Option Act) (number : ℕ)
    → taken ≡ connection_at n (record { connections = connections; queue = queue; disk = disk })
    → others ≡ remove_entry (is_at (nat_cmp n)) connections
    → act ≡ loss_of taken.session.phase
    → (IsSomeAnd act (IsTooFar n queue) → ⊥)
    → start ≡ []
    → record { number = number; queue = after; text = text } ≡ acted_on n (record { number = taken.number; queue = queue; text = start }) act
    → Loses (record { connections = connections; queue = queue; disk = disk }) n text (record { connections = others; queue = after; disk = left })
lost_by connections queue after disk left n start text taken others act number is_taken are_others is_loss within none done =
    let from : ℕ → List ℕ → Option Act → Progress = λ number text. acted_on n (record { number = number; queue = queue; text = text }) in
    record {
      within = λ such. within (some_such (IsTooFar n queue) act such.act (is_loss ∙ ap (λ (c : ScriptConnection). loss_of c.session.phase) is_taken ∙ such.is_loss) such.such);
      progress = record { number = number; queue = after; text = text };
      done = done ∙ ap (λ t. from taken.number t act) none ∙ ap (from taken.number []) is_loss ∙ ap (λ (c : ScriptConnection). from c.number [] (loss_of c.session.phase)) is_taken;
      same_text = refl;
      after = ap (λ (os : List (ℕ × ScriptConnection)). record { connections = os; queue = after; disk = left }) are_others;
    }
