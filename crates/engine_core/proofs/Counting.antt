-- Where one of a connection's acts is such an act.
use Rattle.std.proofs.Common.{◌≡◌, List, [], ◌∷◌, ◌++◌, ℕ, Option, Some, None, IsSomeAnd, ap, sym, ◌∙◌, subst}
use Rattle.std.specs.List.{fold}
use Rattle.session_core.specs.declared.session.Act.{Act}
use Rattle.engine_core.specs.declared.running_script.ScriptConnection.{ScriptConnection}
use Rattle.session_core.specs.Sessions.{loss_of}
use Rattle.engine_core.specs.Queues.{QueueValue, Progress, ComeTo, acted}
use Rattle.engine_core.specs.Running.{ScriptValue, connection_at, HearsSuch, LosesSuch, ReceivesSuch}

-- what is done next is no such act, one after another
abbrev pub ComeToNone : ℕ → (ℕ → QueueValue → Act → Type 0) → Progress → List Act → Type 0
ComeToNone connection Such now [] = Unit {0}
ComeToNone connection Such now (act ∷ acts) = (Such connection now.queue act → ⊥) × ComeToNone connection Such (acted connection now act) acts

module _ (Such : ℕ → QueueValue → Act → Type 0) where
  -- one more act that is none
  pub come_to_no_more : (connection : ℕ) (start now : Progress) (acts : List Act) (act : Act) → ComeToNone connection Such start acts
      → now ≡ fold (acted connection) start acts → (Such connection now.queue act → ⊥) → ComeToNone connection Such start (acts ++ act ∷ [])
  come_to_no_more connection start now [] act none done free = (subst (λ (p : Progress). Such connection p.queue act → ⊥) done free, tt)
  come_to_no_more connection start now (first ∷ acts) act none done free = (none.0, come_to_no_more connection (acted connection start first) now acts act none.1 done free)

  not_behind : (connection : ℕ) (start : Progress) (before behind : List Act) (act : Act) → ComeToNone connection Such start (before ++ act ∷ behind)
      → Such connection (fold (acted connection) start before).queue act → ⊥
  not_behind connection start [] behind act none such = none.0 such
  not_behind connection start (first ∷ before) behind act none such = not_behind connection (acted connection start first) before behind act none.1 such

  pub come_to_none : (connection : ℕ) (start : Progress) (acts : List Act) → ComeToNone connection Such start acts → ComeTo connection Such start acts → ⊥
  come_to_none connection start acts none come = not_behind connection start come.before come.behind come.act (subst (ComeToNone connection Such start) come.split none) come.such

  pub come_to : (connection : ℕ) (start now : Progress) (acts before rest behind : List Act) (act : Act)
      → acts ≡ before ++ rest → rest ≡ act ∷ behind → now ≡ fold (acted connection) start before → Such connection now.queue act → ComeTo connection Such start acts
  come_to connection start now acts before rest behind act whole first done such = record {
    before = before;
    act = act;
    behind = behind;
    split = whole ∙ ap (λ x. before ++ x) first;
    such = subst (λ (p : Progress). Such connection p.queue act) done such;
  }

  pub receives_such : (s : ScriptValue) (n : ℕ) (bytes text : List ℕ) (taken : ScriptConnection) → taken ≡ connection_at n s → text ≡ []
      → HearsSuch Such n bytes taken s.queue text → ReceivesSuch Such s n bytes
  receives_such s n bytes text taken is_taken none hears =
      subst (λ (c : ScriptConnection). HearsSuch Such n bytes c s.queue []) is_taken (subst (λ t. HearsSuch Such n bytes taken s.queue t) none hears)

  pub loses_such : (s : ScriptValue) (n : ℕ) (taken : ScriptConnection) (act : Option Act)
      → taken ≡ connection_at n s → act ≡ loss_of taken.session.phase → IsSomeAnd act (Such n s.queue) → LosesSuch Such s n
  loses_such s n taken None is_taken is such = absurd such
  loses_such s n taken (Some act) is_taken is such = record { act = act; is_loss = sym (is ∙ ap (λ (c : ScriptConnection). loss_of c.session.phase) is_taken); such = such }
