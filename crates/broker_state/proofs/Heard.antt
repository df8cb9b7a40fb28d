use Rattle.std.proofs.Common.{◌≡◌, ◌||◌, List, [], ℕ, Bool, true, false, Option, refl, ap, ◌∙◌, if◌then◌else◌}
use Rattle.command_core.specs.declared.command.Op.{Op}
use Rattle.command_core.specs.declared.command.Op.TheVariants.{Open, Send, Subscribe, Unsubscribe, Ack, Nack, Commit, Note, End}
use Rattle.command_core.specs.Outs.{OutValue}
use Rattle.broker_state.specs.HandOut.{settled}
use Rattle.broker_state.specs.declared.nack_rule.NackRule.{NackRule}
use Rattle.broker_state.specs.Executing.{executed}
use Rattle.broker_state.specs.States.{State, is_open}
use Rattle.broker_state.specs.Steps.{accepted_or_ended, answers, done, is_opening, led_to, outs_to, replies}

module _ (rule : NackRule) (s : State) (session : ℕ) where
  -- of a session that isn't open nothing is heard
  pub closed_leads : (op : Op) → is_opening op ≡ false → is_open s session ≡ false → led_to rule s session op ≡ record { state = s; outs = [] }
  closed_leads op other closed =
      ap (λ b. if b || is_open s session then settled (done rule s session op) else record { state = s; outs = [] }) other
      ∙ ap (λ b. if false || b then settled (done rule s session op) else record { state = s; outs = [] }) closed

  pub open_leads : (op : Op) → is_open s session ≡ true → led_to rule s session op ≡ settled (done rule s session op)
  open_leads op is = by (is_opening op)
    where
      by : (b : Bool) → (if b || is_open s session then settled (done rule s session op) else record { state = s; outs = [] }) ≡ settled (done rule s session op)
      by true = refl
      by false = ap (λ b. if false || b then settled (done rule s session op) else record { state = s; outs = [] }) is

  -- what an operation of an open session does
  pub open_done : (op : Op) → is_opening op ≡ false → is_open s session ≡ true → done rule s session op ≡ accepted_or_ended s session (executed rule s session op)
  open_done (Open client_id) other is = absurd cc
  open_done (Send sending) other is = ap (λ b. if b then accepted_or_ended s session (executed rule s session (Send sending)) else s) is
  open_done (Subscribe id to mode name) other is = ap (λ b. if b then accepted_or_ended s session (executed rule s session (Subscribe id to mode name)) else s) is
  open_done (Unsubscribe id name) other is = ap (λ b. if b then accepted_or_ended s session (executed rule s session (Unsubscribe id name)) else s) is
  open_done (Ack delivery) other is = ap (λ b. if b then accepted_or_ended s session (executed rule s session (Ack delivery)) else s) is
  open_done (Nack delivery) other is = ap (λ b. if b then accepted_or_ended s session (executed rule s session (Nack delivery)) else s) is
  open_done (Commit members) other is = ap (λ b. if b then accepted_or_ended s session (executed rule s session (Commit members)) else s) is
  open_done Note other is = ap (λ b. if b then accepted_or_ended s session (executed rule s session Note) else s) is
  open_done (End end) other is = ap (λ b. if b then accepted_or_ended s session (executed rule s session (End end)) else s) is

  module _ (receipt : Option (List ℕ)) where
    when : Bool → Op → List OutValue
    when b op = if b then outs_to s.count session (replies rule s session op receipt) else []

    -- and what answers it
    answered : (op : Op) → is_opening op ≡ false → answers rule s session receipt op ≡ (if is_open s session then outs_to s.count session (replies rule s session op receipt) else [])
    answered (Open client_id) other = absurd cc
    answered (Send sending) other = refl
    answered (Subscribe id to mode name) other = refl
    answered (Unsubscribe id name) other = refl
    answered (Ack delivery) other = refl
    answered (Nack delivery) other = refl
    answered (Commit members) other = refl
    answered Note other = refl
    answered (End end) other = refl

    pub closed_answers : (op : Op) → is_opening op ≡ false → is_open s session ≡ false → answers rule s session receipt op ≡ []
    closed_answers op other closed = answered op other ∙ ap (λ b. if b then outs_to s.count session (replies rule s session op receipt) else []) closed

    pub open_answers : (op : Op) → is_opening op ≡ false → is_open s session ≡ true → answers rule s session receipt op ≡ outs_to s.count session (replies rule s session op receipt)
    open_answers op other is = answered op other ∙ ap (λ b. if b then outs_to s.count session (replies rule s session op receipt) else []) is
