use Rattle.std.proofs.Common.{◌≡◌, ◌||◌, List, [], ◌∷◌, ℕ, suc, zero, Bool, true, false, Option, Some, None, refl, sym, subst, ◌∙◌, if◌then◌else◌}
use Rattle.std.specs.List.{AllByRecursion}
use Rattle.frame_core.specs.declared.frame.Frame.{Frame}
use Rattle.frame_core.proofs.Lists.{all_append}
use Rattle.command_core.specs.declared.command.Op.{Op}
use Rattle.command_core.specs.declared.command.Op.TheVariants.{Open, Send, Subscribe, Unsubscribe, Ack, Nack, Commit, Note, End}
use Rattle.command_core.specs.Commands.{CommandValue}
use Rattle.command_core.specs.Outs.{OutValue}
use Rattle.command_core.specs.Replies.{connected}
use Rattle.broker_state.specs.declared.nack_rule.NackRule.{NackRule}
use Rattle.broker_state.specs.States.{State, is_open}
use Rattle.broker_state.specs.HandOut.{Handed, Settling, behind, hand_out, settled, settling, waiting}
use Rattle.broker_state.specs.Steps.{answers, done, is_opening, led_to, outs_by, outs_to, replies}
use Rattle.broker_state.proofs.Deliveries.{made}

abbrev IsNumbered : ℕ → List OutValue → Type 0
IsNumbered n outs = AllByRecursion (λ out. out.number ≡ n) outs

answers_numbered : (n session : ℕ) (frames : List Frame) → IsNumbered n (outs_to n session frames)
answers_numbered n session [] = tt
answers_numbered n session (frame ∷ frames) = (refl, answers_numbered n session frames)

handed_number : (s : State) (h : Handed) → hand_out s ≡ Some h → (h.out.number ≡ s.count) × (h.state.count ≡ s.count)
handed_number s h is =
    let p = made s h is in
    subst (λ (g : Handed). (g.out.number ≡ s.count) × (g.state.count ≡ s.count)) (sym p.handed_is) (refl, refl)

settling_numbered : (number n : ℕ) (s : State) → s.count ≡ number → IsNumbered number (settling n s).outs
settling_numbered number zero s same = tt
settling_numbered number (suc n) s same =
    by (λ h is. settling_numbered number n h.state ((handed_number s h is).1 ∙ same)) (hand_out s) refl
  where
    by : ((h : Handed) → hand_out s ≡ Some h → IsNumbered number (settling n h.state).outs) → (o : Option Handed) → hand_out s ≡ o → IsNumbered number (elim o as (λ x. Settling) [ None ↦ record { state = s; outs = [] } | Some h ↦ behind h (settling n h.state) ]).outs
    by next None is = tt
    by next (Some h) is = ((handed_number s h is).0 ∙ same, next h is)

replied_numbered : (s : State) (session : ℕ) (frames : List Frame) (b : Bool) → IsNumbered s.count (if b then outs_to s.count session frames else [])
replied_numbered s session frames true = answers_numbered s.count session frames
replied_numbered s session frames false = tt

answer_numbered : (rule : NackRule) (s : State) (session : ℕ) (receipt : Option (List ℕ)) (op : Op) → IsNumbered s.count (answers rule s session receipt op)
answer_numbered rule s session receipt (Open client_id) = answers_numbered s.count s.count (connected s.count ∷ [])
answer_numbered rule s session receipt (Send sending) = replied_numbered s session (replies rule s session (Send sending) receipt) (is_open s session)
answer_numbered rule s session receipt (Subscribe id to mode name) = replied_numbered s session (replies rule s session (Subscribe id to mode name) receipt) (is_open s session)
answer_numbered rule s session receipt (Unsubscribe id name) = replied_numbered s session (replies rule s session (Unsubscribe id name) receipt) (is_open s session)
answer_numbered rule s session receipt (Ack delivery) = replied_numbered s session (replies rule s session (Ack delivery) receipt) (is_open s session)
answer_numbered rule s session receipt (Nack delivery) = replied_numbered s session (replies rule s session (Nack delivery) receipt) (is_open s session)
answer_numbered rule s session receipt (Commit members) = replied_numbered s session (replies rule s session (Commit members) receipt) (is_open s session)
answer_numbered rule s session receipt Note = replied_numbered s session (replies rule s session Note receipt) (is_open s session)
answer_numbered rule s session receipt (End end) = replied_numbered s session (replies rule s session (End end) receipt) (is_open s session)

if_numbered : (s t : State) (n : ℕ) (b : Bool) → t.count ≡ n → IsNumbered n (if b then settled t else record { state = s; outs = [] }).outs
if_numbered s t n true same = settling_numbered n (waiting t) t same
if_numbered s t n false same = tt

pub outs_numbered : (rule : NackRule) (s : State) (c : CommandValue) → (done rule s c.session c.op).count ≡ s.count → IsNumbered s.count (outs_by rule s c)
outs_numbered rule s c same =
    all_append (λ out. out.number ≡ s.count) (led_to rule s c.session c.op).outs (answers rule s c.session c.receipt c.op) (if_numbered s (done rule s c.session c.op) s.count (is_opening c.op || is_open s c.session) same) (answer_numbered rule s c.session c.receipt c.op)
