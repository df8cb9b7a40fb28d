use Rattle.std.proofs.Common.{◌≡◌, List, Option, ℕ, false, refl, subst, sym, true}
use Rattle.command_core.specs.declared.command.Op.{Op}
use Rattle.command_core.specs.declared.command.Op.TheVariants.{Open, Send, Subscribe, Unsubscribe, Ack, Nack, Commit, Note, End}
use Rattle.broker_state.specs.declared.nack_rule.NackRule.{NackRule}
use Rattle.broker_state.specs.Executing.{executed}
use Rattle.broker_state.specs.Parts.{is_end}
use Rattle.broker_state.specs.Sound.{IsSound}
use Rattle.broker_state.specs.States.{State, empty_state}
use Rattle.broker_state.specs.Steps.{replies, verdict}
use Rattle.broker_tables.specs.Tables.{TablesValue}
use Rattle.broker_core.specs.Outcomes.{IsWholeOrEmpty}

-- a whole broker in a state that a broker can have
pub is_whole : (b : TablesValue) → b.broken ≡ false → b.due ≡ 0 → IsSound b.state → IsWholeOrEmpty b
is_whole b whole none sound = record {
  whole = λ _. sound;
  messages = λ broken. absurd (cc (whole, broken));
  bytes = λ broken. absurd (cc (whole, broken));
  due = none;
}

-- one that was let go
abbrev pub empty_broker : ℕ → TablesValue
empty_broker count = record { state = record empty_state { count = count }; broken = true; due = 0 }

pub is_empty : (b : TablesValue) (count : ℕ) → b ≡ empty_broker count → IsWholeOrEmpty b
is_empty b count is = subst IsWholeOrEmpty (sym is) (record {
  whole = λ whole. absurd (cc whole);
  messages = λ _. refl;
  bytes = λ _. refl;
  due = refl;
})

-- an operation that doesn't end its session is answered with what became of it
pub replies_of : (rule : NackRule) (s : State) (session : ℕ) (receipt : Option (List ℕ)) (op : Op) → is_end op ≡ false → replies rule s session op receipt ≡ verdict (executed rule s session op) receipt
replies_of rule s session receipt (Open client_id) other = refl
replies_of rule s session receipt (Send sending) other = refl
replies_of rule s session receipt (Subscribe id to mode name) other = refl
replies_of rule s session receipt (Unsubscribe id name) other = refl
replies_of rule s session receipt (Ack delivery) other = refl
replies_of rule s session receipt (Nack delivery) other = refl
replies_of rule s session receipt (Commit members) other = refl
replies_of rule s session receipt Note other = refl
replies_of rule s session receipt (End end) other = absurd cc
