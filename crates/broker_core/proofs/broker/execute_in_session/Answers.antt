use Rattle.std.proofs.Common.{rules, ◌≡◌, ◌++◌, ◌∷◌, ◌∙◌, [], List, Result, ap, false, subst, sym, ℕ}
use Rattle.std.proofs.lemmas.Result.{on_ok_weaker}
use Rattle.command_core.specs.declared.fault.Fault.{Fault}
use Rattle.command_core.specs.Outs.{OutValue}
use Rattle.command_core.specs.Replies.{error_frame}
use Rattle.command_core.specs.declared.command.Op.{Op}
use Rattle.broker_state.specs.HandOut.{settled}
use Rattle.broker_state.specs.Operations.{ended}
use Rattle.broker_state.specs.Parts.{is_end}
use Rattle.broker_state.specs.States.{State}
use Rattle.broker_state.specs.Steps.{accepted_or_ended, farewell, outs_to, receipts, replies, verdict}
use Rattle.broker_tables.specs.Answers.{with_outs}
use Rattle.broker_state.specs.Executing.{executed}
use Rattle.broker_tables.specs.Sendings.{IsCarriedOut}
use Rattle.broker_tables.specs.Tables.{TablesValue}
use Rattle.broker_core.specs.Outcomes.{led_in_session}
use Rattle.broker_core.proofs.Answering.{with_more}
use Rattle.broker_core.proofs.Outcomes.{replies_of}
use Rattle.broker_core.proofs.broker.execute_in_session.Goals as goal

pub returns-in-End-clause-outs : goal.returns-in-End-clause-outs
returns-in-End-clause-outs c =
    let st = c.args.tables.now.state in
    let s = c.args.session in
    let now = c.args.answers.now in
    let first : List OutValue = (settled (ended st s)).outs in
    let then : ℕ → List OutValue = λ n. outs_to n s (farewell c.in-End.end c.args.receipt) in
    subst (λ (op : Op). c.answer_end.new.answers ≡ with_outs ((led_in_session c.args.rule st s op).outs ++ outs_to st.count s (replies c.args.rule st s op c.args.receipt)) now) (sym c.in-End.is)
    (with_more first (then c.count-number.result) (first ++ then st.count) now c.end_and_settle.new.answers c.answer_end.new.answers c.in_ok-end_and_settle.ensures.outs c.in_ok-answer_end.ensures (ap (λ (n : ℕ). first ++ then n) c.count-number.ensures))

pub returns-in-Ok-clause-state : goal.returns-in-Ok-clause-state
returns-in-Ok-clause-state c =
    let st = c.args.tables.now.state in
    let s = c.args.session in
    let done = subst (λ (r : Result (Unit {0}) Fault). IsCarriedOut (executed c.args.rule st s c.args.op) c.args.tables.now c.args.answers.now r c.execute_and_settle.new.tables c.execute_and_settle.new.answers) c.in-Ok.is c.in_ok-execute_and_settle.ensures.executed in
    on_ok_weaker c.answer_done.result (λ _. done.state ∙ ap (λ (r : Result State Fault). (settled (accepted_or_ended st s r)).state) (sym done.accepted)) c.answer_done.ensures

pub returns-in-Ok-clause-outs : goal.returns-in-Ok-clause-outs
returns-in-Ok-clause-outs c =
    let st = c.args.tables.now.state in
    let s = c.args.session in
    let done = subst (λ (r : Result (Unit {0}) Fault). IsCarriedOut (executed c.args.rule st s c.args.op) c.args.tables.now c.args.answers.now r c.execute_and_settle.new.tables c.execute_and_settle.new.answers) c.in-Ok.is c.in_ok-execute_and_settle.ensures.executed in
    let first : List OutValue = (settled done.before).outs in
    let then : List OutValue = outs_to c.count-number.result s (receipts c.args.receipt) in
    let all : List OutValue = (led_in_session c.args.rule st s c.args.op).outs ++ outs_to st.count s (replies c.args.rule st s c.args.op c.args.receipt) in
    let other : is_end c.args.op ≡ false = search rules in
    let handed : first ≡ (led_in_session c.args.rule st s c.args.op).outs = ap (λ (r : Result State Fault). (settled (accepted_or_ended st s r)).outs) (sym done.accepted) in
    let told : receipts c.args.receipt ≡ replies c.args.rule st s c.args.op c.args.receipt = ap (λ (r : Result State Fault). verdict r c.args.receipt) (sym done.accepted) ∙ sym (replies_of c.args.rule st s c.args.receipt c.args.op other) in
    let both : first ++ then ≡ all = ap (λ (l : List OutValue). l ++ then) handed
    ∙ ap (λ (n : ℕ). (led_in_session c.args.rule st s c.args.op).outs ++ outs_to n s (receipts c.args.receipt)) c.count-number.ensures
    ∙ ap (λ l. (led_in_session c.args.rule st s c.args.op).outs ++ outs_to st.count s l) told in
    on_ok_weaker c.answer_done.result (λ is. with_more first then all c.args.answers.now c.execute_and_settle.new.answers c.answer_done.new.answers done.outs is both) c.answer_done.ensures

pub returns-in_ok-answer_refused-in-Err : goal.returns-in_ok-answer_refused-in-Err
returns-in_ok-answer_refused-in-Err c =
    let st = c.args.tables.now.state in
    let s = c.args.session in
    let done = subst (λ (r : Result (Unit {0}) Fault). IsCarriedOut (executed c.args.rule st s c.args.op) c.args.tables.now c.args.answers.now r c.execute_and_settle.new.tables c.execute_and_settle.new.answers) c.in-Err.is c.in_ok-execute_and_settle.ensures.executed in
    let same : c.execute_and_settle.new.tables.state ≡ st = ap (λ (b : TablesValue). b.state) done.1 in
    let first : List OutValue = (settled (ended st s)).outs in
    let then : List OutValue = outs_to c.count-number.result s (error_frame c.in-Err.fault c.args.receipt ∷ []) in
    let all : List OutValue = (led_in_session c.args.rule st s c.args.op).outs ++ outs_to st.count s (replies c.args.rule st s c.args.op c.args.receipt) in
    let other : is_end c.args.op ≡ false = search rules in
    let handed : first ≡ (led_in_session c.args.rule st s c.args.op).outs = ap (λ (r : Result State Fault). (settled (accepted_or_ended st s r)).outs) (sym done.0) in
    let told : error_frame c.in-Err.fault c.args.receipt ∷ [] ≡ replies c.args.rule st s c.args.op c.args.receipt = ap (λ (r : Result State Fault). verdict r c.args.receipt) (sym done.0) ∙ sym (replies_of c.args.rule st s c.args.receipt c.args.op other) in
    let both : first ++ then ≡ all = ap (λ (l : List OutValue). l ++ then) handed
    ∙ ap (λ (n : ℕ). (led_in_session c.args.rule st s c.args.op).outs ++ outs_to n s (error_frame c.in-Err.fault c.args.receipt ∷ [])) c.count-number.ensures
    ∙ ap (λ l. (led_in_session c.args.rule st s c.args.op).outs ++ outs_to st.count s l) told in
    let ends = (c.in_ok-end_and_settle-in-Err).ensures in
    let mid : c.end_and_settle-in-Err.new.answers ≡ with_outs first c.args.answers.now = ends.outs ∙ ap (λ (t : State). with_outs (settled (ended t s)).outs c.execute_and_settle.new.answers) same ∙ ap (with_outs first) done.2 in
    record {
      state = ends.state ∙ ap (λ (t : State). (settled (ended t s)).state) same ∙ ap (λ (r : Result State Fault). (settled (accepted_or_ended st s r)).state) (sym done.0);
      outs = with_more first then all c.args.answers.now c.end_and_settle-in-Err.new.answers c.answer_refused.new.answers mid (c.in_ok-answer_refused-in-Err).ensures both;
      whole = search rules;
      due = search rules;
    }
