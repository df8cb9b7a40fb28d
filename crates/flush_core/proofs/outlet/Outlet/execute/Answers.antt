use Rattle.std.proofs.Common.{ap, ◌∙◌, ◌≡◌, ◌++◌, ◌&&◌, [], ◌∷◌, not, if◌then◌else◌}
use Rattle.std.specs.Prelude.{is_some}
use Rattle.std.specs.BTreeMap.{is_at}
use Rattle.std.specs.Map.{lookup}
use Rattle.std.specs.Ordering.{nat_cmp}
use Rattle.broker_state.specs.States.{is_open}
use Rattle.flush_core.proofs.outlet.Outlet.execute.Goals as goal

pub returns-in-Some-clause-done : goal.returns-in-Some-clause-done
returns-in-Some-clause-done g c =
    let before = c.args.broker.now.state in
    let did = c.in_ok-step_onto.ensures in
    let session : c.session-session.result ≡ c.args.command.session = c.session-session.ensures.value in
    let was : c.contains_key-was_open.result ≡ is_open before c.session-session.result = c.contains_key-was_open.ensures ∙ ap (λ entries. is_some (lookup (is_at (nat_cmp c.session-session.result)) entries)) c.sessions.ensures in
    record {
      broker = λ i. record { state = did.state i; broken = did.outcome.1 i };
      outputs = did.outs;
      ended_are = c.in_ok-note_end.ensures
          ∙ (λ i. c.args.self.now.ended.items ++ (if (was ∙ ap (λ n. is_open before n) session) i && not (is_open (did.state i) (session i)) then session i ∷ [] else []));
    }

pub returns-in_default-clause-done : goal.returns-in_default-clause-done
returns-in_default-clause-done g c =
    let before = c.args.broker.now.state in
    let did = c.in_ok-step_onto.ensures in
    let session : c.session-session.result ≡ c.args.command.session = c.session-session.ensures.value in
    let was : c.contains_key-was_open.result ≡ is_open before c.session-session.result = c.contains_key-was_open.ensures ∙ ap (λ entries. is_some (lookup (is_at (nat_cmp c.session-session.result)) entries)) c.sessions.ensures in
    record {
      broker = λ i. record { state = did.state i; broken = did.outcome.1 i };
      outputs = did.outs;
      ended_are = c.in_ok-note_end.ensures
          ∙ (λ i. c.args.self.now.ended.items ++ (if (was ∙ ap (λ n. is_open before n) session) i && not (is_open (did.state i) (session i)) then session i ∷ [] else []));
    }
