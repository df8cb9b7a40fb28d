use Rattle.std.proofs.Common.{◌≡◌, ◌∷◌, ◌∙◌, List, ap, fold, rules, sym}
use Rattle.line_core.specs.declared.message.Message.{Message}
use Rattle.broker_state.specs.Names.{Name, name_cmp}
use Rattle.broker_state.specs.Waiting.{Lines, Shared, with_message}
use Rattle.broker_tables.proofs.messages.copy_to_all.Goals as goal

pub loop-name-preserved : goal.loop-name-preserved
loop-name-preserved c =
    let m = c.args.message.now in
    let name = c.in-Some.name.now in
    let rest = c.next.new.self in
    let names = c.loop-name.shared.names in
    let copies = λ (lines : Lines Name) (ns : List Name). fold (λ more n. with_message name_cmp n m more) lines ns in
    let first : c.loop-name.name-iterator ≡ name ∷ rest = search rules in
    let same : c.in_ok-clone.field-0 ≡ m = search rules in
    let put = ap (λ (s : Shared). s.names) c.in_ok-put_under.ensures.shared ∙ ap (λ (x : Message). with_message name_cmp name x names) same in
    record {
      names = ap (λ (l : Lines Name). copies l rest) put ∙ ap (copies names) (sym first) ∙ c.loop-name.invariant.names;
      queues = ap (λ (s : Shared). s.queues) c.in_ok-put_under.ensures.shared ∙ c.loop-name.invariant.queues;
    }
