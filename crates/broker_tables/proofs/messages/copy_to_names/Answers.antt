use Rattle.std.proofs.Common.{◌∙◌, List, ℕ, ap, fold, sym}
use Rattle.std.proofs.lemmas.Result.{on_ok_weaker}
use Rattle.broker_state.specs.Names.{Name, name_cmp}
use Rattle.broker_state.specs.Waiting.{Lines, with_message}
use Rattle.broker_tables.specs.Topics.{names_of}
use Rattle.broker_tables.proofs.Topics.{copied_names}
use Rattle.broker_tables.proofs.messages.copy_to_names.Goals as goal

pub returns-in-Some : goal.returns-in-Some
returns-in-Some c =
    let m = c.args.message.now in
    let shared = c.args.shared.now in
    let durables = c.args.durables.now in
    let names = c.in-Some.ensures ∙ ap (λ (to : List ℕ). names_of to durables) c.destination.ensures.value in
    let copies = ap (fold (λ more (name : Name). with_message name_cmp name m more) shared.names) names ∙ sym (copied_names m durables shared.names) in
    on_ok_weaker c.copy_to_all.result (λ is. is ∙ ap (λ (lines : Lines Name). record shared { names = lines }) copies) c.copy_to_all.ensures

pub returns-in-None : goal.returns-in-None
returns-in-None c =
    let m = c.args.message.now in
    let shared = c.args.shared.now in
    let durables = c.args.durables.now in
    let names = c.in-None.ensures ∙ ap (λ (to : List ℕ). names_of to durables) c.destination.ensures.value in
    ap (λ (lines : Lines Name). record shared { names = lines }) (ap (fold (λ more (name : Name). with_message name_cmp name m more) shared.names) names ∙ sym (copied_names m durables shared.names))
