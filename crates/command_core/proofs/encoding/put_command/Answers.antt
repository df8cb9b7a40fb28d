use Rattle.std.proofs.Common.{◌≡◌, ◌++◌, ℕ, List, Option, IfSome, refl, ap, subst, ◌∙◌, arith}
use Rattle.std.specs.Int.{w64, to_be_bytes}
use Rattle.std.proofs.lemmas.Result.{on_ok_weaker}
use Rattle.command_core.specs.declared.command.Op.{Op}
use Rattle.command_core.specs.PartSpellings.{IsText, optional}
use Rattle.command_core.specs.Spellings.{IsOperation, operation}
use Rattle.command_core.proofs.Walks.{put_three}
use Rattle.command_core.proofs.encoding.put_command.Goals as goal

pub returns-clause-put : goal.returns-clause-put
returns-clause-put c =
    let command = c.args.command.now in
    let number : c.extend_from_slice.new.self.items ≡ c.args.out.now.items ++ to_be_bytes w64 command.session = c.in_ok-extend_from_slice.ensures.items ∙ ap (λ (bytes : List ℕ). c.args.out.now.items ++ bytes) (c.to_be_bytes.ensures ∙ ap (λ (n : ℕ). to_be_bytes w64 n) c.session.ensures.value) in
    let receipt = c.in_ok-put_optional.ensures.put ∙ ap (λ (r : Option (List ℕ)). c.extend_from_slice.new.self.items ++ optional r) c.receipt-asked.ensures.value in
    on_ok_weaker c.put_operation.result (λ put. put_three _ _ _ _ (to_be_bytes w64 command.session) (optional command.receipt) (operation command.op) number receipt (put ∙ ap (λ (op : Op). c.put_optional.new.out.items ++ operation op) c.op.ensures.value)) c.put_operation.ensures.put

pub returns-clause-form : goal.returns-clause-form
returns-clause-form c =
    on_ok_weaker c.put_operation.result (λ form. record {
      session = omega (arith, c.session.ensures.value);
      receipt = subst (λ (r : Option (List ℕ)). IfSome r IsText) c.receipt-asked.ensures.value c.in_ok-put_optional.ensures.form;
      operation = subst IsOperation c.op.ensures.value form;
      form = c.op.ensures.form;
      spelled = refl;
    }) c.put_operation.ensures.form
