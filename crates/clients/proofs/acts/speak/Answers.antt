use Rattle.std.proofs.Common.{◌≡◌, ◌∙◌, Bool, Some, ap, rules, sym, subst}
use Rattle.std.specs.Prelude.{cond}
use Rattle.clients.specs.Progress.{after, is_last, role_of}
use Rattle.clients.specs.declared.progress.Progress.{Progress}
use Rattle.clients.specs.Continues.{Continues}
use Rattle.clients.proofs.TurnAnswers.{wider}
use Rattle.clients.proofs.SeatConversations.{said, unsaid}
use Rattle.clients.proofs.acts.speak.Goals as goal

pub returns-in-Ok-clause-continues : goal.returns-in-Ok-clause-continues
returns-in-Ok-clause-continues g c =
    let was = c.args.progress.now in
    let command = c.args.entry.command in
    let role : c.of-role.result ≡ role_of command.op = search rules in
    let is : c.after.result ≡ after was (role_of command.op) c.in-Ok.ticket = c.after.ensures ∙ ap (λ r. after was r c.in-Ok.ticket) role in
    subst (λ (p : Progress). Continues was c.args.seat.now p c.append_within.new.seat) (sym is) (said was c.in-Ok.ticket _ command c.args.seat.now c.append_within.new.seat c.requires.next c.in-Ok.ensures.ok)

pub returns-in-Ok-clause-spoken : goal.returns-in-Ok-clause-spoken
returns-in-Ok-clause-spoken g c =
    let was = c.args.progress.now in
    let command = c.args.entry.command in
    let role : c.of-role.result ≡ role_of command.op = search rules in
    let last : c.is_last-is_last.result ≡ is_last command = search rules in record {
      appends = wider c.args.window _ c.args.seat.now c.append_within.new.seat c.in-Ok.ticket c.args.entry.command c.requires.window c.in-Ok.ensures.ok;
      next = c.requires.next;
      progress = c.after.ensures ∙ ap (λ r. after was r c.in-Ok.ticket) role;
      last = c.last_after.ensures ∙ ap (λ (b : Bool). cond b (Some c.in-Ok.ticket) c.args.last_receipt.now) last;
    }

pub returns-in-Err-clause-continues : goal.returns-in-Err-clause-continues
returns-in-Err-clause-continues g c = unsaid c.args.progress.now _ c.in-Err.back.1 c.args.seat.now c.append_within.new.seat c.in-Err.ensures.refused.1
