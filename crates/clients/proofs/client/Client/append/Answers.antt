use Rattle.std.proofs.Common.{ap, ◌∙◌}
use Rattle.command_core.specs.Entries.{EntryValue}
use Rattle.clients.specs.Connections.{connection_of}
use Rattle.clients.proofs.TurnAnswers.{held_takes, spoken_grows}
use Rattle.clients.proofs.ClientProgress.{refused_so, said_next}
use Rattle.clients.proofs.client.Client.append.Goals as goal

pub returns-in-Some-clause-lives : goal.returns-in-Some-clause-lives
returns-in-Some-clause-lives g c = λ executes.
    said_next (connection_of c.args.self.now) _ c.args.self.now.waiting c.args.seat.now c.speak.new.seat c.args.entry.command c.in-Ok.ticket executes c.in-Ok.ensures.spoken
    (ap (λ f. record (connection_of c.args.self.now) { progress = c.speak.new.progress; footprint = f; last = c.speak.new.last_receipt }) c.settle.ensures) c.requires.may.nothing

pub returns-in_default-clause-lives : goal.returns-in_default-clause-lives
returns-in_default-clause-lives g c = λ executes.
    said_next (connection_of c.args.self.now) _ c.args.self.now.waiting c.args.seat.now c.speak.new.seat c.args.entry.command c.in-Ok.ticket executes c.in-Ok.ensures.spoken
    (ap (λ f. record (connection_of c.args.self.now) { progress = c.speak.new.progress; footprint = f; last = c.speak.new.last_receipt }) c.settle.ensures) c.requires.may.nothing

pub returns-in-Err-clause-lives : goal.returns-in-Err-clause-lives
returns-in-Err-clause-lives g c = λ executes.
    let back = c.in-Err.ensures.back in
    refused_so c.window-window.result c.in-Err.refused (connection_of c.args.self.now) _ (connection_of c.handle_refusal.new.self) c.handle_refusal.new.self.waiting c.args.seat.now c.speak.new.seat c.args.entry.command c.in-Err.entry.command
    back.1 (ap (λ x. record (connection_of c.args.self.now) { progress = x; last = c.speak.new.last_receipt }) back.2 ∙ ap (λ x. record (connection_of c.args.self.now) { last = x }) back.3) (ap (λ (e : EntryValue _). e.command) back.0) c.handle_refusal.ensures.same c.handle_refusal.ensures.tells c.handle_refusal.ensures.halts c.handle_refusal.ensures.lives

pub returns-in-Some-clause-takes : goal.returns-in-Some-clause-takes
returns-in-Some-clause-takes g c = record {
  grows = spoken_grows c.args.entry.command c.args.self.now.progress c.speak.new.progress c.args.self.now.last_receipt c.speak.new.last_receipt c.args.seat.now c.speak.new.seat c.in-Ok.ticket c.in-Ok.ensures.spoken;
  leaves = tt;
  seen = tt;
}

pub returns-in_default-clause-takes : goal.returns-in_default-clause-takes
returns-in_default-clause-takes g c = record {
  grows = spoken_grows c.args.entry.command c.args.self.now.progress c.speak.new.progress c.args.self.now.last_receipt c.speak.new.last_receipt c.args.seat.now c.speak.new.seat c.in-Ok.ticket c.in-Ok.ensures.spoken;
  leaves = tt;
  seen = tt;
}

pub returns-in-Err-clause-takes : goal.returns-in-Err-clause-takes
returns-in-Err-clause-takes g c = held_takes c.window-window.result c.in-Err.refused _ c.handle_refusal.new.self.waiting c.handle_refusal.result c.args.seat.now c.speak.new.seat c.in-Err.ensures.back.1 c.handle_refusal.ensures.waits
