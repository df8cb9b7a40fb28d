use Rattle.std.proofs.Common.{◌∙◌, ap, sym}
use Rattle.clients.specs.Progress.{after}
use Rattle.clients.specs.declared.progress.Role.{Role}
use Rattle.clients.proofs.progress.Progress.after.Goals as goal

pub returns-in-Opens : goal.returns-in-Opens
returns-in-Opens c = sym (ap (λ (r : Role). after c.args.self r c.args.ticket) c.in-Opens.is)

pub returns-in-Talks : goal.returns-in-Talks
returns-in-Talks c = sym (ap (λ (r : Role). after c.args.self r c.args.ticket) c.in-Talks.is)

pub returns-in-Ends : goal.returns-in-Ends
returns-in-Ends c = c.over.ensures ∙ sym (ap (λ (r : Role). after c.args.self r c.args.ticket) c.in-Ends.is)
