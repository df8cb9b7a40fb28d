use Rattle.std.proofs.Common.{◌≡◌, ◌<◌, ◌≤◌, ◌+◌, ◌++◌, ◌∷◌, ◌∙◌, ◌^◌, [], ℕ, ap, arith, length, subst, sym}
use Rattle.std.specs.List.{AllByRecursion}
use Rattle.std.proofs.lemmas.Result.{on_ok_weaker}
use Rattle.frame_core.proofs.Lists.{all_push}
use Rattle.waiting_order.specs.Directories.{AreFound, IsDirectory, IsSlotted}
use Rattle.waiting_order.specs.Waiting.{Waiting, subs_of}
use Rattle.waiting_order.proofs.Keeping.{subs_pushed}
use Rattle.waiting_order.proofs.Rising.{rising_few}
use Rattle.waiting_order.proofs.Timed.{W, ticket_of}
use Rattle.waiting_order.proofs.order.enter.Goals as goal

pub join-requires : goal.join-requires
join-requires c =
    let o = c.args.waiters.now in
    let order = c.next-ticket.ensures.order in
    (o.all, c.requires.found.directory, subst (λ (n : ℕ). AllByRecursion (λ (w : W). w.1.ticket < n) o.all) (sym c.next-ticket.ensures.next) order.under, omega (arith, rising_few ticket_of o.all o.next order.rising order.under, c.requires.number))

pub returns-clause-added : goal.returns-clause-added
returns-clause-added c =
    let o = c.args.waiters.now in
    let w : W = (c.free_key-key.result, record { ticket = o.next; group = c.in_ok-group.group; sub = c.args.sub }) in
    on_ok_weaker c.insert.result (λ is. ap (λ (x : Waiting). subs_of x.all) is ∙ subs_pushed o.all w) c.insert.ensures.ok

pub returns-clause-found : goal.returns-clause-found
returns-clause-found c =
    let o = c.args.waiters.now in
    let group = c.in_ok-group.group in
    let w : W = (c.free_key-key.result, record { ticket = o.next; group = group; sub = c.args.sub }) in
    let d = c.join.new.self in
    let dir = subst (λ (n : ℕ). IsDirectory d (o.all ++ (c.free_key-key.result, record { ticket = n; group = group; sub = c.args.sub }) ∷ [])) c.next-ticket.ensures.next (c.in_ok-group.ensures o.all c.requires.found.directory) in
    on_ok_weaker c.insert.result (λ is. subst (AreFound d) (sym (ap (λ (x : Waiting). x.all) is)) (record {
      slots = all_push IsSlotted o.all w c.requires.found.slots (c.free_key-key.ensures.session, c.free_key-key.ensures.slot);
      directory = dir;
    })) c.insert.ensures.ok
