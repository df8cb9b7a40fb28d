use Rattle.std.proofs.Common.{◌≡◌, ◌∙◌, [], Bor, List, Option, ap, subst, sym, unwrap_or}
use Rattle.std.specs.Option.{option_copied}
use Rattle.waiting_order.specs.declared.groups.Group.{Group}
use Rattle.waiting_order.specs.declared.groups.Place.{Place}
use Rattle.waiting_order.specs.Directories.{members}
use Rattle.waiting_order.specs.Tickets.{IsIndexOf}
use Rattle.waiting_order.proofs.Members.{next_in_members, next_of_none}
use Rattle.waiting_order.proofs.groups.next_in.Goals as goal

abbrev places_in : Option (Bor Group) → List Place
places_in o = (unwrap_or (option_copied o) (record { places = []; behind = 0 })).places

pub returns-in-Some : goal.returns-in-Some
returns-in-Some c passes ws rising group =
    let places : c.in-Some.group.now.places ≡ members passes ws = ap places_in (sym c.in-Some.is) ∙ group in
    next_in_members passes ws rising c.args.from c.index_of.result (subst (λ (l : List Place). IsIndexOf l c.args.from c.index_of.result) places c.index_of.ensures.index) c.get.result (rw places at c.get.ensures)

pub returns-in-None : goal.returns-in-None
returns-in-None c passes ws rising group =
    next_of_none passes ws c.args.from (sym group ∙ ap places_in c.in-None.is)
