use Rattle.std.proofs.Common.{rules, ◌≡◌, ◌∙◌, Some, ap}
use Rattle.std.specs.BTreeMap.{is_at}
use Rattle.std.specs.Map.{lookup, set_value}
use Rattle.std.specs.Ordering.{nat_cmp}
use Rattle.std.proofs.lemmas.Map.Steps.{set_value_same}
use Rattle.outbox_core.proofs.boxes.is_waited_for.Goals as goal

pub returns-in-Some : goal.returns-in-Some
returns-in-Some g c =
    let es = c.args.all.now.entries in
    let test = is_at (nat_cmp c.args.session) in
    let found : lookup test es ≡ Some c.in-Some.sender.now = search rules in
    let set : (c.get_mut.follows.lender c.is_waited_for.new.self).entries ≡ set_value test es c.is_waited_for.new.self = (c.get_mut.follows.holds c.is_waited_for.new.self).0 in
    set ∙ ap (set_value test es) c.is_waited_for.ensures ∙ set_value_same test es c.in-Some.sender.now found
