use Rattle.std.proofs.Common.{◌≡◌, rules, sym, subst}
use Rattle.command_core.specs.Destinations.{IsDestination}
use Rattle.command_core.proofs.destination.Dest.read.Goals as goal

pub invariant_of-result : goal.invariant_of-result
invariant_of-result c =
    let same : c.in_ok-text.text ≡ c.args.text.now = search rules in
    subst IsDestination (sym same) (search rules)
