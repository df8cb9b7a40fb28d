use Rattle.std.proofs.Common.{rules, tests}
use Rattle.std.proofs.lemmas.Iterator.{YieldsList-from_slice}
use Rattle.std.proofs.lemmas.Iterator.Search.{all_from_yields_List}
use Rattle.command_core.specs.Destinations.{is_destination_byte}
use Rattle.command_core.proofs.destination.all_may_name.Goals as goal

pub returns : goal.returns
returns c =
    all_from_yields_List is_destination_byte _ _ _ c.all.ensures.ran (YieldsList-from_slice c.args.bytes.now cc) (λ x b q k. search (rules, tests))
