use Rattle.std.proofs.Common.{rules, ℕ, List, [], ◌∷◌, ◌++◌}
use Rattle.command_core.specs.Commands.{CommandValue}
use Rattle.area_core.specs.Reading.{IsPast}
use Rattle.world_core.proofs.Recovered.{passed_more}
use Rattle.world_core.proofs.recovering.pass_block.Goals as goal

pub returns-in-Ok-Some-clause-on : goal.returns-in-Ok-Some-clause-on
returns-in-Ok-Some-clause-on c more past =
    let content = c.args.disk.now.content in
    let cs = c.in-Ok-Some.field-0-0.items in
    let block : (snapshot : List ℕ) (blocks : List (List CommandValue)) → IsPast c.args.area.now snapshot blocks content → IsPast c.next_block.new.self snapshot (blocks ++ cs ∷ []) content = search rules in
    passed_more c.args.area.now c.next_block.new.self content cs block past
