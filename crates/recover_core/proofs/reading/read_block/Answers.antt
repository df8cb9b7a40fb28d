use Rattle.std.proofs.Common.{rules, ℕ, List, [], ◌∷◌, ◌++◌, ◌∙◌, subst}
use Rattle.command_core.specs.Commands.{CommandValue}
use Rattle.area_core.specs.Reading.{IsPast}
use Rattle.area_core.specs.declared.version.Version.{Version}
use Rattle.recover_core.specs.Opens.{IsFolded}
use Rattle.recover_core.specs.Standing.{rule_of}
use Rattle.recover_core.proofs.Walking.{block_told, refuses_walk, walked_on}
use Rattle.recover_core.proofs.reading.read_block.Goals as goal

pub returns-in-Err-clause-refuses : goal.returns-in-Err-clause-refuses
returns-in-Err-clause-refuses g c = record {
  told = λ honest w. block_told c.in-Err.fault c.args.area.now c.args.broker.now.state (g.D.Disk.content c.args.disk.now) w (c.in-Err.ensures.refused honest);
  kind = tt;
}

pub returns-in_ok-repeat_all-in-Ok-Some-clause-walks : goal.returns-in_ok-repeat_all-in-Ok-Some-clause-walks
returns-in_ok-repeat_all-in-Ok-Some-clause-walks g c honest =
    let content = g.D.Disk.content c.args.disk.now in
    let batch = c.in-Ok-Some.commands.items in
    let block : (snapshot : List ℕ) (blocks : List (List CommandValue)) → IsPast c.args.area.now snapshot blocks content → IsPast c.next_block.new.self snapshot (blocks ++ batch ∷ []) content = search rules in
    let rule : IsFolded (rule_of c.args.area.now.version) c.args.broker.now.state batch c.repeat_all.new.broker.state =
    subst (λ (v : Version). IsFolded (rule_of v) c.args.broker.now.state batch c.repeat_all.new.broker.state) (c.told_version.ensures ∙ c.next_block.ensures.place.version) c.in_ok-repeat_all-in-Ok-Some.ensures.state in
    record {
      on = λ more w. walked_on c.args.area.now c.next_block.new.self c.args.broker.now.state c.repeat_all.new.broker.state content batch c.next_block.ensures.place.version rule block w;
      end = λ more. absurd (cc more);
    }

pub returns-in_err-repeat_all-in-Ok-Some-clause-refuses : goal.returns-in_err-repeat_all-in-Ok-Some-clause-refuses
returns-in_err-repeat_all-in-Ok-Some-clause-refuses g c = refuses_walk g.D.Disk c.args.disk.now c.args.area.now c.args.broker.now.state c.from_residual.result (search rules) (search rules)
