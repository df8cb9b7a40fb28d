use Rattle.std.proofs.Common.{◌≡◌, ◌-◌, length, drop, take, take_all, length-drop, arith}
use Rattle.std.proofs.lemmas.Grind.{common_steps}
use Rattle.session_core.proofs.requests.is_version_item.Goals as goal

pub returns-then-starts_with : goal.returns-then-starts_with
returns-then-starts_with c =
    let rest = c.skip_blanks-rest.result.now in
    let same : take (length rest - 3) (drop 3 rest) ≡ drop 3 rest = take_all (length rest - 3) (drop 3 rest) (omega (arith, length-drop 3 rest)) in
    grind (arith, common_steps, same)
