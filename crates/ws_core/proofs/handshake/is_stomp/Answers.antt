use Rattle.std.proofs.Common.{◌≡◌, ◌-◌, length, drop, take, take_all, length-drop, arith}
use Rattle.std.proofs.lemmas.Grind.{common_steps}
use Rattle.ws_core.proofs.handshake.is_stomp.Goals as goal

pub returns-then-starts_with : goal.returns-then-starts_with
returns-then-starts_with c =
    let rest = c.skip_blanks-rest.result.now in
    let same : take (length rest - 9) (drop 9 rest) ≡ drop 9 rest = take_all (length rest - 9) (drop 9 rest) (omega (arith, length-drop 9 rest)) in
    grind (arith, common_steps, same)
