use Rattle.std.proofs.Common.{◌≤◌, length, arith, subst, sym, List, ℕ}
use Rattle.std.specs.List.{AllByRecursion}
use Rattle.command_core.specs.Sendings.{IsKept}
use Rattle.session_core.proofs.ReadFrames.{all_kept, few_kept}
use Rattle.session_core.proofs.requests.send.Goals as goal

pub new-sending-requires : goal.new-sending-requires
new-sending-requires c =
    let headers = c.args.frame.headers in
    record {
      few = subst (λ (hs : List (List ℕ × List ℕ)). length hs ≤ 64) (sym c.in_ok-headers-in-Ok.ensures) (omega (arith, few_kept headers, c.requires.few));
      each = subst (AllByRecursion IsKept) (sym c.in_ok-headers-in-Ok.ensures) (all_kept headers c.requires.each);
      short = c.requires.short;
    }
