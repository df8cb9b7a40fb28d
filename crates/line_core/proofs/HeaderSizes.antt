use Rattle.std.proofs.Common.{◌≤◌, ◌*◌, List, [], ◌∷◌, ℕ, length, arith}
use Rattle.std.specs.List.{AllByRecursion, sum_by}
use Rattle.std.proofs.lemmas.List.Sums.{sum_by-cons}
use Rattle.command_core.specs.Sendings.{IsKept}
use Rattle.line_core.specs.Messages.{header_size}

-- kept headers have at most 16,384 bytes each
pub sum_by-header_size-le : (hs : List (List ℕ × List ℕ)) → AllByRecursion IsKept hs → sum_by header_size hs ≤ length hs * 16384
sum_by-header_size-le [] each = omega arith
sum_by-header_size-le (h ∷ hs) each =
    omega (arith, sum_by-cons header_size h hs, sum_by-header_size-le hs each.1, each.0.name.short, each.0.value.short)
