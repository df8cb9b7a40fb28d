-- Numbers that rise.
use Rattle.std.proofs.Common.{◌≤◌, ◌<◌, ◌+◌, ◌++◌, List, [], ◌∷◌, ℕ, Bool, true, false, arith, cond, filter}
use Rattle.client_core.specs.Windows.{Rises}

-- so do they from below
lower : (low base : ℕ) (numbers : List ℕ) (high : ℕ) → base ≤ low → Rises low numbers high → Rises base numbers high
lower low base [] high under rises = omega (arith, under, rises)
lower low base (n ∷ ns) high under rises = (omega (arith, under, rises.0), rises.1)

-- and with one more
pub one_more : (low : ℕ) (numbers : List ℕ) (high : ℕ) → Rises low numbers high → Rises low (numbers ++ (high + 1) ∷ []) (high + 1)
one_more low [] high rises = (omega (arith, rises), omega arith)
one_more low (n ∷ ns) high rises = (rises.0, one_more n ns high rises.1)

-- and without some
kept : (stays : Bool) (low n : ℕ) (ns : List ℕ) (high : ℕ) → low < n → Rises n ns high → Rises low (cond stays (n ∷ ns) ns) high
kept true low n ns high above rises = (above, rises)
kept false low n ns high above rises = lower n low ns high (omega (arith, above)) rises

pub without : (test : ℕ → Bool) (low : ℕ) (numbers : List ℕ) (high : ℕ) → Rises low numbers high → Rises low (filter test numbers) high
without test low [] high rises = rises
without test low (n ∷ ns) high rises = kept (test n) low n (filter test ns) high rises.0 (without test n ns high rises.1)
