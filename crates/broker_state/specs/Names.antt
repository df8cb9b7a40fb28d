use Rattle.std.specs.Prelude.{◌≡◌, List, ℕ}
use Rattle.std.specs.Cmp.Lexicographic.{slice_cmp}
use Rattle.std.specs.Ordering.{nat_cmp, ordering_then}
use Rattle.std.specs.declared.cmp.Ordering.{Ordering}
use Rattle.std.specs.declared.cmp.Ordering.TheVariants.{Equal}

-- a durable name: that of the client, and that of its subscription
abbrev pub Name : Type 0
Name = List ℕ × List ℕ

-- texts by their bytes
abbrev pub text_cmp : List ℕ → List ℕ → Ordering
text_cmp = slice_cmp nat_cmp

-- durable names by the client's name, and then by the subscription's
abbrev pub name_cmp : Name → Name → Ordering
name_cmp a b = ordering_then (text_cmp a.0 b.0) (text_cmp a.1 b.1)

-- keys that compare as equal are the same
abbrev pub AreSame : {K : Type 0} → (K → K → Ordering) → Type 0
AreSame {K} cmp = (a b : K) → cmp a b ≡ Equal → a ≡ b
