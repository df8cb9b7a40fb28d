-- Reading a number, and reading one after the other, as a loop does.
use Rattle.std.proofs.Common.{◌≡◌, ℕ, suc, ◌-◌, ◌+◌, ◌≤◌, ◌<◌, List, [], ◌∷◌, ◌++◌, length, take, drop, Option, Some, None, refl, sym, ap, ◌∙◌, append_assoc, arith}
use Rattle.std.specs.Int.{Width, byte_len, from_be_bytes}
use Rattle.std.proofs.lemmas.Bool.{le-ltb}
use Rattle.std.proofs.lemmas.List.{append-nil}
use Rattle.command_core.specs.declared.decoding.DecodeFault.{DecodeFault}
use Rattle.command_core.specs.declared.decoding.DecodeFault.TheVariants as faults
use Rattle.command_core.specs.PartReading.{◌>>=◌, Fails, Reader, number_at, many_at}

-- so many bytes as a number has, and the others
pub number_read : (w : Width) (bytes front rest : List ℕ) (n : ℕ) → byte_len w ≤ length bytes → front ≡ take (byte_len w) bytes → rest ≡ drop (byte_len w) bytes → n ≡ from_be_bytes w front → number_at w bytes ≡ Some (n, rest)
number_read w bytes front rest n long first others value = rw (le-ltb _ _ long, value, first, others) refl

-- what was read before, and what is still read
abbrev pub with_front : {A : Type 0} → List A → Option (List A × List ℕ) → Option (List A × List ℕ)
with_front front read = read >>= λ x. Some (front ++ x.0, x.1)

regroup : {A : Type 0} (front : List A) (one : A) (read : Option (List A × List ℕ)) → with_front front (read >>= λ x. Some (one ∷ x.0, x.1)) ≡ with_front (front ++ one ∷ []) read
regroup {A} front one (Some x) = ap (λ (all : List A). Some (all, x.1)) (simp append_assoc)
regroup front one None = refl

pub goes_on : {A : Type 0} (read : Reader A) (front : List A) (count i : ℕ) (bytes : List ℕ) (one : A) (after : List ℕ) (total : Option (List A × List ℕ)) → i < count → read bytes ≡ Some (one, after)
    → with_front front (many_at read (count - i) bytes) ≡ total → with_front (front ++ one ∷ []) (many_at read (count - (i + 1)) after) ≡ total
unfolding many_at
goes_on read front count i bytes one after total lt h so_far =
    let k : count - i ≡ suc (count - (i + 1)) = omega arith in
    let turn : with_front front (many_at read (count - i) bytes) ≡ with_front (front ++ one ∷ []) (many_at read (count - (i + 1)) after) = rw (k, h) (regroup front one (many_at read (count - (i + 1)) after)) in
    sym turn ∙ so_far

pub ends : {A : Type 0} (e : DecodeFault) (read : Reader A) (front : List A) (count i : ℕ) (bytes : List ℕ) (total : Option (List A × List ℕ)) → i < count → Fails e (read bytes)
    → with_front front (many_at read (count - i) bytes) ≡ total → Fails e total
unfolding many_at
ends (faults.Memory refused) read front count i bytes total lt h so_far = tt
ends faults.NoSpelling read front count i bytes total lt h so_far =
    let k : count - i ≡ suc (count - (i + 1)) = omega arith in
    let turn : with_front front (many_at read (count - i) bytes) ≡ None = rw (k, h) refl in
    sym so_far ∙ turn

pub is_done : {A : Type 0} (read : Reader A) (front : List A) (count i : ℕ) (bytes : List ℕ) (total : Option (List A × List ℕ)) → count ≤ i → with_front front (many_at read (count - i) bytes) ≡ total → total ≡ Some (front, bytes)
unfolding many_at
is_done {A} read front count i bytes total le so_far =
    let k : count - i ≡ 0 = omega arith in
    let turn : with_front front (many_at read (count - i) bytes) ≡ Some (front, bytes) = rw k (ap (λ (all : List A). Some (all, bytes)) (append-nil front)) in
    sym so_far ∙ turn
