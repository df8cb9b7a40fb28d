-- A header of 32 bytes, of which a write changes what lies in it.
use Rattle.std.proofs.Common.{◌≡◌, inl, inr, ℕ, ◌+◌, ◌-◌, ◌<◌, ◌≤◌, List, ◌++◌, length, take, drop, sym, ◌∙◌, ap, arith, append_assoc}
use Rattle.std.proofs.lemmas.List.{append-nil, drop_all, length-take-le, take-append-le, take_all, take_at}
use Rattle.std.proofs.lemmas.Bool.{cases_lt}
use Rattle.std.proofs.Math.Seq.{take-append-add}
use Rattle.disk_core.specs.Images.{patched}
use Rattle.disk_core.proofs.Patched.{length-patched}

-- a write that ends in the header
ends_in : (n at : ℕ) (bytes header : List ℕ) → length header ≡ n → at + length bytes ≤ n → patched at (take (n - at) bytes) header ≡ take n (patched at bytes header)
ends_in n at bytes header size inside =
    ap (λ (l : List ℕ). patched at l header) (take_all (n - at) bytes (omega arith))
    ∙ sym (take_all n (patched at bytes header) (omega (arith, length-patched at bytes header (omega arith))))

-- one that ends after it
passes : (n at : ℕ) (bytes header : List ℕ) → length header ≡ n → at ≤ n → n < at + length bytes → patched at (take (n - at) bytes) header ≡ take n (patched at bytes header)
passes n at bytes header size inside long =
    let count = length-take-le (n - at) bytes (omega arith) in
    let front = length-take-le at header (omega arith) in
    let rest = drop (at + length bytes) header in
    let whole : length (take at header) + (n - at) ≡ n = omega (arith, front) in
    ap (λ (l : List ℕ). take at header ++ take (n - at) bytes ++ l) (drop_all (at + length (take (n - at) bytes)) header (omega (arith, count)))
    ∙ append-nil (take at header ++ take (n - at) bytes)
    ∙ sym (ap (λ (l : List ℕ). take n l) (append_assoc (take at header) bytes rest)
    ∙ ap (λ (m : ℕ). take m (take at header ++ (bytes ++ rest))) (sym whole)
    ∙ take-append-add (take at header) (bytes ++ rest) (n - at)
    ∙ ap (λ (l : List ℕ). take at header ++ l) (take-append-le (n - at) bytes rest (omega arith)))

-- a write that begins in the header
pub begins_in : (n at : ℕ) (bytes header : List ℕ) → length header ≡ n → at ≤ n → patched at (take (n - at) bytes) header ≡ take n (patched at bytes header)
begins_in n at bytes header size inside =
    elim (cases_lt n (at + length bytes)) [
      | inl long ↦ passes n at bytes header size inside long
      | inr ends ↦ ends_in n at bytes header size (omega (arith, ends))
    ]

-- a write that begins after it
pub begins_after : (n at : ℕ) (bytes header : List ℕ) → length header ≡ n → n ≤ at → header ≡ take n (patched at bytes header)
begins_after n at bytes header size after =
    let all = take_all at header (omega arith) in
    let rest = drop (at + length bytes) header in
    sym (ap (λ (l : List ℕ). take n l) (append_assoc (take at header) bytes rest)
    ∙ ap (λ (l : List ℕ). take n (l ++ (bytes ++ rest))) all
    ∙ take_at header (bytes ++ rest) n size)
