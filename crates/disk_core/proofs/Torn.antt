-- What a torn write leaves of the bytes outside its range, and that the written bytes are one of its outcomes.
use Rattle.std.proofs.Common.{◌≡◌, ◌⊎◌, inl, inr, ℕ, ◌+◌, ◌-◌, ◌<◌, ◌≤◌, List, ◌++◌, length, get_or, take, drop, refl, sym, ◌∙◌, ap, arith}
use Rattle.std.proofs.lemmas.List.{take_at, drop_at, take-append-le, length-take-le, take-take, drop-drop, drop-take, get_or-take, get_or-drop}
use Rattle.disk_core.specs.Images.{patched, Torn}
use Rattle.disk_core.proofs.Patched.{front, length-patched}

-- nothing may have changed
pub torn_same : (at n : ℕ) (d : List ℕ) → Torn at n d d
torn_same at n d = record { size = refl; before = refl; after = refl }

-- all may be written
pub torn_patched : (at n : ℕ) (ys xs : List ℕ) → length ys ≡ n → at + n ≤ length xs → Torn at n xs (patched at ys xs)
torn_patched at n ys xs size fits =
    let start : length (take at xs) ≡ at = length-take-le at xs (omega arith) in
    let long : length (take at xs ++ ys) ≡ at + n = front at ys xs (omega arith) ∙ omega arith in
    record {
      size = length-patched at ys xs (omega arith);
      before = take-append-le at (take at xs ++ ys) (drop (at + length ys) xs) (omega arith) ∙ take_at (take at xs) ys at start;
      after = drop_at (take at xs ++ ys) (drop (at + length ys) xs) (at + n) long ∙ ap (λ m. drop (at + m) xs) size;
    }

-- the first bytes stay
pub take_before : (at n k : ℕ) (d c : List ℕ) → Torn at n d c → k ≤ at → take k c ≡ take k d
take_before at n k d c torn le = sym (take-take k at c le) ∙ ap (λ (l : List ℕ). take k l) torn.before ∙ take-take k at d le

-- the last bytes stay
pub drop_after : (at n k : ℕ) (d c : List ℕ) → Torn at n d c → at + n ≤ k → drop k c ≡ drop k d
drop_after at n k d c torn le =
    let again : at + n + (k - (at + n)) ≡ k = omega (arith, le) in
    let at_c : drop k c ≡ drop (k - (at + n)) (drop (at + n) c) = sym (drop-drop (k - (at + n)) (at + n) c ∙ ap (λ j. drop j c) again) in
    let at_d : drop k d ≡ drop (k - (at + n)) (drop (at + n) d) = sym (drop-drop (k - (at + n)) (at + n) d ∙ ap (λ j. drop j d) again) in
    at_c ∙ ap (λ (l : List ℕ). drop (k - (at + n)) l) torn.after ∙ sym at_d

-- a range that does not meet it stays
pub range_outside : (at n k m : ℕ) (d c : List ℕ) → Torn at n d c → (k + m ≤ at) ⊎ (at + n ≤ k) → take m (drop k c) ≡ take m (drop k d)
range_outside at n k m d c torn (inl before) =
    sym (drop-take k m c) ∙ ap (λ (l : List ℕ). drop k l) (take_before at n (k + m) d c torn before) ∙ drop-take k m d
range_outside at n k m d c torn (inr after) = ap (λ (l : List ℕ). take m l) (drop_after at n k d c torn after)

-- a byte outside stays
pub byte_outside : (at n i : ℕ) (d c : List ℕ) → Torn at n d c → (i < at) ⊎ (at + n ≤ i) → get_or c i 0 ≡ get_or d i 0
byte_outside at n i d c torn (inl below) = sym (get_or-take at c i 0 below) ∙ ap (λ (l : List ℕ). get_or l i 0) torn.before ∙ get_or-take at d i 0 below
byte_outside at n i d c torn (inr above) =
    let again : at + n + (i - (at + n)) ≡ i = omega (arith, above) in
    let at_c : get_or c i 0 ≡ get_or (drop (at + n) c) (i - (at + n)) 0 = sym (get_or-drop (at + n) c (i - (at + n)) 0 ∙ ap (λ j. get_or c j 0) again) in
    let at_d : get_or d i 0 ≡ get_or (drop (at + n) d) (i - (at + n)) 0 = sym (get_or-drop (at + n) d (i - (at + n)) 0 ∙ ap (λ j. get_or d j 0) again) in
    at_c ∙ ap (λ (l : List ℕ). get_or l (i - (at + n)) 0) torn.after ∙ sym at_d
