-- That readers and spellings go together: steps of a reader, numbers and lists.
use Rattle.std.proofs.Common.{◌≡◌, ℕ, zero, suc, ◌<◌, ◌≤◌, ◌^◌, Bool, true, false, cond, ltb, List, [], ◌∷◌, ◌++◌, length, get_or, take, drop, flat_map, Option, Some, None, refl, sym, ap, subst, ◌∙◌, append_assoc, arith}
use Rattle.std.specs.List.{AllByRecursion}
use Rattle.std.specs.Int.{Width, w16, w32, w64, byte_len, from_be_bytes, to_be_bytes}
use Rattle.std.proofs.lemmas.Bool.{ltb-false, le-ltb}
use Rattle.std.proofs.lemmas.List.{take_at, drop_at, take-append-drop, length-append, length-take}
use Rattle.std.proofs.lemmas.List.Concat.{flat_map-cons}
use Rattle.std.proofs.lemmas.List.Elements.{All-from_recursion, All-take, All-drop, recursion_from_All}
use Rattle.std.proofs.lemmas.Nat.{be_bytes_2, be_bytes_4, be_bytes_8, from_be_bytes-to_be_bytes_2, from_be_bytes-to_be_bytes_4, from_be_bytes-to_be_bytes_8}
use Rattle.command_core.specs.PartSpellings.{AreBytes}
pub use Rattle.command_core.specs.Formats.{Takes, Format, HasBytes, FewEach, spell_few, Listed, spell_list}
use Rattle.command_core.specs.PartReading.{◌>>=◌, Reader, byte_at, number_at, many_at, few_at, listed_at}

pub Takes-then : (a x b y c : List ℕ) → Takes a x b → Takes b y c → Takes a (x ++ y) c
Takes-then a x b y c p q = record { parts = p.parts ∙ ap (λ (t : List ℕ). x ++ t) q.parts ∙ sym (append_assoc x y c); fits = q.fits }

-- ---- steps

pub bind_some : {A B : Type 0} (o : Option A) (f : A → Option B) (y : B) → (o >>= f) ≡ Some y → (x : A) × (o ≡ Some x) × (f x ≡ Some y)
bind_some (Some x) f y e = (x, refl, e)
bind_some None f y e = absurd cc

-- the first of two steps: its value, the bytes behind it, and what the second makes of them
pub record First {A B : Type 0} (spell : A → List ℕ) (Form : A → Type 0) (f : A × List ℕ → Option B) (bytes : List ℕ) (y : B) : Type 0 where
  pub value : A
  pub rest : List ℕ
  pub taken : Takes bytes (spell value) rest
  pub form : Form value
  pub then : f (value, rest) ≡ Some y

pub first_takes : {A B : Type 0} (spell : A → List ℕ) (Form : A → Type 0) (read : Reader A) → Format spell Form read → (f : A × List ℕ → Option B) (bytes : List ℕ) (y : B) → AreBytes bytes → (read bytes >>= f) ≡ Some y → First spell Form f bytes y
first_takes spell Form read format f bytes y fits e =
    let b = bind_some (read bytes) f y e in
    let t = format.takes bytes b.0.0 b.0.1 fits b.1 in
    record { value = b.0.0; rest = b.0.1; taken = t.0; form = t.1; then = b.2 }

pub first_again : {A B : Type 0} (spell : A → List ℕ) (Form : A → Type 0) (read : Reader A) → Format spell Form read → (f : A × List ℕ → Option B) (bytes : List ℕ) (x : A) (rest : List ℕ) (y : Option B) → bytes ≡ spell x ++ rest → Form x → f (x, rest) ≡ y → (read bytes >>= f) ≡ y
first_again spell Form read format f bytes x rest y is form then = ap (λ b. read b >>= f) is ∙ ap (λ o. o >>= f) (format.again x rest form) ∙ then

-- the last step
pub last_takes : {A : Type 0} (spell : A → List ℕ) (Form : A → Type 0) (bytes : List ℕ) (p q : A × List ℕ) → Some p ≡ Some q → Takes bytes (spell p.0) p.1 × Form p.0 → Takes bytes (spell q.0) q.1 × Form q.0
last_takes {A} spell Form bytes p q e t =
    let same : p ≡ q = cc in
    subst (λ (r : A × List ℕ). Takes bytes (spell r.0) r.1 × Form r.0) same t

pub guard_not : {A : Type 0} (b : Bool) (o : Option A) (y : A) → cond b None o ≡ Some y → (b ≡ false) × (o ≡ Some y)
guard_not true o y e = absurd cc
guard_not false o y e = (refl, e)

-- the last step, where a test passes, and where one does not
pub last_if : {A : Type 0} (spell : A → List ℕ) (Form : A → Type 0) (bytes : List ℕ) (b : Bool) (p q : A × List ℕ) → cond b (Some p) None ≡ Some q → (b ≡ true → Takes bytes (spell p.0) p.1 × Form p.0) → Takes bytes (spell q.0) q.1 × Form q.0
last_if spell Form bytes true p q e t = last_takes spell Form bytes p q e (t refl)
last_if spell Form bytes false p q e t = absurd cc

pub last_if_not : {A : Type 0} (spell : A → List ℕ) (Form : A → Type 0) (bytes : List ℕ) (b : Bool) (p q : A × List ℕ) → cond b None (Some p) ≡ Some q → (b ≡ false → Takes bytes (spell p.0) p.1 × Form p.0) → Takes bytes (spell q.0) q.1 × Form q.0
last_if_not spell Form bytes true p q e t = absurd cc
last_if_not spell Form bytes false p q e t = last_takes spell Form bytes p q e (t refl)

-- what is read is tested
pub tested : {A : Type 0} (spell : A → List ℕ) (Form Passes : A → Type 0) (read : Reader A) (test : A → Bool) → Format spell Form read → ((x : A) → test x ≡ true → Form x → Passes x) → ((x : A) → Passes x → Form x × (test x ≡ true))
    → Format spell Passes (λ bytes. read bytes >>= λ x. cond (test x.0) (Some x) None)
tested {A} spell Form Passes read test format passes must = record {
  takes = λ bytes x rest fits e.
      let first = first_takes spell Form read format (λ (y : A × List ℕ). cond (test y.0) (Some y) None) bytes (x, rest) fits e in
      last_if spell Passes bytes (test first.value) (first.value, first.rest) (x, rest) first.then (λ is. (first.taken, passes first.value is first.form));
  again = λ x rest form.
      let m = must x form in
      first_again spell Form read format (λ (y : A × List ℕ). cond (test y.0) (Some y) None) (spell x ++ rest) x rest (Some (x, rest)) refl m.0 (ap (λ b. cond b (Some (x, rest)) None) m.1);
}

-- ---- numbers

pub record IsWide (w : Width) (limit : ℕ) : Type 0 where
  pub len : (n : ℕ) → length (to_be_bytes w n) ≡ byte_len w
  pub back : (bytes : List ℕ) → length bytes ≡ byte_len w → AreBytes bytes → to_be_bytes w (from_be_bytes w bytes) ≡ bytes
  pub again : (n : ℕ) → n < limit → from_be_bytes w (to_be_bytes w n) ≡ n
  pub below : (bytes : List ℕ) → AreBytes bytes → from_be_bytes w bytes < limit

-- one of them, where 0 stands behind the last
byte_below : (bytes : List ℕ) → AreBytes bytes → (i : ℕ) → get_or bytes i 0 < 256
byte_below [] fits i = omega arith
byte_below (b ∷ bytes) fits zero = fits.0
byte_below (b ∷ bytes) fits (suc i) = byte_below bytes fits.1 i

pub wide16 : IsWide w16 (2 ^ 16)
wide16 = record {
  len = λ n. refl;
  back = λ bytes len fits. be_bytes_2 bytes _ len (byte_below bytes fits) refl;
  again = λ n lt. from_be_bytes-to_be_bytes_2 n lt;
  below = λ bytes fits. let b = byte_below bytes fits in omega (arith, b 0, b 1);
}

pub wide32 : IsWide w32 (2 ^ 32)
wide32 = record {
  len = λ n. refl;
  back = λ bytes len fits. be_bytes_4 bytes _ len (byte_below bytes fits) refl;
  again = λ n lt. from_be_bytes-to_be_bytes_4 n lt;
  below = λ bytes fits. let b = byte_below bytes fits in omega (arith, b 0, b 1, b 2, b 3);
}

pub wide64 : IsWide w64 (2 ^ 64)
wide64 = record {
  len = λ n. refl;
  back = λ bytes len fits. be_bytes_8 bytes _ len (byte_below bytes fits) refl;
  again = λ n lt. from_be_bytes-to_be_bytes_8 n lt;
  below = λ bytes fits. let b = byte_below bytes fits in omega (arith, b 0, b 1, b 2, b 3, b 4, b 5, b 6, b 7);
}

pub AreBytes-take : (n : ℕ) (bytes : List ℕ) → AreBytes bytes → AreBytes (take n bytes)
AreBytes-take n bytes fits = recursion_from_All (λ b. b < 256) _ (All-take (λ b. b < 256) n bytes (All-from_recursion (λ b. b < 256) bytes fits))

pub AreBytes-drop : (n : ℕ) (bytes : List ℕ) → AreBytes bytes → AreBytes (drop n bytes)
AreBytes-drop n bytes fits = recursion_from_All (λ b. b < 256) _ (All-drop (λ b. b < 256) n bytes (All-from_recursion (λ b. b < 256) bytes fits))

-- so many bytes from the front
pub front_takes : (n : ℕ) (bytes : List ℕ) → AreBytes bytes → Takes bytes (take n bytes) (drop n bytes)
front_takes n bytes fits = record { parts = sym (take-append-drop n bytes); fits = AreBytes-drop n bytes fits }

pub number : (w : Width) (limit : ℕ) → IsWide w limit → Format (to_be_bytes w) (λ n. n < limit) (number_at w)
number w limit wide = record {
  takes = λ bytes n rest fits e.
      last_if_not (to_be_bytes w) (λ n. n < limit) bytes (ltb (length bytes) (byte_len w)) (from_be_bytes w (take (byte_len w) bytes), drop (byte_len w) bytes) (n, rest) e (λ is.
      let long : byte_len w ≤ length bytes = ltb-false _ _ is in
      let front_fits = AreBytes-take (byte_len w) bytes fits in
      let front : to_be_bytes w (from_be_bytes w (take (byte_len w) bytes)) ≡ take (byte_len w) bytes = wide.back _ (omega (arith, length-take (byte_len w) bytes)) front_fits in
      let taken : Takes bytes (to_be_bytes w (from_be_bytes w (take (byte_len w) bytes))) (drop (byte_len w) bytes) = subst (λ (t : List ℕ). Takes bytes t (drop (byte_len w) bytes)) (sym front) (front_takes (byte_len w) bytes fits) in
      (taken, wide.below _ front_fits));
  again = λ n rest lt.
      let len = wide.len n in
      let long : ltb (length (to_be_bytes w n ++ rest)) (byte_len w) ≡ false = le-ltb _ _ (omega (arith, length-append (to_be_bytes w n) rest)) in
      rw (long, take_at (to_be_bytes w n) rest (byte_len w) len, drop_at (to_be_bytes w n) rest (byte_len w) len, wide.again n lt) refl;
}

pub byte : Format (λ (b : ℕ). b ∷ []) (λ b. b < 256) byte_at
byte = record { takes = byte_takes; again = λ b rest lt. refl }
  where
    byte_takes : (bytes : List ℕ) (b : ℕ) (rest : List ℕ) → AreBytes bytes → byte_at bytes ≡ Some (b, rest) → Takes bytes (b ∷ []) rest × (b < 256)
    byte_takes [] b rest fits e = absurd cc
    byte_takes (c ∷ bytes) b rest fits e = last_takes (λ (b : ℕ). b ∷ []) (λ b. b < 256) (c ∷ bytes) (c, bytes) (b, rest) e (record { parts = refl; fits = fits.1 }, fits.0)

-- ---- lists

pub many_takes : {A : Type 0} (spell : A → List ℕ) (Form : A → Type 0) (read : Reader A) → Format spell Form read → (n : ℕ) (bytes : List ℕ) (xs : List A) (rest : List ℕ) → AreBytes bytes → many_at read n bytes ≡ Some (xs, rest)
    → Takes bytes (flat_map spell xs) rest × ((length xs ≡ n) × AllByRecursion Form xs)
unfolding many_at
many_takes {A} spell Form read format zero bytes xs rest fits e =
    last_takes (flat_map spell) (λ ys. (length ys ≡ 0) × AllByRecursion Form ys) bytes ([], bytes) (xs, rest) e (record { parts = refl; fits = fits }, (refl, tt))
many_takes {A} spell Form read format (suc n) bytes xs rest fits e =
    let first = first_takes spell Form read format (λ (x : A × List ℕ). many_at read n x.1 >>= λ others. Some (x.0 ∷ others.0, others.1)) bytes (xs, rest) fits e in
    let b = bind_some (many_at read n first.rest) (λ others. Some (first.value ∷ others.0, others.1)) (xs, rest) first.then in
    let others = many_takes spell Form read format n first.rest b.0.0 b.0.1 first.taken.fits b.1 in
    let both = Takes-then bytes (spell first.value) first.rest (flat_map spell b.0.0) b.0.1 first.taken others.0 in
    last_takes (flat_map spell) (λ ys. (length ys ≡ suc n) × AllByRecursion Form ys) bytes (first.value ∷ b.0.0, b.0.1) (xs, rest) b.2 (rw flat_map-cons both, (ap suc others.1.0, (first.form, others.1.1)))

pub many_again : {A : Type 0} (spell : A → List ℕ) (Form : A → Type 0) (read : Reader A) → Format spell Form read → (xs : List A) (rest : List ℕ) → AllByRecursion Form xs → many_at read (length xs) (flat_map spell xs ++ rest) ≡ Some (xs, rest)
unfolding many_at
many_again spell Form read format [] rest forms = refl
many_again {A} spell Form read format (x ∷ xs) rest forms =
    first_again spell Form read format (λ (y : A × List ℕ). many_at read (length xs) y.1 >>= λ others. Some (y.0 ∷ others.0, others.1)) (flat_map spell (x ∷ xs) ++ rest) x (flat_map spell xs ++ rest) (Some (x ∷ xs, rest))
    (ap (λ (y : List ℕ). y ++ rest) (flat_map-cons spell x xs) ∙ append_assoc (spell x) (flat_map spell xs) rest) forms.0
    (ap (λ o. o >>= λ others. Some (x ∷ others.0, others.1)) (many_again spell Form read format xs rest forms.1))

-- so there are no more of them than bytes
no_more : {A : Type 0} (spell : A → List ℕ) → HasBytes spell → (xs : List A) (rest : List ℕ) → length xs ≤ length (flat_map spell xs ++ rest)
no_more spell bytes [] rest = omega arith
no_more spell bytes (x ∷ xs) rest =
    let behind = no_more spell bytes xs rest in
    let here = bytes x in
    let whole : flat_map spell (x ∷ xs) ++ rest ≡ spell x ++ (flat_map spell xs ++ rest) = ap (λ (y : List ℕ). y ++ rest) (flat_map-cons spell x xs) ∙ append_assoc (spell x) (flat_map spell xs) rest in
    omega (arith, behind, here, ap (λ (y : List ℕ). length y) whole, length-append (spell x) (flat_map spell xs ++ rest))

-- so many, unless there are fewer bytes
abbrev bounded : {A : Type 0} → Reader A → ℕ × List ℕ → Option (List A × List ℕ)
bounded read n = cond (ltb (length n.1) n.0) None (many_at read n.0 n.1)

bounded_again : {A : Type 0} (spell : A → List ℕ) (Form : A → Type 0) (read : Reader A) → Format spell Form read → HasBytes spell → (xs : List A) (rest : List ℕ) → AllByRecursion Form xs → bounded read (length xs, flat_map spell xs ++ rest) ≡ Some (xs, rest)
bounded_again spell Form read format bytes xs rest forms =
    ap (λ b. cond b None (many_at read (length xs) (flat_map spell xs ++ rest))) (le-ltb (length (flat_map spell xs ++ rest)) (length xs) (no_more spell bytes xs rest)) ∙ many_again spell Form read format xs rest forms

few_takes : {A : Type 0} (spell : A → List ℕ) (Form : A → Type 0) (read : Reader A) → Format spell Form read → (bytes : List ℕ) (xs : List A) (rest : List ℕ) → AreBytes bytes → few_at read bytes ≡ Some (xs, rest)
    → Takes bytes (spell_few spell xs) rest × FewEach Form xs
unfolding few_at
few_takes {A} spell Form read format bytes xs rest fits e =
    let count = first_takes (to_be_bytes w16) (λ n. n < 2 ^ 16) (number_at w16) (number w16 (2 ^ 16) wide16) (λ (n : ℕ × List ℕ). cond (ltb 64 n.0) None (bounded read n)) bytes (xs, rest) fits e in
    let g = guard_not (ltb 64 count.value) (bounded read (count.value, count.rest)) (xs, rest) count.then in
    let b = guard_not (ltb (length count.rest) count.value) (many_at read count.value count.rest) (xs, rest) g.1 in
    let few : count.value ≤ 64 = ltb-false _ _ g.0 in
    let many = many_takes spell Form read format count.value count.rest xs rest count.taken.fits b.1 in
    let both = Takes-then bytes (to_be_bytes w16 count.value) count.rest (flat_map spell xs) rest count.taken many.0 in
    let is : Takes bytes (spell_few spell xs) rest = subst (λ (n : ℕ). Takes bytes (to_be_bytes w16 n ++ flat_map spell xs) rest) (sym many.1.0) both in
    (is, (omega (arith, few, many.1.0), many.1.1))

few_again : {A : Type 0} (spell : A → List ℕ) (Form : A → Type 0) (read : Reader A) → Format spell Form read → HasBytes spell → (xs : List A) (rest : List ℕ) → FewEach Form xs → few_at read (spell_few spell xs ++ rest) ≡ Some (xs, rest)
unfolding few_at
few_again {A} spell Form read format bytes xs rest forms =
    first_again (to_be_bytes w16) (λ n. n < 2 ^ 16) (number_at w16) (number w16 (2 ^ 16) wide16) (λ (n : ℕ × List ℕ). cond (ltb 64 n.0) None (bounded read n)) (spell_few spell xs ++ rest) (length xs) (flat_map spell xs ++ rest) (Some (xs, rest))
    (append_assoc (to_be_bytes w16 (length xs)) (flat_map spell xs) rest) (omega (arith, forms.0))
    (ap (λ b. cond b None (bounded read (length xs, flat_map spell xs ++ rest))) (le-ltb 64 (length xs) forms.0) ∙ bounded_again spell Form read format bytes xs rest forms.1)

pub few : {A : Type 0} (spell : A → List ℕ) (Form : A → Type 0) (read : Reader A) → Format spell Form read → HasBytes spell → Format (spell_few spell) (FewEach Form) (few_at read)
few spell Form read format bytes = record { takes = few_takes spell Form read format; again = few_again spell Form read format bytes }

listed_takes : {A : Type 0} (spell : A → List ℕ) (Form : A → Type 0) (read : Reader A) → Format spell Form read → (bytes : List ℕ) (xs : List A) (rest : List ℕ) → AreBytes bytes → listed_at read bytes ≡ Some (xs, rest)
    → Takes bytes (spell_list spell xs) rest × Listed Form xs
unfolding listed_at
listed_takes {A} spell Form read format bytes xs rest fits e =
    let count = first_takes (to_be_bytes w32) (λ n. n < 2 ^ 32) (number_at w32) (number w32 (2 ^ 32) wide32) (bounded read) bytes (xs, rest) fits e in
    let b = guard_not (ltb (length count.rest) count.value) (many_at read count.value count.rest) (xs, rest) count.then in
    let many = many_takes spell Form read format count.value count.rest xs rest count.taken.fits b.1 in
    let both = Takes-then bytes (to_be_bytes w32 count.value) count.rest (flat_map spell xs) rest count.taken many.0 in
    (subst (λ (n : ℕ). Takes bytes (to_be_bytes w32 n ++ flat_map spell xs) rest) (sym many.1.0) both, (subst (λ (n : ℕ). n < 2 ^ 32) (sym many.1.0) count.form, many.1.1))

listed_again : {A : Type 0} (spell : A → List ℕ) (Form : A → Type 0) (read : Reader A) → Format spell Form read → HasBytes spell → (xs : List A) (rest : List ℕ) → Listed Form xs → listed_at read (spell_list spell xs ++ rest) ≡ Some (xs, rest)
unfolding listed_at
listed_again spell Form read format bytes xs rest form =
    first_again (to_be_bytes w32) (λ n. n < 2 ^ 32) (number_at w32) (number w32 (2 ^ 32) wide32) (bounded read) (spell_list spell xs ++ rest) (length xs) (flat_map spell xs ++ rest) (Some (xs, rest))
    (append_assoc (to_be_bytes w32 (length xs)) (flat_map spell xs) rest) form.0 (bounded_again spell Form read format bytes xs rest form.1)

pub listed : {A : Type 0} (spell : A → List ℕ) (Form : A → Type 0) (read : Reader A) → Format spell Form read → HasBytes spell → Format (spell_list spell) (Listed Form) (listed_at read)
listed spell Form read format bytes = record { takes = listed_takes spell Form read format; again = listed_again spell Form read format bytes }
