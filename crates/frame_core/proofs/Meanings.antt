-- A name or value is UTF-8 as it stands just where it is UTF-8 as it is meant: the escapes are ASCII on both sides.
use Rattle.std.proofs.Common.{◌≡◌, ◌≢◌, ◌<◌, ◌≤◌, ℕ, List, [], ◌∷◌, ◌++◌, zero, suc, Bool, true, false, ◌&&◌, cond, nat_lt, Option, Some, None, ◌⊎◌, inl, inr, length, get_or, is_some, refl, sym, ap, ◌∙◌, subst, arith}
use Rattle.std.specs.List.{AllByRecursion}
use Rattle.std.specs.Str.{IsUtf8}
use Rattle.std.proofs.lemmas.Bool.{cases_eq, cases_Bool, both_ways, ne_eqb, and_from, and_parts, lt-ltb, ltb-true, false≢true}
use Rattle.std.proofs.lemmas.List.{append-nil}
use Rattle.std.proofs.lemmas.Str.{IsUtf8-nil, IsUtf8-append, encode_ascii, inside_one, cons_from_encodes}
use lib.Utf8.{scalar, scalars, encode, encodes}
use Rattle.escape_core.specs.Escapes.{escape_of, behind, unescaped}
use Rattle.escape_core.proofs.Reading.{unescaped_plain}
use Rattle.frame_core.specs.declared.frame.Verb.{Verb}
use Rattle.frame_core.specs.Verbs.{is_raw}
use Rattle.frame_core.specs.Heads.{meaning}

-- the first byte is itself
abbrev IsPlain : ℕ → List ℕ → List ℕ → Type 0
IsPlain b more m = (b ≢ 92) × (rest : List ℕ) × (m ≡ b ∷ rest) × (unescaped more ≡ Some rest)

-- the first two bytes are an escape
abbrev IsEscape : ℕ → List ℕ → List ℕ → Type 0
IsEscape b more m = (b ≡ 92) × (c : ℕ) × (x : ℕ) × (tail : List ℕ) × (rest : List ℕ) × (more ≡ c ∷ tail) × (c < 128) × (x < 128) × (m ≡ x ∷ rest) × (unescaped tail ≡ Some rest)

behind_some : (p : Option ℕ) (o : Option (List ℕ)) (m : List ℕ) → behind p o ≡ Some m → (x : ℕ) × (rest : List ℕ) × (p ≡ Some x) × (m ≡ x ∷ rest) × (o ≡ Some rest)
behind_some None o m h = absurd (cc)
behind_some (Some x) None m h = absurd (cc)
behind_some (Some x) (Some rest) m h = (x, rest, refl, cc, refl)

known_escape : (c x : ℕ) → escape_of c ≡ Some x → (c < 128) × (x < 128)
known_escape c x h =
    let P : ℕ → Type 0 = λ c. escape_of c ≡ Some x → (c < 128) × (x < 128) in
    elim (cases_eq c 114) [
      | inl e ↦ subst P (sym e) (λ (k : ◌≡◌ {A = Option ℕ} (Some 13) (Some x)). (omega arith, let is : 13 ≡ x = cc in omega (arith, is))) h
      | inr no_r ↦ elim (cases_eq c 110) [
        | inl e ↦ subst P (sym e) (λ (k : ◌≡◌ {A = Option ℕ} (Some 10) (Some x)). (omega arith, let is : 10 ≡ x = cc in omega (arith, is))) h
        | inr no_n ↦ elim (cases_eq c 99) [
          | inl e ↦ subst P (sym e) (λ (k : ◌≡◌ {A = Option ℕ} (Some 58) (Some x)). (omega arith, let is : 58 ≡ x = cc in omega (arith, is))) h
          | inr no_c ↦ elim (cases_eq c 92) [
            | inl e ↦ subst P (sym e) (λ (k : ◌≡◌ {A = Option ℕ} (Some 92) (Some x)). (omega arith, let is : 92 ≡ x = cc in omega (arith, is))) h
            | inr no_backslash ↦
                let none : escape_of c ≡ None = rw (ne_eqb c 114 no_r, ne_eqb c 110 no_n, ne_eqb c 99 no_c, ne_eqb c 92 no_backslash) refl in
                absurd (cc)
          ]
        ]
      ]
    ]

escaped_first : (more m : List ℕ) → unescaped (92 ∷ more) ≡ Some m → IsEscape 92 more m
escaped_first [] m h = absurd (cc)
escaped_first (c ∷ tail) m h =
    let s = behind_some (escape_of c) (unescaped tail) m h in
    let low = known_escape c s.0 s.2 in
    (refl, c, s.0, tail, s.1, refl, low.0, low.1, s.3, s.4)

plain_is : (b x : ℕ) → ◌≡◌ {A = Option ℕ} (Some b) (Some x) → x ≡ b
plain_is b x h = cc

first_meant : (b : ℕ) (more m : List ℕ) → unescaped (b ∷ more) ≡ Some m → IsPlain b more m ⊎ IsEscape b more m
first_meant b more m h =
    elim (cases_eq b 92) [
      | inl e ↦
          let P : ℕ → Type 0 = λ b. unescaped (b ∷ more) ≡ Some m → IsPlain b more m ⊎ IsEscape b more m in
          subst P (sym e) (λ k. inr (escaped_first more m k)) h
      | inr ne ↦
          let s = behind_some (Some b) (unescaped more) m (sym (unescaped_plain b more ne) ∙ h) in
          let same : s.0 ≡ b = plain_is b s.0 s.2 in
          inl (ne, s.1, s.3 ∙ ap (λ x. x ∷ s.1) same, s.4)
    ]

same_cons : (x y : ℕ) (xs ys : List ℕ) → x ∷ xs ≡ y ∷ ys → (x ≡ y) × (xs ≡ ys)
same_cons x y xs ys e = (cc, cc)

-- bytes of no ASCII
abbrev AreHigh : List ℕ → Type 0
AreHigh bytes = AllByRecursion (λ b. 128 ≤ b) bytes

all_high : (p : List ℕ) → ((k : ℕ) → k < length p → get_or p k 0 < 128 → ⊥) → AreHigh p
all_high [] h = tt
all_high (b ∷ p) h = (omega (arith, h 0 (omega arith)), all_high p (λ k lt low. h (suc k) (omega (arith, lt)) low))

char_high : (c : ℕ) → 128 ≤ c → AreHigh (encode c)
char_high c ge = all_high (encode c) (λ k lt low.
    let same = inside_one c [] (encode c) k (sym (append-nil (encode c))) lt low in
    omega (arith, same, low, ge))

-- what stands in front with no ASCII is meant as it stands
high_front : (p t m : List ℕ) → AreHigh p → unescaped (p ++ t) ≡ Some m → (rest : List ℕ) × (m ≡ p ++ rest) × (unescaped t ≡ Some rest)
high_front [] t m high h = (m, refl, h)
high_front (b ∷ p) t m high h = elim (first_meant b (p ++ t) m h) [
  | inl plain ↦
      let r = high_front p t plain.1 high.1 plain.3 in
      (r.0, plain.2 ∙ ap (λ x. b ∷ x) r.1, r.2)
  | inr escape ↦ absurd (omega (arith, escape.0, high.0))
]

-- and what is meant with no ASCII stands there
high_meant : (p q text : List ℕ) → AreHigh p → unescaped text ≡ Some (p ++ q) → (t : List ℕ) × (text ≡ p ++ t) × (unescaped t ≡ Some q)
high_meant [] q text high h = (text, refl, h)
high_meant (x ∷ p) q [] high h = absurd (cc)
high_meant (x ∷ p) q (b ∷ more) high h = elim (first_meant b more (x ∷ (p ++ q)) h) [
  | inl plain ↦
      let s = same_cons x b (p ++ q) plain.1 plain.2 in
      let r = high_meant p q more high.1 (plain.3 ∙ ap Some (sym s.1)) in
      (r.0, ap (λ y. y ∷ more) (sym s.0) ∙ ap (λ y. x ∷ y) r.1, r.2)
  | inr escape ↦
      let s = same_cons x escape.2 (p ++ q) escape.4 escape.8 in
      absurd (omega (arith, s.0, escape.7, high.0))
]

char_utf8 : (c : ℕ) → scalar c ≡ true → IsUtf8 (encode c)
char_utf8 c s = (c ∷ [], (and_from (scalar c) true s refl, append-nil (encode c)))

-- a byte of ASCII is UTF-8
pub ascii_utf8 : (b : ℕ) → b < 128 → IsUtf8 (b ∷ [])
ascii_utf8 b low = subst IsUtf8 (encode_ascii b low) (char_utf8 b (rw (lt-ltb b 55296 (omega arith)) refl))

under_128 : (c : ℕ) → (c < 128) ⊎ (128 ≤ c)
under_128 c = elim (cases_Bool (nat_lt c 128)) [
  | inl low ↦ inl (ltb-true c 128 low)
  | inr high ↦ inr (omega (arith, λ (low : c < 128). both_ways (nat_lt c 128) high (lt-ltb c 128 low)))
]

meant_by : (n : ℕ) (cs m : List ℕ) → length cs ≤ n → scalars cs ≡ true → unescaped (encodes cs) ≡ Some m → IsUtf8 m
meant_by n [] m le s h = let none : [] ≡ m = cc in subst IsUtf8 none IsUtf8-nil
meant_by zero (c ∷ cs) m le s h = absurd (omega (arith, le))
meant_by (suc n) (c ∷ cs) m le s h =
    let p = and_parts (scalar c) (scalars cs) s in
    let fits : length cs ≤ n = omega (arith, le) in
    elim (under_128 c) [
      | inr high ↦
          let r = high_front (encode c) (encodes cs) m (char_high c high) h in
          subst IsUtf8 (sym r.1) (IsUtf8-append (encode c) r.0 (char_utf8 c p.0) (meant_by n cs r.0 fits p.1 r.2))
      | inl low ↦
          let first : unescaped (c ∷ encodes cs) ≡ Some m = ap (λ x. unescaped (x ++ encodes cs)) (sym (encode_ascii c low)) ∙ h in
          elim (first_meant c (encodes cs) m first) [
            | inl plain ↦ subst IsUtf8 (sym plain.2) (IsUtf8-append (c ∷ []) plain.1 (ascii_utf8 c low) (meant_by n cs plain.1 fits p.1 plain.3))
            | inr escape ↦
                let tail = escape.3 in
                let cut = cons_from_encodes cs tail escape.1 (escape.5 ∙ ap (λ x. x ++ tail) (sym (encode_ascii escape.1 escape.6))) in
                let rest_s : scalar escape.1 && scalars cut.0 ≡ true = ap scalars (sym cut.1) ∙ p.1 in
                let rest_fits : length cut.0 ≤ n = omega (arith, ap length cut.1, fits) in
                subst IsUtf8 (sym escape.8) (IsUtf8-append (escape.2 ∷ []) escape.4 (ascii_utf8 escape.2 escape.7)
                (meant_by n cut.0 escape.4 rest_fits (and_parts (scalar escape.1) (scalars cut.0) rest_s).1 (ap unescaped cut.2 ∙ escape.9)))
          ]
    ]

no_cons : (x : ℕ) (xs : List ℕ) → [] ≡ x ∷ xs → ⊥
no_cons x xs e = cc

low_first : (c : ℕ) (cs text : List ℕ) → c < 128 → ((t : List ℕ) → unescaped t ≡ Some (encodes cs) → IsUtf8 t) → unescaped text ≡ Some (c ∷ encodes cs) → IsUtf8 text
low_first c cs [] low ih h = absurd (cc)
low_first c cs (b ∷ more) low ih h = elim (first_meant b more (c ∷ encodes cs) h) [
  | inl plain ↦
      let s = same_cons c b (encodes cs) plain.1 plain.2 in
      IsUtf8-append (b ∷ []) more (ascii_utf8 b (omega (arith, s.0, low))) (ih more (plain.3 ∙ ap Some (sym s.1)))
  | inr escape ↦
      let s = same_cons c escape.2 (encodes cs) escape.4 escape.8 in
      let tail = ih escape.3 (escape.9 ∙ ap Some (sym s.1)) in
      let whole : 92 ∷ escape.1 ∷ escape.3 ≡ b ∷ more = ap (λ x. x ∷ escape.1 ∷ escape.3) (sym escape.0) ∙ ap (λ x. b ∷ x) (sym escape.5) in
      subst IsUtf8 whole (IsUtf8-append (92 ∷ []) (escape.1 ∷ escape.3) (ascii_utf8 92 (omega arith)) (IsUtf8-append (escape.1 ∷ []) escape.3 (ascii_utf8 escape.1 escape.6) tail))
]

stands_by : (cs text : List ℕ) → scalars cs ≡ true → unescaped text ≡ Some (encodes cs) → IsUtf8 text
stands_by [] [] s h = IsUtf8-nil
stands_by [] (b ∷ more) s h = elim (first_meant b more [] h) [ inl plain ↦ absurd (no_cons b plain.1 plain.2) | inr escape ↦ absurd (no_cons escape.2 escape.4 escape.8) ]
stands_by (c ∷ cs) text s h =
    let p = and_parts (scalar c) (scalars cs) s in
    elim (under_128 c) [
      | inr high ↦
          let r = high_meant (encode c) (encodes cs) text (char_high c high) h in
          subst IsUtf8 (sym r.1) (IsUtf8-append (encode c) r.0 (char_utf8 c p.0) (stands_by cs r.0 p.1 r.2))
      | inl low ↦ low_first c cs text low (λ t. stands_by cs t p.1) (h ∙ ap (λ x. Some (x ++ encodes cs)) (encode_ascii c low))
    ]

abbrev cond_of : Bool → List ℕ → Option (List ℕ)
cond_of b text = cond b (Some text) (unescaped text)

raw_is : (text m : List ℕ) → ◌≡◌ {A = Option (List ℕ)} (Some text) (Some m) → text ≡ m
raw_is text m h = cc

-- what is meant of UTF-8 is UTF-8
pub meant_utf8 : (verb : Verb) (text m : List ℕ) → meaning verb text ≡ Some m → IsUtf8 text → IsUtf8 m
meant_utf8 verb text m h utf8 =
    elim (cases_Bool (is_raw verb)) [
      | inl raw ↦ let same : text ≡ m = raw_is text m (ap (λ b. cond_of b text) (sym raw) ∙ h) in subst IsUtf8 same utf8
      | inr escaped ↦ meant_by (length utf8.0) utf8.0 m (omega arith) utf8.1.0 (ap unescaped utf8.1.1 ∙ ap (λ b. cond_of b text) (sym escaped) ∙ h)
    ]

-- and of no other text
pub stands_utf8 : (verb : Verb) (text m : List ℕ) → meaning verb text ≡ Some m → IsUtf8 m → IsUtf8 text
stands_utf8 verb text m h utf8 =
    elim (cases_Bool (is_raw verb)) [
      | inl raw ↦ let same : text ≡ m = raw_is text m (ap (λ b. cond_of b text) (sym raw) ∙ h) in subst IsUtf8 (sym same) utf8
      | inr escaped ↦ stands_by utf8.0 text utf8.1.0 (ap (λ b. cond_of b text) (sym escaped) ∙ h ∙ ap Some (sym utf8.1.1))
    ]

some_of : (o : Option (List ℕ)) → is_some o ≡ true → (m : List ℕ) × (o ≡ Some m)
some_of None h = absurd (false≢true h)
some_of (Some m) h = (m, refl)

none_of : (o : Option (List ℕ)) → is_some o ≡ false → o ≡ None
none_of None h = refl
none_of (Some m) h = absurd (false≢true (sym h))

-- what a name or value means, where it means something
pub has_meant : (verb : Verb) (text : List ℕ) → is_some (meaning verb text) ≡ true → (m : List ℕ) × (meaning verb text ≡ Some m)
has_meant verb text h = some_of (meaning verb text) h

pub has_none : (verb : Verb) (text : List ℕ) → is_some (meaning verb text) ≡ false → meaning verb text ≡ None
has_none verb text h = none_of (meaning verb text) h
