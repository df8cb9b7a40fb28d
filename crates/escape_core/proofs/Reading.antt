use Rattle.std.proofs.Common.{◌≡◌, ◌≢◌, ℕ, List, [], ◌∷◌, ◌++◌, Option, Some, None, Bool, true, false, cond, inl, inr, length, get_or, take, drop, ◌<◌, ◌≤◌, ◌+◌, refl, sym, is_some, eqb, not, ap, ◌∙◌, subst, append_assoc, append-nil}
use Rattle.std.specs.List.{AllByRecursion}
use Rattle.std.specs.Option.{IsSome}
use Rattle.std.proofs.lemmas.Bool.{cases_eq, ne_eqb, false≢true}
use Rattle.std.proofs.lemmas.Grind.{flat_map-append}
use Rattle.std.proofs.lemmas.List.{drop_more, drop_all, take_more}
use Rattle.escape_core.specs.Escapes.{code_of, escaped, escape_of, behind, unescaped}

-- this text, and then what the rest means, if anything
abbrev pub after : List ℕ → Option (List ℕ) → Option (List ℕ)
after text None = None
after text (Some more) = Some (text ++ more)

-- a byte that is no backslash is itself, whatever follows
pub unescaped_plain : (b : ℕ) (more : List ℕ) → b ≢ 92 → unescaped (b ∷ more) ≡ behind (Some b) (unescaped more)
unescaped_plain b [] ne = rw (ne_eqb b 92 ne) refl
unescaped_plain b (c ∷ more) ne = rw (ne_eqb b 92 ne) refl

-- one byte more is read
pub after-behind : (text : List ℕ) (b : ℕ) (more : Option (List ℕ)) → after text (behind (Some b) more) ≡ after (text ++ b ∷ []) more
after-behind text b None = refl
after-behind text b (Some more) = ap Some (sym (append_assoc text (b ∷ []) more))

pub after-nil : (more : Option (List ℕ)) → after [] more ≡ more
after-nil None = refl
after-nil (Some more) = refl

pub after_end : (text : List ℕ) → after text (Some []) ≡ Some text
after_end text = ap Some (append-nil text)

-- the code of a byte means that byte
pub unescaped-code_of : (b : ℕ) (more : List ℕ) → unescaped (code_of b ++ more) ≡ behind (Some b) (unescaped more)
unescaped-code_of b more =
    elim (cases_eq b 13) [
      | inl e ↦ let P : ℕ → Type 0 = λ x. unescaped (code_of x ++ more) ≡ behind (Some x) (unescaped more) in subst P (sym e) refl
      | inr no_cr ↦ elim (cases_eq b 10) [
        | inl e ↦ let P : ℕ → Type 0 = λ x. unescaped (code_of x ++ more) ≡ behind (Some x) (unescaped more) in subst P (sym e) refl
        | inr no_lf ↦ elim (cases_eq b 58) [
          | inl e ↦ let P : ℕ → Type 0 = λ x. unescaped (code_of x ++ more) ≡ behind (Some x) (unescaped more) in subst P (sym e) refl
          | inr no_colon ↦ elim (cases_eq b 92) [
            | inl e ↦ let P : ℕ → Type 0 = λ x. unescaped (code_of x ++ more) ≡ behind (Some x) (unescaped more) in subst P (sym e) refl
            | inr no_backslash ↦ rw (ne_eqb b 13 no_cr, ne_eqb b 10 no_lf, ne_eqb b 58 no_colon, ne_eqb b 92 no_backslash) (unescaped_plain b more no_backslash)
          ]
        ]
      ]
    ]

pub unescaped-escaped : (text : List ℕ) → unescaped (escaped text) ≡ Some text
unescaped-escaped [] = refl
unescaped-escaped (b ∷ text) = unescaped-code_of b (escaped text) ∙ ap (behind (Some b)) (unescaped-escaped text)

pub escaped-same : (text other : List ℕ) → escaped text ≡ escaped other → text ≡ other
escaped-same text other e =
    let this = unescaped-escaped text in
    let that = unescaped-escaped other in
    let same : unescaped (escaped text) ≡ unescaped (escaped other) = ap unescaped e in
    cc

-- what is left to read, where the byte before it may be a backslash
abbrev pub left : Bool → ℕ → List ℕ → List ℕ
left in_escape i bytes = cond in_escape (92 ∷ drop i bytes) (drop i bytes)

-- the bytes mean this text and then what the rest means
abbrev pub IsReadTo : List ℕ → List ℕ → Bool → ℕ → Type 0
IsReadTo bytes text in_escape i = unescaped bytes ≡ after text (unescaped (left in_escape i bytes))

pub read_escape : (bytes text next : List ℕ) (in_escape then_in_escape : Bool) (i meant : ℕ) → i < length bytes → in_escape ≡ true → then_in_escape ≡ false
    → Some meant ≡ escape_of (get_or bytes i 0) → next ≡ text ++ meant ∷ [] → IsReadTo bytes text in_escape i → IsReadTo bytes next then_in_escape (i + 1)
read_escape bytes text next in_escape then_in_escape i meant lt was is e n h =
    let d = drop_more bytes i 0 lt in
    let whole : unescaped (left in_escape i bytes) ≡ behind (escape_of (get_or bytes i 0)) (unescaped (drop (i + 1) bytes)) = rw (was, d) refl in
    let rest : left then_in_escape (i + 1) bytes ≡ drop (i + 1) bytes = rw is refl in
    let moved = after-behind text meant (unescaped (drop (i + 1) bytes)) in
    h ∙ ap (after text) (whole ∙ ap (λ o. behind o (unescaped (drop (i + 1) bytes))) (sym e)) ∙ moved ∙ rw (n, rest) refl

pub read_plain : (bytes text next : List ℕ) (in_escape then_in_escape : Bool) (i : ℕ) → i < length bytes → in_escape ≡ false → then_in_escape ≡ false
    → get_or bytes i 0 ≢ 92 → next ≡ text ++ get_or bytes i 0 ∷ [] → IsReadTo bytes text in_escape i → IsReadTo bytes next then_in_escape (i + 1)
read_plain bytes text next in_escape then_in_escape i lt was is ne n h =
    let d = drop_more bytes i 0 lt in
    let whole : left in_escape i bytes ≡ get_or bytes i 0 ∷ drop (i + 1) bytes = rw was d in
    let rest : left then_in_escape (i + 1) bytes ≡ drop (i + 1) bytes = rw is refl in
    let plain = unescaped_plain (get_or bytes i 0) (drop (i + 1) bytes) ne in
    let moved = after-behind text (get_or bytes i 0) (unescaped (drop (i + 1) bytes)) in
    h ∙ ap (after text) (ap unescaped whole ∙ plain) ∙ moved ∙ rw (n, rest) refl

-- a backslash that begins an escape is still to be read
pub read_backslash : (bytes text : List ℕ) (was : Bool) (i : ℕ) → i < length bytes → was ≡ false → get_or bytes i 0 ≡ 92 → IsReadTo bytes text was i → IsReadTo bytes text true (i + 1)
read_backslash bytes text was i lt old e h =
    let whole : left was i bytes ≡ 92 ∷ drop (i + 1) bytes = rw (old, drop_more bytes i 0 lt, e) refl in
    h ∙ ap (λ rest. after text (unescaped rest)) whole

known-after : (text : List ℕ) (e : Option ℕ) (rest : Option (List ℕ)) → is_some (after text (behind e rest)) ≡ true → IsSome e
known-after text None rest h = absurd (false≢true h)
known-after text (Some b) rest h = search

-- where the bytes mean a text, each escape has a meaning
pub known_escape : (bytes text : List ℕ) (was : Bool) (i : ℕ) → i < length bytes → was ≡ true → is_some (unescaped bytes) ≡ true → IsReadTo bytes text was i
    → IsSome (escape_of (get_or bytes i 0))
known_escape bytes text was i lt old known h =
    let whole : left was i bytes ≡ 92 ∷ get_or bytes i 0 ∷ drop (i + 1) bytes = rw (old, drop_more bytes i 0 lt) refl in
    known-after text (escape_of (get_or bytes i 0)) (unescaped (drop (i + 1) bytes)) (ap is_some (sym (h ∙ ap (λ rest. after text (unescaped rest)) whole)) ∙ known)

-- bytes that mean a text mean what was read of them, once all is read
pub read_end : (bytes text : List ℕ) (was : Bool) (i : ℕ) → length bytes ≤ i → is_some (unescaped bytes) ≡ true → IsReadTo bytes text was i → unescaped bytes ≡ Some text
read_end bytes text true i le known h =
    let none : unescaped bytes ≡ None = h ∙ rw (drop_all i bytes le) refl in
    absurd (false≢true (ap is_some (sym none) ∙ known))
read_end bytes text false i le known h = h ∙ rw (drop_all i bytes le) (after_end text)

-- bytes with no backslash mean themselves
pub unescaped_whole : (text : List ℕ) → AllByRecursion (λ b. b ≢ 92) text → unescaped text ≡ Some text
unescaped_whole [] h = refl
unescaped_whole (b ∷ text) h = unescaped_plain b text h.0 ∙ ap (behind (Some b)) (unescaped_whole text h.1)

-- whether the bytes mean a text is whether the rest does
abbrev pub IsDefinedTo : List ℕ → Bool → ℕ → Type 0
IsDefinedTo bytes in_escape i = is_some (unescaped bytes) ≡ is_some (unescaped (left in_escape i bytes))

is_some-behind : (b : ℕ) (text : Option (List ℕ)) → is_some (behind (Some b) text) ≡ is_some text
is_some-behind b None = refl
is_some-behind b (Some text) = refl

is_some-behind_known : (b : Option ℕ) (text : Option (List ℕ)) → is_some b ≡ true → is_some (behind b text) ≡ is_some text
is_some-behind_known None text h = absurd (false≢true h)
is_some-behind_known (Some b) text h = is_some-behind b text

is_some-behind_unknown : (b : Option ℕ) (text : Option (List ℕ)) → is_some b ≡ false → is_some (behind b text) ≡ false
is_some-behind_unknown None text h = refl
is_some-behind_unknown (Some b) text h = absurd (false≢true (sym h))

-- the byte behind a backslash, which has a meaning with it
pub defined_escape : (bytes : List ℕ) (was is : Bool) (i : ℕ) → i < length bytes → was ≡ true → is ≡ false → is_some (escape_of (get_or bytes i 0)) ≡ true
    → IsDefinedTo bytes was i → IsDefinedTo bytes is (i + 1)
defined_escape bytes was is i lt old new known h =
    let more = drop (i + 1) bytes in
    h ∙ rw (old, new, drop_more bytes i 0 lt) (is_some-behind_known (escape_of (get_or bytes i 0)) (unescaped more) known)

-- another byte, which may be a backslash
pub defined_next : (bytes : List ℕ) (was is : Bool) (i : ℕ) → i < length bytes → was ≡ false → is ≡ eqb (get_or bytes i 0) 92
    → IsDefinedTo bytes was i → IsDefinedTo bytes is (i + 1)
defined_next bytes was is i lt old new h =
    let b = get_or bytes i 0 in
    let more = drop (i + 1) bytes in
    h ∙ rw (old, drop_more bytes i 0 lt) (elim (cases_eq b 92) [
      | inl e ↦ rw (new, e) refl
      | inr ne ↦ rw (new, ne_eqb b 92 ne) (ap is_some (unescaped_plain b more ne) ∙ is_some-behind b (unescaped more))
    ])

-- bytes of which it is not so that they mean a text mean none
pub none_from_undefined : (text : Option (List ℕ)) → is_some text ≡ false → text ≡ None
none_from_undefined None h = refl
none_from_undefined (Some text) h = absurd (false≢true (sym h))

-- one byte more is written
pub escaped_next : (text written next : List ℕ) (i : ℕ) → i < length text → written ≡ escaped (take i text) → next ≡ written ++ code_of (get_or text i 0)
    → next ≡ escaped (take (i + 1) text)
escaped_next text written next i lt h n =
    let b = get_or text i 0 in
    let whole = flat_map-append code_of (take i text) (b ∷ []) ∙ ap (λ code. escaped (take i text) ++ code) (append-nil (code_of b)) in
    rw (take_more text i 0 lt) (n ∙ rw h (sym whole))

-- bytes that end in no escape are read to their end
pub defined_end : (bytes : List ℕ) (in_escape : Bool) (i : ℕ) → length bytes ≤ i → IsDefinedTo bytes in_escape i → not in_escape ≡ is_some (unescaped bytes)
defined_end bytes true i le h = sym (h ∙ rw (drop_all i bytes le) refl)
defined_end bytes false i le h = sym (h ∙ rw (drop_all i bytes le) refl)
