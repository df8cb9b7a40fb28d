-- What a link in memory has given.
use Rattle.std.proofs.Common.{Bool, false, ◌≡◌, ◌∙◌, ◌++◌, ◌∷◌, ◌-◌, List, [], ℕ, ap, append-nil, append_assoc, arith, length, length-append, map, option_to_list, refl, subst, sym, Option, Some, None}
use Rattle.std.specs.List.{flat_map}
use Rattle.std.proofs.lemmas.List.{take_at}
use Rattle.std.proofs.lemmas.List.Concat.{flat_map-append}
use Rattle.ws_core.specs.Memory.{IsRest, joined_before, remembered}

joined_is : (before rest : List (List ℕ)) → joined_before (before ++ rest) rest ≡ flat_map (λ message. message) before
unfolding joined_before
joined_is before rest = ap (flat_map (λ message. message)) (take_at before rest (length (before ++ rest) - length rest) (omega (arith, length-append before rest)))

-- at first nothing
pub nothing_before : (all : List (List ℕ)) → joined_before all all ≡ []
nothing_before all = joined_is [] all

joined_on : (before rest : List (List ℕ)) (v : List ℕ) → joined_before (before ++ v ∷ rest) rest ≡ joined_before (before ++ v ∷ rest) (v ∷ rest) ++ v
joined_on before rest v =
    let one : flat_map (λ message. message) (before ++ v ∷ []) ≡ flat_map (λ message. message) before ++ v =
    flat_map-append (λ message. message) before (v ∷ []) ∙ ap (λ z. flat_map (λ message. message) before ++ z) (append-nil v) in
    subst (λ all. joined_before all rest ≡ flat_map (λ message. message) before ++ v) (append_assoc before (v ∷ []) rest) (joined_is (before ++ v ∷ []) rest ∙ one)
    ∙ ap (λ z. z ++ v) (sym (joined_is before (v ∷ rest)))

-- the next message comes behind all before it
pub recalled : (all coming rest : List (List ℕ)) (v : List ℕ) → IsRest all coming → coming ≡ v ∷ rest
    → IsRest all rest × (joined_before all rest ≡ joined_before all coming ++ v)
recalled all coming rest v is next =
    let whole : all ≡ is.0 ++ v ∷ rest = is.1 ∙ ap (λ z. is.0 ++ z) next in (
      (is.0 ++ v ∷ [], whole ∙ sym (append_assoc is.0 (v ∷ []) rest)),
      subst (λ z. joined_before all rest ≡ joined_before all z ++ v) (sym next)
          (subst (λ z. joined_before z rest ≡ joined_before z (v ∷ rest) ++ v) (sym whole) (joined_on is.0 rest v)),
    )

-- what is left when the next one is taken off, where there is one
pub popped : {X : Type 0} (f : X → List ℕ) (all : List (List ℕ)) (old new : List X) (got : Option X)
    → IsRest all (map f old) → old ≡ option_to_list got ++ new → IsRest all (map f new)
popped f all old new None is split = subst (λ left. IsRest all (map f left)) split is
popped f all old new (Some x) is split = (recalled all (map f old) (map f new) (f x) is (ap (map f) split)).0

-- a link that was just made
pub made : (messages all coming sent : List (List ℕ)) → all ≡ messages → coming ≡ messages → sent ≡ []
    → remembered coming sent (joined_before all coming) false ≡ remembered messages [] [] false
made messages all coming sent is_all is_coming is_sent =
    let none : joined_before all coming ≡ [] =
    subst (λ a. joined_before a coming ≡ []) (sym is_all) (subst (λ b. joined_before messages b ≡ []) (sym is_coming) (nothing_before messages)) in
    ap (λ b. remembered b sent (joined_before all coming) false) is_coming
    ∙ (ap (λ s. remembered messages s (joined_before all coming) false) is_sent ∙ ap (λ r. remembered messages [] r false) none)

-- one that gives its next message
pub recalls : {X : Type 0} (f : X → List ℕ) (all sent : List (List ℕ)) (old new : List X) (x : X) (over : Bool) → IsRest all (map f old) → old ≡ x ∷ new → over ≡ false
    → (over ≡ false) × (map f old ≡ f x ∷ map f new)
    × (remembered (map f new) sent (joined_before all (map f new)) over ≡ remembered (map f new) sent (joined_before all (map f old) ++ f x) false)
recalls f all sent old new x over is split goes_on =
    let next : map f old ≡ f x ∷ map f new = ap (map f) split in (
      goes_on,
      next,
      ap (λ o. remembered (map f new) sent (joined_before all (map f new)) o) goes_on
          ∙ ap (λ r. remembered (map f new) sent r false) (recalled all (map f old) (map f new) (f x) is next).1,
    )
