-- What a transaction holds after its BEGIN and its members.
use Rattle.std.proofs.Common.{◌≡◌, ◌∙◌, List, [], ◌∷◌, ◌++◌, ℕ, Bool, true, false, cond, Option, Some, None, IsSome, ap, append-nil, append_assoc, refl, sym, unwrap_or, fold}
use Rattle.std.specs.Map.{lookup}
use Rattle.std.specs.Str.{bytes_eq}
use Rattle.std.proofs.lemmas.Cmp.{nat_list_eq_equiv}
use Rattle.std.proofs.lemmas.Map.{lookup-set_value}
use Rattle.command_core.specs.declared.command.Member.{Member}
use Rattle.tx_core.specs.Transactions.{added, begun, members_of}

module _ {K X : Type 0} (test : K → Bool) (key : K) (value : X) (hit : test key ≡ true) where
  one_before : (b : Bool) (x : X) (rest more : Option X) → (rest ≡ None → more ≡ Some value) → cond b (Some x) rest ≡ None → cond b (Some x) more ≡ Some value
  one_before true x rest more h e = cc
  one_before false x rest more h e = h e

  pub found_at_end : (es : List (K × X)) → lookup test es ≡ None → lookup test (es ++ (key, value) ∷ []) ≡ Some value
  found_at_end [] e = rw hit refl
  found_at_end (x ∷ es) e = one_before (test x.0) x.1 (lookup test es) (lookup test (es ++ (key, value) ∷ [])) (found_at_end es) e

module _ (name : List ℕ) where
  pub just_begun : (all : List (List ℕ × List Member)) → members_of name all ≡ None → members_of name (begun name all) ≡ Some []
  just_begun all none = found_at_end (bytes_eq name) name [] (nat_list_eq_equiv.refl name) all none

  one : (x y : List ℕ) → bytes_eq name x ≡ true → bytes_eq name y ≡ bytes_eq x y
  one x y h = nat_list_eq_equiv.congr name x y h

  some_then : (all : List (List ℕ × List Member)) (before : List Member) → members_of name all ≡ Some before → IsSome (members_of name all)
  some_then all before e = rw e refl

  pub one_more : (all : List (List ℕ × List Member)) (before : List Member) (member : Member) → members_of name all ≡ Some before → members_of name (added name member all) ≡ Some (before ++ member ∷ [])
  one_more all before member e =
      lookup-set_value nat_list_eq_equiv (bytes_eq name) one name (unwrap_or (members_of name all) [] ++ member ∷ []) all (some_then all before e)
      ∙ rw (nat_list_eq_equiv.refl name, e) refl

  pub all_more : (members before : List Member) (all : List (List ℕ × List Member)) → members_of name all ≡ Some before
      → members_of name (fold (λ (t : List (List ℕ × List Member)) (m : Member). added name m t) all members) ≡ Some (before ++ members)
  all_more [] before all e = e ∙ ap (λ (ms : List Member). Some ms) (sym (append-nil before))
  all_more (member ∷ members) before all e =
      all_more members (before ++ member ∷ []) (added name member all) (one_more all before member e) ∙ ap (λ (ms : List Member). Some ms) (append_assoc before (member ∷ []) members)

  pub others_stay : (other : List ℕ) (member : Member) (all : List (List ℕ × List Member)) → bytes_eq name other ≡ false → IsSome (members_of name all) → members_of other (added name member all) ≡ members_of other all
  others_stay other member all apart some =
      lookup-set_value nat_list_eq_equiv (bytes_eq name) one other (unwrap_or (members_of name all) [] ++ member ∷ []) all some ∙ rw apart refl
