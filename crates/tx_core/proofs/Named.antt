-- The transaction of a name, by its place.
use Rattle.std.proofs.Common.{◌≡◌, ℕ, ◌<◌, ◌≤◌, ◌∙◌, sym, subst, true, false, List, [], ◌∷◌, ◌++◌, Some, None, length, get_or, set, refl, ap, arith, length-append, length-set, rules, nat_le, Result, Ok, Err, OnOk, OnErr}
use Rattle.std.specs.List.{IsDistinct, remove}
use Rattle.std.specs.Map.{keys_of}
use Rattle.std.specs.Str.{bytes_eq}
use Rattle.std.proofs.lemmas.Cmp.{nat_list_eq_equiv}
use Rattle.std.proofs.lemmas.List.Edits.{length-remove}
use Rattle.std.proofs.lemmas.Map.{lookup-remove_entry}
use Rattle.std.proofs.lemmas.Map.Keys.{IsDistinct-push}
use Rattle.command_core.specs.declared.command.Member.{Member}
use Rattle.command_core.specs.declared.fault.Fault.TheVariants.{TransactionBegun, TransactionNotBegun, TooManyEntries}
use Rattle.tx_core.specs.Places.{HasNone, IsPlace}
use Rattle.tx_core.specs.Transactions.{AreOpen, members_of, begun, added, without}
use Rattle.tx_core.specs.Refusals.{refusal_of_begin, refusal_of_end}
use Rattle.tx_core.proofs.Entries.{none_found, no_key, found_at, set_at, removed_at, distinct_removed, keys_pushed, keys_set}

module _ (name : List ℕ) (all : List (List ℕ × List Member)) where
  pub has_none : HasNone name all → members_of name all ≡ None
  has_none h = none_found (bytes_eq name) all h

  pub has_members : (place : ℕ) (old : List ℕ × List Member) → IsPlace name all place → old ≡ get_or all place old → members_of name all ≡ Some old.1
  has_members place old is e = found_at (bytes_eq name) all place old is.0 is.1 is.2 ∙ ap (λ (t : List ℕ × List Member). Some t.1) (sym e)

  pub joined : (place : ℕ) (old new : List ℕ × List Member) (member : Member) → IsPlace name all place → old ≡ get_or all place old → new ≡ (old.0, old.1 ++ member ∷ []) → set all place new ≡ added name member all
  joined place old new member is e more =
      ap (λ (t : List ℕ × List Member). set all place t) (more ∙ ap (λ (t : List ℕ × List Member). (t.0, old.1 ++ member ∷ [])) e)
      ∙ set_at (bytes_eq name) all place old (old.1 ++ member ∷ []) is.0 is.1 is.2
      ∙ rw (has_members place old is e) refl

  pub taken_out : (place : ℕ) → IsPlace name all place → remove all place ≡ without name all
  taken_out place is = removed_at (bytes_eq name) all place is.0 is.1 is.2

  pub gone : IsDistinct bytes_eq (keys_of all) → members_of name (without name all) ≡ None
  gone distinct =
      lookup-remove_entry nat_list_eq_equiv (bytes_eq name) (λ x y h. nat_list_eq_equiv.congr name x y h) name all distinct
      ∙ rw (nat_list_eq_equiv.refl name) refl

  pub still_open : (place : ℕ) → IsPlace name all place → AreOpen all → AreOpen (remove all place)
  still_open place is h = record {
    distinct = subst (λ (ts : List (List ℕ × List Member)). IsDistinct bytes_eq (keys_of ts)) (sym (taken_out place is)) (distinct_removed (bytes_eq name) bytes_eq all h.distinct);
    few = omega (arith, length-remove all place is.0, h.few);
  }

  pub gone_at : (place : ℕ) → IsPlace name all place → AreOpen all → members_of name (remove all place) ≡ None
  gone_at place is h = ap (members_of name) (taken_out place is) ∙ gone h.distinct

  pub is_begun : (place : ℕ) → IsPlace name all place → refusal_of_begin name all ≡ Some TransactionBegun
  is_begun place is = rw (found_at (bytes_eq name) all place (name, []) is.0 is.1 is.2) refl

  pub may_end : (place : ℕ) → IsPlace name all place → refusal_of_end name all ≡ None
  may_end place is = rw (found_at (bytes_eq name) all place (name, []) is.0 is.1 is.2) refl

  pub may_not_end : HasNone name all → refusal_of_end name all ≡ Some TransactionNotBegun
  may_not_end none = rw (has_none none) refl

  pub has_four : HasNone name all → 4 ≤ length all → refusal_of_begin name all ≡ Some TooManyEntries
  has_four none many = let four : nat_le 4 (length all) ≡ true = search (rules, many) in rw (has_none none, four) refl

  pub may_begin : HasNone name all → length all < 4 → refusal_of_begin name all ≡ None
  may_begin none few = let four : nat_le 4 (length all) ≡ false = search (rules, few) in rw (has_none none, four) refl

  pub open_with_one : HasNone name all → length all < 4 → AreOpen all → AreOpen (begun name all)
  open_with_one none few h = record {
    distinct = subst (IsDistinct bytes_eq) (sym (keys_pushed all (name, []))) (IsDistinct-push nat_list_eq_equiv (keys_of all) name h.distinct (no_key (bytes_eq name) all none));
    few = omega (arith, length-append all ((name, []) ∷ []));
  }

pub none_open : AreOpen []
unfolding IsDistinct
none_open = record { distinct = tt; few = omega arith }

pub open_with_other : (all : List (List ℕ × List Member)) (place : ℕ) (old new : List ℕ × List Member) → old ≡ get_or all place old → new.0 ≡ old.0 → AreOpen all → AreOpen (set all place new)
open_with_other all place old new is same h = record {
  distinct = subst (IsDistinct bytes_eq) (sym (keys_set all place old new is same)) h.distinct;
  few = rw (length-set all place new) h.few;
}

pub open_after_put : {T E : Type 0} (r : Result T E) (old more new : List (List ℕ × List Member)) → OnOk r (new ≡ more) → OnErr r (new ≡ old) → AreOpen old → AreOpen more → AreOpen new
open_after_put (Ok x) old more new ok err h k = subst AreOpen (sym ok) k
open_after_put (Err e) old more new ok err h k = subst AreOpen (sym err) h
