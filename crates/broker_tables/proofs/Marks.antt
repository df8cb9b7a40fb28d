use Rattle.std.proofs.Common.{◌≡◌, ◌==◌, ◌<◌, ◌≤◌, ◌⊎◌, ℕ, List, Some, true, false, inl, inr, length, nat_lt, slice_get, slice_index_or, refl, sym, ap, subst, ◌∙◌, arith}
use Rattle.std.specs.List.{HoldsAt}
use Rattle.std.specs.Ordering.{nat_cmp}
use Rattle.std.specs.declared.cmp.Ordering.{Ordering}
use Rattle.std.specs.declared.cmp.Ordering.TheVariants.{Less, Equal, Greater}
use Rattle.std.proofs.lemmas.Bool.{cases_lt}
use Rattle.std.proofs.lemmas.Bool.Decides.{nat_tests}
use Rattle.std.proofs.lemmas.Grind.{common_steps}
use Rattle.std.proofs.lemmas.Option.{gets}
use Rattle.broker_state.specs.declared.subscription.Subscription.{Subscription}
use Rattle.broker_state.specs.Names.{AreSame}
use Rattle.broker_state.proofs.Firsts.{found}
use Rattle.broker_state.proofs.Keys.{same_names, same_texts}
use Rattle.broker_tables.specs.declared.due.Due.{Due}
use Rattle.broker_tables.specs.declared.due.Due.TheVariants.{Session, Destination, Durable}
use Rattle.broker_tables.specs.contracts.due.DueOrd.TheImpl as due_ord
use Rattle.broker_tables.specs.Dues.{is_due, is_under}
use Rattle.broker_tables.proofs.Dues.{any_there}

less_differs : Less ≡ Equal → ⊥
less_differs is = cc

greater_differs : Greater ≡ Equal → ⊥
greater_differs is = cc

same_number : (a b : ℕ) → nat_cmp a b ≡ Equal → a ≡ b
same_number a b is = by (cases_lt a b) (cases_lt b a)
  where
    under : a < b → nat_cmp a b ≡ Less
    under less =
        let yes : nat_lt a b ≡ true = grind (arith, nat_tests) in
        rw yes refl

    over : b < a → nat_cmp a b ≡ Greater
    over more =
        let less : nat_lt a b ≡ false = grind (arith, nat_tests) in
        let same : (a == b) ≡ false = grind (arith, nat_tests) in
        rw (less, same) refl

    by : (a < b) ⊎ (b ≤ a) → (b < a) ⊎ (a ≤ b) → a ≡ b
    by (inl less) o = absurd (less_differs (sym (under less) ∙ is))
    by (inr le) (inl more) = absurd (greater_differs (sym (over more) ∙ is))
    by (inr le) (inr ge) = omega arith

abbrev pub due_cmp : Due → Due → Ordering
due_cmp = (due_ord.ghosts).cmp

-- those that compare as equal are the same
same_due : AreSame due_cmp
same_due (Session a) (Session b) is = ap Session (same_number a b is)
same_due (Session a) (Destination b) is = absurd cc
same_due (Session a) (Durable b) is = absurd cc
same_due (Destination a) (Session b) is = absurd cc
same_due (Destination a) (Destination b) is = ap Destination (same_texts a b is)
same_due (Destination a) (Durable b) is = absurd cc
same_due (Durable a) (Session b) is = absurd cc
same_due (Durable a) (Destination b) is = absurd cc
same_due (Durable a) (Durable b) is = ap Durable (same_names a b is)

-- who is under what is marked already is due
pub marked_already : (marks seen : List Due) (at : ℕ) (due : Due) → seen ≡ marks → at < length seen → HoldsAt (λ (y : Due). due_cmp y due ≡ Equal) seen at
    → (sub : Subscription) → is_under due sub ≡ true → is_due marks sub ≡ true
marked_already marks seen at due same within equal sub under =
    let c = found seen at within in
    let is : c.0 ≡ due = same_due c.0 due (subst (λ (y : Due). due_cmp y due ≡ Equal) (read seen at c.0 c.1) (equal c.0)) in
    any_there (λ (x : Due). is_under x sub) due marks at (ap (λ (l : List Due). slice_get l at) (sym same) ∙ c.1 ∙ ap (λ (y : Due). Some y) is) under
  where
    read : (xs : List Due) (at : ℕ) (x : Due) → slice_get xs at ≡ Some x → slice_index_or xs at x ≡ x
    read xs at x is = grind (arith, common_steps, gets)
