-- What stands of a session behind one command more.
use Rattle.std.proofs.Common.{◌≡◌, ◌≤◌, ◌+◌, ◌++◌, ◌∷◌, [], ℕ, List, Bool, true, false, Option, refl, arith, sym, ap, ◌∙◌, subst, length, take, inl, inr, append_assoc, append-nil}
use Rattle.std.specs.Prelude.{◌||◌, ◌&&◌, cond, filter, not}
use Rattle.std.specs.List.{list_any}
use Rattle.std.proofs.lemmas.Bool.{cases_lt}
use Rattle.std.proofs.lemmas.List.{length-append, take_all, take-append-le}
use Rattle.std.proofs.lemmas.List.Elements.{filter-append}
use Rattle.std.proofs.lemmas.List.Filters.{sum_by-filter_both}
use Rattle.std.proofs.lemmas.List.Folds.{list_any-append}
use Rattle.command_core.specs.declared.command.AckMode.{AckMode}
use Rattle.command_core.specs.declared.command.End.{End}
use Rattle.command_core.specs.declared.command.Op.{Op}
use Rattle.command_core.specs.declared.command.Op.TheVariants as ops
use Rattle.clients.specs.Footprints.{IsWithin, charged, footprint, has_id, is_ended_by, parts_of, standing, total}
use Rattle.clients.specs.declared.footprint.Part.{Part}

-- ── filters ──

filter_all : {X : Type 0} (xs : List X) → filter (λ x. true) xs ≡ xs
filter_all [] = refl
filter_all (x ∷ xs) = ap (λ l. x ∷ l) (filter_all xs)

at_first : {X : Type 0} (p q : X → Bool) (x : X) (xs : List X) (b : Bool) → filter q (cond b (x ∷ filter p xs) (filter p xs)) ≡ cond (b && q x) (x ∷ filter q (filter p xs)) (filter q (filter p xs))
at_first p q x xs true = refl
at_first p q x xs false = refl

twice : {X : Type 0} (p q r : X → Bool) → ((x : X) → r x ≡ (p x && q x)) → (xs : List X) → filter q (filter p xs) ≡ filter r xs
twice p q r both [] = refl
twice p q r both (x ∷ xs) =
    at_first p q x xs (p x) ∙ ap (λ l. cond (p x && q x) (x ∷ l) l) (twice p q r both xs) ∙ ap (λ b. cond b (x ∷ filter r xs) (filter r xs)) (sym (both x))

or_false : (b : Bool) → (b || false) ≡ b
or_false true = refl
or_false false = refl

not_or : (a b : Bool) → not (a || b) ≡ (not a && not b)
not_or true b = refl
not_or false b = refl

not_any_more : (t : Op → Bool) (later : List Op) (op : Op) → not (list_any t (later ++ op ∷ [])) ≡ (not (list_any t later) && not (t op))
not_any_more t later op = ap not (list_any-append t later (op ∷ []) ∙ ap (λ b. list_any t later || b) (or_false (t op))) ∙ not_or (list_any t later) (t op)

pub total_filter : (p : Part → Bool) (parts : List Part) → total (filter p parts) ≤ total parts
total_filter p parts = omega (arith, sum_by-filter_both p (λ one. not (p one)) (λ one. refl) (λ (one : Part). one.bytes) parts)

-- ── one command more ──

standing_more : (all : List Op) (op : Op) → standing (all ++ op ∷ []) ≡ filter (λ one. not (is_ended_by op one)) (standing all) ++ parts_of op
standing_more [] op = append-nil (filter (λ one. true) (parts_of op)) ∙ filter_all (parts_of op)
standing_more (x ∷ all) op =
    let stays : Part → Bool = λ one. not (is_ended_by op one) in
    let its : List Part = filter (λ one. not (list_any (λ later. is_ended_by later one) all)) (parts_of x) in
    ap (λ l. l ++ standing (all ++ op ∷ [])) (sym (twice (λ one. not (list_any (λ later. is_ended_by later one) all)) stays (λ one. not (list_any (λ later. is_ended_by later one) (all ++ op ∷ []))) (λ one. not_any_more (λ later. is_ended_by later one) all op) (parts_of x)))
    ∙ ap (λ l. filter stays its ++ l) (standing_more all op)
    ∙ sym (append_assoc (filter stays its) (filter stays (standing all)) (parts_of op))
    ∙ ap (λ l. l ++ parts_of op) (sym (filter-append stays its (standing all)))

charged_is : (parts : List Part) (op : Op) → charged parts op ≡ filter (λ one. not (is_ended_by op one)) parts ++ parts_of op
charged_is parts (ops.Open client_id) = sym (ap (λ l. l ++ parts_of (ops.Open client_id)) (filter_all parts))
charged_is parts (ops.Subscribe id to mode durable) = sym (ap (λ l. l ++ parts_of (ops.Subscribe id to mode durable)) (filter_all parts))
charged_is parts (ops.Unsubscribe id durable) = sym (append-nil (filter (λ (one : Part). not (has_id one.id id)) parts))
charged_is parts (ops.Send sending) = sym (append-nil (filter (λ one. true) parts) ∙ filter_all parts)
charged_is parts (ops.Ack delivery) = sym (append-nil (filter (λ one. true) parts) ∙ filter_all parts)
charged_is parts (ops.Nack delivery) = sym (append-nil (filter (λ one. true) parts) ∙ filter_all parts)
charged_is parts (ops.Commit members) = sym (append-nil (filter (λ one. true) parts) ∙ filter_all parts)
charged_is parts ops.Note = sym (append-nil (filter (λ one. true) parts) ∙ filter_all parts)
charged_is parts (ops.End how) = sym (append-nil (filter (λ one. true) parts) ∙ filter_all parts)

pub charges : (all : List Op) (op : Op) → standing (all ++ op ∷ []) ≡ charged (standing all) op
charges all op = standing_more all op ∙ sym (charged_is (standing all) op)

pub fits_else : (most : ℕ) (parts : List Part) (op : Op) → ((client_id : Option (List ℕ)) → op ≡ ops.Open client_id → ⊥) → ((id destination : List ℕ) (mode : AckMode) (durable : Option (List ℕ)) → op ≡ ops.Subscribe id destination mode durable → ⊥)
    → total parts ≤ most → total (charged parts op) ≤ most
fits_else most parts (ops.Open client_id) opened subscribed fits = absurd (opened client_id refl)
fits_else most parts (ops.Subscribe id to mode durable) opened subscribed fits = absurd (subscribed id to mode durable refl)
fits_else most parts (ops.Unsubscribe id durable) opened subscribed fits = omega (arith, fits, total_filter (λ one. not (has_id one.id id)) parts)
fits_else most parts (ops.Send sending) opened subscribed fits = fits
fits_else most parts (ops.Ack delivery) opened subscribed fits = fits
fits_else most parts (ops.Nack delivery) opened subscribed fits = fits
fits_else most parts (ops.Commit members) opened subscribed fits = fits
fits_else most parts ops.Note opened subscribed fits = fits
fits_else most parts (ops.End how) opened subscribed fits = fits

-- ── a session keeps within its bytes ──

pub within_none : (most : ℕ) → IsWithin most []
within_none most k = subst (λ l. footprint l ≤ most) (sym (take_all k [] (omega arith))) (omega arith)

pub within_more : (most : ℕ) (all : List Op) (op : Op) → IsWithin most all → total (charged (standing all) op) ≤ most → IsWithin most (all ++ op ∷ [])
within_more most all op within fits k = elim (cases_lt k (length all + 1)) [
  | inl less ↦ subst (λ l. footprint l ≤ most) (sym (take-append-le k all (op ∷ []) (omega arith))) (within k)
  | inr least ↦
      subst (λ l. footprint l ≤ most) (sym (take_all k (all ++ op ∷ []) (omega (arith, length-append all (op ∷ [])))))
      (subst (λ parts. total parts ≤ most) (sym (charges all op)) fits)
]

pub within_less : (most : ℕ) (all more : List Op) → IsWithin most (all ++ more) → IsWithin most all
within_less most all more within k = elim (cases_lt k (length all + 1)) [
  | inl less ↦ subst (λ l. footprint l ≤ most) (take-append-le k all more (omega arith)) (within k)
  | inr least ↦
      let whole : take (length all) (all ++ more) ≡ take k all = take-append-le (length all) all more (omega arith) ∙ take_all (length all) all (omega arith) ∙ sym (take_all k all (omega arith)) in
      subst (λ l. footprint l ≤ most) whole (within (length all))
]

-- the end of a session adds nothing to what its commands are
pub nothing_by_end : (all : List Op) (how : End) (op : Op) → footprint ((all ++ ops.End how ∷ []) ++ op ∷ []) ≡ footprint (all ++ op ∷ [])
nothing_by_end all how op =
    ap total (charges (all ++ ops.End how ∷ []) op ∙ ap (λ parts. charged parts op) (charges all (ops.End how)) ∙ sym (charges all op))
