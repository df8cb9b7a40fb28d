use Rattle.std.proofs.Common.{◌≡◌, ◌∷◌, ◌∙◌, [], ap, arith, refl, rules, subst, sym}
use Rattle.std.proofs.lemmas.Bool.{false≢true}
use Rattle.std.specs.BTreeSet as tree
use Rattle.std.specs.List.Sorted.{IsStrictlySortedBy}
use Rattle.std.specs.Map.{keys_of}
use Rattle.broker_state.specs.Seen.{count_of, seen_cmp}
use Rattle.broker_state.specs.Waiting.{line_at}
use Rattle.broker_state.proofs.SeenCounts.{bit_small}
use Rattle.broker_state.proofs.SeenNumbers.{first_line, line_first, rising_rest}
use Rattle.broker_state.proofs.part_checks.lines_are_new.Goals as goal

pub loop-key-preserved : goal.loop-key-preserved
loop-key-preserved g c =
    let cmp = g.K.Ord.cmp in
    let total = g.met.K.Ord.total in
    let key = c.in-Some.key.now in
    let line = c.in-Some.line.now in
    let rest = c.next.new.self in
    let first : c.loop-key.key-iterator ≡ (key, line) ∷ rest = search rules in
    let rising = subst (λ lines. IsStrictlySortedBy cmp (keys_of lines)) first c.loop-key.invariant.rising in
    let seen = c.in_ok-line_is_new.ensures.seen c.if-not-branch.false in
    record {
      noted = λ q n. omega (arith, seen q n, c.loop-key.invariant.noted q n, ap (λ lines. count_of n (line_at cmp q lines)) first, line_first cmp total c.requires n q key line rest rising);
      rising = rising_rest cmp total c.requires key line rest rising;
    }

pub returns-then-not-branch-clause-new : goal.returns-then-not-branch-clause-new
returns-then-not-branch-clause-new g c =
    let cmp = g.K.Ord.cmp in
    let key = c.in-Some.key.now in
    let line = c.in-Some.line.now in
    let rest = c.next.new.self in
    let first : c.loop-key.key-iterator ≡ (key, line) ∷ rest = search rules in (
      λ no. absurd cc,
      λ once. absurd (false≢true (sym c.if-not-branch.true ∙ c.in_ok-line_is_new.ensures.new.1 (λ n. omega (arith, once key n, c.loop-key.invariant.noted key n, ap (λ lines. count_of n (line_at cmp key lines)) first, first_line cmp g.met.K.Ord.total c.requires n key line rest)))),
    )

pub returns-clause-new : goal.returns-clause-new
returns-clause-new g c =
    let cmp = g.K.Ord.cmp in
    let empty : c.loop-key.key-iterator ≡ [] = search rules in
    (λ _ q n. omega (arith, c.loop-key.invariant.noted q n, ap (λ lines. count_of n (line_at cmp q lines)) empty, bit_small (tree.contains (seen_cmp cmp) c.loop-key.seen (record { ref_ptr = (0, 0); now = q }, n))), λ _. refl)

pub returns-clause-seen : goal.returns-clause-seen
returns-clause-seen g c =
    let cmp = g.K.Ord.cmp in
    let empty : c.loop-key.key-iterator ≡ [] = search rules in
    λ _ q n. omega (arith, c.loop-key.invariant.noted q n, ap (λ lines. count_of n (line_at cmp q lines)) empty)
