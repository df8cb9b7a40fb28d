use Rattle.std.proofs.Common.{◌≡◌, ◌∙◌, Some, true, false, ap, cond, drop, subst, sym}
use Rattle.line_core.specs.Lines.{first_of}
use Rattle.broker_state.specs.declared.subscription.Subscription.{Subscription}
use Rattle.broker_state.specs.Lists.{is_none}
use Rattle.broker_state.specs.Waiting.{is_own, left_line, left_shared, line_for}
use Rattle.waiting_order.specs.Keeping.{taken_from, with_sub}
use Rattle.broker_tables.specs.Returns.{HandFirst}
use Rattle.broker_tables.proofs.Handing.{other_left, own_line, own_shared, own_weight, some_first}
use Rattle.broker_tables.proofs.Waiters.{changed_alike, changed_none}
use Rattle.broker_tables.proofs.stock.take_for.Goals as goal

pub unwrap-requires : goal.unwrap-requires
unwrap-requires c =
    let at = c.requires.0 in
    let s = c.requires.1 in
    let there = c.requires.2 in
    let own : is_own s.sub ≡ true = ap is_own (sym (c.get-sub.ensures.sub at s there)) ∙ sym c.has_own_line.ensures ∙ c.if-has_own_line.true in
    some_first c.take.result s.sub.line (c.take.ensures at s there).0 (ap is_none (sym (own_line c.args.shared.now s.sub own)) ∙ c.requires.3)

pub returns-then-has_own_line-clause-taken : goal.returns-then-has_own_line-clause-taken
returns-then-has_own_line-clause-taken c at s there =
    let own : is_own s.sub ≡ true = ap is_own (sym (c.get-sub.ensures.sub at s there)) ∙ sym c.has_own_line.ensures ∙ c.if-has_own_line.true in
    ap first_of (own_line c.args.shared.now s.sub own) ∙ sym (c.take.ensures at s there).0 ∙ c.unwrap.ensures

pub returns-then-has_own_line-clause-left : goal.returns-then-has_own_line-clause-left
returns-then-has_own_line-clause-left c at s there =
    let own : is_own s.sub ≡ true = ap is_own (sym (c.get-sub.ensures.sub at s there)) ∙ sym c.has_own_line.ensures ∙ c.if-has_own_line.true in
    record {
      rest = sym (own_shared c.args.shared.now s.sub own (drop 1 (line_for c.args.shared.now s.sub)));
      weight = own_weight c.args.shared.now s.sub own;
    }

pub returns-then-has_own_line-clause-order : goal.returns-then-has_own_line-clause-order
returns-then-has_own_line-clause-order c at s there =
    let o = c.args.order.now in
    let shared = c.args.shared.now in
    let own : is_own s.sub ≡ true = ap is_own (sym (c.get-sub.ensures.sub at s there)) ∙ sym c.has_own_line.ensures ∙ c.if-has_own_line.true in
    let rest = drop 1 (line_for shared s.sub) in
    let f : Subscription → Subscription = λ x. left_line x rest in
    let same : record s.sub { line = drop 1 s.sub.line } ≡ f s.sub = ap (λ l. record s.sub { line = drop 1 l }) (sym (own_line shared s.sub own)) ∙ sym (ap (λ b. record s.sub { line = cond b rest s.sub.line }) own) in
    (c.take.ensures at s there).1 ∙ ap (λ l. record o { all = l }) (changed_alike taken_from (with_sub f) o.all at (c.args.key, s) there (ap (λ (x : Subscription). (c.args.key, record s { sub = x })) same))

pub returns-clause-taken : goal.returns-clause-taken
returns-clause-taken c at s there =
    subst (λ (x : Subscription). first_of (line_for c.args.shared.now x) ≡ Some c.take_for.result) (c.get-sub.ensures.sub at s there) c.take_for.ensures.taken

pub returns-clause-left : goal.returns-clause-left
returns-clause-left c at s there =
    let shared = c.args.shared.now in
    let same = c.get-sub.ensures.sub at s there in
    let other : is_own s.sub ≡ false = ap is_own (sym same) ∙ sym c.has_own_line.ensures ∙ c.if-has_own_line.false in
    record {
      rest = subst (λ (x : Subscription). c.take_for.new.self ≡ left_shared shared x (drop 1 (line_for shared x))) same c.take_for.ensures.shared;
      weight = subst (λ (x : Subscription). HandFirst shared s.sub c.take_for.new.self x (line_for shared s.sub)) (sym (other_left s.sub other (drop 1 (line_for shared s.sub))))
          (subst (λ (x : Subscription). HandFirst shared x c.take_for.new.self x (line_for shared x)) same c.take_for.ensures.weight);
    }

pub returns-clause-order : goal.returns-clause-order
returns-clause-order c at s there =
    let o = c.args.order.now in
    let rest = drop 1 (line_for c.args.shared.now s.sub) in
    let other : is_own s.sub ≡ false = ap is_own (sym (c.get-sub.ensures.sub at s there)) ∙ sym c.has_own_line.ensures ∙ c.if-has_own_line.false in
    ap (λ l. record o { all = l }) (changed_none (with_sub (λ x. left_line x rest)) o.all at (c.args.key, s) there (ap (λ (x : Subscription). (c.args.key, record s { sub = x })) (other_left s.sub other rest)))
