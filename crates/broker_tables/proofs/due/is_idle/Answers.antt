use Rattle.std.proofs.Common.{◌≡◌, ◌∙◌, true, false, ap, arith, sym}
use Rattle.std.proofs.lemmas.Bool.Decides.{nat_tests}
use Rattle.broker_state.specs.declared.subscription.Subscription.{Subscription}
use Rattle.broker_state.specs.Lists.{is_none}
use Rattle.broker_state.specs.Waiting.{is_own, line_for}
use Rattle.waiting_order.specs.Directories.{is_in}
use Rattle.waiting_order.specs.declared.waiters.Waiter.{Waiter}
use Rattle.broker_tables.specs.declared.due.Scope.{Scope}
use Rattle.broker_tables.specs.Scopes.{is_within}
use Rattle.broker_tables.proofs.Handing.{own_line}
use Rattle.broker_tables.proofs.Scopes.{none_behind, same_group, same_line, same_own}
use Rattle.broker_tables.proofs.due.is_idle.Goals as goal

pub returns-then-has_own_line : goal.returns-then-has_own_line
returns-then-has_own_line c idle shared none from until i w is after before within =
    let at = c.requires.0 in
    let s = c.requires.1 in
    let inside : (x : Waiter) → is_in c.in-Group.group x ≡ is_within c.args.scope x = λ x. ap (λ (scope : Scope). is_within scope x) (sym c.in-Group.is) in
    let alike = c.stand_in_order.ensures.groups at i (c.args.key, s) w c.requires.2 is (same_group c.in-Group.group s w.1 (inside s ∙ c.requires.3) (inside w.1 ∙ within)) in
    let own : is_own s.sub ≡ true = ap is_own (sym (c.get-sub.ensures.sub at s c.requires.2)) ∙ sym c.has_own_line.ensures ∙ c.if-has_own_line.true in
    let nobody : c.count_behind.result ≡ 0 = grind (arith, nat_tests) in
    ap is_none (own_line shared w.1.sub (same_own s.sub w.1.sub alike own)) ∙ none_behind c.in-Group.group c.args.order.now.all (sym c.count_behind.ensures ∙ nobody) i w is (inside w.1 ∙ within)

pub returns : goal.returns
returns c idle shared none from until i w is after before within =
    let at = c.requires.0 in
    let s = c.requires.1 in
    let inside : (x : Waiter) → is_in c.in-Group.group x ≡ is_within c.args.scope x = λ x. ap (λ (scope : Scope). is_within scope x) (sym c.in-Group.is) in
    let alike = c.stand_in_order.ensures.groups at i (c.args.key, s) w c.requires.2 is (same_group c.in-Group.group s w.1 (inside s ∙ c.requires.3) (inside w.1 ∙ within)) in
    let same = c.get-sub.ensures.sub at s c.requires.2 in
    let other : is_own s.sub ≡ false = ap is_own (sym same) ∙ sym c.has_own_line.ensures ∙ c.if-has_own_line.false in
    ap is_none (same_line shared s.sub w.1.sub alike other) ∙ none at s c.requires.2
