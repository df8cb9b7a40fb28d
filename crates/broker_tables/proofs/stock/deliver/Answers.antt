use Rattle.std.proofs.Common.{◌≡◌, ◌-◌, ◌++◌, ◌∷◌, ◌∙◌, [], true, false, Some, ap, cond, slice_get, sym, ℕ}
use Rattle.broker_state.specs.declared.subscription.Subscription.{Subscription}
use Rattle.broker_state.specs.HandOut.{delivered, is_auto}
use Rattle.broker_state.specs.States.{bytes}
use Rattle.waiting_order.specs.declared.waiters.Waiter.{Waiter}
use Rattle.waiting_order.specs.Keeping.{kept_by, with_sub}
use Rattle.broker_tables.proofs.Waiters.{both_ok, changed_alike, changed_none, on_ok}
use Rattle.broker_tables.proofs.stock.deliver.Goals as goal

pub returns-then-is_auto-clause-delivered : goal.returns-then-is_auto-clause-delivered
returns-then-is_auto-clause-delivered c =
    on_ok c.reply.result _ (λ at s there.
    let o = c.args.order.now in
    let f : Subscription → Subscription = λ x. delivered x c.args.delivery c.args.message in
    let auto : is_auto s.sub.mode ≡ true = ap (λ (x : Subscription). is_auto x.mode) (sym (c.get-sub.ensures.sub at s there)) ∙ sym c.is_auto.ensures ∙ c.if-is_auto.true in
    let same : f s.sub ≡ s.sub = ap (λ b. record s.sub { unacknowledged = cond b s.sub.unacknowledged (s.sub.unacknowledged ++ (c.args.delivery, c.args.message) ∷ []) }) auto in
    ap (λ l. record o { all = l }) (changed_none (with_sub f) o.all at (c.args.key, s) there (ap (λ (x : Subscription). (c.args.key, record s { sub = x })) same)))

pub returns : goal.returns
returns c =
    let o = c.args.order.now in
    let m = c.args.message in
    let d = c.args.delivery in
    let held = c.args.held.now in
    let auto : (at : ℕ) (s : Waiter) → slice_get o.all at ≡ Some (c.args.key, s) → is_auto s.sub.mode ≡ false = λ at s there. ap (λ (x : Subscription). is_auto x.mode) (sym (c.get-sub.ensures.sub at s there)) ∙ sym c.is_auto.ensures ∙ c.if-is_auto.false in
    record {
      answers = c.hand_over.ensures.answers;
      delivered = both_ok c.hand_over.result _ _ _ (λ kept _ at s there.
          let g : Subscription → Subscription = λ x. delivered x d m in
          let same : record s.sub { unacknowledged = s.sub.unacknowledged ++ (d, m) ∷ [] } ≡ g s.sub = sym (ap (λ b. record s.sub { unacknowledged = cond b s.sub.unacknowledged (s.sub.unacknowledged ++ (d, m) ∷ []) }) (auto at s there)) in
          kept at s there ∙ ap (λ l. record o { all = l }) (changed_alike (kept_by d m) (with_sub g) o.all at (c.args.key, s) there (ap (λ (x : Subscription). (c.args.key, record s { sub = x })) same))) c.hand_over.ensures.kept c.hand_over.ensures.kept;
      held = on_ok c.hand_over.result _ (λ at s there. record {
        messages = sym (ap (λ b. cond b (held.messages - 1) held.messages) (auto at s there));
        lighter = sym (ap (λ b. cond b (held.bytes - bytes m) held.bytes) (auto at s there));
      });
    }

pub returns-then-is_auto-clause-held : goal.returns-then-is_auto-clause-held
returns-then-is_auto-clause-held c =
    on_ok c.reply.result _ (λ at s there.
    let held = c.args.held.now in
    let m = c.args.message in
    let auto : is_auto s.sub.mode ≡ true = ap (λ (x : Subscription). is_auto x.mode) (sym (c.get-sub.ensures.sub at s there)) ∙ sym c.is_auto.ensures ∙ c.if-is_auto.true in
    record {
      messages = sym (ap (λ b. cond b (held.messages - 1) held.messages) auto);
      lighter = ap (λ n. held.bytes - n) c.size.ensures.size ∙ sym (ap (λ b. cond b (held.bytes - bytes m) held.bytes) auto);
    })
