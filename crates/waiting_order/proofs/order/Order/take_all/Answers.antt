use Rattle.std.proofs.Common.{◌≡◌, ◌++◌, ◌∷◌, ◌∙◌, [], List, Some, ap, append_assoc, arith, length, map, remove, slice_get, sym}
use Rattle.broker_state.specs.declared.subscription.Subscription.{Subscription}
use Rattle.waiting_order.specs.declared.waiters.Key.{Key}
use Rattle.waiting_order.specs.Waiting.{Waiting, subs_of}
use Rattle.waiting_order.proofs.Listing.{first_of_keys, no_keys}
use Rattle.waiting_order.proofs.Timed.{W}
use Rattle.waiting_order.proofs.order.Order.take_all.Goals as goal

pub remove-sub-requires : goal.remove-sub-requires
remove-sub-requires c =
    let f = first_of_keys c.in-Some.key c.next.new.self.rest.items c.loop-key.self.all (sym c.in-Some.ensures.steps.0 ∙ c.loop-key.invariant.keys) in
    (0, f.0.1, ap (λ (l : List W). slice_get l 0) f.2 ∙ ap (λ (k : Key). Some (k, f.0.1)) f.3)

pub loop-key-preserved : goal.loop-key-preserved
loop-key-preserved c =
    let f = first_of_keys c.in-Some.key c.next.new.self.rest.items c.loop-key.self.all (sym c.in-Some.ensures.steps.0 ∙ c.loop-key.invariant.keys) in
    let there : slice_get c.loop-key.self.all 0 ≡ Some (c.in-Some.key, f.0.1) = ap (λ (l : List W). slice_get l 0) f.2 ∙ ap (λ (k : Key). Some (k, f.0.1)) f.3 in
    let is = c.remove-sub.ensures 0 f.0.1 there in
    let left = ap (λ (o : Waiting). o.all) is.1 ∙ ap (λ (l : List W). remove l 0) f.2 in
    record {
      next = ap (λ (o : Waiting). o.next) is.1 ∙ c.loop-key.invariant.next;
      keys = f.4 ∙ sym (ap (map (λ (w : W). w.0)) left);
      joined = ap (λ (l : List Subscription). l ++ subs_of c.remove-sub.new.self.all) c.in_ok-push.ensures.items
          ∙ append_assoc c.loop-key.subs.items (c.remove-sub.result ∷ []) (subs_of c.remove-sub.new.self.all)
          ∙ ap (λ (x : Subscription). c.loop-key.subs.items ++ x ∷ subs_of c.remove-sub.new.self.all) is.0
          ∙ ap (λ (l : List W). c.loop-key.subs.items ++ f.0.1.sub ∷ subs_of l) left
          ∙ sym (ap (λ (l : List W). c.loop-key.subs.items ++ subs_of l) f.2)
          ∙ c.loop-key.invariant.joined;
    }

pub returns-clause-none : goal.returns-clause-none
returns-clause-none c =
    let none = no_keys c.loop-key.self.all (omega (arith, c.in-None.ensures.steps.0, c.loop-key.key-iterator.rest.ok, ap length c.loop-key.invariant.keys)) in
    ap (λ (l : List W). record { all = l; next = c.loop-key.self.next }) none ∙ ap (λ n. record { all = []; next = n }) c.loop-key.invariant.next
