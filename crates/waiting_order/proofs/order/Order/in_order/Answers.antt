use Rattle.std.proofs.Common.{◌≡◌, ◌++◌, ◌∷◌, ◌∙◌, [], Bor, List, Some, ap, append_assoc, arith, drop, length, length-append, map, suc, sym}
use Rattle.std.proofs.lemmas.List.{map-append}
use Rattle.broker_state.specs.declared.subscription.Subscription.{Subscription}
use Rattle.waiting_order.specs.declared.waiters.Key.{Key}
use Rattle.waiting_order.specs.Waiting.{subs_of}
use Rattle.waiting_order.proofs.Listing.{at_drop, first_of_keys}
use Rattle.waiting_order.proofs.Timed.{W}
use Rattle.waiting_order.proofs.order.Order.in_order.Goals as goal

pub get-requires : goal.get-requires
get-requires c =
    let n = length c.loop-key.subs.items in
    let f = first_of_keys c.in-Some.key c.next.new.self.rest.items (drop n c.args.self.now.all) (sym c.in-Some.ensures.steps.0 ∙ c.loop-key.invariant.keys) in
    (n, f.0.1, (at_drop n c.args.self.now.all f.0 f.1 f.2).0 ∙ ap (λ (k : Key). Some (k, f.0.1)) f.3)

pub loop-key-preserved : goal.loop-key-preserved
loop-key-preserved c =
    let all = c.args.self.now.all in
    let subs = c.loop-key.subs.items in
    let n = length subs in
    let more = c.push.new.self.items in
    let f = first_of_keys c.in-Some.key c.next.new.self.rest.items (drop n all) (sym c.in-Some.ensures.steps.0 ∙ c.loop-key.invariant.keys) in
    let d = at_drop n all f.0 f.1 f.2 in
    let long : length more ≡ suc n = omega (arith, ap length c.in_ok-push.ensures.items, length-append subs (c.get.result ∷ [])) in
    let left : drop (length more) all ≡ f.1 = ap (λ k. drop k all) long ∙ d.1 in
    let now : Bor Subscription → Subscription = λ sub. sub.now in
    record {
      keys = f.4 ∙ sym (ap (map (λ (w : W). w.0)) left);
      joined = ap (λ (l : List W). map now more ++ subs_of l) left
          ∙ ap (λ (l : List (Bor Subscription)). map now l ++ subs_of f.1) c.in_ok-push.ensures.items
          ∙ ap (λ (l : List Subscription). l ++ subs_of f.1) (map-append now subs (c.get.result ∷ []))
          ∙ append_assoc (map now subs) (c.get.result.now ∷ []) (subs_of f.1)
          ∙ ap (λ (x : Subscription). map now subs ++ x ∷ subs_of f.1) (c.get.ensures.sub n f.0.1 (d.0 ∙ ap (λ (k : Key). Some (k, f.0.1)) f.3))
          ∙ sym (ap (λ (l : List W). map now subs ++ subs_of l) f.2)
          ∙ c.loop-key.invariant.joined;
    }
