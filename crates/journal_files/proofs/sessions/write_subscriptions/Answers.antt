use Rattle.std.proofs.Common.{◌≡◌, ◌∙◌, ◌+◌, ◌++◌, ◌∷◌, [], ap, append-nil, sym, take}
use Rattle.std.proofs.KnownBytes.{Appends-trans}
use Rattle.std.proofs.lemmas.List.{take_more}
use Rattle.std.proofs.lemmas.List.Concat.{flat_map-append}
use Rattle.std.specs.List.{flat_map}
use Rattle.journal_files.specs.Sessions.{subscription_line}
use Rattle.journal_files.proofs.sessions.write_subscriptions.Goals as goal

pub loop-subscription-preserved : goal.loop-subscription-preserved
loop-subscription-preserved g c =
    let subs = c.args.subscriptions.now in
    let at = c.loop-subscription.subscription-index in
    let item = c.subscription-item.result in
    let one : take (at + 1) subs ≡ take at subs ++ item ∷ [] =
    take_more subs at item c.loop-subscription-test.true ∙ ap (λ sub. take at subs ++ sub ∷ []) (sym c.subscription-item.is) in
    let both = Appends-trans _ _ _ (flat_map (λ sub. subscription_line sub.now) (take at subs)) (subscription_line item.now) c.loop-subscription.invariant c.in_ok-write_subscription.ensures in
    let all : flat_map (λ sub. subscription_line sub.now) (take (at + 1) subs) ≡ flat_map (λ sub. subscription_line sub.now) (take at subs) ++ subscription_line item.now =
    ap (λ list. flat_map (λ sub. subscription_line sub.now) list) one ∙ flat_map-append (λ sub. subscription_line sub.now) (take at subs) (item ∷ [])
    ∙ ap (λ text. flat_map (λ sub. subscription_line sub.now) (take at subs) ++ text) (append-nil (subscription_line item.now)) in
    rw (all) both
