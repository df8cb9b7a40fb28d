use Rattle.std.proofs.Common.{◌≡◌, ◌+◌, ◌<◌, ◌++◌, ◌∙◌, List, [], ◌∷◌, ℕ, IfSome, Option, Some, ap, arith, length, refl, subst, suc, zero}
use Rattle.std.specs.List.{slice_index_or, slice_set}
use Rattle.std.specs.Option.{option_to_list}
use Rattle.std.proofs.lemmas.List.Elements.{All-get_or, All-pop, All-push, All-set}
use Rattle.atomic_table.specs.Seated.{TableId}
use Rattle.server_core.specs.Serving.{AreServed, count_mailboxes}
use Rattle.server_core.specs.declared.service.Service.{Service}
use Rattle.server_core.specs.declared.worker.WorkerSetup.{WorkerSetup}

-- one setup more, behind the others
pub count_push : (xs : List WorkerSetup) (x : WorkerSetup) → count_mailboxes (xs ++ x ∷ []) ≡ count_mailboxes xs + length x.mailboxes.items
count_push [] x =
    let one : count_mailboxes (x ∷ []) ≡ length x.mailboxes.items + 0 = refl in
    let none : count_mailboxes [] ≡ 0 = refl in omega (arith, one, none)
count_push (y ∷ ys) x =
    let rest = count_push ys x in
    let more : count_mailboxes (y ∷ (ys ++ x ∷ [])) ≡ length y.mailboxes.items + count_mailboxes (ys ++ x ∷ []) = refl in
    let before : count_mailboxes (y ∷ ys) ≡ length y.mailboxes.items + count_mailboxes ys = refl in omega (arith, rest, more, before)

-- the last setup has left
pub count_pop : (xs ys : List WorkerSetup) (r : Option WorkerSetup) (x : WorkerSetup) → xs ≡ ys ++ option_to_list r → r ≡ Some x → count_mailboxes xs ≡ count_mailboxes ys + length x.mailboxes.items
count_pop xs ys r x is some = ap count_mailboxes (is ∙ ap (λ o. ys ++ option_to_list o) some) ∙ count_push ys x

-- the setup at a place has one desk more
pub count_set : (xs : List WorkerSetup) (i : ℕ) (d y : WorkerSetup) → i < length xs → length y.mailboxes.items ≡ length (slice_index_or xs i d).mailboxes.items + 1 → count_mailboxes (slice_set xs i y) ≡ count_mailboxes xs + 1
count_set [] i d y within more = absurd (omega (arith, within))
count_set (x ∷ xs) zero d y within more =
    let after : count_mailboxes (y ∷ xs) ≡ length y.mailboxes.items + count_mailboxes xs = refl in
    let before : count_mailboxes (x ∷ xs) ≡ length x.mailboxes.items + count_mailboxes xs = refl in omega (arith, more, after, before)
count_set (x ∷ xs) (suc i) d y within more =
    let rest = count_set xs i d y (omega (arith, within)) more in
    let after : count_mailboxes (x ∷ slice_set xs i y) ≡ length x.mailboxes.items + count_mailboxes (slice_set xs i y) = refl in
    let before : count_mailboxes (x ∷ xs) ≡ length x.mailboxes.items + count_mailboxes xs = refl in omega (arith, rest, after, before)

-- one service has gone on
pub served_set : {R : Type 0} (ring : TableId) (services : List (Service R)) (i : ℕ) (s : Service R) → s.shared.now.ring ≡ ring → AreServed ring services → AreServed ring (slice_set services i s)
served_set {R = R} ring services i s at all = All-set (λ (service : Service R). service.shared.now.ring ≡ ring) services i s at all

-- the service at a place has gone on over what is shared
pub served_on : {R : Type 0} (ring : TableId) (services : List (Service R)) (i : ℕ) (d s : Service R) → i < length services → s.shared ≡ (slice_index_or services i d).shared → AreServed ring services → AreServed ring (slice_set services i s)
served_on {R = R} ring services i d s within shared all =
    let there : (slice_index_or services i d).shared.now.ring ≡ ring = All-get_or (λ (service : Service R). service.shared.now.ring ≡ ring) services i d within all in
    served_set ring services i s (ap (λ it. it.now.ring) shared ∙ there) all

pub served_push : {R : Type 0} (ring : TableId) (services : List (Service R)) (s : Service R) → AreServed ring services → s.shared.now.ring ≡ ring → AreServed ring (services ++ s ∷ [])
served_push {R = R} ring services s all at = All-push (λ (service : Service R). service.shared.now.ring ≡ ring) services s all at

-- the last service has left
pub served_pop : {R : Type 0} (ring : TableId) (xs ys : List (Service R)) (r : Option (Service R)) → xs ≡ ys ++ option_to_list r → AreServed ring xs → AreServed ring ys
served_pop {R = R} ring xs ys r is all = (All-pop (λ (service : Service R). service.shared.now.ring ≡ ring) xs ys r is all).0

-- it was at the ring
pub served_last : {R : Type 0} (ring : TableId) (xs ys : List (Service R)) (r : Option (Service R)) (s : Service R) → xs ≡ ys ++ option_to_list r → r ≡ Some s → AreServed ring xs → s.shared.now.ring ≡ ring
served_last {R = R} ring xs ys r s is some all =
    subst (λ o. IfSome o (λ (service : Service R). service.shared.now.ring ≡ ring)) some (All-pop (λ (service : Service R). service.shared.now.ring ≡ ring) xs ys r is all).1
