use Rattle.std.proofs.Common.{arith, refl, sym, ap, subst, ◌≡◌, ◌<◌, ◌≤◌, ◌∙◌, ℕ, false}
use Rattle.std.proofs.lemmas.Bool.{ltb-true, ltb-false}
use Rattle.command_core.specs.Commands.{CommandValue}
use Rattle.claim_core.specs.declared.refusals.Refused.TheVariants.{Exhausted, Busy}
use Rattle.claim_core.specs.Appends.{Appends, Refuses}
use Rattle.claim_core.specs.Rule.{far}
use Rattle.claim_core.specs.Steps.{IsLast}
use Rattle.claim_core.specs.Seats.{SessionSeatValue, waiting, with_own, with_seen, with_stop}
use Rattle.claim_core.proofs.ring.Ring.append_within.Goals as goal

-- The seat t has found the ring running, and u then read that mark.
module _ (window mark : ℕ) (s t u : SessionSeatValue) (ran : t ≡ with_stop s false) (read : u ≡ with_seen t mark) (less : t.seen ≤ mark) where
  seen : u ≡ with_seen (with_stop s false) mark
  seen = read ∙ ap (λ x. with_seen x mark) ran

  no_less : s.seen ≤ mark
  no_less = subst (λ (x : SessionSeatValue). x.seen ≤ mark) ran less

  exhausted : far ≤ mark → Refuses window s u Exhausted
  exhausted is_far = subst (λ x. Refuses window s x Exhausted) (sym seen) (no_less, is_far, refl)

  busy : mark < far → window ≤ waiting u → Refuses window s u (Busy mark)
  busy near full = (no_less, near, subst (λ x. window ≤ waiting x) seen full, seen)

  appended : mark < far → waiting u < window → (v : SessionSeatValue) (ticket : ℕ) (command : CommandValue) → v ≡ with_own u ticket command → u.seen ≤ ticket → IsLast ticket u.own → Appends window s v ticket command
  appended near room v ticket command added unseen last = subst (λ x. Appends window s x ticket command) (sym (added ∙ ap (λ x. with_own x ticket command) seen))
      (record {
        added = refl;
        no_less = no_less;
        near = near;
        room = subst (λ x. waiting x < window) seen room;
        unseen = subst (λ (x : SessionSeatValue). x.seen ≤ ticket) seen unseen;
        last = subst (λ (x : SessionSeatValue). IsLast ticket x.own) seen last;
      })

pub returns-then-finds_stop-clause-refused : goal.returns-then-finds_stop-clause-refused
returns-then-finds_stop-clause-refused g c = (refl, c.finds_stop.ensures ∙ ap (with_stop c.args.seat.now) c.if-finds_stop.true)

pub returns-then-mark-ge-FAR-clause-refused : goal.returns-then-mark-ge-FAR-clause-refused
returns-then-mark-ge-FAR-clause-refused g c = let read = c.read_mark-mark.ensures in (refl, exhausted c.args.window _ c.args.seat.now _ _ c.if-finds_stop.ensures read.seen read.no_less (omega (arith, c.if-mark-ge-FAR.true)))

pub returns-then-not-has_room-clause-refused : goal.returns-then-not-has_room-clause-refused
returns-then-not-has_room-clause-refused g c = let read = c.read_mark-mark.ensures in (refl, busy _ _ c.args.seat.now _ _ c.if-finds_stop.ensures read.seen read.no_less c.if-mark-ge-FAR.false (ltb-false _ _ (sym c.if-not-has_room.ensures)))

pub returns-clause-ok : goal.returns-clause-ok
returns-clause-ok g c = let read = c.read_mark-mark.ensures in let put = c.put.ensures in
    appended _ _ c.args.seat.now _ _ c.if-finds_stop.ensures read.seen read.no_less c.if-mark-ge-FAR.false (ltb-true _ _ (sym c.if-not-has_room.ensures)) _ _ _ put.added put.unseen put.last

pub returns-clause-refused : goal.returns-clause-refused
returns-clause-refused g c = tt
