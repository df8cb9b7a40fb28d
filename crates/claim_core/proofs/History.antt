-- What the owner's last load tells of all seats.
use Rattle.std.proofs.Common.{◌≡◌, ℕ, zero, suc, ◌+◌, List, [], ◌∷◌, map, length, refl, sym, ap, ◌∙◌, arith, length-append}
use mathlib.Core.Option.{some, some-injective, some-ne-none}
use lib.ListN.{get_elem?, length-map}
use Rattle.command_core.specs.Commands.{CommandValue}
use Rattle.claim_core.specs.declared.ring.RingEnd.{RingEnd}
use Rattle.claim_core.specs.declared.views.Claimer.{Claimer}
use Rattle.claim_core.specs.Counts.{sum_of, times}
use Rattle.atomic_table.specs.Seated.{TableId}
use Rattle.std.specs.Prelude.{None, false, ◌++◌}
use Rattle.claim_core.specs.declared.views.Owner.{Owner}
use Rattle.claim_core.specs.declared.views.View.TheVariants.{Owns, Claims}
use Rattle.claim_core.specs.declared.views.View.{View}
use Rattle.claim_core.specs.Steps.{Sat, Ended, claimer, owning, joined_to}
use Rattle.claim_core.specs.Seats.{SessionSeatValue, FlushSeatValue, next_ticket, claimer_from, owner_with, flush_value, session_value, owner_of, claimer_of, IsFlush, IsSession}
use Rattle.claim_core.specs.Endings.{Agree, Ends}

module _ {A C : Type 0} where
  sum_map : (f : C → ℕ) (g : A → C) (l : List A) → sum_of f (map g l) ≡ sum_of (λ a. f (g a)) l
  sum_map f g [] = refl
  sum_map f g (x ∷ xs) = omega (arith, sum_map f g xs)

  at_map : (g : A → C) (l : List A) (k : ℕ) (a : A) → get_elem? l k ≡ some a → get_elem? (map g l) k ≡ some (g a)
  at_map g [] k a e = absurd (some-ne-none a (sym e))
  at_map g (x ∷ xs) zero a e = ap some (ap g (some-injective x a e))
  at_map g (x ∷ xs) (suc k) a e = at_map g xs k a e

-- the flusher's seat with one session's seat that it has taken back
pub joins : (ring ring' : TableId) (number : ℕ) (o : Owner) (c : Claimer) → o.held ≡ false → o.joined ≡ [] → c.pending ≡ None
    → joined_to (Owns o) (Claims c) ≡ Owns (owner_with (flush_value ring (Owns o)) (session_value ring' number (Claims c) ∷ []))
joins ring ring' number o c free none idle = λ i. Owns (owning o.base o.taken (free i) o.published o.stopped o.count ((ap (λ l. l ++ c ∷ []) none ∙ ap (λ q. claimer c.own q c.seen c.stopped ∷ []) idle) i))

pub gathered : {B : Type 0} (ring ring' : TableId) (number base next mark window capacity : ℕ) (waits : List ℕ) (me other : Sat B) (m : View) (flush : FlushSeatValue) (seat : SessionSeatValue)
    → IsFlush me base next mark → IsSession window other waits capacity → flush_value ring me.0 ≡ flush → session_value ring' number other.0 ≡ seat
    → m ≡ joined_to me.0 other.0 → m ≡ Owns (owner_with flush (seat ∷ []))
gathered ring ring' number base next mark window capacity waits me other m flush seat owner session flush_is seat_is joined =
    joined ∙ ((λ i. joined_to (owner.owns i) (session.claims i)) ∙ (joins ring ring' number (owner_of me.0) (claimer_of other.0) owner.not_held owner.alone session.idle ∙ (λ i. Owns (owner_with (flush_is i) (seat_is i ∷ [])))))

pub agree : (flush : FlushSeatValue) (seat : SessionSeatValue) (tail : ℕ) → Ended (owner_with flush (seat ∷ [])) tail → Agree seat flush
agree flush seat tail e = let q = e.6 0 (claimer_from seat) refl in (e.0, e.2, record { rising = q.0; own = q.3; seen = q.1; stop = q.2 })

pub history : (seats : List SessionSeatValue) (flush : FlushSeatValue) (tail : ℕ) (end : RingEnd) → length seats ≡ flush.seats → Ended (owner_with flush seats) tail
    → end.base ≡ flush.base → end.claimed ≡ tail → end.taken ≡ next_ticket flush → end.mark ≡ flush.published → (log : List CommandValue) × Ends seats flush log end
history seats flush tail end all e base claimed taken mark = (
  e.0,
  record {
    base = base;
    claimed = claimed ∙ e.1;
    taken = taken;
    mark = mark;
    ordered = (
      omega (arith, base, mark, e.3),
      omega (arith, mark, taken, e.4),
      omega (arith, taken, claimed, e.1, ap length e.2.1, length-append flush.taken e.2.0),
    );
    prefix = e.2;
    once = λ i lt. sym (sum_map (λ (c : Claimer). times (flush.base + i) c.own) claimer_from seats) ∙ e.5 (length-map seats claimer_from ∙ all) i lt;
    each = λ k seat at. let q = e.6 k (claimer_from seat) (at_map claimer_from seats k seat at) in record { rising = q.0; own = q.3; seen = q.1; stop = q.2 };
  },
)
