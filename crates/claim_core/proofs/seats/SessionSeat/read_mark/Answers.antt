use Rattle.std.proofs.Common.{rules, arith, sym, ap, ◌∙◌, ℕ}
use Rattle.std.proofs.lemmas.Fn.{filter_same}
use Rattle.std.specs.Prelude.{nat_le, filter}
use Rattle.claim_core.specs.declared.views.View.TheVariants.{Claims}
use Rattle.claim_core.specs.Counts.{open_of}
use Rattle.claim_core.specs.Seats.{claimer_of}
use Rattle.claim_core.proofs.Waiting.{open_later}
use Rattle.claim_core.proofs.seats.SessionSeat.read_mark.Goals as goal

pub invariant_of-self : goal.invariant_of-self
invariant_of-self g c = let seat = c.self.inside in let d = claimer_of seat.table_seat.me.0 in let told = c.load_mark-mark.ensures.told in let q = told.1 d c.self.invariant.claims in let view = q.1 in let m : ℕ = c.load_mark-mark.result in
    record {
      claims = view ∙ sym (ap (λ v. Claims (claimer_of v)) view);
      nothing_out = told.0 ∙ c.self.invariant.nothing_out;
      idle = ap (λ v. (claimer_of v).pending) view ∙ c.self.invariant.idle;
      waits_is = filter_same _ (λ t. nat_le m t) _ (λ x b f' k. search rules) _ _ c.retain.ensures.filtered
          ∙ (ap (λ l. filter (λ t. nat_le m t) l) c.self.invariant.waits_is ∙ (open_later d.seen m d.own q.0 ∙ sym (ap (λ v. open_of (claimer_of v).seen (claimer_of v).own) view)));
      room = omega (arith, c.self.invariant.room, c.retain.ensures.capacity);
    }
