use Rattle.std.proofs.Common.{◌≡◌, ◌++◌, List, length, All, IsOk, Result, arith, ap, sym, ◌∙◌, subst}
use Rattle.atomic_table.specs.Seated.{TableId}
use Rattle.claim_core.specs.Seats.{SessionSeatValue, FlushSeatValue}
use Rattle.engine_core.specs.declared.hub.Closed.{Closed}
use Rattle.engine_core.specs.Closings.{Closes, closed}
use Rattle.engine_core.proofs.Shown.{closes}
use Rattle.engine_core.proofs.hub.Hub.close.Goals as goal

pub end_ring-requires : goal.end_ring-requires
end_ring-requires g c =
    let of = c.into_seats-ring.ensures.parts in
    let parts = c.into_parts-disk.ensures.parts in record {
      flusher = ap (λ (s : FlushSeatValue). s.ring) parts.1 ∙ (c.requires.flusher ∙ sym of.0);
      own = subst (λ (l : List SessionSeatValue). All (λ (s : SessionSeatValue). s.ring ≡ c.into_seats-ring.result.0) l) (sym of.1)
          (subst (λ (ring : TableId). All (λ (s : SessionSeatValue). s.ring ≡ ring) c.args.self.seats) (sym of.0) c.into_seats-ring.ensures.seated);
      given = subst (λ (ring : TableId). All (λ (s : SessionSeatValue). s.ring ≡ ring) c.args.seats.items) (sym of.0) c.requires.seats;
      all = omega (arith, c.requires.all, ap (λ (l : List SessionSeatValue). length l) of.1, ap (λ (s : FlushSeatValue). s.seats) parts.1);
    }

pub returns-in-Ok-clause-closes : goal.returns-in-Ok-clause-closes
returns-in-Ok-clause-closes g c =
    let kept = c.into_parts-disk.ensures.kept in
    let parts = c.into_parts-disk.ensures.parts in
    let ended = c.in-Ok.ensures.ends in
    let all_is : c.into_seats-ring.result.1.items ++ c.args.seats.items ≡ c.args.self.seats ++ c.args.seats.items = ap (λ (l : List SessionSeatValue). l ++ c.args.seats.items) c.into_seats-ring.ensures.parts.1 in (
      ended.0,
      subst (λ (it : Closed g.row.D.Denot). Closes g.D.Disk.honest g.D.Disk.images (c.args.self.seats ++ c.args.seats.items) c.args.flusher ended.0 it) (sym c.told.ensures)
          (subst (λ (l : List SessionSeatValue). Closes g.D.Disk.honest g.D.Disk.images l c.args.flusher ended.0 (closed c.in-Ok.end c.into_parts-disk.result.0)) all_is
          (closes g.D.Disk.honest g.D.Disk.images c.args.flusher c.into_parts-disk.result.0 c.into_parts-disk.result.1 _ ended.0 c.in-Ok.end
          c.shown_worlds_hold.ensures kept parts.0 parts.1 ended.1)),
    )

pub returns-in-Err-clause-own : goal.returns-in-Err-clause-own
returns-in-Err-clause-own g c few =
    subst (λ (r : Result _ _). IsOk r) c.in-Err.is (c.end_ring.ensures.room (omega (arith, few, c.into_seats-ring.ensures.room, ap (λ (s : FlushSeatValue). s.seats) c.into_parts-disk.ensures.parts.1)))

pub returns-in-Err-clause-refused : goal.returns-in-Err-clause-refused
returns-in-Err-clause-refused g c = c.into_parts-disk.ensures.parts.0
