-- What stands at a desk.
use Rattle.std.proofs.Common.{◌≡◌, ℕ, zero, suc, ◌+◌, ◌-◌, ◌<◌, ◌≤◌, List, [], ◌∷◌, ◌++◌, Option, Some, None, Bool, true, false, length, take, drop, replicate, get_or, refl, sym, ap, ◌∙◌, subst, inl, inr, append-nil, append_assoc, arith}
use Rattle.std.specs.Prelude.{IfSome, is_some, slice_get, set}
use Rattle.std.specs.List.{AllByRecursion, sum_by}
use Rattle.std.specs.Option.{option_map}
use Rattle.std.proofs.lemmas.Bool.{cases_eq, cases_lt}
use Rattle.std.proofs.lemmas.List.{length-append, length-set, length-map, length-replicate, map-set, map-append, set_split, set-get_or, get_or-set_same, get_or-set_other, get_or_append_left, get_or_past}
use Rattle.std.proofs.lemmas.List.Sums.{sum_by-set, sum_by_push, get_or-le-sum_by}
use Rattle.std.proofs.lemmas.Option.{slice_get-get_or, slice_get-map, slice_get_within, get_or_from_slice_get}
use Rattle.claim_core.specs.Counts.{Pair}
use Rattle.claim_core.specs.Seats.{SessionSeatValue, with_seen}
use Rattle.clients.specs.Connections.{ConnectionValue, connection_of}
use Rattle.clients.specs.Progress.{number_in}
use Rattle.clients.specs.declared.progress.Progress.{Progress}
use Rattle.clients.specs.declared.progress.Progress.TheVariants.{New, Open, Ended, Gone}
use Rattle.clients.specs.declared.desk.Seated.{Seated}
use Rattle.clients.specs.declared.turned.Turned.{Turned}
use Rattle.clients.specs.TurnAnswers.{Answers}
use Rattle.clients.specs.Continues.{Continues}
use Rattle.clients.specs.Conversations.{Converse, IsPart, Speaks, holds, number_of, opens, part_of}
use Rattle.clients.specs.Desks.{Admits, AreApart, Changes, DeskValue, IsCounted, IsDesk, Others, TalkApart, Touches, Turns, counted_in, desk, reaching, seated_at, stand_of}
use Rattle.clients.specs.Effects.{commands_of}
use Rattle.clients.specs.Halting.{FindsEnd}
use Rattle.clients.specs.Histories.{Idles}
use Rattle.clients.specs.Places.{ChangedAt, IsChanged, PingedAt, ServedAt, UnservedAt, counted_at, progress_at}
use Rattle.clients.specs.Clients.{IsNew, Unserved}
use Rattle.ws_core.specs.Sending.{IsPinged}
use Rattle.ws_core.specs.declared.link.LinkFault.{LinkFault}
use Rattle.clients.proofs.Lists.{cond_same}
use Rattle.clients.proofs.ClientProgress.{heeds_none}
use Rattle.clients.proofs.SeatConversations.{beside}

-- ── a desk begins ──

nobody : (n : ℕ) → IsPart n 0 0 []
nobody n = record { most = omega arith; conversation = inl refl; begun = λ some. absurd (omega arith); opened = λ some. absurd (omega arith) }

pub fresh : {B L : Type 0} (before seat : SessionSeatValue) (places : List (Option (Seated B L))) → before ≡ seat → places ≡ [] → IsDesk before seat places
fresh before seat places same none = record {
  ring = ap (λ (s : SessionSeatValue). s.ring) (sym same);
  number = ap (λ (s : SessionSeatValue). s.number) (sym same);
  speaks = subst (λ l. Speaks before.own seat.own (stand_of l)) (sym none)
      (record { more = []; whole = ap (λ (s : SessionSeatValue). s.own) (sym same) ∙ sym (append-nil before.own); parts = nobody });
}

-- ── the mark is read ──

pub looked : {B L : Type 0} (before seat after : SessionSeatValue) (mark : ℕ) (places : List (Option (Seated B L))) → after ≡ with_seen seat mark → IsDesk before seat places → IsDesk before after places
looked before seat after mark places is d = subst (λ s. IsDesk before s places) (sym is) (record { ring = d.ring; number = d.number; speaks = d.speaks })

pub looks : {B L : Type 0} (old : DeskValue B L) (limit : ℕ) (before seat after : SessionSeatValue) (mark : ℕ) (places : List (Option (Seated B L)))
    → desk limit before seat places ≡ old → after ≡ with_seen seat mark → desk limit before after places ≡ desk old.limit old.before (with_seen old.seat mark) old.places
looks {B} {L} old limit before seat after mark places same is =
    ap (λ s. desk limit before s places) is ∙ ap (λ (d : DeskValue B L). desk d.limit d.before (with_seen d.seat mark) d.places) same

-- ── at one place ──

-- where what sits at a place has a conversation that holds and opens no more
pub as_many : (n h h' o o' : ℕ) (ps : List Pair) → h' ≡ h → o' ≤ o → IsPart n h o ps → IsPart n h' o' ps
as_many n h h' o o' ps a b part = record { most = omega (arith, part.most); conversation = part.conversation; begun = λ some. part.begun (omega arith); opened = λ some. part.opened (omega arith) }

fewer : (n h h' o o' : ℕ) (ps : List Pair) → h' ≤ h → o' ≤ o → IsPart n h o ps → IsPart n h' o' ps
fewer n h h' o o' ps a b part = record { most = omega (arith, part.most); conversation = part.conversation; begun = λ some. part.begun (omega arith); opened = λ some. part.opened (omega arith) }

stand_was : {B L : Type 0} (places : List (Option (Seated B L))) (at : ℕ) (was : Option (Seated B L)) → at < length places → was ≡ get_or places at was
    → stand_of places ≡ take at (stand_of places) ++ progress_at was ∷ drop (suc at) (stand_of places)
stand_was places at was within there =
    let again : set places at was ≡ places = ap (λ x. set places at x) there ∙ set-get_or places at was in
    ap (λ l. stand_of l) (sym again) ∙ map-set progress_at places at was
    ∙ set_split (stand_of places) at (progress_at was) (omega (arith, length-map places progress_at))

stand_is : {B L : Type 0} (places : List (Option (Seated B L))) (at : ℕ) (is : Option (Seated B L)) → at < length places
    → stand_of (set places at is) ≡ take at (stand_of places) ++ progress_at is ∷ drop (suc at) (stand_of places)
stand_is places at is within =
    map-set progress_at places at is
    ∙ set_split (stand_of places) at (progress_at is) (omega (arith, length-map places progress_at))

-- what sits at a place goes on
pub stepped : {B L : Type 0} (before old new : SessionSeatValue) (places : List (Option (Seated B L))) (at : ℕ) (was is : Option (Seated B L)) → at < length places → was ≡ get_or places at was
    → Continues (progress_at was) old (progress_at is) new → IsDesk before old places → IsDesk before new (set places at is)
stepped before old new places at was is within there c d = record {
  ring = c.ring ∙ d.ring;
  number = c.number ∙ d.number;
  speaks = subst (λ l. Speaks before.own new.own l) (sym (stand_is places at is within))
      (c.speaks before.own (take at (stand_of places)) (drop (suc at) (stand_of places)) (subst (λ l. Speaks before.own old.own l) (stand_was places at was within there) d.speaks));
}

-- what sits at a place is changed for what holds no more
pub replaced : {B L : Type 0} (before seat : SessionSeatValue) (places : List (Option (Seated B L))) (at : ℕ) (was is : Option (Seated B L)) → at < length places → was ≡ get_or places at was
    → ((n : ℕ) → holds n (progress_at is) ≤ holds n (progress_at was)) → ((n : ℕ) → opens n (progress_at is) ≤ opens n (progress_at was))
    → IsDesk before seat places → IsDesk before seat (set places at is)
replaced before seat places at was is within there hs os d =
    let left : List Progress = take at (stand_of places) in
    let right : List Progress = drop (suc at) (stand_of places) in
    let split : Speaks before.own seat.own (left ++ progress_at was ∷ right) = subst (λ l. Speaks before.own seat.own l) (stand_was places at was within there) d.speaks in record {
      ring = d.ring;
      number = d.number;
      speaks = subst (λ l. Speaks before.own seat.own l) (sym (stand_is places at is within)) record {
        more = split.more;
        whole = split.whole;
        parts = λ n. fewer n _ _ _ _ (part_of n split.more)
            (omega (arith, beside (holds n) left right (progress_at was), beside (holds n) left right (progress_at is), hs n))
            (omega (arith, beside (opens n) left right (progress_at was), beside (opens n) left right (progress_at is), os n))
            (split.parts n);
      };
    }

-- ── free places are added ──

silent_part : (n h h' o o' : ℕ) (ps : List Pair) → h' ≡ h + 0 → o' ≡ o + 0 → IsPart n h o ps → IsPart n h' o' ps
silent_part n h h' o o' ps a b part = record { most = omega (arith, part.most); conversation = part.conversation; begun = λ some. part.begun (omega arith); opened = λ some. part.opened (omega arith) }

one_free : {B L : Type 0} (before seat : SessionSeatValue) (places : List (Option (Seated B L))) → IsDesk before seat places → IsDesk before seat (places ++ None ∷ [])
one_free before seat places d =
    let stand : stand_of (places ++ None ∷ []) ≡ stand_of places ++ Gone ∷ [] = map-append progress_at places (None ∷ []) in record {
      ring = d.ring;
      number = d.number;
      speaks = subst (λ l. Speaks before.own seat.own l) (sym stand) record {
        more = d.speaks.more;
        whole = d.speaks.whole;
        parts = λ n. silent_part n _ _ _ _ (part_of n d.speaks.more) (sum_by_push (holds n) (stand_of places) Gone) (sum_by_push (opens n) (stand_of places) Gone) (d.speaks.parts n);
      };
    }

more_free : {B L : Type 0} (before seat : SessionSeatValue) (places : List (Option (Seated B L))) (n : ℕ) → IsDesk before seat places → IsDesk before seat (places ++ replicate n None)
more_free before seat places zero d = subst (λ l. IsDesk before seat l) (sym (append-nil places)) d
more_free before seat places (suc n) d =
    subst (λ l. IsDesk before seat l) (append_assoc places (None ∷ []) (replicate n None)) (more_free before seat (places ++ None ∷ []) n (one_free before seat places d))

pub within_reach : {B L : Type 0} (places all : List (Option (Seated B L))) (at : ℕ) → all ≡ reaching at places → at < length all
within_reach {B} {L} places all at is =
    let free : Option (Seated B L) = None in
    omega (arith, ap length is, length-append places (replicate (at + 1 - length places) None), length-replicate (at + 1 - length places) free)

-- ── what a desk shows ──

pub converses : (before own : List Pair) (stand : List Progress) → Speaks before own stand → Converse before own
converses before own stand s = record { more = s.more; whole = s.whole; each = λ n. (s.parts n).conversation }

holds_its : (n : ℕ) (p : Progress) → number_in p ≡ Some n → holds n p ≡ 1
holds_its n New e = absurd (cc)
holds_its n (Open m) e = let same : m ≡ n = cc in cond_same m n 1 0 same
holds_its n (Ended m) e = let same : m ≡ n = cc in cond_same m n 1 0 same
holds_its n Gone e = absurd (cc)

two : (n : ℕ) (ps : List Progress) (i j : ℕ) (p q : Progress) → (i ≡ j → ⊥) → slice_get ps i ≡ Some p → slice_get ps j ≡ Some q → holds n p ≡ 1 → holds n q ≡ 1 → 2 ≤ sum_by (holds n) ps
two n ps i j p q apart pi qj hp hq =
    let within : j < length (set ps i New) = omega (arith, length-set ps i New, slice_get_within ps j q qj) in
    let less : sum_by (holds n) (set ps i New) + holds n (get_or ps i p) ≡ sum_by (holds n) ps + 0 = sum_by-set (holds n) ps i New p (slice_get_within ps i p pi) in
    let at_i : holds n (get_or ps i p) ≡ 1 = ap (holds n) (get_or_from_slice_get ps i p p pi) ∙ hp in
    let at_j : holds n (get_or (set ps i New) j q) ≡ 1 = ap (holds n) (get_or-set_other ps i j New q (λ e. apart (sym e)) ∙ get_or_from_slice_get ps j q q qj) ∙ hq in
    omega (arith, less, at_i, at_j, get_or-le-sum_by (holds n) (set ps i New) j q within)

pub apart : {B L : Type 0} (before own : List Pair) (places : List (Option (Seated B L))) → Speaks before own (stand_of places) → AreApart places
apart before own places d i j n s t si tj ns nt =
    elim (cases_eq i j) [
      | inl same ↦ same
      | inr other ↦
          let si' : slice_get (stand_of places) i ≡ Some (progress_at (Some s)) = slice_get-map progress_at places i ∙ ap (λ o. option_map progress_at o) si in
          let tj' : slice_get (stand_of places) j ≡ Some (progress_at (Some t)) = slice_get-map progress_at places j ∙ ap (λ o. option_map progress_at o) tj in
          absurd (omega (arith, two n (stand_of places) i j (progress_at (Some s)) (progress_at (Some t)) other si' tj' (holds_its n s.client.progress ns) (holds_its n t.client.progress nt), (d.parts n).most))
    ]

pub talk_apart : {B L : Type 0} (limit counted : ℕ) (before seat : SessionSeatValue) (places : List (Option (Seated B L))) → IsDesk before seat places → IsCounted limit counted places → TalkApart (desk limit before seat places)
talk_apart limit counted before seat places d c = record {
  converse = converses before.own seat.own (stand_of places) d.speaks;
  apart = apart before.own seat.own places d.speaks;
  within = omega (arith, c.sum, c.within);
  limits = c.limits;
}

pub get_other : {X : Type 0} (xs : List X) (i k : ℕ) (y : X) → (k ≡ i → ⊥) → slice_get (set xs i y) k ≡ slice_get xs k
get_other [] i k y other = refl
get_other (x ∷ xs) zero zero y other = absurd (other refl)
get_other (x ∷ xs) zero (suc k) y other = refl
get_other (x ∷ xs) (suc i) zero y other = refl
get_other (x ∷ xs) (suc i) (suc k) y other = get_other xs i k y (λ e. other (ap suc e))

pub get_same : {X : Type 0} (xs : List X) (i : ℕ) (y : X) → i < length xs → slice_get (set xs i y) i ≡ Some y
get_same xs i y within = slice_get-get_or (set xs i y) i y (omega (arith, length-set xs i y)) ∙ ap (λ x. Some x) (get_or-set_same xs i y y within)

pub others : {B L : Type 0} (old places : List (Option (Seated B L))) (at : ℕ) (is : Option (Seated B L)) → places ≡ old → Others old (set places at is) at
others old places at is same =
    subst (λ l. Others l (set places at is) at) same (record { count = length-set places at is; others = λ k other. get_other places at k is other })

pub nothing_else : {B L : Type 0} (old new : List (Option (Seated B L))) (at : ℕ) → new ≡ old → Others old new at
nothing_else old new at same = record { count = ap length same; others = λ k other. ap (λ l. slice_get l k) same }

cancel : {X : Type 0} (xs ys zs : List X) → xs ++ ys ≡ xs ++ zs → ys ≡ zs
cancel [] ys zs e = e
cancel (x ∷ xs) ys zs e = cancel xs ys zs (tail e)
  where
    tail : x ∷ (xs ++ ys) ≡ x ∷ (xs ++ zs) → xs ++ ys ≡ xs ++ zs
    tail f = cc

pub get_same_or : {B L : Type 0} (places : List (Option (Seated B L))) (at : ℕ) (is : Option (Seated B L)) → at < length places → seated_at (set places at is) at ≡ is
get_same_or places at is within = get_or_from_slice_get (set places at is) at is None (get_same places at is within)

-- ── nothing is said at a place ──

pub unmoved : {B L : Type 0} (before seat : SessionSeatValue) (places : List (Option (Seated B L))) (at : ℕ) (was is : Option (Seated B L)) → at < length places → was ≡ get_or places at was
    → progress_at is ≡ progress_at was → IsDesk before seat places → IsDesk before seat (set places at is)
unmoved before seat places at was is within there same d = record {
  ring = d.ring;
  number = d.number;
  speaks = subst (λ l. Speaks before.own seat.own l)
      (stand_was places at was within there ∙ ap (λ p. take at (stand_of places) ++ p ∷ drop (suc at) (stand_of places)) (sym same) ∙ sym (stand_is places at is within)) d.speaks;
}

pub same_progress : {B L : Type 0} (sent : L → Option (List (List ℕ))) (received : L → Option (List ℕ)) (was is : Option (Seated B L)) → UnservedAt sent received was is → progress_at is ≡ progress_at was
same_progress sent received None is u = ap progress_at u
same_progress sent received (Some was) is u = ap progress_at u.1 ∙ u.2.progress

pub sitting : {B L : Type 0} (places : List (Option (Seated B L))) (at : ℕ) (was : Option (Seated B L)) → at < length places → was ≡ get_or places at was → slice_get places at ≡ Some was
sitting places at was within there = slice_get-get_or places at was within ∙ ap (λ x. Some x) (sym there)

same_of : {X : Type 0} (x y : X) → Some x ≡ Some y → x ≡ y
same_of x y e = cc

pub touches : {B L : Type 0} (sent : L → Option (List (List ℕ))) (received : L → Option (List ℕ)) (old : DeskValue B L) (limit : ℕ) (before seat : SessionSeatValue) (places : List (Option (Seated B L))) (at : ℕ) (was is : Option (Seated B L))
    → desk limit before seat places ≡ old → at < length places → was ≡ get_or places at was → UnservedAt sent received was is → Touches sent received old (desk limit before seat (set places at is)) at
touches {B} {L} sent received old limit before seat places at was is same within there u = record {
  before = ap (λ (d : DeskValue B L). d.before) same;
  seat = ap (λ (d : DeskValue B L). d.seat) same;
  limit = ap (λ (d : DeskValue B L). d.limit) same;
  others = others old.places places at is (ap (λ (d : DeskValue B L). d.places) same);
  unserved = λ w sat.
      let it : was ≡ Some w = same_of _ _ (sym (sitting places at was within there) ∙ ap (λ (d : DeskValue B L). slice_get d.places at) same ∙ sat) in
      let so : UnservedAt sent received (Some w) is = subst (λ o. UnservedAt sent received o is) it u in
      (so.0, get_same places at is within ∙ ap (λ x. Some x) so.1, so.2, so.3);
}

pub touches_none : {B L : Type 0} (sent : L → Option (List (List ℕ))) (received : L → Option (List ℕ)) (old new : DeskValue B L) (at : ℕ) → new ≡ old → Touches sent received old new at
touches_none {B} {L} sent received old new at same = record {
  before = ap (λ (d : DeskValue B L). d.before) same;
  seat = ap (λ (d : DeskValue B L). d.seat) same;
  limit = ap (λ (d : DeskValue B L). d.limit) same;
  others = nothing_else old.places new.places at (ap (λ (d : DeskValue B L). d.places) same);
  unserved = λ w sat. (w, ap (λ (d : DeskValue B L). slice_get d.places at) same ∙ sat, record { progress = refl; waiting = refl; opening = refl; outbox = refl; kept = refl; sent = refl }, heeds_none received w.client w.link);
}

pub unserved_some : {B L : Type 0} (sent : L → Option (List (List ℕ))) (received : L → Option (List ℕ)) (o : Option (Seated B L)) (was is : Seated B L) → o ≡ Some was → Unserved sent was.client was.link is.client is.link → Idles received was.client was.link is.client is.link
    → UnservedAt sent received o (Some is)
unserved_some sent received o was is e u h = subst (λ x. UnservedAt sent received x (Some is)) (sym e) (is, refl, u, h)

-- what holds of what sat at a place and what sits there
pub at_place : {B L : Type 0} (R : Option (Seated B L) → Option (Seated B L) → Type 0) (old : DeskValue B L) (limit : ℕ) (before seat : SessionSeatValue) (places : List (Option (Seated B L))) (at : ℕ) (was is : Option (Seated B L))
    → desk limit before seat places ≡ old → at < length places → was ≡ get_or places at was → R was is → R (seated_at old.places at) (seated_at (set places at is) at)
at_place {B} {L} R old limit before seat places at was is same within there so =
    let sat : was ≡ seated_at old.places at = sym (get_or_from_slice_get places at was None (sitting places at was within there)) ∙ ap (λ (d : DeskValue B L). seated_at d.places at) same in
    subst (λ o. R o (seated_at (set places at is) at)) sat (subst (λ o. R was o) (sym (get_same_or places at is within)) so)

-- what the connection at a place is told
pub changes : {B L : Type 0} (f : ConnectionValue → ConnectionValue) (old : DeskValue B L) (limit : ℕ) (before seat : SessionSeatValue) (places : List (Option (Seated B L))) (at : ℕ) (was is : Option (Seated B L))
    → desk limit before seat places ≡ old → at < length places → was ≡ get_or places at was → ChangedAt f was is → Changes f old (desk limit before seat (set places at is)) at
changes {B} {L} f old limit before seat places at was is same within there so = record {
  before = ap (λ (d : DeskValue B L). d.before) same;
  seat = ap (λ (d : DeskValue B L). d.seat) same;
  limit = ap (λ (d : DeskValue B L). d.limit) same;
  others = others old.places places at is (ap (λ (d : DeskValue B L). d.places) same);
  changed = at_place (ChangedAt f) old limit before seat places at was is same within there so;
}

pub changes_none : {B L : Type 0} (f : ConnectionValue → ConnectionValue) (old new : DeskValue B L) (at : ℕ) → new ≡ old → length old.places ≤ at → Changes f old new at
changes_none {B} {L} f old new at same past =
    let free : seated_at old.places at ≡ None = get_or_past old.places at None past in record {
      before = ap (λ (d : DeskValue B L). d.before) same;
      seat = ap (λ (d : DeskValue B L). d.seat) same;
      limit = ap (λ (d : DeskValue B L). d.limit) same;
      others = nothing_else old.places new.places at (ap (λ (d : DeskValue B L). d.places) same);
      changed = subst (λ o. ChangedAt f o (seated_at new.places at)) (sym free) (ap (λ (d : DeskValue B L). seated_at d.places at) same ∙ free);
    }

pub changed_progress : {B L : Type 0} (f : ConnectionValue → ConnectionValue) → ((c : ConnectionValue) → (f c).progress ≡ c.progress) → (was is : Option (Seated B L)) → ChangedAt f was is → progress_at is ≡ progress_at was
changed_progress f same None is c = ap progress_at c
changed_progress f same (Some was) is c = ap progress_at c.1 ∙ ap (λ (x : ConnectionValue). x.progress) c.2.connection ∙ same (connection_of was.client)

pub changed_some : {B L : Type 0} (f : ConnectionValue → ConnectionValue) (o : Option (Seated B L)) (was is : Seated B L) → o ≡ Some was → IsChanged f was is → ChangedAt f o (Some is)
changed_some f o was is e c = subst (λ x. ChangedAt f x (Some is)) (sym e) (is, refl, c)

-- ── a ping ──

pub pinged_some : {B L : Type 0} (pings : L → L → Type 0) (refuses : L → L → LinkFault → Type 0) (flushes : L → L → Type 0) (o : Option (Seated B L)) (was is : Seated B L) → o ≡ Some was
    → IsPinged pings refuses flushes was.link is.link → PingedAt pings refuses flushes o (Some is)
pinged_some pings refuses flushes o was is e p = subst (λ x. PingedAt pings refuses flushes x (Some is)) (sym e) (is, refl, p)

pub pinged_none : {B L : Type 0} (pings : L → L → Type 0) (refuses : L → L → LinkFault → Type 0) (flushes : L → L → Type 0) (old new : DeskValue B L) (at : ℕ) → new ≡ old → length old.places ≤ at
    → PingedAt pings refuses flushes (seated_at old.places at) (seated_at new.places at)
pinged_none {B} {L} pings refuses flushes old new at same past =
    let free : seated_at old.places at ≡ None = get_or_past old.places at None past in
    subst (λ o. PingedAt pings refuses flushes o (seated_at new.places at)) (sym free) (ap (λ (d : DeskValue B L). seated_at d.places at) same ∙ free)

-- ── a turn ──

pub turns : {B L : Type 0} (sent : L → Option (List (List ℕ))) (received : L → Option (List ℕ)) (old : DeskValue B L) (limit : ℕ) (before seat after : SessionSeatValue) (places : List (Option (Seated B L))) (at : ℕ) (was is : Option (Seated B L)) (turned : Turned) (counted : ℕ)
    → desk limit before seat places ≡ old → at < length places → was ≡ get_or places at was → Continues (progress_at was) seat (progress_at is) after → ServedAt sent received (limit - counted + counted_at was) was seat is after turned → counted_at was ≤ counted → IsCounted limit counted places
    → Turns sent received old (desk limit before after (set places at is)) at turned
turns {B} {L} sent received old limit before seat after places at was is turned counted same within there c s less n = record {
  was = s.was;
  is = s.is;
  sat = ap (λ (d : DeskValue B L). slice_get d.places at) (sym same) ∙ sitting places at was within there ∙ ap (λ x. Some x) s.sat;
  sits = get_same places at is within ∙ ap (λ x. Some x) s.sits;
  limit = ap (λ (d : DeskValue B L). d.limit) same;
  effects = s.effects;
  added = s.added ∙ ap (λ (d : DeskValue B L). d.seat.own ++ commands_of s.effects) same;
  of_it = subst (λ p. AllByRecursion (λ (x : Pair). number_in p ≡ Some (number_of x)) (commands_of s.effects)) (ap progress_at s.sits)
      (subst (λ l. AllByRecursion (λ (x : Pair). number_in (progress_at is) ≡ Some (number_of x)) l) (cancel seat.own c.said (commands_of s.effects) (sym c.added ∙ s.added)) c.of_it);
  served = s.served;
  heeds = s.heeds;
  room =
      let its : counted_at was ≡ s.was.client.footprint.counted = ap counted_at s.sat in
      let all : counted_in places ≡ counted_in old.places = ap (λ (d : DeskValue B L). counted_in d.places) same in
      omega (arith, s.has_room, its, all, n.sum, n.within, less, ap (λ (d : DeskValue B L). d.limit) same);
  concludes = s.concludes;
  evicted = s.evicted;
  halts = λ before h. s.halts (λ m. subst (λ (d : DeskValue B L). FindsEnd d.seat) (sym same) (before m)) h;
  answers = subst (λ (x : SessionSeatValue). Answers received turned x s.was.link s.is.client after s.is.link) (ap (λ (d : DeskValue B L). d.seat) same) s.answers;
}

pub if_some : {X : Type 0} (o : Option X) (P Q : X → Type 0) → ((x : X) → P x → Q x) → IfSome o P → IfSome o Q
if_some None P Q so p = p
if_some (Some x) P Q so p = so x p

-- ── one more client ──

-- who sits at a place sits there with free ones added
nobody_past : {B L : Type 0} (places : List (Option (Seated B L))) (n k : ℕ) → length places ≤ k → seated_at (places ++ replicate n None) k ≡ None
nobody_past [] zero k past = get_or_past [] k None past
nobody_past [] (suc n) zero past = refl
nobody_past [] (suc n) (suc k) past = nobody_past [] n k (omega arith)
nobody_past (x ∷ places) n zero past = absurd (omega (arith, past))
nobody_past (x ∷ places) n (suc k) past = nobody_past places n k (omega (arith, past))

pub still_there : {B L : Type 0} (places : List (Option (Seated B L))) (n k : ℕ) → seated_at (places ++ replicate n None) k ≡ seated_at places k
still_there places n k = elim (cases_lt k (length places)) [
  | inl within ↦ get_or_append_left places (replicate n None) None k within
  | inr past ↦ nobody_past places n k past ∙ sym (get_or_past places k None past)
]

pub admits : {B L : Type 0} (old : DeskValue B L) (limit : ℕ) (before seat : SessionSeatValue) (places all : List (Option (Seated B L))) (at : ℕ) (is : Option (Seated B L)) (seated : Seated B L) (link : L)
    → desk limit before seat places ≡ old → all ≡ reaching at places → seated_at old.places at ≡ None → is ≡ Some seated → seated.link ≡ link → IsNew old.limit seated.client → Admits old (desk limit before seat (set all at is)) link at
admits {B} {L} old limit before seat places all at is seated link same reach free sits link_is is_new =
    let long : length all ≡ length places + (at + 1 - length places) =
    ap length reach ∙ length-append places (replicate (at + 1 - length places) None) ∙ ap (λ n. length places + n) (length-replicate (at + 1 - length places) None) in
    let of_old : length places ≡ length old.places = ap (λ (d : DeskValue B L). length d.places) same in record {
      seated = seated;
      before = ap (λ (d : DeskValue B L). d.before) same;
      seat = ap (λ (d : DeskValue B L). d.seat) same;
      limit = ap (λ (d : DeskValue B L). d.limit) same;
      was_free = free;
      sits = get_same all at is (within_reach places all at reach) ∙ ap (λ x. Some x) sits;
      link_is = link_is;
      is_new = is_new;
      others = λ k other.
          get_or-set_other all at k is None other ∙ ap (λ l. seated_at l k) reach ∙ still_there places (at + 1 - length places) k ∙ ap (λ (d : DeskValue B L). seated_at d.places k) same;
      count = omega (arith, length-set all at is, long, of_old);
    }

-- ── a client is let go ──

pub none_goes : (n : ℕ) (p : Progress) → (0 ≤ holds n p) × (0 ≤ opens n p)
none_goes n p = (omega arith, omega arith)

pub vacated : {B L : Type 0} (before seat : SessionSeatValue) (places : List (Option (Seated B L))) (at : ℕ) (was is : Option (Seated B L)) → at < length places → was ≡ get_or places at was
    → is ≡ None → IsDesk before seat places → IsDesk before seat (set places at is)
vacated before seat places at was is within there none d =
    subst (λ o. IsDesk before seat (set places at o)) (sym none) (replaced before seat places at was None within there (λ n. (none_goes n (progress_at was)).0) (λ n. (none_goes n (progress_at was)).1) d)

-- at one of the places to which free ones were added somebody sits who was not heard yet
pub taken_place : {B L : Type 0} (before seat : SessionSeatValue) (places all : List (Option (Seated B L))) (at : ℕ) (was is : Option (Seated B L)) → all ≡ reaching at places → was ≡ get_or all at was
    → progress_at is ≡ New → IsDesk before seat places → IsDesk before seat (set all at is)
taken_place before seat places all at was is reach there anew d =
    replaced before seat all at was is (within_reach places all at reach) there (λ n. subst (λ p. holds n p ≤ holds n (progress_at was)) (sym anew) (none_goes n (progress_at was)).0)
    (λ n. subst (λ p. opens n p ≤ opens n (progress_at was)) (sym anew) (none_goes n (progress_at was)).1)
    (subst (λ l. IsDesk before seat l) (sym reach) (more_free before seat places (at + 1 - length places) d))

pub nobody_is : {X : Type 0} (o : Option X) (b : Bool) → b ≡ is_some o → b ≡ false → o ≡ None
nobody_is None b is none = refl
nobody_is (Some x) b is none = absurd (let e : true ≡ false = sym is ∙ none in cc)

-- where nobody sits nothing is done
pub same_desk : {B L : Type 0} (old : DeskValue B L) (limit : ℕ) (before seat after : SessionSeatValue) (places : List (Option (Seated B L))) (at : ℕ) (was is : Option (Seated B L))
    → desk limit before seat places ≡ old → was ≡ get_or places at was → is ≡ was → after ≡ seat → desk limit before after (set places at is) ≡ old
same_desk {B} {L} old limit before seat after places at was is same there e s =
    ap (λ x. desk limit before x (set places at is)) s ∙ ap (λ o. desk limit before seat (set places at o)) (e ∙ there) ∙ ap (λ l. desk limit before seat l) (set-get_or places at was) ∙ same

pub sits_there : {B L : Type 0} (old : DeskValue B L) (limit : ℕ) (before seat : SessionSeatValue) (places : List (Option (Seated B L))) (at : ℕ) (was : Option (Seated B L))
    → desk limit before seat places ≡ old → at < length places → was ≡ get_or places at was → seated_at old.places at ≡ was
sits_there {B} {L} old limit before seat places at was same within there =
    ap (λ (d : DeskValue B L). seated_at d.places at) (sym same) ∙ get_or_from_slice_get places at was None (sitting places at was within there)
