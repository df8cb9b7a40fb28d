-- How many bytes are counted for the sessions of a desk.
use Rattle.std.proofs.Common.{◌≡◌, ℕ, zero, suc, ◌+◌, ◌-◌, ◌<◌, ◌≤◌, List, [], ◌∷◌, ◌++◌, Option, Some, None, length, replicate, set, get_or, inl, inr, refl, sym, ap, ◌∙◌, subst, append_assoc, append-nil, arith}
use Rattle.std.proofs.lemmas.Bool.{cases_eq}
use Rattle.std.proofs.lemmas.List.{get_or-set_other, get_or_past}
use Rattle.std.proofs.lemmas.List.Sums.{get_or-le-sum_by, sum_by-set, sum_by_push}
use Rattle.std.proofs.lemmas.Option.{get_or_from_slice_get}
use Rattle.claim_core.specs.Seats.{SessionSeatValue}
use Rattle.clients.specs.Connections.{ConnectionValue, connection_of, unheard, with_room}
use Rattle.clients.specs.Footprints.{FootprintValue}
use Rattle.clients.specs.declared.desk.Seated.{Seated}
use Rattle.clients.specs.declared.client.Client.{Client}
use Rattle.clients.specs.declared.turned.Turned.{Turned}
use Rattle.clients.specs.TurnAnswers.{Answers}
use Rattle.clients.specs.Concluding.{Concludes}
use Rattle.clients.specs.Effects.{commands_of}
use Rattle.clients.specs.Desks.{IsCounted, Trims, counted_in, reaching, seated_at}
use Rattle.clients.specs.Halting.{HasHalted}
use Rattle.clients.specs.Places.{ChangedAt, HasLimit, KeepsWithin, ServedAt, UnservedAt, counted_at}
use Rattle.clients.specs.SessionBytes.{IsEvicted}
use Rattle.clients.specs.ClientSteps.{GoesOn}
use Rattle.clients.proofs.ClientProgress.{allowed}
use Rattle.clients.proofs.MessagesSent.{reserve}
use Rattle.clients.proofs.DeskPlaces.{get_same_or, sitting, still_there, within_reach}

-- ── at one place ──

nobody_knows : {B L : Type 0} (limit k : ℕ) (places : List (Option (Seated B L))) → places ≡ [] → HasLimit limit (seated_at places k)
nobody_knows limit k places none = subst (λ o. HasLimit limit o) (sym (ap (λ l. seated_at l k) none ∙ get_or_past [] k None (omega arith))) tt

pub counted_none : {B L : Type 0} (limit counted : ℕ) (places : List (Option (Seated B L))) → counted ≡ 0 → places ≡ [] → IsCounted limit counted places
counted_none limit counted places zero_is none = record {
  sum = zero_is ∙ ap counted_in (sym none);
  within = omega (arith, zero_is);
  limits = λ k. nobody_knows limit k places none;
}

pub counted_set : {B L : Type 0} (limit counted new : ℕ) (places : List (Option (Seated B L))) (at : ℕ) (was is : Option (Seated B L)) → at < length places → was ≡ get_or places at was
    → new + counted_at was ≡ counted + counted_at is → new ≤ limit → HasLimit limit is → IsCounted limit counted places → IsCounted limit new (set places at is)
counted_set limit counted new places at was is within there same less known c = record {
  sum = omega (arith, same, c.sum, sum_by-set counted_at places at is was within, ap counted_at there);
  within = less;
  limits = λ k. elim (cases_eq k at) [
    | inl here ↦ subst (λ n. HasLimit limit (seated_at (set places at is) n)) (sym here) (subst (λ o. HasLimit limit o) (sym (get_same_or places at is within)) known)
    | inr other ↦ subst (λ o. HasLimit limit o) (sym (get_or-set_other places at k is None other)) (c.limits k)
  ];
}

pub known_at : {B L : Type 0} (limit counted : ℕ) (places : List (Option (Seated B L))) (at : ℕ) (was : Option (Seated B L)) → at < length places → was ≡ get_or places at was → IsCounted limit counted places → HasLimit limit was
known_at limit counted places at was within there c = subst (λ o. HasLimit limit o) (get_or_from_slice_get places at was None (sitting places at was within there)) (c.limits at)

pub no_more_at : {B L : Type 0} (limit counted : ℕ) (places : List (Option (Seated B L))) (at : ℕ) (was : Option (Seated B L)) → at < length places → was ≡ get_or places at was → IsCounted limit counted places → counted_at was ≤ counted
no_more_at limit counted places at was within there c = omega (arith, c.sum, get_or-le-sum_by counted_at places at was within, ap counted_at there)

pub keeps_within : {B L : Type 0} (limit counted : ℕ) (places : List (Option (Seated B L))) (at : ℕ) (was : Option (Seated B L)) → at < length places → was ≡ get_or places at was → IsCounted limit counted places → KeepsWithin limit counted was
keeps_within limit counted places at was within there c = (no_more_at limit counted places at was within there c, c.within, known_at limit counted places at was within there c)

-- as much is counted for it, and it knows the limit as before
abbrev pub IsAsBefore : {B L : Type 0} → Option (Seated B L) → Option (Seated B L) → Type 0
IsAsBefore was is = (counted_at is ≡ counted_at was) × ((limit : ℕ) → HasLimit limit was → HasLimit limit is)

pub counted_same : {B L : Type 0} (limit counted : ℕ) (places : List (Option (Seated B L))) (at : ℕ) (was is : Option (Seated B L)) → at < length places → was ≡ get_or places at was → IsAsBefore was is
    → IsCounted limit counted places → IsCounted limit counted (set places at is)
counted_same limit counted places at was is within there it c =
    counted_set limit counted counted places at was is within there (omega (arith, it.0)) c.within (it.1 limit (known_at limit counted places at was within there c)) c

pub as_it_was : {B L : Type 0} (was is : Option (Seated B L)) → is ≡ was → IsAsBefore was is
as_it_was was is same = (ap counted_at same, λ limit known. subst (λ o. HasLimit limit o) (sym same) known)

pub as_changed : {B L : Type 0} (f : ConnectionValue → ConnectionValue) → ((c : ConnectionValue) → (f c).footprint.counted ≡ c.footprint.counted) → ((c : ConnectionValue) → (f c).footprint.limit ≡ c.footprint.limit)
    → (was is : Option (Seated B L)) → ChangedAt f was is → IsAsBefore was is
as_changed f counted limits None is c = as_it_was None is c
as_changed f counted limits (Some was) is c = (
  ap counted_at c.1 ∙ ap (λ (x : ConnectionValue). x.footprint.counted) c.2.connection ∙ counted (connection_of was.client),
  λ limit known. subst (λ o. HasLimit limit o) (sym c.1) (ap (λ (x : ConnectionValue). x.footprint.limit) c.2.connection ∙ limits (connection_of was.client) ∙ known),
)

pub as_unserved : {B L : Type 0} (sent : L → Option (List (List ℕ))) (received : L → Option (List ℕ)) (was is : Option (Seated B L)) → UnservedAt sent received was is → IsAsBefore was is
as_unserved sent received None is u = as_it_was None is u
as_unserved sent received (Some was) is u = (
  ap counted_at u.1 ∙ ap (λ (f : FootprintValue). f.counted) u.3.footprint,
  λ limit known. subst (λ o. HasLimit limit o) (sym u.1) (ap (λ (f : FootprintValue). f.limit) u.3.footprint ∙ known),
)

-- ── free places ──

pub free_sum : {B L : Type 0} (places : List (Option (Seated B L))) (n : ℕ) → counted_in (places ++ replicate n None) ≡ counted_in places
free_sum places zero = ap counted_in (append-nil places)
free_sum places (suc n) =
    ap counted_in (sym (append_assoc places (None ∷ []) (replicate n None))) ∙ free_sum (places ++ None ∷ []) n ∙ omega (arith, sum_by_push counted_at places None)

pub counted_more : {B L : Type 0} (limit counted : ℕ) (places all : List (Option (Seated B L))) (n : ℕ) → all ≡ places ++ replicate n None → IsCounted limit counted places → IsCounted limit counted all
counted_more limit counted places all n same c = subst (λ l. IsCounted limit counted l) (sym same) record {
  sum = c.sum ∙ sym (free_sum places n);
  within = c.within;
  limits = λ k. subst (λ o. HasLimit limit o) (sym (still_there places n k)) (c.limits k);
}

pub counted_trimmed : {B L : Type 0} (limit counted : ℕ) (places new : List (Option (Seated B L))) → Trims places new → IsCounted limit counted places → IsCounted limit counted new
counted_trimmed limit counted places new t c =
    let all : IsCounted limit counted (new ++ replicate t.free None) = subst (λ l. IsCounted limit counted l) t.whole c in record {
      sum = all.sum ∙ free_sum new t.free;
      within = all.within;
      limits = λ k. subst (λ o. HasLimit limit o) (still_there new t.free k) (all.limits k);
    }

-- ── a turn ──

-- what the others leave
pub room_left : (limit counted before its all : ℕ) → before ≡ its → all ≡ its → all ≤ counted → counted ≤ limit → limit - (counted - before) ≡ (limit - counted) + all
room_left limit counted before its all b a less within = omega (arith, b, a, less, within)

pub served_at : {B L : Type 0} (sent : L → Option (List (List ℕ))) (received : L → Option (List ℕ)) (room : ℕ) (o : Option (Seated B L)) (was is : Seated B L) (mid : Client B) (s t : SessionSeatValue) (turned : Turned)
    → o ≡ Some was → (connection_of mid) ≡ with_room room (connection_of was.client) → (mid.waiting ≡ was.client.waiting) × (mid.opening ≡ was.client.opening) × (mid.outbox ≡ was.client.outbox) × (mid.kept ≡ was.client.kept)
    → GoesOn sent received mid s was.link is.client t is.link → Answers received turned s was.link is.client t is.link → ServedAt sent received room o s (Some is) t turned
served_at sent received room o was is mid s t turned sat allows same g answers = record {
  was = was;
  is = is;
  sat = sat;
  sits = refl;
  effects = g.effects;
  added = g.added;
  served = reserve sent _ was.client mid is.client was.link is.link (ap (λ (c : ConnectionValue). c.progress) allows) same.2 same.3 g.served;
  heeds = record { got = g.heeds.got; read = g.heeds.read; lives = λ bytes before x. g.heeds.lives bytes before (allowed room was.client mid bytes before allows same.0 x) };
  has_room = g.keeps.room ∙ ap (λ (c : ConnectionValue). c.footprint.room) allows;
  concludes =
      let k = subst (λ c. Concludes sent c was.link (connection_of is.client) is.link (commands_of g.effects)) allows g.concludes in
      record { follows = k.follows; silent = k.silent; tells = k.tells };
  evicted = λ e. subst (λ (c : ConnectionValue). IsEvicted c.footprint.cut) allows (g.keeps.evicted e);
  halts = λ before h. g.halts (λ m. before (subst (λ (c : ConnectionValue). HasHalted c.stage) allows m)) h;
  answers = answers;
}

-- ── a client comes ──

pub counted_taken : {B L : Type 0} (limit counted : ℕ) (places all : List (Option (Seated B L))) (at : ℕ) (was is : Option (Seated B L)) (seated : Seated B L) → all ≡ reaching at places → was ≡ get_or all at was
    → seated_at places at ≡ None → is ≡ Some seated → (connection_of seated.client) ≡ unheard limit → IsCounted limit counted places → IsCounted limit counted (set all at is)
counted_taken limit counted places all at was is seated reach there free sits anew c =
    let n : ℕ = at + 1 - length places in
    let within : at < length all = within_reach places all at reach in
    let nobody : was ≡ None =
    sym (get_or_from_slice_get all at was None (sitting all at was within there)) ∙ ap (λ l. seated_at l at) reach ∙ still_there places n at ∙ free in
    let none : counted_at was ≡ 0 = ap counted_at nobody in
    let its : counted_at is ≡ 0 = ap counted_at sits ∙ ap (λ (x : ConnectionValue). x.footprint.counted) anew in
    counted_set limit counted counted all at was is within there (omega (arith, none, its)) c.within
    (subst (λ o. HasLimit limit o) (sym sits) (ap (λ (x : ConnectionValue). x.footprint.limit) anew)) (counted_more limit counted places all n reach c)

-- ── a client goes ──

pub less_by : (counted its held : ℕ) → held ≡ its → its ≤ counted → (counted - held) + its ≡ counted
less_by counted its held same less = omega (arith, same, less)

pub counted_left : {B L : Type 0} (limit counted left : ℕ) (places : List (Option (Seated B L))) (at : ℕ) (was is : Option (Seated B L)) (seated : Seated B L) → at < length places → was ≡ get_or places at was
    → was ≡ Some seated → is ≡ None → left + seated.client.footprint.counted ≡ counted → IsCounted limit counted places → IsCounted limit left (set places at is)
counted_left limit counted left places at was is seated within there sat none less c =
    counted_set limit counted left places at was is within there (omega (arith, less, ap counted_at sat, ap counted_at none)) (omega (arith, less, c.within))
    (subst (λ o. HasLimit limit o) (sym none) tt) c

pub its_counted : {B L : Type 0} (limit counted : ℕ) (places : List (Option (Seated B L))) (at : ℕ) (was : Option (Seated B L)) (seated : Seated B L) → at < length places → was ≡ get_or places at was → was ≡ Some seated → IsCounted limit counted places
    → seated.client.footprint.counted ≤ counted
its_counted limit counted places at was seated within there sat c = omega (arith, no_more_at limit counted places at was within there c, ap counted_at sat)

pub fits_less : (counted its held : ℕ) → held ≡ its → its ≤ counted → held ≤ counted
fits_less counted its held same less = omega (arith, same, less)
