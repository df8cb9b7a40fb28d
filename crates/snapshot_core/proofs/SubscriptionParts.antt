-- A subscription is read part by part: what it begins with, its durable name, and what it has.
use Rattle.std.proofs.Common.{◌≡◌, ◌∙◌, ◌||◌, ℕ, Bool, List, Option, None, Some, ap, is_some, not, refl, subst, sym}
use Rattle.std.specs.Int.{w64}
use Rattle.std.specs.Ordering.{nat_cmp}
use Rattle.command_core.specs.declared.command.AckMode.{AckMode}
use Rattle.command_core.specs.declared.decoding.DecodeFault.{DecodeFault}
use Rattle.command_core.specs.declared.decoding.DecodeFault.TheVariants as faults
use Rattle.command_core.specs.Destinations.{is_queue}
use Rattle.command_core.specs.PartReading.{◌>>=◌, Fails, destination_at, mode_at, name_at, number_at, text_at}
use Rattle.line_core.specs.declared.message.Message.{Message}
use Rattle.broker_state.specs.declared.subscription.Subscription.{Subscription}
use Rattle.broker_core.specs.Names.{Name}
use Rattle.broker_core.specs.Operations.{client_in}
use Rattle.snapshot_core.specs.Reading.{delivery_at, durable_name_at, front_at, had_at, keyed_at, named_by, own_line_at, subscription_at}

-- session, id, destination and mode
abbrev pub Front : Type 0
Front = ℕ × List ℕ × List ℕ × AckMode

abbrev pub Had : Type 0
Had = List Message × List (ℕ × Message)

abbrev pub whole : Front → Option Name → Had × List ℕ → Option (Subscription × List ℕ)
whole f durable had =
    Some (record { session = f.0; id = f.1; destination = f.2; mode = f.3; durable = durable; line = had.0.0; unacknowledged = had.0.1 }, had.1)

abbrev pub takes_own : Front → Option Name → Bool
takes_own f durable = not (is_some durable || is_queue f.2)

abbrev after_name : Front → Option Name × List ℕ → Option (Subscription × List ℕ)
after_name f d =
    own_line_at (takes_own f d.0) d.1 >>= λ w. keyed_at nat_cmp delivery_at w.1 >>= λ u. whole f d.0 ((w.0, u.0), u.1)

-- what fails at first fails
pub fails_at : {A B : Type 0} (e : DecodeFault) (read : Option A) (next : A → Option B) → Fails e read → Fails e (read >>= next)
fails_at faults.NoSpelling read next none = ap (λ o. o >>= next) none
fails_at (faults.Memory x) read next none = none

module _ (sessions : List (ℕ × Option (List ℕ))) where
  abbrev after_front : Front × List ℕ → Option (Subscription × List ℕ)
  after_front f =
      name_at f.1 >>= λ own. named_by (client_in sessions f.0.0) own.0 >>= λ durable. after_name f.0 (durable, own.1)

  -- the front

  mode_in : (s : ℕ) (id to : List ℕ) (o : Option (AckMode × List ℕ)) → ((o >>= λ m. Some ((s, id, to, m.0), m.1)) >>= after_front) ≡ (o >>= λ m. after_front ((s, id, to, m.0), m.1))
  mode_in s id to None = refl
  mode_in s id to (Some m) = refl

  to_in : (s : ℕ) (id : List ℕ) (o : Option (List ℕ × List ℕ)) → ((o >>= λ d. mode_at d.1 >>= λ m. Some ((s, id, d.0, m.0), m.1)) >>= after_front) ≡ (o >>= λ d. mode_at d.1 >>= λ m. after_front ((s, id, d.0, m.0), m.1))
  to_in s id None = refl
  to_in s id (Some d) = mode_in s id d.0 (mode_at d.1)

  id_in : (s : ℕ) (o : Option (List ℕ × List ℕ)) → ((o >>= λ id. destination_at id.1 >>= λ d. mode_at d.1 >>= λ m. Some ((s, id.0, d.0, m.0), m.1)) >>= after_front) ≡ (o >>= λ id. destination_at id.1 >>= λ d. mode_at d.1 >>= λ m. after_front ((s, id.0, d.0, m.0), m.1))
  id_in s None = refl
  id_in s (Some id) = to_in s id.0 (destination_at id.1)

  session_in : (o : Option (ℕ × List ℕ)) → ((o >>= λ s. text_at s.1 >>= λ id. destination_at id.1 >>= λ d. mode_at d.1 >>= λ m. Some ((s.0, id.0, d.0, m.0), m.1)) >>= after_front) ≡ (o >>= λ s. text_at s.1 >>= λ id. destination_at id.1 >>= λ d. mode_at d.1 >>= λ m. after_front ((s.0, id.0, d.0, m.0), m.1))
  session_in None = refl
  session_in (Some s) = id_in s.0 (text_at s.1)

  by_front : (bytes : List ℕ) → (front_at bytes >>= after_front) ≡ subscription_at sessions bytes
  unfolding front_at subscription_at
  by_front bytes = session_in (number_at w64 bytes)

  -- the durable name

  durable_in : (f : Front) (rest : List ℕ) (o : Option (Option Name)) → ((o >>= λ d. Some (d, rest)) >>= after_name f) ≡ (o >>= λ d. after_name f (d, rest))
  durable_in f rest None = refl
  durable_in f rest (Some d) = refl

  own_in : (f : Front) (client : Option (List ℕ)) (o : Option (Option (List ℕ) × List ℕ)) → ((o >>= λ own. named_by client own.0 >>= λ d. Some (d, own.1)) >>= after_name f) ≡ (o >>= λ own. named_by client own.0 >>= λ d. after_name f (d, own.1))
  own_in f client None = refl
  own_in f client (Some own) = durable_in f own.1 (named_by client own.0)

  by_name : (f : Front × List ℕ) → (durable_name_at (client_in sessions f.0.0) f.1 >>= after_name f.0) ≡ after_front f
  unfolding durable_name_at
  by_name f = own_in f.0 (client_in sessions f.0.0) (name_at f.1)

  -- what it has

  flight_in : (f : Front) (d : Option Name) (w : List Message) (o : Option (List (ℕ × Message) × List ℕ)) → ((o >>= λ u. Some ((w, u.0), u.1)) >>= whole f d) ≡ (o >>= λ u. whole f d ((w, u.0), u.1))
  flight_in f d w None = refl
  flight_in f d w (Some u) = refl

  line_in : (f : Front) (d : Option Name) (o : Option (List Message × List ℕ)) → ((o >>= λ w. keyed_at nat_cmp delivery_at w.1 >>= λ u. Some ((w.0, u.0), u.1)) >>= whole f d) ≡ (o >>= λ w. keyed_at nat_cmp delivery_at w.1 >>= λ u. whole f d ((w.0, u.0), u.1))
  line_in f d None = refl
  line_in f d (Some w) = flight_in f d w.0 (keyed_at nat_cmp delivery_at w.1)

  by_had : (f : Front) (d : Option Name × List ℕ) → (had_at (takes_own f d.0) d.1 >>= whole f d.0) ≡ after_name f d
  unfolding had_at
  by_had f d = line_in f d.0 (own_line_at (takes_own f d.0) d.1)

  -- all of it

  pub fails_in_front : (bytes : List ℕ) (e : DecodeFault) → Fails e (front_at bytes) → Fails e (subscription_at sessions bytes)
  fails_in_front bytes e fails = subst (Fails e) (by_front bytes) (fails_at e (front_at bytes) after_front fails)

  module _ (bytes : List ℕ) (f : Front × List ℕ) (front : front_at bytes ≡ Some f) where
    front_is : after_front f ≡ subscription_at sessions bytes
    front_is = sym (ap (λ o. o >>= after_front) front) ∙ by_front bytes

    pub fails_in_name : (e : DecodeFault) → Fails e (durable_name_at (client_in sessions f.0.0) f.1) → Fails e (subscription_at sessions bytes)
    fails_in_name e fails =
        subst (Fails e) (by_name f ∙ front_is) (fails_at e (durable_name_at (client_in sessions f.0.0) f.1) (after_name f.0) fails)

    module _ (d : Option Name × List ℕ) (name : durable_name_at (client_in sessions f.0.0) f.1 ≡ Some d) where
      name_is : after_name f.0 d ≡ subscription_at sessions bytes
      name_is = sym (ap (λ o. o >>= after_name f.0) name) ∙ by_name f ∙ front_is

      pub fails_in_had : (e : DecodeFault) → Fails e (had_at (takes_own f.0 d.0) d.1) → Fails e (subscription_at sessions bytes)
      fails_in_had e fails =
          subst (Fails e) (by_had f.0 d ∙ name_is) (fails_at e (had_at (takes_own f.0 d.0) d.1) (whole f.0 d.0) fails)

      pub subscription_is : (had : Had × List ℕ) → had_at (takes_own f.0 d.0) d.1 ≡ Some had → subscription_at sessions bytes ≡ whole f.0 d.0 had
      subscription_is had is = sym (by_had f.0 d ∙ name_is) ∙ ap (λ o. o >>= whole f.0 d.0) is
