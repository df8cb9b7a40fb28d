-- A durable name with its topic and its line is read part by part: the name, and then the topic with the line.
use Rattle.std.proofs.Common.{◌≡◌, ◌∙◌, ℕ, List, Option, None, Some, ap, refl, subst, sym}
use Rattle.command_core.specs.declared.decoding.DecodeFault.{DecodeFault}
use Rattle.command_core.specs.PartReading.{◌>>=◌, Fails, destination_at}
use Rattle.line_core.specs.declared.message.Message.{Message}
use Rattle.broker_core.specs.Names.{Name}
use Rattle.snapshot_core.specs.Reading.{durable_at, full_name_at, given_at, queue_at, waiting_at}
use Rattle.snapshot_core.proofs.SnapshotEntries.{Entry}
use Rattle.snapshot_core.proofs.SubscriptionParts.{fails_at}

abbrev after_name : Name × List ℕ → Option (Entry × List ℕ)
after_name n = destination_at n.1 >>= λ t. waiting_at t.1 >>= λ w. Some ((n.0, (t.0, w.0)), w.1)

abbrev pub entry_with : Name → (List ℕ × List Message) × List ℕ → Option (Entry × List ℕ)
entry_with name bound = Some ((name, bound.0), bound.1)

-- the name

own_in : (client : List ℕ) (o : Option (List ℕ × List ℕ)) → ((o >>= λ own. Some ((client, own.0), own.1)) >>= after_name) ≡ (o >>= λ own. after_name ((client, own.0), own.1))
own_in client None = refl
own_in client (Some own) = refl

name_in : (o : Option (List ℕ × List ℕ)) → ((o >>= λ c. given_at c.1 >>= λ own. Some ((c.0, own.0), own.1)) >>= after_name) ≡ (o >>= λ c. given_at c.1 >>= λ own. after_name ((c.0, own.0), own.1))
name_in None = refl
name_in (Some c) = own_in c.0 (given_at c.1)

by_name : (bytes : List ℕ) → (full_name_at bytes >>= after_name) ≡ durable_at bytes
unfolding full_name_at durable_at
by_name bytes = name_in (given_at bytes)

-- the topic with the line

line_in : (name : Name) (to : List ℕ) (o : Option (List Message × List ℕ)) → ((o >>= λ w. Some ((to, w.0), w.1)) >>= entry_with name) ≡ (o >>= λ w. Some ((name, (to, w.0)), w.1))
line_in name to None = refl
line_in name to (Some w) = refl

bound_in : (name : Name) (o : Option (List ℕ × List ℕ)) → ((o >>= λ t. waiting_at t.1 >>= λ w. Some ((t.0, w.0), w.1)) >>= entry_with name) ≡ (o >>= λ t. waiting_at t.1 >>= λ w. Some ((name, (t.0, w.0)), w.1))
bound_in name None = refl
bound_in name (Some t) = line_in name t.0 (waiting_at t.1)

by_bound : (n : Name × List ℕ) → (queue_at n.1 >>= entry_with n.0) ≡ after_name n
unfolding queue_at
by_bound n = bound_in n.0 (destination_at n.1)

-- all of it

pub fails_in_name : (bytes : List ℕ) (e : DecodeFault) → Fails e (full_name_at bytes) → Fails e (durable_at bytes)
fails_in_name bytes e fails = subst (Fails e) (by_name bytes) (fails_at e (full_name_at bytes) after_name fails)

module _ (bytes : List ℕ) (n : Name × List ℕ) (name : full_name_at bytes ≡ Some n) where
  name_is : after_name n ≡ durable_at bytes
  name_is = sym (ap (λ o. o >>= after_name) name) ∙ by_name bytes

  pub fails_in_bound : (e : DecodeFault) → Fails e (queue_at n.1) → Fails e (durable_at bytes)
  fails_in_bound e fails = subst (Fails e) (by_bound n ∙ name_is) (fails_at e (queue_at n.1) (entry_with n.0) fails)

  pub entry_is : (bound : (List ℕ × List Message) × List ℕ) → queue_at n.1 ≡ Some bound → durable_at bytes ≡ entry_with n.0 bound
  entry_is bound is = sym (by_bound n ∙ name_is) ∙ ap (λ o. o >>= entry_with n.0) is
