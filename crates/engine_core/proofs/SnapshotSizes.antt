-- A snapshot and a block after it, and what sessions take of that.
use Rattle.std.proofs.Common.{◌≤◌, ◌+◌, ◌*◌, ◌++◌, List, [], ◌∷◌, ℕ, Option, length, ap, arith, length-append}
use Rattle.std.specs.Int.{to_be_bytes, w64}
use Rattle.std.specs.List.{AllByRecursion, sum_by}
use Rattle.std.proofs.lemmas.List.Sums.{sum_by-cons, sum_by-le-sum_by}
use Rattle.command_core.specs.Sendings.{IsKept}
use Rattle.command_core.specs.PartSizes.{pair_size}
use Rattle.command_core.specs.PartSpellings.{optional}
use Rattle.command_core.proofs.PartsSized.{optional_sized}
use Rattle.command_core.specs.declared.command.End.TheVariants.{Bye, Lost, Bad}
use Rattle.command_core.specs.declared.command.Op.{Op}
use Rattle.command_core.specs.declared.command.Op.TheVariants.{Open, Send, Subscribe, Unsubscribe, Ack, Nack, Commit, Note, End}
use Rattle.command_core.specs.Commands.{CommandValue}
use Rattle.command_core.specs.Sizes.{op_size}
use Rattle.command_core.specs.Spellings.{IsOperation, operation, record_of}
use Rattle.command_core.proofs.Sized.{op_sized}
use Rattle.area_core.specs.declared.version.Version.TheVariants.{Two}
use Rattle.area_core.specs.Areas.{HasRecord}
use Rattle.area_core.proofs.Areas.{length-fresh, length-pushed}
use Rattle.broker_state.specs.declared.subscription.Subscription.{Subscription}
use Rattle.broker_state.specs.States.{State}
use Rattle.snapshot_core.specs.Snapshots.{Spells}
use Rattle.recover_core.proofs.Sizes.{destination_size, opening_size, optional_size, snapshot_size, subscribing_size}
use Rattle.engine_core.specs.Rooms.{HasRoom, IsSmall}
use Rattle.engine_core.specs.Sessions.{bytes_of_opening, bytes_of_sessions, bytes_of_subscription}

-- ---- a command

pairs_most : (hs : List (List ℕ × List ℕ)) → AllByRecursion IsKept hs → sum_by pair_size hs ≤ 16392 * length hs
pairs_most [] each = omega arith
pairs_most (h ∷ hs) each =
    omega (arith, sum_by-cons pair_size h hs, each.0.name.short, each.0.value.short, pairs_most hs each.1)

op_most : (op : Op) → IsOperation op → IsSmall op → op_size op ≤ 1114842
op_most (Open client) form small = omega (arith, optional_size client form)
op_most (Send s) form small =
    omega (arith, destination_size s.destination form.form.destination, pairs_most s.headers form.form.each, form.form.few, form.form.short)
op_most (Subscribe id to mode durable) form small =
    omega (arith, form.0.form.short, destination_size to form.1, optional_size durable form.2)
op_most (Unsubscribe id durable) form small = omega (arith, optional_size id form.0, optional_size durable form.1)
op_most (Ack delivery) form small = omega arith
op_most (Nack delivery) form small = omega arith
op_most (Commit members) form small = omega (arith, small)
op_most Note form small = omega arith
op_most (End Bye) form small = omega arith
op_most (End Lost) form small = omega arith
op_most (End (Bad fault)) form small = omega arith

record_most : (c : CommandValue) → HasRecord c → IsSmall c.op → length (record_of c) ≤ 1123047
record_most c has small =
    omega (
      arith,
      length-append (to_be_bytes w64 c.session ++ optional c.receipt) (operation c.op),
      length-append (to_be_bytes w64 c.session) (optional c.receipt),
      optional_sized c.receipt,
      optional_size c.receipt has.receipt,
      op_sized c.op,
      op_most c.op has.operation small,
    )

-- ---- a snapshot

subscription_takes : (sub : Subscription) → subscribing_size sub ≤ bytes_of_subscription sub
subscription_takes sub = omega arith

opening_takes : (e : ℕ × Option (List ℕ)) → opening_size e ≤ bytes_of_opening e
opening_takes e = omega arith

pub snapshot_most : (s : State) (snapshot : List ℕ) → Spells snapshot s → length snapshot ≤ 24096544 + bytes_of_sessions s
snapshot_most s snapshot spells =
    omega (
      arith,
      ap (λ (l : List ℕ). length l) spells.spelled,
      snapshot_size s spells.sound spells.form,
      sum_by-le-sum_by opening_size bytes_of_opening s.sessions opening_takes,
      sum_by-le-sum_by subscribing_size bytes_of_subscription s.subscriptions subscription_takes,
    )

-- ---- both

pub room_for : (s : State) (snapshot : List ℕ) (size : ℕ) → Spells snapshot s → 25300000 + bytes_of_sessions s ≤ size → HasRoom size snapshot
room_for s snapshot size spells large c has small =
    omega (
      arith,
      large,
      length-pushed Two snapshot [] (c ∷ []),
      length-fresh Two snapshot,
      length-append (record_of c) [],
      record_most c has small,
      snapshot_most s snapshot spells,
    )
