-- The sizes of operations are those of their records.
use Rattle.std.proofs.Common.{◌≡◌, ◌+◌, List, ◌∷◌, ◌++◌, length, refl, length-append, arith, ℕ}
use Rattle.command_core.specs.declared.command.End.TheVariants.{Bye, Lost, Bad}
use Rattle.command_core.specs.declared.command.Op.{Op}
use Rattle.command_core.specs.declared.command.Op.TheVariants.{Open, Send, Subscribe, Unsubscribe, Ack, Nack, Commit, Note, End}
use Rattle.command_core.specs.declared.command.Member.{Member}
use Rattle.command_core.specs.declared.command.Member.TheVariants as kinds
use Rattle.command_core.specs.Sizes.{op_size, member_size}
use Rattle.command_core.specs.Spellings as records
use Rattle.command_core.specs.PartSpellings.{counted, mode_byte, optional}
use Rattle.command_core.proofs.PartsSized.{before, each_sized, optional_sized, sending_sized}

pub member_sized : (m : Member) → member_size m ≡ length (records.member m)
member_sized (kinds.Send s) =
    let within = sending_sized s in
    omega arith
member_sized (kinds.Ack delivery) = refl
member_sized (kinds.Nack delivery) = refl

subscription_sized : (id destination durable : List ℕ) → length (counted id ++ counted destination ++ durable) ≡ 8 + length id + length destination + length durable
subscription_sized id destination durable =
    omega (arith, length-append (counted id ++ counted destination) durable, before id (counted destination))

pub op_sized : (op : Op) → op_size op ≡ length (records.operation op)
op_sized (Open client_id) =
    let name = optional_sized client_id in
    omega arith
op_sized (Send s) =
    let within = sending_sized s in
    omega arith
op_sized (Subscribe id destination mode durable) =
    let name = optional_sized durable in
    omega (arith, subscription_sized id destination (mode_byte mode ∷ optional durable))
op_sized (Unsubscribe id durable) =
    let first = optional_sized id in
    let second = optional_sized durable in
    omega (arith, length-append (optional id) (optional durable))
op_sized (Ack delivery) = refl
op_sized (Nack delivery) = refl
op_sized (Commit ms) =
    let each = each_sized member_size records.member member_sized ms in
    omega arith
op_sized Note = refl
op_sized (End Bye) = refl
op_sized (End Lost) = refl
op_sized (End (Bad fault)) = refl
