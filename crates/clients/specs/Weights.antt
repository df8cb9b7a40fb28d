-- What acts count for while they wait.
use Rattle.std.specs.Prelude.{◌+◌, ◌*◌, ℕ, List, Option, length}
use Rattle.std.specs.List.{sum_by}
use Rattle.command_core.specs.Sizes.{op_size}
use Rattle.command_core.specs.declared.command.Op.{Op}
use Rattle.command_core.specs.declared.command.Op.TheVariants as ops
use Rattle.command_core.specs.declared.command.Member.{Member}
use Rattle.command_core.specs.declared.command.Member.TheVariants as members
use Rattle.command_core.specs.PartSizes.{option_size}
use Rattle.session_core.specs.declared.session.Act.{Act}
use Rattle.session_core.specs.declared.session.Act.TheVariants.{Do, Direct, Close}

-- how many headers the messages of operations have
abbrev pub headers_of_member : Member → ℕ
headers_of_member (members.Send sending) = length sending.headers
headers_of_member (members.Ack delivery) = 0
headers_of_member (members.Nack delivery) = 0

abbrev pub headers_of_all : List Member → ℕ
headers_of_all all = sum_by headers_of_member all

abbrev pub headers_of_op : Op → ℕ
headers_of_op (ops.Send sending) = length sending.headers
headers_of_op (ops.Commit all) = headers_of_all all
headers_of_op _ = 0

-- An operation counts for the bytes of its record, of the receipt that it asks for, 512 more, and 128 for each header.
abbrev pub op_weight : Op → Option (List ℕ) → ℕ
op_weight op receipt = 512 + op_size op + option_size receipt + 128 * headers_of_op op

-- What an act counts for. An ERROR counts for as much as one may have, since it repeats a header of its client's frame.
abbrev pub weight_of : Act → ℕ
weight_of (Do op receipt) = op_weight op receipt
weight_of (Direct frame) = 9216
weight_of (Close code) = 512

abbrev pub weight_of_all : List Act → ℕ
weight_of_all acts = sum_by weight_of acts
