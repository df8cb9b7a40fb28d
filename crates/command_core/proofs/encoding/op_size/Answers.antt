use Rattle.std.proofs.Common.{◌≡◌, ◌+◌, ◌∙◌, rules}
use Rattle.command_core.specs.Sizes.{op_size}
use Rattle.command_core.proofs.Sized.{op_sized}
use Rattle.command_core.proofs.encoding.op_size.Goals as goal

pub returns-in-Send-clause-length : goal.returns-in-Send-clause-length
returns-in-Send-clause-length c =
    let size : 1 + c.sending_size.result ≡ op_size c.args.op.now = search rules in
    size ∙ op_sized c.args.op.now

pub returns-in-Commit-clause-length : goal.returns-in-Commit-clause-length
returns-in-Commit-clause-length c =
    let size : 3 + c.members_size.result ≡ op_size c.args.op.now = search rules in
    size ∙ op_sized c.args.op.now
