use Rattle.std.proofs.Common.{◌≡◌, ◌+◌, ◌∙◌, rules}
use Rattle.command_core.specs.Sizes.{member_size}
use Rattle.command_core.proofs.Sized.{member_sized}
use Rattle.command_core.proofs.encoding.member_size.Goals as goal

pub returns-in-Send-clause-length : goal.returns-in-Send-clause-length
returns-in-Send-clause-length c =
    let size : 1 + c.sending_size.result ≡ member_size c.args.member.now = search rules in
    size ∙ member_sized c.args.member.now
