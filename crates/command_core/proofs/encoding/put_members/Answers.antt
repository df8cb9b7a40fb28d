use Rattle.std.specs.Int.{w16, to_be_bytes}
use Rattle.std.proofs.Common.{length}
use Rattle.command_core.specs.Spellings.{IsMember, member}
use Rattle.command_core.proofs.Walks.{all_more, put_more}
use Rattle.command_core.proofs.encoding.put_members.Goals as goal

pub loop-member-preserved : goal.loop-member-preserved
loop-member-preserved c =
    let members = c.args.members.now in
    let turn = c.loop-member in
    let item = c.member-item in
    let done = c.in_ok-put_member.ensures in
    record {
      put = put_more member c.args.out.now.items (to_be_bytes w16 (length members)) turn.out.items _ members turn.member-index _ c.loop-member-test.true item.is turn.invariant.put done.put;
      form = all_more IsMember members turn.member-index _ c.loop-member-test.true item.is turn.invariant.form done.form;
    }
