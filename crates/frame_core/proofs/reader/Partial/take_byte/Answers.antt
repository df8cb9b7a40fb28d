use Rattle.std.proofs.Common.{◌<◌, ◌≡◌, false, arith, length}
use Rattle.frame_core.proofs.OpenLines.{byte_reads, byte_kept, no_body, part_of_head}
use Rattle.frame_core.proofs.HeadFaults.{stray, long_head}
use Rattle.frame_core.proofs.reader.Partial.take_byte.Goals as goal
use Rattle.frame_core.proofs.reader.Partial.take_byte.Goals.{then-byte-eq0-via-then-byte-eq0, then-byte-eq0-via-else-byte-eq0+then-self}

pub returns-clause-ok : goal.returns-clause-ok
returns-clause-ok c =
    let p = c.args.self.now in
    let h = c.requires.kept in
    let none = no_body p.section p.head.items p.line p.with_cr p.headers.items p.body.items c.requires.in_head h in
    let part = part_of_head p.section p.head.items p.line p.with_cr p.headers.items p.body.items c.requires.in_head h in
    let room : length p.head.items < 8192 = omega (arith, part.0.size) in
    rw c.in_ok-push.ensures.items (
      byte_reads p.head.items p.body.items c.args.byte none,
      byte_kept p.section p.head.items p.line p.with_cr p.headers.items p.body.items c.args.byte c.requires.in_head h c.if-self.false (λ e. omega arith) (λ e. omega arith) room,
    )

pub returns-then-len-eq-MAX_HEAD-clause-fault : goal.returns-then-len-eq-MAX_HEAD-clause-fault
returns-then-len-eq-MAX_HEAD-clause-fault c =
    let p = c.args.self.now in
    long_head p.section p.head.items p.line p.with_cr p.headers.items p.body.items c.args.byte c.requires.in_head c.requires.kept (omega arith)

pub returns-then-byte-eq0-clause-fault : goal.returns-then-byte-eq0-clause-fault
returns-then-byte-eq0-clause-fault c =
    let p = c.args.self.now in
    let part = part_of_head p.section p.head.items p.line p.with_cr p.headers.items p.body.items c.requires.in_head c.requires.kept in
    let room : length p.head.items < 8192 = omega (arith, part.0.size) in
    let plain : p.with_cr ≡ false → c.args.byte ≡ 0 =
    elim c.then-byte-eq0.branch [
      | then-byte-eq0-via-then-byte-eq0 w ↦ λ _. omega arith
      | then-byte-eq0-via-else-byte-eq0+then-self w ↦ λ e. absurd (cc)
    ] in
    stray p.section p.head.items p.line p.with_cr p.headers.items p.body.items c.args.byte c.requires.in_head c.requires.kept room plain (λ _ e. omega arith)
