use Rattle.std.proofs.Common.{rules, ℕ, List, [], sym, subst}
use Rattle.area_core.specs.Reading.{IsPast}
use Rattle.area_core.proofs.Walked.{reads_then}
use Rattle.snapshot_core.specs.Snapshots.{Spells}
use Rattle.recover_core.specs.Opens.{HasRead}
use Rattle.recover_core.specs.Told.{IsWalkTold}
use Rattle.recover_core.specs.Walks.{HasWalked}
use Rattle.recover_core.proofs.Walking.{snapshot_told, walk_told, walked_first}
use Rattle.recover_core.proofs.reading.read_state.Goals as goal

pub returns-in-Err-clause-refused : goal.returns-in-Err-clause-refused
returns-in-Err-clause-refused g c honest =
    let past : IsPast c.in_ok-area.area c.deref.result.now [] (g.D.Disk.content c.args.disk.now) = search rules in
    snapshot_told c.in-Err.fault c.in_ok-area.area c.deref.result.now (g.D.Disk.content c.args.disk.now) c.snapshot_place.result past c.snapshot_place.ensures c.in-Err.ensures.refused

pub returns-in-Ok-read_blocks-clause-read : goal.returns-in-Ok-read_blocks-clause-read
returns-in-Ok-read_blocks-clause-read g c honest =
    let content = g.D.Disk.content c.args.disk.now in
    let same = (c.front.ensures.reads.quiet honest).content in
    let spells : Spells c.in_ok-area.snapshot.items c.in-Ok.broker.state = search rules in
    let walked : HasWalked c.in_ok-area.area c.in-Ok.broker.state (g.D.Disk.content c.front.new.disk) =
    subst (λ (l : List ℕ). HasWalked c.in_ok-area.area c.in-Ok.broker.state l) (sym same)
    (walked_first c.in_ok-area.area c.in-Ok.broker.state c.in_ok-area.snapshot.items content (c.in_ok-area.ensures.front honest) spells) in
    subst (λ (l : List ℕ). HasRead c.read_blocks.new.area c.read_blocks.new.broker.state l) same (c.in-Ok-read_blocks.ensures.read (c.front.ensures.reads.honest honest) walked)

pub returns-in-Ok-read_blocks-clause-reads : goal.returns-in-Ok-read_blocks-clause-reads
returns-in-Ok-read_blocks-clause-reads g c = reads_then g.D.Disk c.args.disk.now c.front.new.disk c.read_blocks.new.disk c.front.ensures.reads c.read_blocks.ensures.reads

pub returns-clause-refused : goal.returns-clause-refused
returns-clause-refused g c honest =
    let content = g.D.Disk.content c.args.disk.now in
    let same = (c.front.ensures.reads.quiet honest).content in
    let spells : Spells c.in_ok-area.snapshot.items c.in-Ok.broker.state = search rules in
    let walked : HasWalked c.in_ok-area.area c.in-Ok.broker.state (g.D.Disk.content c.front.new.disk) =
    subst (λ (l : List ℕ). HasWalked c.in_ok-area.area c.in-Ok.broker.state l) (sym same)
    (walked_first c.in_ok-area.area c.in-Ok.broker.state c.in_ok-area.snapshot.items content (c.in_ok-area.ensures.front honest) spells) in
    walk_told c.in-Err-read_blocks.fault content (subst (λ (l : List ℕ). IsWalkTold c.in-Err-read_blocks.fault l) same (c.in-Err-read_blocks.ensures.refuses.told (c.front.ensures.reads.honest honest) walked))

pub returns-clause-reads : goal.returns-clause-reads
returns-clause-reads g c = reads_then g.D.Disk c.args.disk.now c.front.new.disk c.read_blocks.new.disk c.front.ensures.reads c.read_blocks.ensures.reads
