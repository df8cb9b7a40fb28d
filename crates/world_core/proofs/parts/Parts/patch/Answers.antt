use Rattle.world_core.specs.declared.parts.LastCall.TheVariants.{BlockWritten, GateWritten, Copying, SwitchWritten, SnapshotWriting, SelectorWritten}
use Rattle.world_core.specs.Parts.{value_of}
use Rattle.world_core.proofs.Patching.{due_taken, none_moves, patch_moves, some_moves}
use Rattle.world_core.proofs.parts.Parts.patch.Goals as goal

pub returns-in-BlockWritten-clause-some : goal.returns-in-BlockWritten-clause-some
returns-in-BlockWritten-clause-some c =
    let w = value_of c.args.self.now in
    some_moves w c.args.to (BlockWritten c.in-BlockWritten.under) c.block_patch.result c.in-BlockWritten.is c.block_patch.ensures.some

pub returns-in-BlockWritten-clause-none : goal.returns-in-BlockWritten-clause-none
returns-in-BlockWritten-clause-none c =
    let w = value_of c.args.self.now in
    none_moves w c.args.to (BlockWritten c.in-BlockWritten.under) c.block_patch.result c.in-BlockWritten.is c.block_patch.ensures.none

pub block_patch-requires-clause-taken : goal.block_patch-requires-clause-taken
block_patch-requires-clause-taken c = due_taken (value_of c.args.self.now) c.requires.kept c.args.to c.in-BlockWritten.under c.in-BlockWritten.is c.requires.due

pub returns-in_ok-gate_patch-in-GateWritten-clause-some : goal.returns-in_ok-gate_patch-in-GateWritten-clause-some
returns-in_ok-gate_patch-in-GateWritten-clause-some c =
    patch_moves (value_of c.args.self.now) c.args.to (GateWritten c.in-GateWritten.to) c.in_ok-gate_patch-in-GateWritten.field-0 c.in-GateWritten.is c.in_ok-gate_patch-in-GateWritten.ensures

pub returns-in-Copying-clause-some : goal.returns-in-Copying-clause-some
returns-in-Copying-clause-some c =
    some_moves (value_of c.args.self.now) c.args.to (Copying c.in-Copying.done c.in-Copying.all) c.copy_patch.result c.in-Copying.is c.copy_patch.ensures.some

pub returns-in-Copying-clause-none : goal.returns-in-Copying-clause-none
returns-in-Copying-clause-none c =
    none_moves (value_of c.args.self.now) c.args.to (Copying c.in-Copying.done c.in-Copying.all) c.copy_patch.result c.in-Copying.is c.copy_patch.ensures.none

pub returns-in-SnapshotWriting-clause-some : goal.returns-in-SnapshotWriting-clause-some
returns-in-SnapshotWriting-clause-some c =
    some_moves (value_of c.args.self.now) c.args.to (SnapshotWriting c.in-SnapshotWriting.done c.in-SnapshotWriting.all) c.rest_patch.result c.in-SnapshotWriting.is c.rest_patch.ensures.some

pub returns-in-SnapshotWriting-clause-none : goal.returns-in-SnapshotWriting-clause-none
returns-in-SnapshotWriting-clause-none c =
    none_moves (value_of c.args.self.now) c.args.to (SnapshotWriting c.in-SnapshotWriting.done c.in-SnapshotWriting.all) c.rest_patch.result c.in-SnapshotWriting.is c.rest_patch.ensures.none

pub returns-in_ok-selector_patch-in-SwitchWritten-clause-some : goal.returns-in_ok-selector_patch-in-SwitchWritten-clause-some
returns-in_ok-selector_patch-in-SwitchWritten-clause-some c =
    patch_moves (value_of c.args.self.now) c.args.to SwitchWritten c.in_ok-selector_patch-in-SwitchWritten.field-0 c.in-SwitchWritten.is c.in_ok-selector_patch-in-SwitchWritten.ensures.switch

pub returns-in_ok-selector_patch-in-SelectorWritten-clause-some : goal.returns-in_ok-selector_patch-in-SelectorWritten-clause-some
returns-in_ok-selector_patch-in-SelectorWritten-clause-some c =
    patch_moves (value_of c.args.self.now) c.args.to SelectorWritten c.in_ok-selector_patch-in-SelectorWritten.field-0 c.in-SelectorWritten.is c.in_ok-selector_patch-in-SelectorWritten.ensures.open
