-- What is written is what the definitions say.
use Rattle.std.proofs.Common.{◌≡◌, ℕ, zero, suc, ◌+◌, ◌-◌, ◌<◌, ◌≤◌, List, [], ◌∷◌, Bool, true, false, not, Option, Some, None, IfSome, Vec, Global, Result, Ok, Err, IfOk, length, take, drop, slice_index, refl, sym, ◌∙◌, ap, subst, arith}
use Rattle.command_core.specs.Commands.{CommandValue}
use Rattle.command_core.specs.Entries.{EntryValue}
use Rattle.broker_core.specs.Operations.{restarted}
use Rattle.snapshot_core.specs.Snapshots.{snapshot_of}
use Rattle.area_core.specs.declared.version.Version.TheVariants.{Two}
use Rattle.area_core.specs.Areas.{closed, closed_snapshot, commands, records}
use Rattle.area_core.specs.Journals.{is_odd, other, start}
use Rattle.area_core.proofs.Areas.{length-closed, length-sealed}
use Rattle.area_core.proofs.Journals.{start_most}
use Rattle.world_core.specs.declared.parts.Patch.{Patch}
use Rattle.world_core.specs.declared.parts.LastCall.{LastCall}
use Rattle.world_core.specs.declared.parts.LastCall.TheVariants.{Rest, Broken, BlockWritten, BlockSynced, GateWritten, Copying, CopySynced, SwitchWritten, OpenSynced, OpenRead, SnapshotWriting, SnapshotSynced, SelectorWritten, Opened}
use Rattle.world_core.specs.Calls.{CanCopy, CanRestart, MayLead, batch, copy_of, done_at, gate_of, idle_of, patch, patch_to, rest_of}
use Rattle.world_core.specs.Keeping.{IsKept}
use Rattle.world_core.specs.Readings.{IsRead, Reading}
use Rattle.world_core.specs.Recoveries.{IsReadable}
use Rattle.world_core.specs.Touches.{IsBlockPatch, IsDue, IsNoPatch, IsPatch}
use Rattle.world_core.specs.Worlds.{WorldValue, between}
use Rattle.world_core.proofs.Copying.{piece_size}
use Rattle.world_core.proofs.DeviceCalls.{is_content}
use Rattle.world_core.proofs.Fitting.{fitting_taken}
use Rattle.world_core.proofs.Readings.{gate_within}

-- what is read of the disk
pub here : (w : WorldValue) → IsKept w → IsReadable w.disk.size w.disk.content
here w k = let f = k.images w.disk.content (is_content w.disk.content w.disk.held) in record { reading = f.reading; is_read = f.is_read }

pub gate_low : (w : WorldValue) → IsKept w → (gate : ℕ) → ((r : Reading) → IsRead w.disk.size w.disk.content r → gate ≡ r.gate) → gate < w.disk.size
gate_low w k gate is =
    let x = here w k in
    omega (arith, is x.reading x.is_read, gate_within w.disk.size w.disk.content x.reading x.is_read)

commands_drop : {B : Type 0} (n : ℕ) (es : List (EntryValue B)) → commands (drop n es) ≡ drop n (commands es)
commands_drop zero es = refl
commands_drop (suc n) [] = refl
commands_drop (suc n) (e ∷ es) = commands_drop n es

commands_take : {B : Type 0} (n : ℕ) (es : List (EntryValue B)) → commands (take n es) ≡ take n (commands es)
commands_take zero es = refl
commands_take (suc n) [] = refl
commands_take (suc n) (e ∷ es) = ap (λ (l : List CommandValue). e.command ∷ l) (commands_take n es)

-- a part of the entries has a part of the commands
pub batch_is : {B : Type 0} (base low high n : ℕ) (es : List (EntryValue B)) → n ≡ high - low → commands (take n (drop (low - base) es)) ≡ between base (commands es) low high
batch_is base low high n es is =
    commands_take n (drop (low - base) es)
    ∙ ap (λ (l : List CommandValue). take n l) (commands_drop (low - base) es)
    ∙ ap (λ (m : ℕ). take m (drop (low - base) (commands es))) is

-- a patch is one where offset and bytes are the same
pub patch_is : (a b : ℕ) (p q : List ℕ) → a ≡ b → p ≡ q → patch a p ≡ patch b q
patch_is a b p q at bytes = λ i. patch (at i) (bytes i)

block_is : (w : WorldValue) (to gate at : ℕ) (found bytes : List ℕ) → w.stored < to → ((r : Reading) → IsRead w.disk.size w.disk.content r → gate ≡ r.gate) → found ≡ records (batch w to)
    → IsBlockPatch w.disk gate found at bytes → IsPatch w (BlockWritten to) at bytes
block_is w to gate at found bytes some gates is block r x = (
  record { some = some; fits = omega (arith, block.2, gates r x, ap (λ (l : List ℕ). length l) is) },
  patch_is at (gate_of w.disk r + 1) bytes (closed (records (batch w to))) (omega (arith, block.0, gates r x)) (block.1 ∙ ap (λ (l : List ℕ). closed l) is),
)

pub block_found : {E : Type 0} (res : Result (Option Patch) E) (w : WorldValue) (to gate : ℕ) (found : List ℕ) → w.stored < to → ((r : Reading) → IsRead w.disk.size w.disk.content r → gate ≡ r.gate)
    → found ≡ records (batch w to) → IfOk res (λ o. IfSome o (λ p. IsBlockPatch w.disk gate found p.at p.bytes.items)) → IfOk res (λ o. IfSome o (λ p. IsPatch w (BlockWritten to) p.at p.bytes.items))
block_found (Err e) w to gate found some gates is block = block
block_found (Ok None) w to gate found some gates is block = block
block_found (Ok (Some p)) w to gate found some gates is block = block_is w to gate p.at found p.bytes.items some gates is block

too_long : (w : WorldValue) (to gate : ℕ) (found : List ℕ) → ((r : Reading) → IsRead w.disk.size w.disk.content r → gate ≡ r.gate) → found ≡ records (batch w to) → w.disk.size < gate + 10 + length found → IsNoPatch w (BlockWritten to)
too_long w to gate found gates is long r x may = omega (arith, long, may.fits, gates r x, ap (λ (l : List ℕ). length l) is)

pub block_too_long : {E : Type 0} (res : Result (Option Patch) E) (w : WorldValue) (to gate : ℕ) (found : List ℕ) → ((r : Reading) → IsRead w.disk.size w.disk.content r → gate ≡ r.gate)
    → found ≡ records (batch w to) → IfOk res (λ o. o ≡ None → w.disk.size < gate + 10 + length found) → IfOk res (λ o. o ≡ None → IsNoPatch w (BlockWritten to))
block_too_long (Err e) w to gate found gates is long = long
block_too_long (Ok o) w to gate found gates is long = λ none. too_long w to gate found gates is (long none)

pub nothing_to_store : (w : WorldValue) (to : ℕ) → to ≤ w.stored → IsNoPatch w (BlockWritten to)
nothing_to_store w to none r x may = omega (arith, none, may.some)

pub gate_patch_is : (w : WorldValue) (to gate at : ℕ) (bytes : List ℕ) → ((r : Reading) → IsRead w.disk.size w.disk.content r → gate ≡ r.gate)
    → at ≡ start w.disk.size (is_odd (slice_index w.disk.content 16)) + gate → bytes ≡ 1 ∷ [] → IsPatch w (GateWritten to) at bytes
gate_patch_is w to gate at bytes gates place is r x = (tt, patch_is at (gate_of w.disk r) bytes (1 ∷ []) (omega (arith, place, gates r x)) is)

-- a piece of a snapshot

pub copy_is : (w : WorldValue) (done all at : ℕ) (bytes part : List ℕ) → ((r : Reading) → IsRead w.disk.size w.disk.content r → CanCopy w.disk.size r × (bytes ≡ copy_of r))
    → at ≡ idle_of w.disk + done_at w.place → part ≡ take (done - done_at w.place) (drop (done_at w.place) bytes) → IsPatch w (Copying done all) at part
copy_is w done all at bytes part can place is r x =
    let both = can r x in
    (both.0, patch_is at (idle_of w.disk + done_at w.place) part _ place (is ∙ ap (λ (l : List ℕ). take (done - done_at w.place) (drop (done_at w.place) l)) both.1))

pub rest_is : (w : WorldValue) (done all at : ℕ) (bytes part : List ℕ) → ((r : Reading) → IsRead w.disk.size w.disk.content r → CanRestart w.disk.size r × (bytes ≡ rest_of r))
    → at ≡ idle_of w.disk + done_at w.place → part ≡ take (done - done_at w.place) (drop (done_at w.place) bytes) → IsPatch w (SnapshotWriting done all) at part
rest_is w done all at bytes part can place is r x =
    let both = can r x in
    (both.0, patch_is at (idle_of w.disk + done_at w.place) part _ place (is ∙ ap (λ (l : List ℕ). take (done - done_at w.place) (drop (done_at w.place) l)) both.1))

-- what is written lies within the disk
pub patch_fits : (w : WorldValue) → IsKept w → (to : LastCall) (r : Reading) → IsRead w.disk.size w.disk.content r → IsDue w to → MayLead w r to → (patch_to w r to).at + length (patch_to w r to).bytes ≤ length w.disk.content
patch_fits w k (BlockWritten to) r x due may = omega (arith, k.size, may.fits, length-closed (records (batch w to)), start_most w.disk.size (is_odd (slice_index w.disk.content 16)))
patch_fits w k (GateWritten to) r x due may = omega (arith, k.size, gate_within w.disk.size w.disk.content r x, start_most w.disk.size (is_odd (slice_index w.disk.content 16)))
patch_fits w k (Copying done all) r x due may =
    let there = due r x in
    omega (arith, k.size, there.0, there.1, piece_size (done_at w.place) done (copy_of r) there.0 there.1, may.fits, length-sealed Two (snapshot_of r.state), start_most w.disk.size (other (is_odd (slice_index w.disk.content 16))))
patch_fits w k (SnapshotWriting done all) r x due may =
    let there = due r x in
    omega (arith, k.size, there.0, there.1, piece_size (done_at w.place) done (rest_of r) there.0 there.1, may.fits, length-sealed Two (snapshot_of (restarted r.state)), start_most w.disk.size (other (is_odd (slice_index w.disk.content 16))))
patch_fits w k SwitchWritten r x due may = omega (arith, k.size)
patch_fits w k CopySynced r x due may = omega arith
patch_fits w k SelectorWritten r x due may = omega (arith, k.size)
patch_fits w k Rest r x due may = omega arith
patch_fits w k Broken r x due may = omega arith
patch_fits w k (BlockSynced to) r x due may = omega arith
patch_fits w k OpenSynced r x due may = omega arith
patch_fits w k OpenRead r x due may = omega arith
patch_fits w k SnapshotSynced r x due may = omega arith
patch_fits w k Opened r x due may = omega arith

-- the place that is due

pub due_taken : (w : WorldValue) → IsKept w → (to : LastCall) (n : ℕ) → to ≡ BlockWritten n → IsDue w to → n ≤ w.taken
due_taken w k to n is due =
    let x = here w k in
    omega (arith, (subst (λ (p : LastCall). IsDue w p) is due) x.reading x.is_read, fitting_taken w k x.reading)

pub some_moves : {E : Type 0} (w : WorldValue) (p q : LastCall) (r : Result (Option Patch) E) → p ≡ q → IfOk r (λ found. IfSome found (λ x. IsPatch w q x.at x.bytes.items)) → IfOk r (λ found. IfSome found (λ x. IsPatch w p x.at x.bytes.items))
some_moves w p q r is some = subst (λ (z : LastCall). IfOk r (λ found. IfSome found (λ x. IsPatch w z x.at x.bytes.items))) (sym is) some

pub none_moves : {E : Type 0} (w : WorldValue) (p q : LastCall) (r : Result (Option Patch) E) → p ≡ q → IfOk r (λ found. found ≡ None → IsNoPatch w q) → IfOk r (λ found. found ≡ None → IsNoPatch w p)
none_moves w p q r is none = subst (λ (z : LastCall). IfOk r (λ found. found ≡ None → IsNoPatch w z)) (sym is) none

pub patch_moves : (w : WorldValue) (p q : LastCall) (x : Patch) → p ≡ q → IsPatch w q x.at x.bytes.items → IsPatch w p x.at x.bytes.items
patch_moves w p q x is patch = subst (λ (z : LastCall). IsPatch w z x.at x.bytes.items) (sym is) patch

pub not_other : (a b : Bool) → a ≡ b → not a ≡ other b
not_other a true is = ap not is
not_other a false is = ap not is

-- what was found for the bytes of the disk

pub found_copy : (o : Option (Vec ℕ Global)) (v : Vec ℕ Global) (size : ℕ) (c d bytes : List ℕ) → o ≡ Some v → d ≡ c
    → IfSome o (λ snapshot. (r : Reading) → IsRead size d r → CanCopy size r × (snapshot.items ≡ snapshot_of r.state)) → bytes ≡ closed_snapshot Two v.items
    → (r : Reading) → IsRead size c r → CanCopy size r × (bytes ≡ copy_of r)
found_copy o v size c d bytes is same some closes r x =
    let it = subst (λ (q : Option (Vec ℕ Global)). IfSome q (λ snapshot. (r : Reading) → IsRead size c r → CanCopy size r × (snapshot.items ≡ snapshot_of r.state))) is
    (subst (λ (l : List ℕ). IfSome o (λ snapshot. (r : Reading) → IsRead size l r → CanCopy size r × (snapshot.items ≡ snapshot_of r.state))) same some) r x in
    (it.0, closes ∙ ap (λ (l : List ℕ). closed_snapshot Two l) it.1)

pub found_rest : (o : Option (Vec ℕ Global)) (v : Vec ℕ Global) (size : ℕ) (c d bytes : List ℕ) → o ≡ Some v → d ≡ c
    → IfSome o (λ snapshot. (r : Reading) → IsRead size d r → CanRestart size r × (snapshot.items ≡ snapshot_of (restarted r.state))) → bytes ≡ closed_snapshot Two v.items
    → (r : Reading) → IsRead size c r → CanRestart size r × (bytes ≡ rest_of r)
found_rest o v size c d bytes is same some closes r x =
    let it = subst (λ (q : Option (Vec ℕ Global)). IfSome q (λ snapshot. (r : Reading) → IsRead size c r → CanRestart size r × (snapshot.items ≡ snapshot_of (restarted r.state)))) is
    (subst (λ (l : List ℕ). IfSome o (λ snapshot. (r : Reading) → IsRead size l r → CanRestart size r × (snapshot.items ≡ snapshot_of (restarted r.state)))) same some) r x in
    (it.0, closes ∙ ap (λ (l : List ℕ). closed_snapshot Two l) it.1)

-- what was found is what is written
pub copy_bytes_of : (o : Option (Vec ℕ Global)) (v : Vec ℕ Global) (size : ℕ) (c : List ℕ) → o ≡ Some v
    → IfSome o (λ bytes. (r : Reading) → IsRead size c r → CanCopy size r × (bytes.items ≡ copy_of r)) → (r : Reading) → IsRead size c r → CanCopy size r × (v.items ≡ copy_of r)
copy_bytes_of o v size c is some = subst (λ (q : Option (Vec ℕ Global)). IfSome q (λ bytes. (r : Reading) → IsRead size c r → CanCopy size r × (bytes.items ≡ copy_of r))) is some

pub rest_bytes_of : (o : Option (Vec ℕ Global)) (v : Vec ℕ Global) (size : ℕ) (c : List ℕ) → o ≡ Some v
    → IfSome o (λ bytes. (r : Reading) → IsRead size c r → CanRestart size r × (bytes.items ≡ rest_of r)) → (r : Reading) → IsRead size c r → CanRestart size r × (v.items ≡ rest_of r)
rest_bytes_of o v size c is some = subst (λ (q : Option (Vec ℕ Global)). IfSome q (λ bytes. (r : Reading) → IsRead size c r → CanRestart size r × (bytes.items ≡ rest_of r))) is some
