use Rattle.std.proofs.Common.{◌≡◌, ◌∷◌, [], ◌++◌, List, Option, ℕ, length, drop, take, ◌∙◌, ap, arith, rules}
use Rattle.std.proofs.lemmas.List.{take_at}
use Rattle.disk_core.specs.Memory.{none_held}
use Rattle.disk_core.proofs.Synced.{time_now}
use Rattle.disk_core.proofs.memory.MemDiskDisk.sync.Goals as goal

pub returns-clause-time : goal.returns-clause-time
returns-clause-time c =
    let a = c.self.inside in
    let kept = c.self.invariant in
    let released = c.release_all.ensures in
    let size : length a.bytes.items ≡ length a.held.items = omega arith in
    let held_size : length c.deref_mut.result.now ≡ length a.held.items = ap length c.deref_mut.ensures.value in
    let later : take a.held.len (c.release_all.new.held ++ drop (length c.release_all.new.held) a.held.items) ≡ none_held (length a.held.items) =
    take_at c.release_all.new.held _ a.held.len (omega arith) ∙ released ∙ ap none_held held_size in
    let pushed : c.push.new.self.items ≡ a.past.items ++ c.in-Ok.epoch ∷ [] = search rules in
    let copied : c.in-Ok.epoch ≡ a.held.items = c.in-Ok.ensures ∙ c.deref-2.ensures.value in
    let past : c.push.new.self.items ≡ a.past.items ++ a.held.items ∷ [] = pushed ∙ ap (λ (h : List (Option ℕ)). a.past.items ++ h ∷ []) copied in
    rw (← c.self.view_is) (time_now a.bytes.items a.held.items _ a.past.items _ a.calls.items c.record.new.calls.items (length a.held.items) a.failures size later past)
