use Rattle.std.proofs.Common.{◌≡◌, ◌+◌, ◌≤◌, ◌∷◌, [], ◌++◌, inl, inr, List, ℕ, length, drop, take, ◌∙◌, ap, arith}
use Rattle.std.proofs.lemmas.List.{take_at}
use Rattle.disk_core.specs.Images.{patched}
use Rattle.disk_core.specs.Memory.{Memory, held_over}
use Rattle.disk_core.specs.Spans.{whole}
use Rattle.disk_core.proofs.Overwritten.{frees_now, time_now, kept_now, same_held_over, ok_or_err}
use Rattle.disk_core.proofs.memory.MemDiskDisk.write_at.Goals as goal

pub invariant_of-self : goal.invariant_of-self
invariant_of-self c =
    let a = c.self.inside in
    let kept = c.self.invariant in
    let fits : c.args.at + length c.args.bytes.now ≤ length a.bytes.items = omega (arith, ap (λ (m : Memory). length m.content) c.self.view_is) in
    let bytes : take a.bytes.len (c.overwrite.new.bytes ++ drop (length c.overwrite.new.bytes) a.bytes.items) ≡ patched c.args.at c.args.bytes.now a.bytes.items =
    take_at c.overwrite.new.bytes _ a.bytes.len (omega arith) ∙ c.overwrite.ensures.bytes ∙ ap (λ (l : List ℕ). patched c.args.at c.args.bytes.now l) c.deref_mut.ensures.value in
    let held : take a.held.len (c.overwrite.new.held ++ drop (length c.overwrite.new.held) a.held.items) ≡ held_over c.args.at (length c.args.bytes.now) a.held.items a.bytes.items =
    take_at c.overwrite.new.held _ a.held.len (omega arith) ∙ c.overwrite.ensures.held ∙ same_held_over c.args.at (length c.args.bytes.now) _ _ _ _ c.deref_mut-2.ensures.value c.deref_mut.ensures.value in
    let listed = ok_or_err c.add.result _ _ c.add.ensures.ok c.add.ensures.err in
    let size : c.len.result ≡ length a.bytes.items = omega arith in
    kept_now c.args.at c.args.bytes.now a.bytes.items _ a.held.items _ c.add.new.spans kept.sizes fits bytes held c.add.ensures.room a.written.items kept.cover
    (elim listed [ inl more ↦ inl more | inr all ↦ inr (all ∙ ap (λ n. whole n ∷ []) size) ])

pub returns-clause-images : goal.returns-clause-images
returns-clause-images c =
    let a = c.self.inside in
    let kept = c.self.invariant in
    let fits : c.args.at + length c.args.bytes.now ≤ length a.bytes.items = omega (arith, ap (λ (m : Memory). length m.content) c.self.view_is) in
    let bytes : take a.bytes.len (c.overwrite.new.bytes ++ drop (length c.overwrite.new.bytes) a.bytes.items) ≡ patched c.args.at c.args.bytes.now a.bytes.items =
    take_at c.overwrite.new.bytes _ a.bytes.len (omega arith) ∙ c.overwrite.ensures.bytes ∙ ap (λ (l : List ℕ). patched c.args.at c.args.bytes.now l) c.deref_mut.ensures.value in
    let held : take a.held.len (c.overwrite.new.held ++ drop (length c.overwrite.new.held) a.held.items) ≡ held_over c.args.at (length c.args.bytes.now) a.held.items a.bytes.items =
    take_at c.overwrite.new.held _ a.held.len (omega arith) ∙ c.overwrite.ensures.held ∙ same_held_over c.args.at (length c.args.bytes.now) _ _ _ _ c.deref_mut-2.ensures.value c.deref_mut.ensures.value in
    rw (← c.self.view_is) (frees_now c.args.at c.args.bytes.now a.bytes.items _ a.held.items _ kept.sizes fits bytes held)

pub returns-clause-time : goal.returns-clause-time
returns-clause-time c =
    let a = c.self.inside in
    let kept = c.self.invariant in
    let fits : c.args.at + length c.args.bytes.now ≤ length a.bytes.items = omega (arith, ap (λ (m : Memory). length m.content) c.self.view_is) in
    let bytes : take a.bytes.len (c.overwrite.new.bytes ++ drop (length c.overwrite.new.bytes) a.bytes.items) ≡ patched c.args.at c.args.bytes.now a.bytes.items =
    take_at c.overwrite.new.bytes _ a.bytes.len (omega arith) ∙ c.overwrite.ensures.bytes ∙ ap (λ (l : List ℕ). patched c.args.at c.args.bytes.now l) c.deref_mut.ensures.value in
    let held : take a.held.len (c.overwrite.new.held ++ drop (length c.overwrite.new.held) a.held.items) ≡ held_over c.args.at (length c.args.bytes.now) a.held.items a.bytes.items =
    take_at c.overwrite.new.held _ a.held.len (omega arith) ∙ c.overwrite.ensures.held ∙ same_held_over c.args.at (length c.args.bytes.now) _ _ _ _ c.deref_mut-2.ensures.value c.deref_mut.ensures.value in
    rw (← c.self.view_is) (time_now c.args.at c.args.bytes.now a.bytes.items _ a.held.items _ a.past.items a.calls.items c.record-recorded.new.calls.items a.failures c.tell.new.failures kept.sizes fits bytes held)
