use Rattle.std.proofs.Common.{◌≡◌, ◌+◌, ◌-◌, ◌∙◌, ℕ, List, ap, arith, drop, take}
use Rattle.std.proofs.lemmas.List.{length-map}
use Rattle.command_core.specs.Commands.{CommandValue}
use Rattle.area_core.specs.Areas.{commands}
use Rattle.world_core.specs.Calls.{as_many, batch}
use Rattle.world_core.specs.Parts.{value_of}
use Rattle.world_core.proofs.Fitting.{as_many_most}
use Rattle.world_core.proofs.Patching.{batch_is}
use Rattle.world_core.proofs.parts.Parts.fitting.Goals as goal

pub overflow_sub-from : goal.overflow_sub-from
overflow_sub-from c = omega (arith, c.requires.begun, c.requires.marked)

pub overflow_sub-to : goal.overflow_sub-to
overflow_sub-to c = omega (arith, c.requires.begun, c.requires.marked, c.requires.stored)

pub slice_bounds-as_many-start : goal.slice_bounds-as_many-start
slice_bounds-as_many-start c = omega (arith, c.requires.stored)

pub slice_bounds-as_many-end : goal.slice_bounds-as_many-end
slice_bounds-as_many-end c = omega (arith, c.requires.taken, c.deref.ensures.len, length-map c.args.self.now.history.items (λ entry. entry.command))

pub overflow_add-result : goal.overflow_add-result
overflow_add-result c =
    let s = c.args.self.now in
    let w = value_of s in
    let n = s.taken - s.base - (s.stored - s.base) in
    let room = c.saturating_sub-room.result in
    let is : c.as_many-count.result ≡ as_many room (batch w s.taken) =
    c.as_many-count.ensures
    ∙ ap (λ es. as_many room (commands (take n (drop (s.stored - s.base) es)))) c.deref.ensures.value
    ∙ ap (λ (l : List CommandValue). as_many room l) (batch_is s.base s.stored s.taken n s.history.items (omega (arith, c.requires.begun, c.requires.marked, c.requires.stored))) in
    omega (arith, is, as_many_most room (s.taken - s.stored) (drop (s.stored - s.base) w.history), c.requires.stored)

pub returns : goal.returns
returns c = λ r x.
    let s = c.args.self.now in
    let w = value_of s in
    let n = s.taken - s.base - (s.stored - s.base) in
    let room = c.saturating_sub-room.result in
    let is : c.as_many-count.result ≡ as_many room (batch w s.taken) =
    c.as_many-count.ensures
    ∙ ap (λ es. as_many room (commands (take n (drop (s.stored - s.base) es)))) c.deref.ensures.value
    ∙ ap (λ (l : List CommandValue). as_many room l) (batch_is s.base s.stored s.taken n s.history.items (omega (arith, c.requires.begun, c.requires.marked, c.requires.stored))) in
    let same : room ≡ s.size - (r.gate + 10) = omega (arith, c.saturating_sub-room.ensures, c.in_ok-gate.ensures.is r x) in
    omega (arith, is, ap (λ (m : ℕ). as_many m (batch w s.taken)) same)
