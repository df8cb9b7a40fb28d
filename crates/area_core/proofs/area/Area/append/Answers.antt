use Rattle.std.proofs.Common.{rules, inl, ◌≡◌, ℕ, ◌+◌, ◌≤◌, List, ◌++◌, [], ◌∷◌, length, sym, subst, arith, ◌∙◌}
use Rattle.disk_core.proofs.Runs.{weaker}
use Rattle.area_core.specs.Areas.{closed, commands, records, IsBlock}
use Rattle.area_core.specs.Journals.{is_odd, start, Reads}
use Rattle.area_core.proofs.Appends.{gated, added, no_entries}
use Rattle.area_core.proofs.Journals.{start_most}
use Rattle.area_core.proofs.Unwritten.{untouched}
use Rattle.area_core.proofs.area.Area.append.Goals as goal

pub put_behind_gate-requires-clause-small : goal.put_behind_gate-requires-clause-small
put_behind_gate-requires-clause-small g c =
    omega (arith, c.begins.ensures, start_most c.args.self.now.size (is_odd c.args.self.now.selector), c.args.self.now.most, c.args.self.now.within)

pub returns-in_err-put_behind_gate-clause-any_moment : goal.returns-in_err-put_behind_gate-clause-any_moment
returns-in_err-put_behind_gate-clause-any_moment g c honest =
    let form : IsBlock (commands c.args.batch.now) = record { some = λ e. c.requires.some (no_entries c.args.batch.now e); each = c.in-Some.ensures.form } in
    weaker g.D.Disk c.args.disk.now c.put_behind_gate.new.disk _ _ (c.put_behind_gate.ensures.any_moment honest)
    (gated c.args.self.now (commands c.args.batch.now) (c.begins.result + c.args.self.now.gate) (g.D.Disk.content c.args.disk.now) (g.D.Disk.images c.args.disk.now) form (search rules) (omega (arith, c.begins.ensures))
    (g.met.D.Disk.reads c.args.disk.now honest) c.deref.result.now (c.deref.ensures.value ∙ c.in_ok-block.ensures))

pub returns-clause-any_moment : goal.returns-clause-any_moment
returns-clause-any_moment g c honest =
    let form : IsBlock (commands c.args.batch.now) = record { some = λ e. c.requires.some (no_entries c.args.batch.now e); each = c.in-Some.ensures.form } in
    weaker g.D.Disk c.args.disk.now c.put_behind_gate.new.disk _ _ (c.put_behind_gate.ensures.any_moment honest)
    (gated c.args.self.now (commands c.args.batch.now) (c.begins.result + c.args.self.now.gate) (g.D.Disk.content c.args.disk.now) (g.D.Disk.images c.args.disk.now) form (search rules) (omega (arith, c.begins.ensures))
    (g.met.D.Disk.reads c.args.disk.now honest) c.deref.result.now (c.deref.ensures.value ∙ c.in_ok-block.ensures))

pub returns-clause-adds : goal.returns-clause-adds
returns-clause-adds g c =
    let area = c.args.self.now in
    let batch = commands c.args.batch.now in
    let form : IsBlock batch = record { some = λ e. c.requires.some (no_entries c.args.batch.now e); each = c.in-Some.ensures.form } in
    let room : area.gate + 10 + length (records batch) ≤ area.size = search rules in
    let are : c.deref.result.now ≡ closed (records batch) = c.deref.ensures.value ∙ c.in_ok-block.ensures in
    let at : c.begins.result + area.gate ≡ start area.size (is_odd area.selector) + area.gate = omega (arith, c.begins.ensures) in
    let total : c.in-Some.records ≡ length (records batch) = c.in-Some.ensures.some in
    record {
      behind = λ honest snapshot blocks held image is.
          let new = added area batch (c.begins.result + area.gate) (g.D.Disk.content c.args.disk.now) (g.D.Disk.images c.args.disk.now) form room at (g.met.D.Disk.reads c.args.disk.now honest) c.deref.result.now are snapshot blocks held in
          record {
            reads = subst (λ (l : List ℕ). Reads area.version area.size area.selector snapshot (blocks ++ batch ∷ []) l) (sym ((c.in_ok-put_behind_gate.ensures.stable honest).only image is)) new.0;
            gate = omega (arith, new.1, total);
          };
      only = λ honest image is. (c.in_ok-put_behind_gate.ensures.stable honest).only image is ∙ sym (c.in_ok-put_behind_gate.ensures.stable honest).content;
      used = search rules;
    }

pub returns-then-self-clause-any_moment : goal.returns-then-self-clause-any_moment
returns-then-self-clause-any_moment g c honest = untouched g.D.Disk c.args.disk.now (g.met.D.Disk.only_now c.args.disk.now) _ (λ image is snapshot blocks held. inl (held image is))

pub returns-in_default-clause-any_moment : goal.returns-in_default-clause-any_moment
returns-in_default-clause-any_moment g c honest = untouched g.D.Disk c.args.disk.now (g.met.D.Disk.only_now c.args.disk.now) _ (λ image is snapshot blocks held. inl (held image is))

pub returns-then-not-fits-clause-any_moment : goal.returns-then-not-fits-clause-any_moment
returns-then-not-fits-clause-any_moment g c honest = untouched g.D.Disk c.args.disk.now (g.met.D.Disk.only_now c.args.disk.now) _ (λ image is snapshot blocks held. inl (held image is))

pub returns-in_err-block-clause-any_moment : goal.returns-in_err-block-clause-any_moment
returns-in_err-block-clause-any_moment g c honest = untouched g.D.Disk c.args.disk.now (g.met.D.Disk.only_now c.args.disk.now) _ (λ image is snapshot blocks held. inl (held image is))
