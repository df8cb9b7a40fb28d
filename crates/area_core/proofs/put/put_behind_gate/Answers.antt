use Rattle.std.proofs.Common.{inl, [], ◌∷◌, ℕ, List, OnOk, subst}
use Rattle.disk_core.specs.Images.{patched}
use Rattle.disk_core.proofs.Runs.{weaker}
use Rattle.area_core.specs.Puts.{IsStable}
use Rattle.area_core.proofs.put.put_behind_gate.Goals as goal

pub returns-in_err-put-clause-any_moment : goal.returns-in_err-put-clause-any_moment
returns-in_err-put-clause-any_moment g c honest = weaker g.D.Disk c.args.disk.now c.put.new.disk _ _ (c.put.ensures.any_moment honest) (λ image torn. inl torn)

pub returns-clause-stable : goal.returns-clause-stable
returns-clause-stable g c honest =
    subst (λ (l : List ℕ). OnOk c.put-2.result (IsStable g.D.Disk c.put-2.new.disk (patched c.args.gate (1 ∷ []) l))) (c.in_ok-put.ensures.stable honest).content
    (c.put-2.ensures.stable (c.put.ensures.lasts.honest honest))
