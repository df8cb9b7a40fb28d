use Rattle.std.proofs.Common.{◌≡◌, inl, ℕ, List, length, take, drop, None, ◌∙◌, ap}
use Rattle.std.proofs.lemmas.Result.{on_ok_weaker}
use Rattle.disk_core.specs.Publish.{published, IsAllOrNothing}
use Rattle.disk_core.proofs.Published.{still_closed, is_there, all_or_nothing, opened}
use Rattle.disk_core.proofs.Runs.{starts, writes, keeps, knows}
use Rattle.disk_core.proofs.call.publish.Goals as goal

pub returns-in_err-write_at-2-clause-any_moment : goal.returns-in_err-write_at-2-clause-any_moment
returns-in_err-write_at-2-clause-any_moment g c honest =
    let payload = c.args.payload.now in
    let n = length payload in
    let P = IsAllOrNothing n payload in
    let Q : List ℕ → Type 0 = λ d. published n d ≡ None in
    let R : List ℕ → Type 0 = λ d. (published n d ≡ None) × (take n (drop 1 d) ≡ payload) in
    let before = starts g.D.Disk c.args.disk.now P Q honest (g.met.D.Disk.only_now c.args.disk.now) (λ d image. ap (published n) (c.requires.synced honest d image) ∙ c.requires.closed honest) (λ d q. inl q) in
    let torn = writes g.D.Disk Q before c.write_at.ensures.lasts.honest c.write_at.ensures.images c.write_at.ensures.time (still_closed n) (λ d q. inl q) in
    let kept = keeps g.D.Disk torn c.sync.ensures.lasts.honest c.sync.ensures.images c.sync.ensures.time in
    let there = is_there payload (g.D.Disk.content c.args.disk.now) c.requires.room in
    let content = ap (λ (l : List ℕ). take n (drop 1 l)) (c.in_ok-write_at.ensures.written honest) ∙ there in
    let synced = knows g.D.Disk R kept (λ d image. (kept.images d image, ap (λ (l : List ℕ). take n (drop 1 l)) (c.in_ok-sync.ensures.stable torn.honest d image) ∙ content)) (λ d r. inl r.0) in
    let ended = writes g.D.Disk P synced c.write_at-2.ensures.lasts.honest c.write_at-2.ensures.images c.write_at-2.ensures.time (λ d e r t. all_or_nothing n payload d e r.1 t) (λ d p. p) in
    ended.leaves

pub returns-clause-any_moment : goal.returns-clause-any_moment
returns-clause-any_moment g c honest =
    let payload = c.args.payload.now in
    let n = length payload in
    let P = IsAllOrNothing n payload in
    let Q : List ℕ → Type 0 = λ d. published n d ≡ None in
    let R : List ℕ → Type 0 = λ d. (published n d ≡ None) × (take n (drop 1 d) ≡ payload) in
    let before = starts g.D.Disk c.args.disk.now P Q honest (g.met.D.Disk.only_now c.args.disk.now) (λ d image. ap (published n) (c.requires.synced honest d image) ∙ c.requires.closed honest) (λ d q. inl q) in
    let torn = writes g.D.Disk Q before c.write_at.ensures.lasts.honest c.write_at.ensures.images c.write_at.ensures.time (still_closed n) (λ d q. inl q) in
    let kept = keeps g.D.Disk torn c.sync.ensures.lasts.honest c.sync.ensures.images c.sync.ensures.time in
    let there = is_there payload (g.D.Disk.content c.args.disk.now) c.requires.room in
    let content = ap (λ (l : List ℕ). take n (drop 1 l)) (c.in_ok-write_at.ensures.written honest) ∙ there in
    let synced = knows g.D.Disk R kept (λ d image. (kept.images d image, ap (λ (l : List ℕ). take n (drop 1 l)) (c.in_ok-sync.ensures.stable torn.honest d image) ∙ content)) (λ d r. inl r.0) in
    let opens = writes g.D.Disk P synced c.write_at-2.ensures.lasts.honest c.write_at-2.ensures.images c.write_at-2.ensures.time (λ d e r t. all_or_nothing n payload d e r.1 t) (λ d p. p) in
    let ended = keeps g.D.Disk opens c.sync-2.ensures.lasts.honest c.sync-2.ensures.images c.sync-2.ensures.time in
    ended.leaves

pub returns-clause-published : goal.returns-clause-published
returns-clause-published g c honest =
    let payload = c.args.payload.now in
    let n = length payload in
    let wrote = c.write_at.ensures.lasts.honest honest in
    let synced = c.sync.ensures.lasts.honest wrote in
    let there : take n (drop 1 (g.D.Disk.content c.sync.new.self)) ≡ payload =
    ap (λ (l : List ℕ). take n (drop 1 l)) (c.sync.ensures.content wrote ∙ c.in_ok-write_at.ensures.written honest) ∙ is_there payload (g.D.Disk.content c.args.disk.now) c.requires.room in
    on_ok_weaker c.sync-2.result
    (λ only d image. ap (published n) (only d image ∙ c.in_ok-write_at-2.ensures.written synced) ∙ opened n payload (g.D.Disk.content c.sync.new.self) there)
    (c.sync-2.ensures.stable (c.write_at-2.ensures.lasts.honest synced))
