use Rattle.std.proofs.Common.{◌≡◌, ◌∙◌, false, refl, sym, true}
use Rattle.flush_core.proofs.DiskCalls.{lasts_same}
use Rattle.flush_core.proofs.flusher.Flusher.store.Goals as goal

pub store_gathered-requires-clause-done : goal.store_gathered-requires-clause-done
store_gathered-requires-clause-done g c =
    let whole : c.args.self.now.broken ≡ false = sym c.is_broken.ensures.value ∙ c.if-is_broken.false in
    (whole, c.requires.executed whole)

pub returns-then-is_broken-clause-any_moment : goal.returns-then-is_broken-clause-any_moment
returns-then-is_broken-clause-any_moment g c =
    let broken : c.args.self.now.broken ≡ true = sym c.is_broken.ensures.value ∙ c.if-is_broken.true in
    λ h whole. absurd (cc (broken, whole))

pub returns-then-is_broken-clause-stores : goal.returns-then-is_broken-clause-stores
returns-then-is_broken-clause-stores g c = tt

pub returns-then-is_broken-clause-refuses : goal.returns-then-is_broken-clause-refuses
returns-then-is_broken-clause-refuses g c =
    let broken : c.args.self.now.broken ≡ true = sym c.is_broken.ensures.value ∙ c.if-is_broken.true in
    record {
      room = record { full = λ is. absurd (cc is); no_room = λ honest is. absurd (cc is) };
      memory = λ fits. tt;
      nothing = λ whole none. absurd (cc (broken, whole));
    }

pub returns-then-is_broken-clause-breaks : goal.returns-then-is_broken-clause-breaks
returns-then-is_broken-clause-breaks g c =
    let broken : c.args.self.now.broken ≡ true = sym c.is_broken.ensures.value ∙ c.if-is_broken.true in
    record { outcome = (broken, refl); stops = (broken, c.is_broken.ensures.kept.stopped broken); cause = refl }

pub returns-then-is_broken-clause-lasts : goal.returns-then-is_broken-clause-lasts
returns-then-is_broken-clause-lasts g c = lasts_same g.D.Disk c.args.self.now.disk c.args.self.now.disk refl

pub returns-clause-any_moment : goal.returns-clause-any_moment
returns-clause-any_moment g c = c.store_gathered.ensures.any_moment

pub returns-clause-stores : goal.returns-clause-stores
returns-clause-stores g c = c.store_gathered.ensures.stores

pub returns-clause-refuses : goal.returns-clause-refuses
returns-clause-refuses g c = c.store_gathered.ensures.refuses

pub returns-clause-breaks : goal.returns-clause-breaks
returns-clause-breaks g c = c.store_gathered.ensures.breaks

pub returns-clause-lasts : goal.returns-clause-lasts
returns-clause-lasts g c = c.store_gathered.ensures.lasts
