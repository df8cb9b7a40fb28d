use Rattle.std.proofs.Common.{◌≡◌, ◌∙◌, ◌-◌, Some, None, ap, length, slice_get, subst, sym}
use Rattle.clients.proofs.PlacesTrimmed.{no_more, not_yet, one_less, shorter_by, taken_or_none}
use Rattle.clients.proofs.desk.drop_free.Goals as goal

pub loop-places-init : goal.loop-places-init
loop-places-init g c = not_yet _

pub loop-places-smaller : goal.loop-places-smaller
loop-places-smaller g c =
    shorter_by c.loop-places.places.items c.pop.new.self.items c.pop.result c.pop.ensures.items (taken_or_none c.pop.result _ _ _ (sym (ap length c.deref.ensures.value) ∙ c.deref.ensures.len) c.pop.ensures.cases)
    (subst (λ l. slice_get l (length l - 1) ≡ Some None) c.deref.ensures.value (c.ends_free.ensures.yes c.loop-places-test.true))

pub loop-places-preserved : goal.loop-places-preserved
loop-places-preserved g c =
    one_less c.args.places.now.items c.loop-places.places.items c.pop.new.self.items c.pop.result c.loop-places.invariant c.pop.ensures.items
    (taken_or_none c.pop.result _ _ _ (sym (ap length c.deref.ensures.value) ∙ c.deref.ensures.len) c.pop.ensures.cases)
    (subst (λ l. slice_get l (length l - 1) ≡ Some None) c.deref.ensures.value (c.ends_free.ensures.yes c.loop-places-test.true))

pub returns : goal.returns
returns g c =
    no_more c.args.places.now.items c.loop-places.places.items c.loop-places.invariant
    (λ last. c.ends_free.ensures.no c.loop-places-test.false (subst (λ l. slice_get l (length l - 1) ≡ Some None) (sym c.deref.ensures.value) last))
