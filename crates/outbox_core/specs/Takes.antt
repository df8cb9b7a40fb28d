-- What a taker gets.
use Rattle.std.specs.Prelude.{◌≡◌, [], ◌∷◌, ◌++◌}
use mathlib.Core.List.{IsPrefix}
use Rattle.outbox_core.specs.declared.taker.Taken.{Taken}
use Rattle.outbox_core.specs.declared.taker.Taken.TheVariants.{Item, Empty, Cut}
use Rattle.outbox_core.specs.Boxes.{TakerValue}

-- nothing is taken, and nothing was seen to wait
abbrev pub TakesNothing : TakerValue → TakerValue → Type 0
TakesNothing old new = (new ≡ old) × (old.seen ≡ [])

-- An item is taken: the first of what was seen to wait, if something was. Or nothing is taken.
abbrev pub Takes : TakerValue → Taken → TakerValue → Type 0
Takes old (Item out) new = (new.box ≡ old.box) × (new.taken ≡ old.taken ++ out ∷ []) × IsPrefix old.seen (out ∷ new.seen) × (new.size ≡ old.size)
Takes old Empty new = TakesNothing old new
Takes old Cut new = TakesNothing old new
