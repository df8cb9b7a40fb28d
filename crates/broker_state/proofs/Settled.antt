use Rattle.std.proofs.Common.{◌≡◌, ◌&&◌, ◌∙◌, List, [], ◌∷◌, Bool, None, Some, ℕ, true, false, ap, not, refl, remove, slice_get, sym, take}
use Rattle.line_core.specs.declared.message.Message.{Message}
use Rattle.broker_state.specs.declared.subscription.Subscription.{Subscription}
use Rattle.broker_state.specs.HandOut.{can_take, hand_out, handed_from, handed_to, has_room}
use Rattle.broker_state.specs.Lists.{is_none}
use Rattle.broker_state.specs.Parts.{NonePass}
use Rattle.broker_state.specs.States.{State}
use Rattle.broker_state.specs.Waiting.{line_for}
use Rattle.broker_state.proofs.Firsts.{picked_first, picked_none}
use Rattle.broker_state.proofs.Places.{first_here}

-- where no subscription can be served, nothing is handed out
pub hands_nothing : (s : State) → NonePass (can_take s) s.subscriptions → hand_out s ≡ None
hands_nothing s none = ap (handed_to s) (picked_none (can_take s) s.subscriptions none)

has_line : (a b c : Bool) → (a && b && not c) ≡ true → c ≡ false
has_line true true true is = absurd cc
has_line true true false is = refl
has_line true false c is = absurd cc
has_line false b c is = absurd cc

hands_from : (s : State) (sub : Subscription) (others : List Subscription) (line : List Message) → is_none line ≡ false → handed_from s sub others line ≡ None → ⊥
hands_from s sub others [] is none = absurd cc
hands_from s sub others (m ∷ rest) is none = absurd cc

-- where one can, something is
pub hands_some : (s : State) (at : ℕ) (sub : Subscription) → slice_get s.subscriptions at ≡ Some sub → can_take s sub ≡ true → NonePass (can_take s) (take at s.subscriptions) → hand_out s ≡ None → ⊥
hands_some s at sub is can none nothing =
    let picks = picked_first (can_take s) s.subscriptions at sub (first_here (can_take s) s.subscriptions at sub is can none) is in
    hands_from s sub (remove s.subscriptions at) (line_for s.shared sub) (has_line _ (has_room sub) _ can) (sym (ap (handed_to s) picks) ∙ nothing)
