-- What waits, place by place.
use Rattle.std.proofs.Common.{◌≡◌, ◌∙◌, ◌++◌, List, [], ℕ, OnOk, Option, Result, Ok, Err, ap, append_assoc, map, refl, subst}
use Rattle.std.specs.List.Sorted.{IsPermutation}
use Rattle.broker_state.specs.States.{State}
use Rattle.journal_files.specs.declared.held.Lot.{Lot}
use Rattle.journal_files.specs.Held.{AreLotsOf, AreMostFirst, ShowsHeld, ShowsHeldOf, gone_from, held_in, names_waiting, queues_waiting, waits_of}

module _ {A E : Type 0} where
  pub on_ok : (r : Result A E) (P Q : Type 0) → OnOk r P → (P → Q) → OnOk r Q
  on_ok (Ok a) P Q p f = f p
  on_ok (Err e) P Q p f = tt

  -- what the journal of some state holds was written
  pub shows_held : (r : Result A E) (s : State) (before after : Option (List ℕ)) → OnOk r (ShowsHeldOf s before after) → OnOk r (ShowsHeld before after)
  shows_held r s before after shown = on_ok r (ShowsHeldOf s before after) (ShowsHeld before after) shown (λ w. (held_in s, gone_from s, w.lots, w.written))

-- all that waits was found, and stands most first
pub are_lots : (s : State) (old names found lots : List Lot) → old ≡ [] → map waits_of names ≡ map waits_of old ++ names_waiting s.durables s.shared.names
    → map waits_of found ≡ map waits_of names ++ queues_waiting s.shared.queues → IsPermutation found lots → AreMostFirst lots → AreLotsOf s lots
are_lots s old names found lots none some all same first = record {
  found = found;
  all = all ∙ ap (λ waits. waits ++ queues_waiting s.shared.queues) (some ∙ ap (λ o. map waits_of o ++ names_waiting s.durables s.shared.names) none);
  same = same;
  first = first;
}

-- three texts, one behind the other
pub three_texts : (old first second third one two three : List ℕ) → one ≡ old ++ first → two ≡ one ++ second → three ≡ two ++ third → three ≡ old ++ (first ++ (second ++ third))
three_texts old first second third one two three a b c =
    c ∙ ap (λ t. t ++ third) (b ∙ ap (λ t. t ++ second) a) ∙ append_assoc (old ++ first) second third ∙ append_assoc old first (second ++ third)
