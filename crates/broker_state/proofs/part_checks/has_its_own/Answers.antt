use Rattle.std.proofs.Common.{◌≡◌, ℕ, List, map, refl, subst, sym}
use Rattle.std.specs.List.{AllByRecursion}
use Rattle.frame_core.proofs.Lists.{all_append, all_left, all_right}
use Rattle.line_core.specs.declared.message.Message.{Message}
use Rattle.broker_state.proofs.Alls.{all_given, each_given}
use Rattle.broker_state.proofs.part_checks.has_its_own.Goals as goal

pub returns-then-line_is_to : goal.returns-then-line_is_to
returns-then-line_is_to c =
    let P = λ (m : Message). m.sending.destination ≡ c.args.sub.now.destination in
    let line = c.args.sub.now.line in
    let flight = c.args.sub.now.unacknowledged in
    let message = λ (delivery : ℕ × Message). delivery.1 in
    let same = c.as_slice.ensures.value in
    let AreThere = λ (ds : List (ℕ × Message)). AllByRecursion (λ d. P d.1) ds in
    let tells = c.deliveries_are_to.ensures in
    let in_line : AllByRecursion P line = c.if-line_is_to.ensures.0 refl in
    (λ yes. all_append P line (map message flight) in_line (all_given P message flight (subst AreThere same (tells.0 yes))), λ all. tells.1 (subst AreThere (sym same) (each_given P message flight (all_right P line (map message flight) all))))

pub returns-else-line_is_to : goal.returns-else-line_is_to
returns-else-line_is_to c =
    let P = λ (m : Message). m.sending.destination ≡ c.args.sub.now.destination in
    let line = c.args.sub.now.line in
    let flight = c.args.sub.now.unacknowledged in
    let message = λ (delivery : ℕ × Message). delivery.1 in
    (λ yes. absurd cc, λ all. c.line_is_to.ensures.1 (all_left P line (map message flight) all))
