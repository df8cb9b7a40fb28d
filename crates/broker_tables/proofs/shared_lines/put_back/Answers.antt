use Rattle.std.proofs.Common.{◌≡◌, ◌+◌, ◌∷◌, ◌∙◌, List, ℕ, ap, arith, sym}
use Rattle.std.specs.List.{sum_by}
use Rattle.std.proofs.lemmas.List.Sums.{sum_by-cons}
use Rattle.line_core.specs.declared.message.Message.{Message}
use Rattle.broker_state.specs.Waiting.{weight_of_lines, with_deliveries}
use Rattle.broker_tables.proofs.shared_lines.put_back.Goals as goal

-- the weight of a delivery moves from those that are left to the lines
weigh_more : (weight : Message → ℕ) (n : ℕ) (m : Message) (left rest : List (ℕ × Message)) (lines put all : ℕ) → left ≡ (n, m) ∷ rest → put ≡ lines + weight m → lines + sum_by (λ (d : ℕ × Message). weight d.1) left ≡ all → put + sum_by (λ (d : ℕ × Message). weight d.1) rest ≡ all
weigh_more weight n m left rest lines put all first more was =
    omega (arith, more, was, ap (sum_by (λ (d : ℕ × Message). weight d.1)) first, sum_by-cons (λ (d : ℕ × Message). weight d.1) (n, m) rest)

pub loop-message-preserved : goal.loop-message-preserved
loop-message-preserved g c =
    let cmp = g.K.Ord.cmp in
    let key = c.args.key.now in
    let message = c.in-Some.message in
    let lines = c.loop-message.lines.entries in
    let rest = c.next.new.self.rest.items in
    let first = c.in-Some.ensures.steps.0 in
    let put = c.in_ok-put.ensures.entries in
    record {
      entries = ap (with_deliveries cmp key rest) put ∙ ap (λ ds. with_deliveries cmp key ds lines) (sym first) ∙ c.loop-message.invariant.entries;
      weight = λ weight. weigh_more weight _ message c.loop-message.message-iterator.rest.items rest (weight_of_lines weight lines) (weight_of_lines weight c.put.new.lines.entries) _ first (c.in_ok-put.ensures.weight weight) (c.loop-message.invariant.weight weight);
    }
