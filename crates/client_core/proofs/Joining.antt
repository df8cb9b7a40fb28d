-- Texts that are joined one after another.
use Rattle.std.proofs.Common.{◌≡◌, ◌∙◌, ◌++◌, List, [], ℕ, ap, append_assoc, append-nil, sym}

-- four of them
pub join_four : (a b c d one two three four joined more all : List ℕ) → one ≡ a → two ≡ b → three ≡ c → four ≡ d → joined ≡ one ++ two → more ≡ joined ++ three → all ≡ more ++ four → all ≡ a ++ (b ++ (c ++ (d ++ [])))
join_four a b c d one two three four joined more all ea eb ec ed e1 e2 e3 =
    let first : joined ≡ a ++ b = e1 ∙ ap (λ l. l ++ two) ea ∙ ap (λ l. a ++ l) eb in
    let second : more ≡ (a ++ b) ++ c = e2 ∙ ap (λ l. l ++ three) first ∙ ap (λ l. (a ++ b) ++ l) ec in
    let third : all ≡ ((a ++ b) ++ c) ++ d = e3 ∙ ap (λ l. l ++ four) second ∙ ap (λ l. ((a ++ b) ++ c) ++ l) ed in
    third ∙ append_assoc (a ++ b) c d ∙ append_assoc a b (c ++ d) ∙ ap (λ l. a ++ (b ++ (c ++ l))) (sym (append-nil d))
