-- A piece is cut off a message.
use Rattle.std.proofs.Common.{◌≡◌, ◌+◌, ◌++◌, ◌<◌, ◌∙◌, ℕ, List, ap, arith, drop, length, sym, take}
use Rattle.std.proofs.lemmas.List.{drop-drop, length-drop, length-take-le, take-append-drop}
use Rattle.ws_core.specs.Pieces.{IsFed}

pub cuts : (fed : ℕ) (all piece : List ℕ) (n : ℕ) (seen : List ℕ) → 1024 < length (drop fed all) → n ≡ 1024 → seen ≡ all → piece ≡ take n (drop fed seen)
    → IsFed (record { left = drop fed all; fed = fed }) piece (record { left = drop (fed + 1024) all; fed = fed + 1024 })
cuts fed all piece n seen more so_many whole cut =
    let is : piece ≡ take 1024 (drop fed all) = cut ∙ (ap (λ n. take n (drop fed seen)) so_many ∙ ap (λ s. take 1024 (drop fed s)) whole) in
    let long : length piece ≡ 1024 = ap length is ∙ length-take-le 1024 (drop fed all) (omega (arith, more)) in
    record {
      piece_is = record {
        whole = sym (ap (λ p. p ++ drop (fed + 1024) all) is ∙ (ap (λ rest. take 1024 (drop fed all) ++ rest) (sym (drop-drop 1024 fed all)) ∙ take-append-drop 1024 (drop fed all)));
        most = omega (arith, long);
        full = λ _. long;
      };
      whole = λ _. ap (λ n. fed + n) (sym long);
      gone = λ none. absurd (omega (arith, more, length-drop fed all, sym (length-drop (fed + 1024) all) ∙ ap length none));
    }
