use Rattle.std.proofs.Common.{◌≡◌, Result, Ok, Err, IfOk, MatchResult, is_ok, sym, subst, true≢false}

-- what `map_err` leaves of a value
pub ok_of_map_err : {A E F : Type 0} (r : Result A E) (s : Result A F) (P : A → Type 0) (Q : E → Type 0) → MatchResult r (λ x. s ≡ Ok x) Q → is_ok s ≡ is_ok r → IfOk r P → IfOk s P
ok_of_map_err (Ok x) s P Q is same holds = subst (λ t. IfOk t P) (sym is) holds
ok_of_map_err (Err e) (Ok y) P Q is same holds = absurd (true≢false same)
ok_of_map_err (Err e) (Err f) P Q is same holds = tt
