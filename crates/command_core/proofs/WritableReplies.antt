use Rattle.std.proofs.Common.{◌≡◌, ◌≢◌, ◌≤◌, ◌<◌, ◌^◌, ◌%◌, ◌+◌, ◌++◌, ◌∷◌, [], List, ℕ, Option, None, Some, IfSome, MatchOption, arith, codes, length, refl, rules, subst, sym}
use Rattle.std.specs.List.{AllByRecursion}
use Rattle.std.specs.Fmt.{decimal}
use Rattle.std.proofs.lemmas.Fmt.{decimal_by_steps}
use Rattle.frame_core.proofs.Lists.{all_append}
use Rattle.frame_core.specs.Writable.{HasNoNul, IsHeader, IsOneLine, Writable, first_of}
use Rattle.command_core.specs.Texts.{IsHeaderText}
use Rattle.command_core.specs.Sendings.{SendingValue, IsSending, IsKept}
use Rattle.command_core.proofs.DestinationBytes.{dest_no_nul}
use Rattle.command_core.specs.Replies.{ack_header, connected, message_frame, message_id, own_headers}

abbrev pub AllDigits : List ℕ → Type 0
AllDigits ds = AllByRecursion (λ b. (48 ≤ b) × (b ≤ 57)) ds

one_more : (ds : List ℕ) (d : ℕ) → d < 10 → AllDigits ds → AllDigits (ds ++ ((48 + d) ∷ []))
one_more [] d h a = ((omega arith, omega arith), tt)
one_more (x ∷ xs) d h a = (a.0, one_more xs d h a.1)

-- a number in decimal has digits alone
pub digits_of_decimal : (n : ℕ) → n < 2 ^ 64 → AllDigits (decimal n)
digits_of_decimal =
    decimal_by_steps (λ _ ds. AllDigits ds) (λ n h. ((omega arith, omega arith), tt)) (λ n ds _ a. one_more ds (n % 10) (omega arith) a)

no_nul : (ds : List ℕ) → AllDigits ds → HasNoNul ds
no_nul [] a = tt
no_nul (x ∷ xs) a = (omega arith, no_nul xs a.1)

one_line : (ds : List ℕ) → AllDigits ds → IsOneLine ds
one_line [] a = tt
one_line (x ∷ xs) a = ((omega arith, omega arith), one_line xs a.1)

-- a CONNECTED can be written
pub connected_writable : (n : ℕ) → n < 2 ^ 64 → Writable (connected n)
connected_writable n h =
    let digits : AllDigits (decimal n) = digits_of_decimal n h in
    let plain : HasNoNul (decimal n) = no_nul _ digits in
    let line : IsOneLine (decimal n) = one_line _ digits in
    search (rules, plain, line)

kept_headers_fit : (hs : List (List ℕ × List ℕ)) → AllByRecursion IsKept hs → AllByRecursion IsHeader hs
kept_headers_fit [] each = tt
kept_headers_fit (h ∷ hs) each = (record { named = each.0.named; name = each.0.name.no_nul; value = each.0.value.no_nul }, kept_headers_fit hs each.1)

-- a number's header can be written
number_header : (name : List ℕ) (n : ℕ) → 0 < length name → HasNoNul name → n < 2 ^ 64 → IsHeader (name, decimal n)
number_header name n named plain fits = record { named = named; name = plain; value = no_nul _ (digits_of_decimal n fits) }

ack_fits : (d : Option ℕ) → IfSome d (λ x. x < 2 ^ 64) → AllByRecursion IsHeader (ack_header d)
ack_fits None fits = tt
ack_fits (Some d) fits = (number_header (codes "ack") d (omega arith) (search rules) fits, tt)

id_no_nul : (n k : ℕ) → n < 2 ^ 64 → k < 2 ^ 64 → HasNoNul (message_id n k)
id_no_nul n k n_fits k_fits =
    all_append (λ b. b ≢ 0) (decimal n) _ (no_nul _ (digits_of_decimal n n_fits)) (omega arith, no_nul _ (digits_of_decimal k k_fits))

length_is_told : (id name : List ℕ) (d : Option ℕ) (s : SendingValue) → first_of (codes "content-length") (own_headers id name d s ++ s.headers) ≡ Some (decimal (length s.body))
length_is_told id name None s = refl
length_is_told id name (Some d) s = refl

-- a MESSAGE can be written
pub message_writable : (id : List ℕ) (n k : ℕ) (d : Option ℕ) (s : SendingValue) → IsHeaderText id → n < 2 ^ 64 → k < 2 ^ 64 → IfSome d (λ x. x < 2 ^ 64) → IsSending s → Writable (message_frame id n k d s)
message_writable id n k d s i n_fits k_fits d_fits form =
    let small : length s.body < 2 ^ 64 = omega (arith, form.short) in
    let told : AllByRecursion IsHeader (own_headers id (message_id n k) d s) = (
      record { named = omega arith; name = search rules; value = i.no_nul },
      (
        record { named = omega arith; name = search rules; value = id_no_nul n k n_fits k_fits },
        (
          record { named = omega arith; name = search rules; value = dest_no_nul s.destination form.destination },
          all_append IsHeader (ack_header d) _ (ack_fits d d_fits) (number_header (codes "content-length") (length s.body) (omega arith) (search rules) small, tt),
        ),
      ),
    ) in
    record {
      headers = all_append IsHeader (own_headers id (message_id n k) d s) s.headers told (kept_headers_fit s.headers form.each);
      raw = λ e. absurd cc;
      body = λ e. absurd cc;
      ends = subst (λ o. MatchOption o (HasNoNul s.body) (λ text. text ≡ decimal (length s.body))) (sym (length_is_told id (message_id n k) d s)) refl;
    }
