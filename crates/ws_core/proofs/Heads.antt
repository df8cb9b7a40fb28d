-- The answers to whole heads.
use Rattle.std.proofs.Common.{◌≡◌, ◌∙◌, ◌==◌, ◌-◌, Bool, List, ℕ, Option, ap, cond, drop, false, length, length-drop, map, inl, inr, refl, subst, sym, take, true}
use Rattle.httparse.specs.Spans.{IsRequestOf, name_and_value, span_bytes}
use Rattle.httparse.specs.declared.spans.HeaderSpan.{HeaderSpan}
use Rattle.httparse.specs.declared.spans.RequestSpans.{RequestSpans}
use Rattle.websocket.specs.Headers.{Fields, fields_of}
use Rattle.ws_core.specs.declared.handshake.Answer.{Answer}
use Rattle.ws_core.specs.declared.handshake.Answer.TheVariants.{Accept, Refuse}
use Rattle.ws_core.specs.Greetings.{Greeter, Tells, answer_at, shuts_out}
use Rattle.ws_core.specs.Handshakes.{IsAccepted, IsAnswer, IsAnswerTo, IsHead, accepting, as_refusal}

-- the parts of a head that were found are the head's
pub found_head : (origins : List (List ℕ)) (bytes : List ℕ) (spans : List HeaderSpan) (found : RequestSpans) (given answer : Answer)
    → IsRequestOf bytes spans found
    → IsAnswer origins (span_bytes bytes found.method) found.version (fields_of bytes (take found.headers spans)) given
    → answer ≡ cond (length bytes - found.len == 0) given (as_refusal given) → IsHead origins bytes answer
found_head origins bytes spans found given answer of answered is =
    let at = of.1 in record {
      head = of.0;
      more = drop found.len bytes;
      reads = at.reads;
      given = given;
      answered =
          subst (λ (fields : Fields). IsAnswer origins of.0.method of.0.minor fields given) at.fields
          (subst (λ minor. IsAnswer origins of.0.method minor (fields_of bytes (take found.headers spans)) given) at.version
          (subst (λ method. IsAnswer origins method found.version (fields_of bytes (take found.headers spans)) given) at.method answered));
      is = is ∙ ap (λ n. cond (n == 0) given (as_refusal given)) (sym (length-drop found.len bytes));
    }

-- who is accepted has sent a whole head
accepted_head : (origins : List (List ℕ)) (bytes : List ℕ) (answer : Answer) (accept_key : List ℕ) (has_stomp : Bool) → IsAnswerTo origins bytes answer
    → answer ≡ Accept accept_key has_stomp → IsHead origins bytes (Accept accept_key has_stomp)
accepted_head origins bytes answer accept_key has_stomp (inl head) is = subst (IsHead origins bytes) is head
accepted_head origins bytes answer accept_key has_stomp (inr (inl told)) is = absurd (cc (is, told.0))
accepted_head origins bytes answer accept_key has_stomp (inr (inr told)) is = absurd (cc (is, told.0))

-- a server that takes no one more accepts nobody
accepts : (is_full : Bool) (given : Answer) (accept_key : List ℕ) (has_stomp : Bool) → Accept accept_key has_stomp ≡ answer_at is_full given
    → (is_full ≡ false) × (given ≡ Accept accept_key has_stomp)
accepts false given accept_key has_stomp is = (refl, sym is)
accepts true (Accept a b) accept_key has_stomp is = absurd (cc is)
accepts true (Refuse refusal) accept_key has_stomp is = absurd (cc is)

module _ {S : Type 0} (remaining contents : S → Option (List ℕ)) where
  -- and gets the response that says so
  pub accepted : (g : Greeter S) (head : List ℕ) (new : S) (accept_key : List ℕ) (has_stomp : Bool)
      → Tells remaining contents g head new (Accept accept_key has_stomp) (accepting accept_key has_stomp)
      → (given : IsAccepted remaining contents g.origins g.opening new) × (shuts_out g.vacancy given.bytes ≡ false)
  accepted g head new accept_key has_stomp tells =
      let is = accepts (shuts_out g.vacancy head) tells.given accept_key has_stomp tells.is in
      (record { between = tells.between; bytes = head; accept_key = accept_key; has_stomp = has_stomp; read = tells.read; head = accepted_head g.origins head tells.given accept_key has_stomp tells.answered is.1; written = tells.wrote }, is.0)
