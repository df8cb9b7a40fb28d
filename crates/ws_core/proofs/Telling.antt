-- How a handshake goes on.
use Rattle.std.proofs.Common.{◌≡◌, ◌∙◌, ◌≤◌, Bool, List, [], ℕ, Option, None, Some, IfSome, ap, arith, false, is_some, length, refl, subst, sym, take}
use Rattle.std.specs.Io.KnownBytes.{Appends, Consumes}
use Rattle.std.proofs.lemmas.List.{append-nil, take_all}
use Rattle.ws_core.specs.declared.handshake.Answer.{Answer}
use Rattle.ws_core.specs.declared.refusal.Saying.{Saying}
use Rattle.ws_core.specs.Greetings.{Greeter, IsUnderWay, Says, Tells, answer_at, shuts_out}
use Rattle.ws_core.specs.Handshakes.{IsAnswerTo, ReadsOn, WritesOn, is_head, response_to}

appends_nothing : (held : Option (List ℕ)) → Appends held held []
appends_nothing None = tt
appends_nothing (Some a) = sym (append-nil a)

module _ {S : Type 0} (remaining contents : S → Option (List ℕ)) where
  unsaid : (g : Greeter S) (head : List ℕ) (stream : S) (was : Option Saying) → IsUnderWay remaining contents g head stream was → is_some was ≡ false
      → Consumes (remaining g.opening) (remaining stream) head
  unsaid g head stream None under none = under
  unsaid g head stream (Some saying) under none = absurd (cc none)

  -- the head is whole, and its answer begins
  pub begins : (g : Greeter S) (head more : List ℕ) (stream now : S) (was : Option Saying) (saying : Saying) (named : List (List ℕ)) (heard : Option Answer) (given : Answer)
      → IsUnderWay remaining contents g head stream was → is_some was ≡ false → ReadsOn (remaining stream) (remaining now) head more
      → IfSome heard (IsAnswerTo named more) → heard ≡ Some given → named ≡ g.origins → saying.answer ≡ answer_at (shuts_out g.vacancy more) given → saying.said ≡ 0
      → saying.response.items ≡ response_to (is_head more) saying.answer → Says remaining contents g more now saying
  begins g head more stream now was saying named heard given under none reads answered one origins is said response =
      record {
        within = subst (λ n. n ≤ length saying.response.items) (sym said) (omega arith);
        response = response;
        tells = record {
          between = now;
          read = reads (remaining g.opening) (unsaid g head stream was under none);
          given = given;
          answered = subst (λ o. IsAnswerTo o more given) origins (subst (λ a. IfSome a (IsAnswerTo named more)) one answered);
          is = is;
          wrote = subst (λ n. Appends (contents now) (contents now) (take n saying.response.items)) (sym said) (appends_nothing (contents now));
        };
      }

  -- more of it is written
  wrote : (g : Greeter S) (head : List ℕ) (stream now : S) (saying after : Saying) → Says remaining contents g head stream saying → after.answer ≡ saying.answer
      → WritesOn (contents stream) (contents now) (take saying.said saying.response.items) (take after.said after.response.items)
      → Tells remaining contents g head now after.answer (take after.said after.response.items)
  wrote g head stream now saying after says same writes =
      let tells = says.tells in
      record {
        between = tells.between;
        read = tells.read;
        given = tells.given;
        answered = tells.answered;
        is = same ∙ tells.is;
        wrote = writes (contents tells.between) tells.wrote;
      }

  -- all of it
  pub told : (g : Greeter S) (head : List ℕ) (stream now : S) (saying after : Saying) (was : Option Saying)
      → IsUnderWay remaining contents g head stream was → was ≡ Some saying → after.answer ≡ saying.answer → after.response ≡ saying.response
      → WritesOn (contents stream) (contents now) (take saying.said saying.response.items) (take after.said after.response.items)
      → after.said ≡ length after.response.items → Tells remaining contents g head now after.answer (response_to (is_head head) after.answer)
  told g head stream now saying after was under is same response writes all =
      let says : Says remaining contents g head stream saying = subst (IsUnderWay remaining contents g head stream) is under in
      let whole : take after.said after.response.items ≡ response_to (is_head head) after.answer =
      take_all after.said after.response.items (omega (arith, all)) ∙ (ap (λ r. r.items) response ∙ (says.response ∙ ap (response_to (is_head head)) (sym same))) in
      subst (Tells remaining contents g head now after.answer) whole (wrote g head stream now saying after says same writes)
