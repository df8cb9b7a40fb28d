use Rattle.std.proofs.Common.{◌≡◌, ◌++◌, ◌∙◌, [], List, None, Some, ap, refl, sym}
use Rattle.std.proofs.lemmas.List.{append_assoc, append-nil}
use Rattle.command_core.specs.Outs.{OutValue}
use Rattle.broker_tables.specs.Answers.{Answered, with_outs}

-- nothing more
pub with_none : (outs : List OutValue) (earlier : Answered) → outs ≡ [] → earlier ≡ with_outs outs earlier
with_none outs None none = refl
with_none outs (Some all) none = ap Some (sym (append-nil all) ∙ ap (λ (more : List OutValue). all ++ more) (sym none))

with_both : (first then : List OutValue) (earlier : Answered) → with_outs then (with_outs first earlier) ≡ with_outs (first ++ then) earlier
with_both first then None = refl
with_both first then (Some all) = ap Some (append_assoc all first then)

-- some, and then more
pub with_more : (first then outs : List OutValue) (earlier mid all : Answered) → mid ≡ with_outs first earlier → all ≡ with_outs then mid → first ++ then ≡ outs → all ≡ with_outs outs earlier
with_more first then outs earlier mid all one two both =
    two ∙ ap (with_outs then) one ∙ with_both first then earlier ∙ ap (λ (more : List OutValue). with_outs more earlier) both
