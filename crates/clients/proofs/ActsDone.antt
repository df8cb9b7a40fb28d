-- What acts ask for, and what is done of it.
use Rattle.std.proofs.Common.{◌≡◌, ◌++◌, ◌∷◌, [], List, ℕ, Option, refl, sym, ap, ◌∙◌, subst, inl, inr, append-nil}
use Rattle.command_core.specs.declared.command.Op.{Op}
use Rattle.frame_core.specs.declared.frame.Frame.{Frame}
use Rattle.session_core.specs.declared.session.Act.{Act}
use Rattle.session_core.specs.declared.session.Act.TheVariants.{Do, Direct, Close}
use Rattle.clients.specs.Progress.{IsNext, after, asked, role_of}
use Rattle.clients.specs.declared.progress.Progress.{Progress}
use Rattle.clients.specs.Effects.{Effect, Does, Said, Told, Untold, Tells, commands_of, told_of, untold_of}

-- ── what acts ask for, one act more ──

pub does_then : (p q r : Progress) (acts more : List Act) (effects later : List Effect) → Does p acts effects q → Does q more later r → Does p (acts ++ more) (effects ++ later) r
does_then p q r [] more effects later d e = subst (λ l. Does p more (l ++ later) r) (sym d.0) (subst (λ x. Does x more later r) d.1 e)
does_then p q r (Do o x ∷ acts) more effects later (inl d) e = inl (d.0, d.1 ++ later, ap (λ l. l ++ later) d.2, d.3, does_then (after p (role_of o) d.0) q r acts more d.1 later d.4 e)
does_then p q r (Do o x ∷ acts) more effects later (inr d) e = inr (d.0, does_then p q r acts more effects later d.1 e)
does_then p q r (Direct frame ∷ acts) more effects later d e = (d.0, d.1 ++ later, d.2, ap (λ l. l ++ later) d.3, does_then p q r acts more d.1 later d.4 e)
does_then p q r (Close code ∷ acts) more effects later d e = does_then p q r acts more effects later d e

pub does_say : (p : Progress) (acts : List Act) (effects : List Effect) (q : Progress) (ticket : ℕ) (op : Op) (receipt : Option (List ℕ)) → Does p acts effects q → IsNext q (asked q op receipt)
    → Does p (acts ++ Do op receipt ∷ []) (effects ++ Said (ticket, asked q op receipt) ∷ []) (after q (role_of op) ticket)
does_say p acts effects q ticket op receipt d next =
    does_then p q (after q (role_of op) ticket) acts (Do op receipt ∷ []) effects (Said (ticket, asked q op receipt) ∷ []) d (inl (ticket, [], refl, next, (refl, refl)))

pub does_tell : (p : Progress) (acts : List Act) (effects : List Effect) (q : Progress) (frame : Frame) (effect : Effect) → Does p acts effects q → Tells frame effect → Does p (acts ++ Direct frame ∷ []) (effects ++ effect ∷ []) q
does_tell p acts effects q frame effect d tells = does_then p q q acts (Direct frame ∷ []) effects (effect ∷ []) d (effect, [], tells, refl, (refl, refl))

-- an act for which nothing is done
abbrev pub IsSilent : Progress → Act → Type 0
IsSilent q (Do op receipt) = IsNext q (asked q op receipt) → ⊥
IsSilent q (Direct frame) = ⊥
IsSilent q (Close code) = Unit {0}

does_itself : (q : Progress) (act : Act) → IsSilent q act → Does q (act ∷ []) [] q
does_itself q (Do op receipt) silent = inr (silent, (refl, refl))
does_itself q (Direct frame) silent = absurd silent
does_itself q (Close code) silent = (refl, refl)

pub does_silent : (p : Progress) (acts : List Act) (effects : List Effect) (q : Progress) (act : Act) → Does p acts effects q → IsSilent q act → Does p (acts ++ act ∷ []) effects q
does_silent p acts effects q act d silent = subst (λ l. Does p (acts ++ act ∷ []) l q) (append-nil effects) (does_then p q q acts (act ∷ []) effects [] d (does_itself q act silent))

-- ── what effects are ──

pub commands_append : (a b : List Effect) → commands_of (a ++ b) ≡ commands_of a ++ commands_of b
commands_append [] b = refl
commands_append (Said p ∷ a) b = ap (λ l. p ∷ l) (commands_append a b)
commands_append (Told frame ∷ a) b = commands_append a b
commands_append (Untold frame ∷ a) b = commands_append a b

pub told_append : (a b : List Effect) → told_of (a ++ b) ≡ told_of a ++ told_of b
told_append [] b = refl
told_append (Said p ∷ a) b = told_append a b
told_append (Told frame ∷ a) b = ap (λ l. frame ∷ l) (told_append a b)
told_append (Untold frame ∷ a) b = told_append a b

untold_append : (a b : List Effect) → untold_of (a ++ b) ≡ untold_of a ++ untold_of b
untold_append [] b = refl
untold_append (Said p ∷ a) b = untold_append a b
untold_append (Told frame ∷ a) b = untold_append a b
untold_append (Untold frame ∷ a) b = ap (λ l. frame ∷ l) (untold_append a b)

-- no frame is left untold by one effect more that leaves none
pub none_more : (effects : List Effect) (effect : Effect) → untold_of effects ≡ [] → untold_of (effect ∷ []) ≡ [] → untold_of (effects ++ effect ∷ []) ≡ []
none_more effects effect none one = untold_append effects (effect ∷ []) ∙ ap (λ l. l ++ untold_of (effect ∷ [])) none ∙ one
