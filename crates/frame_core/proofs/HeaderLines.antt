use Rattle.std.proofs.Common.{◌≡◌, ◌≢◌, ◌<◌, ℕ, List, ◌∷◌, ◌++◌, Some, None, inl, inr, length, sym, ap, ◌∙◌, subst}
use Rattle.std.specs.List.{AllByRecursion}
use Rattle.std.specs.Str.{IsUtf8}
use Rattle.frame_core.specs.declared.frame.Verb.{Verb}
use Rattle.frame_core.specs.declared.fault.FrameFault.{FrameFault}
use Rattle.frame_core.specs.declared.fault.FrameFault.TheVariants.{UndefinedEscape, BadHeaderValue}
use Rattle.frame_core.specs.declared.reader.Stop.{Stop}
use Rattle.frame_core.specs.declared.reader.Stop.TheVariants.{Memory, Fault}
use Rattle.frame_core.specs.Heads.{IsInLine, meaning}
use Rattle.frame_core.specs.Stops.{IfFault, IsHeaderText, IsHeaderFault, IsNameAndValue}
use Rattle.frame_core.proofs.Lists.{all_left, all_right, all_both}

-- what a callee says of its one fault, said of a greater whole
pub lift_fault : (stop : Stop) (code : FrameFault) (P : Type 0) (Q : FrameFault → Type 0) → (P → Q code) → IfFault stop (λ fault. (fault ≡ code) × P) → IfFault stop Q
lift_fault Memory code P Q f h = tt
lift_fault (Fault fault) code P Q f h = subst Q (sym h.0) (f h.1)

-- the form of a line that is cut at its first colon
pub header_form : (line name value : List ℕ) → AllByRecursion IsInLine line → (line ≡ name ++ (58 ∷ value)) × (0 < length name) × AllByRecursion (λ b. b ≢ 58) name
    → IsNameAndValue line name value
header_form line name value in_line parts =
    let both : AllByRecursion IsInLine (name ++ (58 ∷ value)) = subst (AllByRecursion IsInLine) parts.0 in_line in
    let in_name = all_left IsInLine name (58 ∷ value) both in (
      parts.0,
      record {
        named = parts.1;
        name = all_both IsInLine (λ b. b ≢ 58) (λ b. IsInLine b × (b ≢ 58)) (λ b p q. (p, q)) name in_name parts.2;
        value = (all_right IsInLine name (58 ∷ value) both).1;
      },
    )

pub bad_name : (verb : Verb) (line name value : List ℕ) (stop : Stop) → IsNameAndValue line name value
    → IfFault stop (λ fault. (fault ≡ UndefinedEscape) × (meaning verb name ≡ None)) → IfFault stop (IsHeaderFault verb line)
bad_name verb line name value stop form h =
    lift_fault stop UndefinedEscape (meaning verb name ≡ None) (IsHeaderFault verb line) (λ none. (name, value, form, inl none)) h

pub bad_value : (verb : Verb) (line name value : List ℕ) (stop : Stop) → IsNameAndValue line name value
    → IfFault stop (λ fault. (fault ≡ UndefinedEscape) × (meaning verb value ≡ None)) → IfFault stop (IsHeaderFault verb line)
bad_value verb line name value stop form h =
    lift_fault stop UndefinedEscape (meaning verb value ≡ None) (IsHeaderFault verb line) (λ none. (name, value, form, inr none)) h

pub broken_name : (verb : Verb) (line name value name_text value_text : List ℕ) (stop : Stop) → IsNameAndValue line name value
    → meaning verb name ≡ Some name_text → meaning verb value ≡ Some value_text
    → IfFault stop (λ fault. (fault ≡ BadHeaderValue) × (IsUtf8 name_text → ⊥)) → IfFault stop (IsHeaderFault verb line)
broken_name verb line name value name_text value_text stop form n v h =
    lift_fault stop BadHeaderValue (IsUtf8 name_text → ⊥) (IsHeaderFault verb line) (λ broken. (name, value, (name_text, value_text), form, n, v, inl broken)) h

pub broken_value : (verb : Verb) (line name value name_text value_text : List ℕ) (stop : Stop) → IsNameAndValue line name value
    → meaning verb name ≡ Some name_text → meaning verb value ≡ Some value_text
    → IfFault stop (λ fault. (fault ≡ BadHeaderValue) × (IsUtf8 value_text → ⊥)) → IfFault stop (IsHeaderFault verb line)
broken_value verb line name value name_text value_text stop form n v h =
    lift_fault stop BadHeaderValue (IsUtf8 value_text → ⊥) (IsHeaderFault verb line) (λ broken. (name, value, (name_text, value_text), form, n, v, inr broken)) h

pub header_read : (verb : Verb) (line name value name_text value_text name_read value_read : List ℕ) → IsNameAndValue line name value
    → meaning verb name ≡ Some name_text → meaning verb value ≡ Some value_text → (name_read ≡ name_text) × IsUtf8 name_text → (value_read ≡ value_text) × IsUtf8 value_text
    → IsHeaderText verb line (name_read, value_read)
header_read verb line name value name_text value_text name_read value_read form n v name_is value_is = (
  name,
  value,
  form.0,
  record {
    form = form.1;
    name = n ∙ ap Some (sym name_is.0);
    value = v ∙ ap Some (sym value_is.0);
    name_utf8 = subst IsUtf8 (sym name_is.0) name_is.1;
    value_utf8 = subst IsUtf8 (sym value_is.0) value_is.1;
  },
)
