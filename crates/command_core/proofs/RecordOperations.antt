-- Operations in records.
use Rattle.std.proofs.Common.{◌≡◌, ◌≢◌, ◌<◌, ◌^◌, arith, ◌&&◌, ◌||◌, ◌⊎◌, ◌++◌, ◌∷◌, [], ℕ, Bool, true, false, cond, eqb, List, Option, Some, None, IfSome, inl, inr, refl, sym, ap, subst, ◌∙◌, append_assoc}
use Rattle.std.specs.Prelude.{is_some, IsSome}
use Rattle.std.specs.Int.{w64, to_be_bytes}
use Rattle.std.proofs.lemmas.Bool.{false≢true}
use Rattle.command_core.specs.declared.command.AckMode.{AckMode}
use Rattle.command_core.specs.declared.command.End.{End as ending}
use Rattle.command_core.specs.declared.command.End.TheVariants.{Bye, Lost, Bad}
use Rattle.command_core.specs.declared.command.Op.{Op}
use Rattle.command_core.specs.declared.command.Op.TheVariants.{Open, Send, Subscribe, Unsubscribe, Ack, Nack, Commit, Note, End}
use Rattle.command_core.specs.declared.fault.Fault.{Fault}
use Rattle.command_core.specs.declared.fault.Fault.TheVariants.{MalformedFrame, FrameTooLarge, UndefinedEscape, UnknownCommand, MissingHeader, UnsupportedVersion, UnexpectedFrame, BadDestination, SubscriptionIdInUse, UnknownSubscription, UnknownAcknowledgement, NoRoom, NoClientId, DurableSubscription, TransactionBegun, TransactionNotBegun, TransactionTooLarge, TooManyEntries, BodyNotAllowed, BadHeaderValue}
use Rattle.command_core.specs.declared.command.Member.{Member}
use Rattle.command_core.specs.declared.command.Member.TheVariants as kinds
use Rattle.command_core.specs.Destinations.{IsDestination, is_queue}
use Rattle.command_core.specs.Faults.{code_of}
use Rattle.command_core.specs.Operations.{IsOp, op_of}
use Rattle.command_core.specs.PartSpellings.{AreBytes, IsText, IsSent, counted, optional, sending, mode_byte}
use Rattle.command_core.specs.Spellings.{IsMember, IsOperation, member, operation}
use Rattle.command_core.specs.Spellings.{end as end_bytes}
use Rattle.command_core.specs.PartReading.{◌>>=◌, Reader, made, byte_at, number_at, text_at, optional_at, name_at, destination_at, sending_at, mode_at, few_at}
use Rattle.command_core.specs.Reading.{all_faults, fault_with, fault_at, end_at, subscribe_at, unsubscribe_at, member_at, member_behind, operation_at}
use Rattle.command_core.proofs.Formats.{Takes, Takes-then, Format, FewEach, HasBytes, spell_few, bind_some, first_takes, first_again, last_takes, last_if, last_if_not, byte, few, number, wide64}
use Rattle.command_core.proofs.RecordTexts.{IsName, text_format, optional_format, name_format, destination_format}
use Rattle.command_core.proofs.RecordMessages.{sending_format}
use Rattle.command_core.proofs.RecordModes.{Always, chosen, kind_is, mode_bytes, mode_format}
use Rattle.command_core.specs.Sendings.{SendingValue}

-- ---- kinds

-- the kind that has nothing behind it
pub note_read : (bytes rest : List ℕ) (kind : ℕ) → byte_at bytes ≡ Some (kind, rest) → kind ≡ 8 → operation_at bytes ≡ Some (Note, rest)
unfolding operation_at
note_read bytes rest kind e is = rw (e, is) refl

-- what stands behind its kind
tagged_takes : {A B : Type 0} (spell : A → List ℕ) (Form : A → Type 0) (read : Reader A) → Format spell Form read → (f : A → B) (whole : B → List ℕ) (Whole : B → Type 0) (tag : ℕ) → ((x : A) → tag ∷ spell x ≡ whole (f x)) → ((x : A) → Form x → Whole (f x))
    → (bytes front rest : List ℕ) (y : B) → Takes bytes (tag ∷ []) front → made f (read front) ≡ Some (y, rest) → Takes bytes (whole y) rest × Whole y
tagged_takes {A} spell Form read format f whole Whole tag same formed bytes front rest y taken e =
    let x = first_takes spell Form read format (λ (x : A × List ℕ). Some (f x.0, x.1)) front (y, rest) taken.fits e in
    let both = Takes-then bytes (tag ∷ []) front (spell x.value) x.rest taken x.taken in
    last_takes whole Whole bytes (f x.value, x.rest) (y, rest) x.then (subst (λ (t : List ℕ). Takes bytes t x.rest) (same x.value) both, formed x.value x.form)

-- ---- faults

fault_from : (code : ℕ) (faults : List Fault) (fault : Fault) → fault_with code faults ≡ Some fault → code_of fault ≡ code
fault_from code [] fault e = absurd cc
fault_from code (first ∷ faults) fault e =
    chosen (code_of first) code (Some first) (fault_with code faults) fault (code_of fault ≡ code) (λ is e. let same : first ≡ fault = cc in ap code_of (sym same) ∙ is) (fault_from code faults fault) e

from_fault : (fault : Fault) → fault_with (code_of fault) all_faults ≡ Some fault
from_fault MalformedFrame = refl
from_fault FrameTooLarge = refl
from_fault UndefinedEscape = refl
from_fault UnknownCommand = refl
from_fault MissingHeader = refl
from_fault UnsupportedVersion = refl
from_fault UnexpectedFrame = refl
from_fault BadDestination = refl
from_fault SubscriptionIdInUse = refl
from_fault UnknownSubscription = refl
from_fault UnknownAcknowledgement = refl
from_fault NoRoom = refl
from_fault NoClientId = refl
from_fault DurableSubscription = refl
from_fault TransactionBegun = refl
from_fault TransactionNotBegun = refl
from_fault TransactionTooLarge = refl
from_fault TooManyEntries = refl
from_fault BodyNotAllowed = refl
from_fault BadHeaderValue = refl

no_fault : (code : ℕ) (o : Option Fault) → fault_with code all_faults ≡ o → ((fault : Fault) → code_of fault ≢ code) → o ≡ None
no_fault code None is none = refl
no_fault code (Some fault) is none = absurd (none fault (fault_from code all_faults fault is))

-- a code that is no fault's is not read
pub no_fault_read : (bytes : List ℕ) (code : ℕ) (rest : List ℕ) → byte_at bytes ≡ Some (code, rest) → ((fault : Fault) → code_of fault ≢ code) → fault_at bytes ≡ None
unfolding fault_at
no_fault_read bytes code rest e none = rw (e, no_fault code (fault_with code all_faults) refl none) refl

abbrev fault_bytes : Fault → List ℕ
fault_bytes fault = code_of fault ∷ []

fault_takes : (bytes : List ℕ) (fault : Fault) (rest : List ℕ) → AreBytes bytes → fault_at bytes ≡ Some (fault, rest) → Takes bytes (fault_bytes fault) rest × Always fault
unfolding fault_at
fault_takes bytes fault rest fits e =
    let b = first_takes (λ (b : ℕ). b ∷ []) (λ b. b < 256) byte_at byte (λ code. fault_with code.0 all_faults >>= λ fault. Some (fault, code.1)) bytes (fault, rest) fits e in
    let f = bind_some (fault_with b.value all_faults) (λ fault. Some (fault, b.rest)) (fault, rest) b.then in
    last_takes fault_bytes Always bytes (f.0, b.rest) (fault, rest) f.2 (kind_is bytes b.rest b.value (code_of f.0) b.taken (sym (fault_from b.value all_faults f.0 f.1)), tt)

fault_again : (fault : Fault) (rest : List ℕ) → Always fault → fault_at (fault_bytes fault ++ rest) ≡ Some (fault, rest)
unfolding fault_at
fault_again fault rest form = rw (from_fault fault) refl

pub fault_format : Format fault_bytes Always fault_at
fault_format = record { takes = fault_takes; again = fault_again }

-- ---- ends

end_takes : (bytes : List ℕ) (x : ending) (rest : List ℕ) → AreBytes bytes → end_at bytes ≡ Some (x, rest) → Takes bytes (end_bytes x) rest × Always x
unfolding end_at
end_takes bytes x rest fits e =
    let b = first_takes (λ (b : ℕ). b ∷ []) (λ b. b < 256) byte_at byte (λ kind. cond (eqb kind.0 0) (Some (Bye, kind.1)) (cond (eqb kind.0 1) (Some (Lost, kind.1)) (cond (eqb kind.0 2) (made Bad (fault_at kind.1)) None))) bytes (x, rest) fits e in
    let P = Takes bytes (end_bytes x) rest × Always x in
    chosen b.value 0 _ _ (x, rest) P (λ is e. last_takes end_bytes Always bytes (Bye, b.rest) (x, rest) e (kind_is bytes b.rest b.value 0 b.taken is, tt))
    (chosen b.value 1 _ _ (x, rest) P (λ is e. last_takes end_bytes Always bytes (Lost, b.rest) (x, rest) e (kind_is bytes b.rest b.value 1 b.taken is, tt))
    (chosen b.value 2 _ _ (x, rest) P (λ is e. tagged_takes fault_bytes Always fault_at fault_format Bad end_bytes Always 2 (λ fault. refl) (λ fault form. tt) bytes b.rest rest x (kind_is bytes b.rest b.value 2 b.taken is) e) (λ e. absurd cc))) b.then

end_again : (x : ending) (rest : List ℕ) → Always x → end_at (end_bytes x ++ rest) ≡ Some (x, rest)
unfolding end_at
end_again Bye rest form = refl
end_again Lost rest form = refl
end_again (Bad fault) rest form = ap (λ o. made Bad o) (fault_again fault rest tt)

pub end_format : Format end_bytes Always end_at
end_format = record { takes = end_takes; again = end_again }

-- ---- members

abbrev IsNumber : ℕ → Type 0
IsNumber n = n < 2 ^ 64

abbrev numbers : Format (to_be_bytes w64) IsNumber (number_at w64)
numbers = number w64 (2 ^ 64) wide64

-- behind its kind
behind_takes : (bytes front : List ℕ) (kind : ℕ) (m : Member) (rest : List ℕ) → Takes bytes (kind ∷ []) front → member_behind kind front ≡ Some (m, rest) → Takes bytes (member m) rest × IsMember m
unfolding member_behind
behind_takes bytes front kind m rest taken e =
    let P = Takes bytes (member m) rest × IsMember m in
    chosen kind 2 _ _ (m, rest) P (λ is e. tagged_takes sending IsSent sending_at sending_format kinds.Send member IsMember 2 (λ s. refl) (λ s form. form) bytes front rest m (kind_is bytes front kind 2 taken is) e)
    (chosen kind 5 _ _ (m, rest) P (λ is e. tagged_takes (to_be_bytes w64) IsNumber (number_at w64) numbers kinds.Ack member IsMember 5 (λ n. refl) (λ n form. form) bytes front rest m (kind_is bytes front kind 5 taken is) e)
    (chosen kind 6 _ _ (m, rest) P (λ is e. tagged_takes (to_be_bytes w64) IsNumber (number_at w64) numbers kinds.Nack member IsMember 6 (λ n. refl) (λ n form. form) bytes front rest m (kind_is bytes front kind 6 taken is) e) (λ e. absurd cc))) e

sent_again : (s : SendingValue) (rest : List ℕ) → IsSent s → member_behind 2 (sending s ++ rest) ≡ Some (kinds.Send s, rest)
unfolding member_behind
sent_again s rest form = ap (λ o. made kinds.Send o) (sending_format.again s rest form)

acknowledged_again : (n : ℕ) (rest : List ℕ) → IsNumber n → member_behind 5 (to_be_bytes w64 n ++ rest) ≡ Some (kinds.Ack n, rest)
unfolding member_behind
acknowledged_again n rest form = ap (λ o. made kinds.Ack o) (numbers.again n rest form)

refused_again : (n : ℕ) (rest : List ℕ) → IsNumber n → member_behind 6 (to_be_bytes w64 n ++ rest) ≡ Some (kinds.Nack n, rest)
unfolding member_behind
refused_again n rest form = ap (λ o. made kinds.Nack o) (numbers.again n rest form)

member_takes : (bytes : List ℕ) (m : Member) (rest : List ℕ) → AreBytes bytes → member_at bytes ≡ Some (m, rest) → Takes bytes (member m) rest × IsMember m
unfolding member_at
member_takes bytes m rest fits e =
    let b = first_takes (λ (b : ℕ). b ∷ []) (λ b. b < 256) byte_at byte (λ kind. member_behind kind.0 kind.1) bytes (m, rest) fits e in
    behind_takes bytes b.rest b.value m rest b.taken b.then

member_again : (m : Member) (rest : List ℕ) → IsMember m → member_at (member m ++ rest) ≡ Some (m, rest)
unfolding member_at
member_again (kinds.Send s) rest form = sent_again s rest form
member_again (kinds.Ack delivery) rest form = acknowledged_again delivery rest form
member_again (kinds.Nack delivery) rest form = refused_again delivery rest form

pub member_format : Format member IsMember member_at
member_format = record { takes = member_takes; again = member_again }

some_bytes : HasBytes member
some_bytes (kinds.Send s) = omega arith
some_bytes (kinds.Ack delivery) = omega arith
some_bytes (kinds.Nack delivery) = omega arith

abbrev members_format : Format (spell_few member) (FewEach IsMember) (few_at member_at)
members_format = few member IsMember member_at member_format some_bytes

-- ---- subscriptions

abbrev pub IsFormed : Op → Type 0
IsFormed op = IsOperation op × IsOp op

abbrev subscribe_value : List ℕ → List ℕ → AckMode → Option (List ℕ) × List ℕ → Option (Op × List ℕ)
subscribe_value id d m durable = cond (is_some durable.0 && is_queue d) None (Some (Subscribe id d m durable.0, durable.1))

-- a name comes with a topic
on_topic : (name : Option (List ℕ)) (q : Bool) → (is_some name && q) ≡ false → IfSome name (λ text. q ≡ false)
on_topic None q e = tt
on_topic (Some text) q e = e

from_topic : (name : Option (List ℕ)) (q : Bool) → IfSome name (λ text. q ≡ false) → (is_some name && q) ≡ false
from_topic None q e = refl
from_topic (Some text) q e = e

subscribe_takes : (bytes front : List ℕ) (op : Op) (rest : List ℕ) → Takes bytes (3 ∷ []) front → subscribe_at front ≡ Some (op, rest) → Takes bytes (operation op) rest × IsFormed op
unfolding subscribe_at
subscribe_takes bytes front op rest taken e =
    let id = first_takes counted IsText text_at text_format (λ id. destination_at id.1 >>= λ d. mode_at d.1 >>= λ m. name_at m.1 >>= subscribe_value id.0 d.0 m.0) front (op, rest) taken.fits e in
    let d = first_takes counted IsDestination destination_at destination_format (λ d. mode_at d.1 >>= λ m. name_at m.1 >>= subscribe_value id.value d.0 m.0) id.rest (op, rest) id.taken.fits id.then in
    let m = first_takes mode_bytes Always mode_at mode_format (λ m. name_at m.1 >>= subscribe_value id.value d.value m.0) d.rest (op, rest) d.taken.fits d.then in
    let name = first_takes optional IsName name_at name_format (subscribe_value id.value d.value m.value) m.rest (op, rest) m.taken.fits m.then in
    let t1 = Takes-then bytes (3 ∷ []) front (counted id.value) id.rest taken id.taken in
    let t2 = Takes-then bytes (3 ∷ counted id.value) id.rest (counted d.value) d.rest t1 d.taken in
    let t3 = Takes-then d.rest (mode_bytes m.value) m.rest (optional name.value) name.rest m.taken name.taken in
    let t4 = Takes-then bytes (3 ∷ counted id.value ++ counted d.value) d.rest (mode_byte m.value ∷ optional name.value) name.rest t2 t3 in
    last_if_not operation IsFormed bytes (is_some name.value && is_queue d.value) (Subscribe id.value d.value m.value name.value, name.rest) (op, rest) name.then
    (λ is. (t4, ((id.form, d.form, name.form.0), (name.form.1, on_topic name.value (is_queue d.value) is))))

subscribe_again : (id d : List ℕ) (m : AckMode) (name : Option (List ℕ)) (rest : List ℕ) → IsFormed (Subscribe id d m name) → subscribe_at ((counted id ++ counted d ++ mode_byte m ∷ optional name) ++ rest) ≡ Some (Subscribe id d m name, rest)
unfolding subscribe_at
subscribe_again id d m name rest form =
    let behind = mode_byte m ∷ (optional name ++ rest) in
    first_again counted IsText text_at text_format (λ id. destination_at id.1 >>= λ d. mode_at d.1 >>= λ m. name_at m.1 >>= subscribe_value id.0 d.0 m.0) _ id (counted d ++ behind) (Some (Subscribe id d m name, rest))
    (append_assoc (counted id ++ counted d) (mode_byte m ∷ optional name) rest ∙ append_assoc (counted id) (counted d) behind) form.0.0
    (first_again counted IsDestination destination_at destination_format (λ d. mode_at d.1 >>= λ m. name_at m.1 >>= subscribe_value id d.0 m.0) (counted d ++ behind) d behind (Some (Subscribe id d m name, rest)) refl form.0.1
    (first_again mode_bytes Always mode_at mode_format (λ m. name_at m.1 >>= subscribe_value id d m.0) behind m (optional name ++ rest) (Some (Subscribe id d m name, rest)) refl tt
    (first_again optional IsName name_at name_format (subscribe_value id d m) (optional name ++ rest) name rest (Some (Subscribe id d m name, rest)) refl (form.0.2, form.1.0)
    (ap (λ b. cond b None (Some (Subscribe id d m name, rest))) (from_topic name (is_queue d) form.1.1)))))

abbrev unsubscribe_value : Option (List ℕ) → Option (List ℕ) × List ℕ → Option (Op × List ℕ)
unsubscribe_value id durable = cond (is_some id || is_some durable.0) (Some (Unsubscribe id durable.0, durable.1)) None

either_from : (a b : Option (List ℕ)) → (is_some a || is_some b) ≡ true → IsSome a ⊎ IsSome b
either_from (Some text) b e = inl refl
either_from None b e = inr e

from_either : (a b : Option (List ℕ)) → IsSome a ⊎ IsSome b → (is_some a || is_some b) ≡ true
from_either (Some text) b form = refl
from_either None b (inl is) = absurd (false≢true is)
from_either None b (inr is) = is

unsubscribe_takes : (bytes front : List ℕ) (op : Op) (rest : List ℕ) → Takes bytes (4 ∷ []) front → unsubscribe_at front ≡ Some (op, rest) → Takes bytes (operation op) rest × IsFormed op
unfolding unsubscribe_at
unsubscribe_takes bytes front op rest taken e =
    let id = first_takes optional (λ o. IfSome o IsText) optional_at optional_format (λ id. name_at id.1 >>= unsubscribe_value id.0) front (op, rest) taken.fits e in
    let name = first_takes optional IsName name_at name_format (unsubscribe_value id.value) id.rest (op, rest) id.taken.fits id.then in
    let t1 = Takes-then bytes (4 ∷ []) front (optional id.value) id.rest taken id.taken in
    let t2 = Takes-then bytes (4 ∷ optional id.value) id.rest (optional name.value) name.rest t1 name.taken in
    last_if operation IsFormed bytes (is_some id.value || is_some name.value) (Unsubscribe id.value name.value, name.rest) (op, rest) name.then (λ is. (t2, ((id.form, name.form.0), (name.form.1, either_from id.value name.value is))))

unsubscribe_again : (id name : Option (List ℕ)) (rest : List ℕ) → IsFormed (Unsubscribe id name) → unsubscribe_at ((optional id ++ optional name) ++ rest) ≡ Some (Unsubscribe id name, rest)
unfolding unsubscribe_at
unsubscribe_again id name rest form =
    first_again optional (λ o. IfSome o IsText) optional_at optional_format (λ id. name_at id.1 >>= unsubscribe_value id.0) _ id (optional name ++ rest) (Some (Unsubscribe id name, rest)) (append_assoc (optional id) (optional name) rest) form.0.0
    (first_again optional IsName name_at name_format (unsubscribe_value id) (optional name ++ rest) name rest (Some (Unsubscribe id name, rest)) refl (form.0.1, form.1.0)
    (ap (λ b. cond b (Some (Unsubscribe id name, rest)) None) (from_either id name form.1.1)))

-- ---- operations

-- a member as an operation
as_operation : (bytes rest : List ℕ) (m : Member) → Takes bytes (member m) rest × IsMember m → Takes bytes (operation (op_of m)) rest × IsFormed (op_of m)
as_operation bytes rest (kinds.Send s) read = (read.0, (read.1, tt))
as_operation bytes rest (kinds.Ack delivery) read = (read.0, (read.1, tt))
as_operation bytes rest (kinds.Nack delivery) read = (read.0, (read.1, tt))

member_operation_takes : (bytes front : List ℕ) (kind : ℕ) (op : Op) (rest : List ℕ) → Takes bytes (kind ∷ []) front → made op_of (member_behind kind front) ≡ Some (op, rest) → Takes bytes (operation op) rest × IsFormed op
member_operation_takes bytes front kind op rest taken e =
    let m = bind_some (member_behind kind front) (λ (x : Member × List ℕ). Some (op_of x.0, x.1)) (op, rest) e in
    last_takes operation IsFormed bytes (op_of m.0.0, m.0.1) (op, rest) m.2 (as_operation bytes m.0.1 m.0.0 (behind_takes bytes front kind m.0.0 m.0.1 taken m.1))

abbrev by_kind : ℕ × List ℕ → Option (Op × List ℕ)
by_kind kind =
    cond (eqb kind.0 1) (made Open (name_at kind.1))
    (cond (eqb kind.0 3) (subscribe_at kind.1)
    (cond (eqb kind.0 4) (unsubscribe_at kind.1)
    (cond (eqb kind.0 7) (made Commit (few_at member_at kind.1))
    (cond (eqb kind.0 8) (Some (Note, kind.1))
    (cond (eqb kind.0 9) (made End (end_at kind.1)) (made op_of (member_behind kind.0 kind.1)))))))

operation_takes : (bytes : List ℕ) (op : Op) (rest : List ℕ) → AreBytes bytes → operation_at bytes ≡ Some (op, rest) → Takes bytes (operation op) rest × IsFormed op
unfolding operation_at
operation_takes bytes op rest fits e =
    let b = first_takes (λ (b : ℕ). b ∷ []) (λ b. b < 256) byte_at byte by_kind bytes (op, rest) fits e in
    let P = Takes bytes (operation op) rest × IsFormed op in
    let kind : (k : ℕ) → b.value ≡ k → Takes bytes (k ∷ []) b.rest = λ k is. kind_is bytes b.rest b.value k b.taken is in
    chosen b.value 1 _ _ (op, rest) P (λ is e. tagged_takes optional IsName name_at name_format Open operation IsFormed 1 (λ c. refl) (λ c form. form) bytes b.rest rest op (kind 1 is) e)
    (chosen b.value 3 _ _ (op, rest) P (λ is e. subscribe_takes bytes b.rest op rest (kind 3 is) e)
    (chosen b.value 4 _ _ (op, rest) P (λ is e. unsubscribe_takes bytes b.rest op rest (kind 4 is) e)
    (chosen b.value 7 _ _ (op, rest) P (λ is e. tagged_takes (spell_few member) (FewEach IsMember) (few_at member_at) members_format Commit operation IsFormed 7 (λ ms. refl) (λ ms form. (form, tt)) bytes b.rest rest op (kind 7 is) e)
    (chosen b.value 8 _ _ (op, rest) P (λ is e. last_takes operation IsFormed bytes (Note, b.rest) (op, rest) e (kind 8 is, (tt, tt)))
    (chosen b.value 9 _ _ (op, rest) P (λ is e. tagged_takes end_bytes Always end_at end_format End operation IsFormed 9 (λ x. refl) (λ x form. (tt, tt)) bytes b.rest rest op (kind 9 is) e) (λ e. member_operation_takes bytes b.rest b.value op rest b.taken e)))))) b.then

operation_again : (op : Op) (rest : List ℕ) → IsFormed op → operation_at (operation op ++ rest) ≡ Some (op, rest)
unfolding operation_at
operation_again (Open c) rest form = ap (λ o. made Open o) (name_format.again c rest form)
operation_again (Send s) rest form = ap (λ o. made op_of o) (sent_again s rest form.0)
operation_again (Subscribe id d m name) rest form = subscribe_again id d m name rest form
operation_again (Unsubscribe id name) rest form = unsubscribe_again id name rest form
operation_again (Ack n) rest form = ap (λ o. made op_of o) (acknowledged_again n rest form.0)
operation_again (Nack n) rest form = ap (λ o. made op_of o) (refused_again n rest form.0)
operation_again (Commit ms) rest form = ap (λ o. made Commit o) (members_format.again ms rest form.0)
operation_again Note rest form = refl
operation_again (End x) rest form = ap (λ o. made End o) (end_format.again x rest tt)

pub operation_format : Format operation IsFormed operation_at
operation_format = record { takes = operation_takes; again = operation_again }
