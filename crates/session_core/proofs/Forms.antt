-- What is to be done for frames has the form that commands ask for.
use Rattle.std.proofs.Common.{◌≡◌, List, [], ◌∷◌, ◌++◌, ℕ, Bool, true, false, cond, Option, Some, None, Result, Ok, Err, arith, refl, codes, sym, subst, inl, inr, IfSome}
use Rattle.std.specs.List.{AllByRecursion}
use Rattle.frame_core.specs.declared.frame.Frame.{Frame}
use Rattle.frame_core.specs.declared.frame.Verb.{Verb}
use Rattle.frame_core.specs.declared.frame.Verb.TheVariants as verbs
use Rattle.frame_core.proofs.Lists.{all_append}
use Rattle.frame_core.specs.Writable.{first_of}
use Rattle.command_core.specs.declared.command.AckMode.{AckMode}
use Rattle.command_core.specs.declared.command.Op.TheVariants as ops
use Rattle.command_core.specs.declared.fault.Fault.{Fault}
use Rattle.command_core.specs.declared.command.Member.{Member}
use Rattle.command_core.specs.declared.command.Member.TheVariants as members
use Rattle.command_core.specs.Commands.{Fits}
use Rattle.command_core.specs.Destinations.{is_destination, is_queue}
use Rattle.command_core.specs.Texts.{IsGiven}
use Rattle.command_core.specs.Operations.{IsOp}
use Rattle.tx_core.specs.Refusals.{refusal_of_add, refusal_of_begin, refusal_of_end}
use Rattle.tx_core.specs.Transactions.{added, begun, members_of, without}
use Rattle.session_core.specs.declared.session.Act.{Act}
use Rattle.session_core.specs.declared.requests.Request.{Request}
use Rattle.session_core.specs.declared.requests.Request.TheVariants.{Ask, Join, Begin, Commit, Abort, Disconnect}
use Rattle.session_core.specs.declared.session.Phase.{Phase}
use Rattle.session_core.specs.declared.session.Phase.TheVariants.{New, Open, Ended, Failed}
use Rattle.session_core.specs.ReadFrames.{delivery_of, durable_of, is_connect, mode_of, receipt_of, some_text}
use Rattle.session_core.specs.Requests.{asked_by, first_asked, joins, sends_to, subscribes_by, subscribes_to, transaction_of, unsubscribes_by, with_header}
use Rattle.session_core.specs.Sessions.{HasForm, acts_of, answered, executed, committed, first_answered, next, note, refused, told, unless}

abbrev HaveForm : List Act → Type 0
HaveForm acts = AllByRecursion HasForm acts

given : (text : Option (List ℕ)) → IsGiven (some_text text)
given None = tt
given (Some []) = tt
given (Some (b ∷ text)) = omega arith

opens : (b : Bool) (client : Option (List ℕ)) (fault : Fault) → IsGiven client → HaveForm (first_answered (cond b (Ok (ops.Open client)) (Err fault)) None).acts
opens true client fault h = (((refl, refl), h), tt)
opens false client fault h = (tt, (tt, tt))

first_form : (verb : Verb) (frame : Frame) (receipt : Option (List ℕ)) → HaveForm (first_answered (first_asked verb frame) (cond (is_connect verb) None receipt)).acts
first_form verbs.Connect frame receipt = opens _ _ _ (given (first_of (codes "client-id") frame.headers))
first_form verbs.Stomp frame receipt = opens _ _ _ (given (first_of (codes "client-id") frame.headers))
first_form verbs.Send frame receipt = (tt, (tt, tt))
first_form verbs.Subscribe frame receipt = (tt, (tt, tt))
first_form verbs.Unsubscribe frame receipt = (tt, (tt, tt))
first_form verbs.Ack frame receipt = (tt, (tt, tt))
first_form verbs.Nack frame receipt = (tt, (tt, tt))
first_form verbs.Begin frame receipt = (tt, (tt, tt))
first_form verbs.Commit frame receipt = (tt, (tt, tt))
first_form verbs.Abort frame receipt = (tt, (tt, tt))
first_form verbs.Disconnect frame receipt = (tt, (tt, tt))
first_form verbs.Connected frame receipt = (tt, (tt, tt))
first_form verbs.Message frame receipt = (tt, (tt, tt))
first_form verbs.Receipt frame receipt = (tt, (tt, tt))
first_form verbs.Error frame receipt = (tt, (tt, tt))

-- an operation that is asked for has its form, whatever receipt goes with it
abbrev IsFine : Result Request Fault → Type 0
IsFine (Ok (Ask op)) = ((receipt : Option (List ℕ)) → Fits op 0 receipt) × IsOp op
IsFine _ = Unit {0}

with_fine : (text : Option (List ℕ)) (asks : List ℕ → Result Request Fault) → ((t : List ℕ) → IsFine (asks t)) → IsFine (with_header text asks)
with_fine None asks h = tt
with_fine (Some t) asks h = h t

either_fine : (b : Bool) (x y : Result Request Fault) → IsFine x → IsFine y → IsFine (cond b x y)
either_fine true x y h k = h
either_fine false x y h k = k

joins_fine : (member : ℕ → Member) (delivery : Result ℕ Fault) (transaction : Option (List ℕ)) → IsFine (joins member delivery transaction)
joins_fine member (Ok delivery) transaction = tt
joins_fine member (Err fault) transaction = tt

-- a name that is left away on a queue isn't empty, and comes with a topic alone
topics_alone : (queue : Bool) (name : Option (List ℕ)) → IsGiven name → IsGiven (cond queue None name) × IfSome (cond queue None name) (λ text. queue ≡ false)
topics_alone true name h = (tt, tt)
topics_alone false None h = (tt, tt)
topics_alone false (Some text) h = (h, refl)

mode_fine : (frame : Frame) (to id : List ℕ) (mode : Option AckMode) → IsFine (subscribes_by frame to id mode)
mode_fine frame to id None = tt
mode_fine frame to id (Some mode) = (λ receipt. tt, topics_alone (is_queue to) (durable_of frame) (given (first_of (codes "activemq.subscriptionName") frame.headers)))

unsubscribes_fine : (id durable : Option (List ℕ)) → IsGiven durable → IsFine (unsubscribes_by id durable)
unsubscribes_fine None None h = tt
unsubscribes_fine None (Some name) h = (λ receipt. tt, (h, inr refl))
unsubscribes_fine (Some id) durable h = (λ receipt. tt, (h, inl refl))

asked_fine : (verb : Verb) (frame : Frame) → IsFine (asked_by verb frame)
asked_fine verbs.Connect frame = tt
asked_fine verbs.Stomp frame = tt
asked_fine verbs.Send frame = with_fine (first_of (codes "destination") frame.headers) (sends_to frame) (λ to. either_fine (is_destination to) _ _ tt tt)
asked_fine verbs.Subscribe frame =
    let id_of : Option (List ℕ) = first_of (codes "id") frame.headers in
    with_fine (first_of (codes "destination") frame.headers) (λ to. with_header id_of (subscribes_to frame to)) (λ to. with_fine id_of (subscribes_to frame to) (λ id. either_fine (is_destination to) _ _ (mode_fine frame to id (mode_of (first_of (codes "ack") frame.headers))) tt))
asked_fine verbs.Unsubscribe frame = unsubscribes_fine (first_of (codes "id") frame.headers) (durable_of frame) (given (first_of (codes "activemq.subscriptionName") frame.headers))
asked_fine verbs.Ack frame = joins_fine members.Ack (delivery_of frame) (transaction_of frame)
asked_fine verbs.Nack frame = joins_fine members.Nack (delivery_of frame) (transaction_of frame)
asked_fine verbs.Begin frame = with_fine (transaction_of frame) (λ name. Ok (Begin name)) (λ name. tt)
asked_fine verbs.Commit frame = with_fine (transaction_of frame) (λ name. Ok (Commit name)) (λ name. tt)
asked_fine verbs.Abort frame = with_fine (transaction_of frame) (λ name. Ok (Abort name)) (λ name. tt)
asked_fine verbs.Disconnect frame = tt
asked_fine verbs.Connected frame = tt
asked_fine verbs.Message frame = tt
asked_fine verbs.Receipt frame = tt
asked_fine verbs.Error frame = tt

note_form : (receipt : Option (List ℕ)) → HaveForm (note receipt)
note_form None = tt
note_form (Some id) = ((tt, tt), tt)

unless_form : (fault : Option Fault) (transactions : List (List ℕ × List Member)) (receipt : Option (List ℕ)) → HaveForm (unless fault transactions receipt).acts
unless_form None transactions receipt = note_form receipt
unless_form (Some fault) transactions receipt = ((tt, tt), (tt, tt))

committed_form : (name : List ℕ) (all : Option (List Member)) (transactions : List (List ℕ × List Member)) (receipt : Option (List ℕ)) → HaveForm (committed name all transactions receipt).acts
committed_form name None transactions receipt = ((tt, tt), (tt, tt))
committed_form name (Some all) transactions receipt = ((tt, tt), tt)

executed_form : (transactions : List (List ℕ × List Member)) (request : Request) (receipt : Option (List ℕ)) → IsFine (Ok request) → HaveForm (executed transactions request receipt).acts
executed_form transactions (Ask op) receipt fine = ((fine.0 receipt, fine.1), tt)
executed_form transactions (Join (members.Send sending) None) receipt fine = ((tt, tt), tt)
executed_form transactions (Join (members.Ack delivery) None) receipt fine = ((tt, tt), tt)
executed_form transactions (Join (members.Nack delivery) None) receipt fine = ((tt, tt), tt)
executed_form transactions (Join member (Some name)) receipt fine = unless_form (refusal_of_add name member transactions) (added name member transactions) receipt
executed_form transactions (Begin name) receipt fine = unless_form (refusal_of_begin name transactions) (begun name transactions) receipt
executed_form transactions (Commit name) receipt fine = committed_form name (members_of name transactions) transactions receipt
executed_form transactions (Abort name) receipt fine = unless_form (refusal_of_end name transactions) (without name transactions) receipt
executed_form transactions Disconnect receipt fine = ((tt, tt), (tt, tt))

answered_form : (transactions : List (List ℕ × List Member)) (request : Result Request Fault) (receipt : Option (List ℕ)) → IsFine request → HaveForm (answered transactions request receipt).acts
answered_form transactions (Ok request) receipt fine = executed_form transactions request receipt fine
answered_form transactions (Err fault) receipt fine = ((tt, tt), (tt, tt))

told_form : (phase : Phase) (frame : Frame) → HaveForm (told phase frame)
told_form New frame = first_form frame.verb frame (first_of (codes "receipt") frame.headers)
told_form (Open transactions) frame = answered_form transactions (asked_by frame.verb frame) (receipt_of frame) (asked_fine frame.verb frame)
told_form Ended frame = tt
told_form (Failed held) frame = tt

acts_form : (phase : Phase) (frames : List Frame) → HaveForm (acts_of phase frames)
acts_form phase [] = tt
acts_form phase (frame ∷ frames) = all_append HasForm (told phase frame) (acts_of (next phase frame) frames) (told_form phase frame) (acts_form (next phase frame) frames)

refused_form : (phase : Phase) (fault : Fault) → HaveForm (refused phase fault None)
refused_form New fault = (tt, (tt, tt))
refused_form (Open transactions) fault = ((tt, tt), (tt, tt))
refused_form Ended fault = tt
refused_form (Failed held) fault = tt

pub frames_form : (phase : Phase) (frames : List Frame) (acts : List Act) → acts ≡ acts_of phase frames → AllByRecursion HasForm acts
frames_form phase frames acts e = subst (AllByRecursion HasForm) (sym e) (acts_form phase frames)

pub fault_form : (phase now : Phase) (frames : List Frame) (fault : Fault) (acts : List Act) → acts ≡ acts_of phase frames ++ refused now fault None → AllByRecursion HasForm acts
fault_form phase now frames fault acts e =
    subst (AllByRecursion HasForm) (sym e) (all_append HasForm (acts_of phase frames) (refused now fault None) (acts_form phase frames) (refused_form now fault))
