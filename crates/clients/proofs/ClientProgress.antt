-- How a client goes on: what it is sent, what its seat gets, and what of its bytes that is.
use Rattle.std.proofs.Common.{◌≡◌, ◌<◌, ◌≤◌, ◌++◌, ◌∷◌, [], ℕ, List, Option, Some, None, refl, sym, ap, ◌∙◌, subst, inl, inr, append_assoc, append-nil, arith, ◌⊎◌}
use Rattle.std.specs.Prelude.{map, Result, Ok, Err, OnOk, OnErr, option_map}
use Rattle.command_core.specs.Commands.{CommandValue}
use Rattle.command_core.specs.declared.command.Op.{Op}
use Rattle.frame_core.specs.declared.frame.Frame.{Frame}
use Rattle.claim_core.specs.Appends.{Appends, Refuses}
use Rattle.claim_core.specs.declared.limits.TheConstants.{WINDOW}
use Rattle.claim_core.specs.Seats.{SessionSeatValue, with_seen}
use Rattle.claim_core.specs.declared.refusals.Refused.{Refused}
use Rattle.claim_core.specs.declared.refusals.Refused.TheVariants as refusals
use Rattle.session_core.specs.declared.session.Act.{Act}
use Rattle.clients.specs.Connections.{ConnectionValue, Fails, HearsBytes, IsLost, Listens, Takes, closed_by, connection_of, filled, with_appended, with_room}
use Rattle.clients.specs.Progress.{IsDone, IsNext, after, asked, is_last, role_of}
use Rattle.clients.specs.Footprints.{FootprintValue, IsFootprint, charged, settled, spent, total}
use Rattle.clients.specs.Concluding.{Concludes, follow}
use Rattle.clients.specs.Stages.{CanTell, Executes, IsEnding, rested, stopped}
use Rattle.clients.specs.declared.progress.Progress.{Progress}
use Rattle.clients.specs.declared.progress.Stage.{Stage}
use Rattle.clients.specs.declared.progress.Stage.TheVariants.{Running, GivingUp}
use Rattle.session_core.specs.declared.session.Act.TheVariants.{Direct, Do, Close}
use Rattle.session_core.specs.declared.session.CloseCode.{CloseCode}
use Rattle.clients.specs.Continues.{Continues}
use Rattle.clients.specs.Conversations.{StaysOrEnds}
use Rattle.clients.specs.Effects.{Effect, Said, Told, Untold, Tells, commands_of, told_of, untold_of}
use Rattle.clients.specs.ClientSteps.{GoesOn, SaysNext, TellsIt}
use Rattle.clients.specs.Halting.{FindsEnd, HasHalted, IsFinal}
use Rattle.clients.specs.Histories.{DoesUndone, HasTold, Heeds, Idles, Lives, LivesAt, LivesOn, Nothing, Restaged, Steady, Taken, Undone, Waits, act_of, undone_of}
use Rattle.clients.specs.Relays.{ReadsMark}
use Rattle.clients.specs.SessionBytes.{IsEvicted, KeepsRoom, Spends, waiting_of}
use Rattle.clients.specs.Clients.{IsNew, Served, Stays, Unserved, bytes_of}
use Rattle.clients.specs.Boxes.{BoxEntry}
use Rattle.clients.specs.declared.client.Client.{Client}
use Rattle.clients.proofs.ConversationEnds.{concludes_quietly, concludes_then}
use Rattle.clients.proofs.ActsDone.{IsSilent, commands_append, told_append}
use Rattle.clients.proofs.ConnectionLife.{again_next, asks_it, begins, can_giving, closes, halted_giving, hears_more, leaves_it, none_lost_yet, not_halted, passes_it, restages, restays, rests, same_stage, same_taken, says_it, stopped_over, stops, takes_none, takes_one, tells_it, tells_none}
use Rattle.clients.proofs.SessionBytes.{counts_it, cut_by_count, cuts_it, spends_as, spends_charged, spends_filled, spends_new, spends_no_more, spends_on, spends_room, spends_said, spends_taken}
use Rattle.clients.proofs.MessagesSent.{quiet, restay, reserve, served, still, takes_no_other, unserved}
use Rattle.clients.proofs.SeatConversations.{ends_so, joined, reads_so, stays}

-- ── what it may have stays ──

pub keeps_same : (old new : ConnectionValue) → new.footprint ≡ old.footprint → KeepsRoom old new
keeps_same old new same = record {
  room = ap (λ (f : FootprintValue). f.room) same;
  limit = ap (λ (f : FootprintValue). f.limit) same;
  evicted = λ e. subst (λ (f : FootprintValue). IsEvicted f.cut) same e;
}

keeps_then : (old mid new : ConnectionValue) → KeepsRoom old mid → KeepsRoom mid new → KeepsRoom old new
keeps_then old mid new a b = record { room = b.room ∙ a.room; limit = b.limit ∙ a.limit; evicted = λ e. a.evicted (b.evicted e) }

-- ── what is heard and done ──

no_bytes : (received : Option (List ℕ)) → received ≡ option_map (λ bytes. bytes ++ []) received
no_bytes None = refl
no_bytes (Some bytes) = ap (λ b. Some b) (sym (append-nil bytes))

more_bytes : (received : Option (List ℕ)) (a b : List ℕ) → option_map (λ bytes. bytes ++ b) (option_map (λ bytes. bytes ++ a) received) ≡ option_map (λ bytes. bytes ++ (a ++ b)) received
more_bytes None a b = refl
more_bytes (Some bytes) a b = ap (λ x. Some x) (append_assoc bytes a b)

-- no effect more, and what waited waits
as_before : {B : Type 0} (bytes : List ℕ) (before : List Effect) (is : Client B) (p : Option BoxEntry) → is.waiting ≡ p → Lives bytes before (connection_of is) (undone_of p) → Spends before (connection_of is) (waiting_of p) → LivesAt bytes (before ++ []) is
as_before bytes before is p waits l s =
    subst (λ d. LivesAt bytes d is) (sym (append-nil before))
    (subst (λ x. Lives bytes before (connection_of is) (undone_of x) × Spends before (connection_of is) (waiting_of x)) (sym waits) (l, s))

-- with no bytes and no commands
pub heeds_quietly : {B L : Type 0} (received : L → Option (List ℕ)) (was is : Client B) (from to : L) → received to ≡ received from → Steady (connection_of was) (connection_of is) → is.waiting ≡ was.waiting → Idles received was from is to
heeds_quietly received was is from to unread steady waits = let restaged = steady.restaged in record {
  heeds = record {
    got = [];
    read = unread ∙ no_bytes (received from);
    lives = λ bytes before l.
        as_before (bytes ++ []) before is (was.waiting) waits (restages bytes [] before (connection_of was) (connection_of is) (undone_of was.waiting) restaged (λ r. refl) l.0)
        (spends_on before (waiting_of was.waiting) (connection_of was) (connection_of is) restaged.executes restaged.footprint l.1);
  };
  footprint = restaged.footprint;
  tells = steady.tells;
  halts = steady.halts;
}

pub heeds_none : {B L : Type 0} (received : L → Option (List ℕ)) (s : Client B) (l : L) → Idles received s l s l
heeds_none received s l = heeds_quietly received s s l l refl (same_stage (connection_of s) (connection_of s) refl) refl

pub heeds_then : {B L : Type 0} (received : L → Option (List ℕ)) (was mid is : Client B) (l m n : L) (a b : List Effect) → Heeds received was l mid m a → Heeds received mid m is n b → Heeds received was l is n (a ++ b)
heeds_then received was mid is l m n a b first second = record {
  got = first.got ++ second.got;
  read = second.read ∙ ap (λ o. option_map (λ bytes. bytes ++ second.got) o) first.read ∙ more_bytes (received l) first.got second.got;
  lives = λ bytes before was_so.
      subst (λ x. LivesAt x (before ++ (a ++ b)) is) (append_assoc bytes first.got second.got)
      (subst (λ s. LivesAt ((bytes ++ first.got) ++ second.got) s is) (append_assoc before a b)
      (second.lives (bytes ++ first.got) (before ++ a) (first.lives bytes before was_so)));
}

-- ── one after another ──

-- with the commands that its seat gets, beside what else it does
pub goes_then : {B L : Type 0} (sent : L → Option (List (List ℕ))) (received : L → Option (List ℕ)) (was mid is : Client B) (s t u : SessionSeatValue) (l m n : L)
    → GoesOn sent received was s l mid t m → GoesOn sent received mid t m is u n → GoesOn sent received was s l is u n
goes_then sent received was mid is s t u l m n a b = record {
  effects = a.effects ++ b.effects;
  added = b.added ∙ ap (λ x. x ++ commands_of b.effects) a.added ∙ append_assoc s.own (commands_of a.effects) (commands_of b.effects) ∙ ap (λ x. s.own ++ x) (sym (commands_append a.effects b.effects));
  continues = joined was.progress mid.progress is.progress s t u a.continues b.continues;
  served = subst (λ frames. Served sent frames was l is n) (sym (told_append a.effects b.effects)) (served sent (told_of a.effects) (told_of b.effects) was mid is l m n a.served b.served);
  heeds = heeds_then received was mid is l m n a.effects b.effects a.heeds b.heeds;
  keeps = keeps_then (connection_of was) (connection_of mid) (connection_of is) a.keeps b.keeps;
  concludes = subst (λ said. Concludes sent (connection_of was) l (connection_of is) n said) (sym (commands_append a.effects b.effects))
      (concludes_then sent (connection_of was) (connection_of mid) (connection_of is) l m n (commands_of a.effects) (commands_of b.effects) (map bytes_of a.served.passes.messages) (map bytes_of b.served.passes.messages)
      a.served.passes.told b.served.passes.told a.concludes b.concludes);
  halts = λ before h. b.halts (λ m. a.halts before m) h;
}

-- the conversation stands where it stood
stands : (p q : Progress) (s t : SessionSeatValue) → q ≡ p → t ≡ s → Continues p s q t
stands p q s t same seat = subst (λ x. Continues p s x t) (sym same) (subst (λ x. Continues p s p x) (sym seat) (stays p s))

-- where nothing is said, told or sent
pub goes_quietly : {B L : Type 0} (sent : L → Option (List (List ℕ))) (received : L → Option (List ℕ)) (was is : Client B) (s : SessionSeatValue) (l m : L) → Unserved sent was l is m → Idles received was l is m → GoesOn sent received was s l is s m
goes_quietly sent received was is s l m u h = record {
  effects = [];
  added = sym (append-nil s.own);
  continues = stands was.progress is.progress s s u.progress refl;
  served = unserved sent was is l m u;
  heeds = h.heeds;
  keeps = keeps_same (connection_of was) (connection_of is) h.footprint;
  concludes = concludes_quietly sent (connection_of was) (connection_of is) l m u.progress u.sent h.tells;
  halts = λ before e. before (h.halts e);
}

pub goes_none : {B L : Type 0} (sent : L → Option (List (List ℕ))) (received : L → Option (List ℕ)) (client : Client B) (s : SessionSeatValue) (l : L) → GoesOn sent received client s l client s l
goes_none sent received client s l = goes_quietly sent received client client s l l (record { progress = refl; waiting = refl; opening = refl; outbox = refl; kept = refl; sent = refl }) (heeds_none received client l)

found_later : (s t : SessionSeatValue) (mark : ℕ) → t ≡ with_seen s mark → s.seen ≤ t.seen → FindsEnd s → FindsEnd t
found_later s t mark seen no_less (inl stopped) = inl (ap (λ (x : SessionSeatValue). x.stopped) seen ∙ stopped)
found_later s t mark seen no_less (inr far) = inr (omega (arith, far, no_less))

-- where the mark is read, and outputs are sent
pub goes_reading : {B L : Type 0} (sent : L → Option (List (List ℕ))) (received : L → Option (List ℕ)) (was is : Client B) (s t : SessionSeatValue) (l m : L)
    → StaysOrEnds was.progress is.progress → ReadsMark s t → Served sent [] was l is m → Idles received was l is m → Concludes sent (connection_of was) l (connection_of is) m [] → GoesOn sent received was s l is t m
goes_reading sent received was is s t l m ends reads served idles concludes = record {
  effects = [];
  added = ap (λ (x : SessionSeatValue). x.own) reads.seen ∙ sym (append-nil s.own);
  continues = reads_so was.progress was.progress is.progress s s t t.seen (stays was.progress s) ends reads.seen;
  served = served;
  heeds = idles.heeds;
  keeps = keeps_same (connection_of was) (connection_of is) idles.footprint;
  concludes = concludes;
  halts = λ before e. found_later s t t.seen reads.seen reads.no_less (before (idles.halts e));
}

-- with what was undone and done, and no bytes
pub by_deeds : {B L : Type 0} (received : L → Option (List ℕ)) (was is : Client B) (l m : L) (effects : List Effect) → received m ≡ received l
    → ((bytes : List ℕ) (before : List Effect) → LivesAt bytes before was → LivesAt bytes (before ++ effects) is) → Heeds received was l is m effects
by_deeds received was is l m effects unread lives = record {
  got = [];
  read = unread ∙ no_bytes (received l);
  lives = λ bytes before x. subst (λ b. LivesAt b (before ++ effects) is) (sym (append-nil bytes)) (lives bytes before x);
}

-- the whole life of a connection
pub lives_anew : {B : Type 0} (limit : ℕ) (was is : Client B) (got : List ℕ) (effects : List Effect) → IsNew limit was → ((bytes : List ℕ) (before : List Effect) → LivesAt bytes before was → LivesAt (bytes ++ got) (before ++ effects) is) → LivesAt got effects is
lives_anew limit was is got effects anew lives =
    let spends = spends_new limit (connection_of was) (ap (λ (c : ConnectionValue). c.footprint) anew.connection) in
    lives [] [] (subst (λ p. Lives [] [] (connection_of was) (undone_of p) × Spends [] (connection_of was) (waiting_of p)) (sym anew.waiting) (begins limit (connection_of was) anew.connection, spends))

-- where what it may have has changed
pub allowed : {B : Type 0} (room : ℕ) (was mid : Client B) (bytes : List ℕ) (before : List Effect) → (connection_of mid) ≡ with_room room (connection_of was) → mid.waiting ≡ was.waiting → LivesAt bytes before was → LivesAt bytes before mid
allowed room was mid bytes before is waits l =
    subst (λ p. Lives bytes before (connection_of mid) (undone_of p) × Spends before (connection_of mid) (waiting_of p)) (sym waits)
    (subst (λ c. Lives bytes before c (undone_of was.waiting) × Spends before c (waiting_of was.waiting)) (sym is)
    (counts_it bytes before (connection_of was) (record was.footprint { room = room }) (undone_of was.waiting) refl l.0, spends_room room before (waiting_of was.waiting) (connection_of was) l.1))

-- ── what a link gave ──

-- where its link gave nothing
pub heeds_silence : {B L : Type 0} (received : L → Option (List ℕ)) (was is : Client B) (from to : L) → received to ≡ option_map (λ bytes. bytes ++ []) (received from) → Steady (connection_of was) (connection_of is) → is.waiting ≡ was.waiting
    → Idles received was from is to
heeds_silence received was is from to read restaged waits = heeds_quietly received was is from to (read ∙ sym (no_bytes (received from))) restaged waits

-- where what it gave is not heard any more
pub heeds_unheard : {B L : Type 0} (received : L → Option (List ℕ)) (was is : Client B) (from to : L) (got : List ℕ) → received to ≡ option_map (λ bytes. bytes ++ got) (received from) → (is.stage ≡ Running → ⊥)
    → Steady (connection_of was) (connection_of is) → is.waiting ≡ was.waiting → Idles received was from is to
heeds_unheard received was is from to got read over steady waits = let restaged = steady.restaged in record {
  heeds = record {
    got = got;
    read = read;
    lives = λ bytes before l.
        as_before (bytes ++ got) before is was.waiting waits (restages bytes got before (connection_of was) (connection_of is) (undone_of was.waiting) restaged (λ r. absurd (over r)) l.0)
        (spends_on before (waiting_of was.waiting) (connection_of was) (connection_of is) restaged.executes restaged.footprint l.1);
  };
  footprint = restaged.footprint;
  tells = steady.tells;
  halts = steady.halts;
}

no_giving : GivingUp ≡ Running → ⊥
no_giving e = cc

fails_restaged : (old new : ConnectionValue) → Listens old → Fails old new → Restaged old new
fails_restaged old new listens f = record {
  acts = ap (λ (c : ConnectionValue). c.acts) f.same;
  session = λ r. absurd (no_giving (sym (ap (λ (c : ConnectionValue). c.stage) f.same) ∙ r));
  runs = λ r. listens.0;
  told = λ t. subst HasTold (sym listens.0) tt;
  executes = λ e. subst Executes (sym listens.0) tt;
  progress = λ e. ap (λ (c : ConnectionValue). c.progress) f.same;
  footprint = ap (λ (c : ConnectionValue). c.footprint) f.same;
  last = ap (λ (c : ConnectionValue). c.last) f.same;
  stood = inl (ap (λ (c : ConnectionValue). c.progress) f.same);
  ended = λ last ended e. absurd (subst IsEnding (ap (λ (c : ConnectionValue). c.stage) f.same) e);
}

fails_so : (old new : ConnectionValue) → Listens old → Fails old new → Steady old new
fails_so old new listens f = record {
  tells = λ t. subst CanTell (sym listens.0) tt;
  halts = λ h. absurd (subst HasHalted (ap (λ (c : ConnectionValue). c.stage) f.same) h);
  restaged = fails_restaged old new listens f;
}

-- where it heard the bytes, or memory was refused for them
pub heeds_bytes : {B L E : Type 0} (received : L → Option (List ℕ)) (was is : Client B) (from to : L) (got : List ℕ) (r : Result (Unit {0}) E) → Listens (connection_of was) → was.waiting ≡ None
    → OnOk r (HearsBytes (connection_of was) got (connection_of is)) → OnErr r (Fails (connection_of was) (connection_of is)) → received to ≡ option_map (λ bytes. bytes ++ got) (received from) → is.waiting ≡ was.waiting → Idles received was from is to
heeds_bytes received was is from to got (Ok x) listens none heard failed read waits = record {
  heeds = record {
    got = got;
    read = read;
    lives = λ bytes before l.
        as_before (bytes ++ got) before is None (waits ∙ none)
        (hears_more bytes got before (connection_of was) (connection_of is) listens heard (subst (λ p. Lives bytes before (connection_of was) (undone_of p)) none l.0))
        (spends_on before [] (connection_of was) (connection_of is) (λ e. subst Executes (sym listens.0) tt) (ap (λ (c : ConnectionValue). c.footprint) heard.same)
        (subst (λ p. Spends before (connection_of was) (waiting_of p)) none l.1));
  };
  footprint = ap (λ (c : ConnectionValue). c.footprint) heard.same;
  tells = λ t. subst CanTell (ap (λ (c : ConnectionValue). c.stage) heard.same) t;
  halts = λ h. subst HasHalted (ap (λ (c : ConnectionValue). c.stage) heard.same) h;
}
heeds_bytes received was is from to got (Err e) listens none heard failed read waits =
    heeds_unheard received was is from to got read (λ r. no_giving (sym (ap (λ (c : ConnectionValue). c.stage) failed.same) ∙ r)) (fails_so (connection_of was) (connection_of is) listens failed) waits

-- ── what is taken ──

-- where nothing waits
none_waits : (bytes : List ℕ) (effects : List Effect) (new : ConnectionValue) (p : Option BoxEntry) → p ≡ None → Lives bytes effects new Nothing → Spends effects new [] → Lives bytes effects new (undone_of p) × Spends effects new (waiting_of p)
none_waits bytes effects new p none l s = subst (λ x. Lives bytes effects new (undone_of x) × Spends effects new (waiting_of x)) (sym none) (l, s)

-- and no effect is added
none_more_waits : (bytes : List ℕ) (before : List Effect) (new : ConnectionValue) (p : Option BoxEntry) → p ≡ None → Lives bytes before new Nothing → Spends before new [] → Lives bytes (before ++ []) new (undone_of p) × Spends (before ++ []) new (waiting_of p)
none_more_waits bytes before new p none l s = subst (λ d. Lives bytes d new (undone_of p) × Spends d new (waiting_of p)) (sym (append-nil before)) (none_waits bytes before new p none l s)

pub held_so : (old new : ConnectionValue) (p : Option BoxEntry) (entry : BoxEntry) → new ≡ old → p ≡ Some entry → LivesOn (Waits entry.command) (entry.command.op ∷ []) old new p []
held_so old new p entry same kept = λ bytes before l s.
    subst (λ d. Lives bytes d new (undone_of p) × Spends d new (waiting_of p)) (sym (append-nil before))
    (subst (λ x. Lives bytes before new (undone_of x) × Spends before new (waiting_of x)) (sym kept)
    (subst (λ x. Lives bytes before x (Waits entry.command) × Spends before x (entry.command.op ∷ [])) (sym same) (l, s)))

pub stopped_so : (old new : ConnectionValue) (p : Option BoxEntry) (undone : Undone) (waiting : List Op) → new ≡ record old { stage = stopped old.stage } → p ≡ None → LivesOn undone waiting old new p []
stopped_so old new p undone waiting same none = λ bytes before l s.
    none_more_waits bytes before new p none (leaves_it bytes before old new undone (stops old new same) (stopped_over old new same) l)
    (spends_no_more before waiting old new (stopped_over old new same) (ap (λ (x : ConnectionValue). x.footprint) same) s)

pub said_so : (old new : ConnectionValue) (p : Option BoxEntry) (c : CommandValue) (ticket : ℕ) → Executes old.stage → new ≡ with_appended old (role_of c.op) (is_last c) ticket → p ≡ None → LivesOn (Waits c) (c.op ∷ []) old new p (Said (ticket, c) ∷ [])
said_so old new p c ticket executes same none = λ bytes before l s.
    none_waits bytes (before ++ Said (ticket, c) ∷ []) new p none (says_it bytes before old new c ticket executes same l)
    (spends_said before old new c ticket executes (ap (λ (x : ConnectionValue). x.footprint) same) s)

pub told_so : (old new : ConnectionValue) (p : Option BoxEntry) (frame : Frame) (effect : Effect) → Executes old.stage → Restaged old new → Tells frame effect → (HasTold new.stage → untold_of (effect ∷ []) ≡ []) → p ≡ None
    → LivesOn (Taken (Direct frame)) [] old new p (effect ∷ [])
told_so old new p frame effect executes restaged tells none_untold none = λ bytes before l s.
    none_waits bytes (before ++ effect ∷ []) new p none (tells_it bytes before old new frame effect restaged executes tells none_untold l)
    (spends_as before (before ++ effect ∷ []) [] new (tells_none before frame effect tells) (spends_on before [] old new restaged.executes restaged.footprint s))

pub again_so : (old new : ConnectionValue) (p : Option BoxEntry) (undone : Undone) (act : Act) → Executes old.stage → old.acts.again ≡ None → act_of undone ≡ act ∷ []
    → new ≡ record old { acts = record old.acts { again = Some act } } → p ≡ None → LivesOn undone [] old new p []
again_so old new p undone act executes first is_act same none = λ bytes before l s.
    none_more_waits bytes before new p none (again_next bytes before old new undone act executes first is_act same l)
    (spends_on before [] old new (λ e. executes) (ap (λ (x : ConnectionValue). x.footprint) same) s)

pub nothing_done : (undone : Undone) (old new : ConnectionValue) (p : Option BoxEntry) (waiting : List Op) (s t : SessionSeatValue) → t.own ≡ s.own → KeepsRoom old new → new.progress ≡ old.progress → (CanTell new.stage → CanTell old.stage)
    → (HasHalted new.stage → HasHalted old.stage ⊎ FindsEnd t) → LivesOn undone waiting old new p [] → DoesUndone undone waiting old s new p t
nothing_done undone old new p waiting s t own keeps progress tells halts lives = record { effects = []; added = own ∙ sym (append-nil s.own); none_told = refl; follows = progress; tells = tells; keeps = keeps; halts = halts; lives = lives }

pub said_it : (window : ℕ) (old new : ConnectionValue) (p : Option BoxEntry) (s t : SessionSeatValue) (c : CommandValue) (ticket : ℕ) → Executes old.stage → Appends window s t ticket c → new ≡ with_appended old (role_of c.op) (is_last c) ticket → p ≡ None
    → DoesUndone (Waits c) (c.op ∷ []) old s new p t
said_it window old new p s t c ticket executes a same none = record { effects = Said (ticket, c) ∷ []; added = ap (λ (x : SessionSeatValue). x.own) a.added; none_told = refl; follows = ap (λ (x : ConnectionValue). x.progress) same; tells = λ t. subst CanTell (ap (λ (x : ConnectionValue). x.stage) same) t; keeps = subst (λ x. KeepsRoom old x) (sym same) record { room = refl; limit = refl; evicted = λ e. e }; halts = λ h. inl (subst HasHalted (ap (λ (x : ConnectionValue). x.stage) same) h); lives = said_so old new p c ticket executes same none }

pub said_next : (old new : ConnectionValue) (p : Option BoxEntry) (s t : SessionSeatValue) (c : CommandValue) (ticket : ℕ) → Executes old.stage → SaysNext c old.progress old.last s new.progress new.last t ticket → new ≡ record old { progress = new.progress; footprint = settled old.footprint; last = new.last } → p ≡ None
    → DoesUndone (Waits c) (c.op ∷ []) old s new p t
said_next old new p s t c ticket executes so same none =
    said_it WINDOW old new p s t c ticket executes so.appends
    (same ∙ ap (λ x. record old { progress = x; footprint = settled old.footprint; last = new.last }) so.progress ∙ ap (λ x. record old { progress = after old.progress (role_of c.op) ticket; footprint = settled old.footprint; last = x }) so.last) none

own_refused : (window : ℕ) (refused : Refused) (s t : SessionSeatValue) → Refuses window s t refused → t.own ≡ s.own
own_refused window refusals.Stopped s t is = ap (λ (x : SessionSeatValue). x.own) is
own_refused window refusals.Exhausted s t is = ap (λ (x : SessionSeatValue). x.own) is.2
own_refused window (refusals.Busy mark) s t is = ap (λ (x : SessionSeatValue). x.own) is.3

found_so : (window : ℕ) (refused : Refused) (s t : SessionSeatValue) → Refuses window s t refused → IsFinal refused → FindsEnd t
found_so window refusals.Stopped s t is final = inl (ap (λ (x : SessionSeatValue). x.stopped) is)
found_so window refusals.Exhausted s t is final = inr is.1
found_so window (refusals.Busy mark) s t is final = absurd final

pub refused_so : (window : ℕ) (refused : Refused) (old mid new : ConnectionValue) (p : Option BoxEntry) (s t : SessionSeatValue) (c d : CommandValue) → Refuses window s t refused → mid ≡ old → d ≡ c → (new.progress ≡ mid.progress) × (new.footprint ≡ mid.footprint) → (CanTell new.stage → CanTell mid.stage) → (HasHalted new.stage → HasHalted mid.stage ⊎ IsFinal refused) → LivesOn (Waits d) (d.op ∷ []) mid new p []
    → DoesUndone (Waits c) (c.op ∷ []) old s new p t
refused_so window refused old mid new p s t c d is same command unsaid tells halts lives =
    nothing_done (Waits c) old new p (c.op ∷ []) s t (own_refused window refused s t is) (keeps_same old new (unsaid.1 ∙ ap (λ (x : ConnectionValue). x.footprint) same))
    (unsaid.0 ∙ ap (λ (x : ConnectionValue). x.progress) same) (λ t. subst (λ (x : ConnectionValue). CanTell x.stage) same (tells t))
    (λ h. elim (halts h) [ inl before ↦ inl (subst (λ (x : ConnectionValue). HasHalted x.stage) same before) | inr final ↦ inr (found_so window refused s t is final) ])
    (subst (λ (x : CommandValue). LivesOn (Waits x) (x.op ∷ []) old new p []) command (subst (λ x. LivesOn (Waits d) (d.op ∷ []) x new p []) same lives))

-- the command would have the session pass its bytes, and is dropped with all that waits behind it
pub cut_so : (old new : ConnectionValue) (p : Option BoxEntry) (s : SessionSeatValue) (c : CommandValue) → Executes old.stage → IsFootprint old.footprint → old.footprint.room < total (charged old.footprint.parts c.op) → new ≡ filled old → p ≡ None
    → DoesUndone (Waits c) [] old s new p s
cut_so old new p s c executes form passes same none = nothing_done (Waits c) old new p [] s s refl (subst (λ x. KeepsRoom old x) (sym same) record { room = refl; limit = refl; evicted = λ e. absurd e })
    (ap (λ (x : ConnectionValue). x.progress) same) (λ t. can_giving old.stage (subst CanTell (ap (λ (x : ConnectionValue). x.stage) same) t)) (λ h. inl (halted_giving old.stage (subst HasHalted (ap (λ (x : ConnectionValue). x.stage) same) h))) (λ bytes before l spends.
    let by = cut_by_count before old c.op executes form spends passes in
    none_more_waits bytes before new p none (cuts_it bytes before old new c executes same by.0 by.1 l)
    (spends_filled before old new executes same spends))

-- the command is counted first
pub charged_so : (old mid new : ConnectionValue) (p : Option BoxEntry) (s t : SessionSeatValue) (c d : CommandValue) → Executes old.stage → total (charged old.footprint.parts c.op) ≤ old.footprint.limit → mid ≡ record old { footprint = spent old.footprint c.op } → d ≡ c
    → (Executes mid.stage → DoesUndone (Waits d) (d.op ∷ []) mid s new p t) → DoesUndone (Waits c) [] old s new p t
charged_so old mid new p s t c d executes fits counted command does =
    let own : DoesUndone (Waits c) (c.op ∷ []) mid s new p t =
    subst (λ (x : CommandValue). DoesUndone (Waits x) (x.op ∷ []) mid s new p t) command (does (subst Executes (sym (ap (λ (x : ConnectionValue). x.stage) counted)) executes)) in record {
      effects = own.effects;
      added = own.added;
      none_told = own.none_told;
      follows = own.follows ∙ ap (λ (x : ConnectionValue). follow x.progress (commands_of own.effects)) counted;
      tells = λ t. subst CanTell (ap (λ (x : ConnectionValue). x.stage) counted) (own.tells t);
      keeps = keeps_then old mid new (subst (λ x. KeepsRoom old x) (sym counted) record { room = refl; limit = refl; evicted = λ e. e }) own.keeps;
      halts = λ h. elim (own.halts h) [ inl before ↦ inl (subst HasHalted (ap (λ (x : ConnectionValue). x.stage) counted) before) | inr found ↦ inr found ];
      lives = λ bytes before l spends.
          own.lives bytes before (subst (λ x. Lives bytes before x (Waits c)) (sym counted) (counts_it bytes before old (spent old.footprint c.op) (Waits c) refl l))
          (spends_charged before old mid c.op executes fits (ap (λ (x : ConnectionValue). x.footprint) counted) spends);
    }

-- an act is done by its command
pub asked_so : (old new : ConnectionValue) (p : Option BoxEntry) (s t : SessionSeatValue) (op : Op) (receipt : Option (List ℕ)) (c : CommandValue) → Executes old.stage → c ≡ asked old.progress op receipt → IsNext old.progress c
    → DoesUndone (Waits c) [] old s new p t → DoesUndone (Taken (Do op receipt)) [] old s new p t
asked_so old new p s t op receipt c executes is next d = record {
  effects = d.effects;
  added = d.added;
  none_told = d.none_told;
  follows = d.follows;
  tells = d.tells;
  keeps = d.keeps;
  halts = d.halts;
  lives = λ bytes before l spends. d.lives bytes before (asks_it bytes before old op receipt c executes is next l) spends;
}

-- nothing is to be done for it from outside
pub passed_so : (old new : ConnectionValue) (p : Option BoxEntry) (s : SessionSeatValue) (act : Act) → Executes old.stage → IsSilent old.progress act → Steady old new → new.progress ≡ old.progress → p ≡ None → DoesUndone (Taken act) [] old s new p s
passed_so old new p s act executes silent steady progress none = nothing_done (Taken act) old new p [] s s refl (keeps_same old new steady.restaged.footprint) progress steady.tells (λ h. inl (steady.halts h))
    (λ bytes before l spends. none_more_waits bytes before new p none (restays bytes before old new Nothing steady.restaged (passes_it bytes before old act executes silent l)) (spends_on before [] old new steady.restaged.executes steady.restaged.footprint spends))

spending : (before : List Effect) (c : ConnectionValue) (p : Option BoxEntry) → p ≡ None → Spends before c (waiting_of p) → Spends before c []
spending before c p none s = subst (λ x. Spends before c (waiting_of x)) none s

living : (bytes : List ℕ) (before : List Effect) (c : ConnectionValue) (p : Option BoxEntry) → p ≡ None → Lives bytes before c (undone_of p) → Lives bytes before c Nothing
living bytes before c p none l = subst (λ x. Lives bytes before c (undone_of x)) none l

-- the command of an entry that waited, or the next act
goes_doing : {B L : Type 0} (sent : L → Option (List (List ℕ))) (received : L → Option (List ℕ)) (was is : Client B) (s t : SessionSeatValue) (l : L) (effects : List Effect) → t.own ≡ s.own ++ commands_of effects → told_of effects ≡ []
    → Continues was.progress s is.progress t → Stays was is → KeepsRoom (connection_of was) (connection_of is) → ((bytes : List ℕ) (before : List Effect) → LivesAt bytes before was → LivesAt bytes (before ++ effects) is) → (HasHalted is.stage → FindsEnd t)
    → is.progress ≡ follow was.progress (commands_of effects) → (CanTell is.stage → CanTell was.stage) → GoesOn sent received was s l is t l
goes_doing sent received was is s t l effects added none_told continues same keeps lives halts follows tells = record {
  concludes = record { follows = inl follows; silent = λ over. refl; tells = tells };
  keeps = keeps;
  effects = effects;
  added = added;
  continues = continues;
  served = subst (λ frames. Served sent frames was l is l) (sym none_told) (quiet sent was is l l same refl);
  heeds = by_deeds received was is l l effects refl lives;
  halts = λ before h. halts h;
}

only_found : (stage : Stage) (t : SessionSeatValue) → Executes stage → HasHalted stage ⊎ FindsEnd t → FindsEnd t
only_found stage t executes (inl halted) = absurd (not_halted stage executes halted)
only_found stage t executes (inr found) = found

pub still_executes : (old new : ConnectionValue) (act : Option Act) → Takes old new act → Executes old.stage → Executes new.stage
still_executes old new act t executes = subst Executes (sym (same_taken old new act t)) executes

pub goes_taken : {B L : Type 0} (sent : L → Option (List (List ℕ))) (received : L → Option (List ℕ)) (was mid is : Client B) (s t : SessionSeatValue) (l : L) (act : Act)
    → Executes was.stage → was.waiting ≡ None → Takes (connection_of was) (connection_of mid) (Some act) → mid.outbox ≡ was.outbox → mid.kept ≡ was.kept
    → Continues mid.progress s is.progress t → Stays mid is → DoesUndone (Taken act) [] (connection_of mid) s (connection_of is) is.waiting t → GoesOn sent received was s l is t l
goes_taken sent received was mid is s t l act executes none w outbox kept continues same d =
    let progress = takes_no_other (connection_of was) (connection_of mid) (Some act) w in
    goes_doing sent received was is s t l d.effects d.added d.none_told (subst (λ p. Continues p s is.progress t) progress continues) (restay was mid is progress outbox kept same)
    (keeps_then (connection_of was) (connection_of mid) (connection_of is) (keeps_same (connection_of was) (connection_of mid) (ap (λ (c : ConnectionValue). c.footprint) w.same)) d.keeps)
    (λ bytes before x. d.lives bytes before (takes_one bytes before (connection_of was) (connection_of mid) act executes w (living bytes before (connection_of was) was.waiting none x.0))
    (spends_taken before [] (connection_of was) (connection_of mid) (Some act) executes w (spending before (connection_of was) was.waiting none x.1)))
    (λ h. only_found mid.stage t (still_executes (connection_of was) (connection_of mid) (Some act) w executes) (d.halts h))
    (d.follows ∙ ap (λ p. follow p (commands_of d.effects)) progress) (λ c. subst CanTell (same_taken (connection_of was) (connection_of mid) (Some act) w) (d.tells c))

pub goes_waiting : {B L : Type 0} (sent : L → Option (List (List ℕ))) (received : L → Option (List ℕ)) (was mid is : Client B) (s t : SessionSeatValue) (l : L) (entry : BoxEntry) → Executes was.stage → was.waiting ≡ Some entry
    → (connection_of mid) ≡ (connection_of was) → mid.outbox ≡ was.outbox → mid.kept ≡ was.kept → Continues mid.progress s is.progress t → Stays mid is
    → DoesUndone (Waits entry.command) (entry.command.op ∷ []) (connection_of mid) s (connection_of is) is.waiting t → GoesOn sent received was s l is t l
goes_waiting sent received was mid is s t l entry executes some connection outbox kept continues same d =
    let progress = ap (λ (c : ConnectionValue). c.progress) connection in
    goes_doing sent received was is s t l d.effects d.added d.none_told (subst (λ p. Continues p s is.progress t) progress continues) (restay was mid is progress outbox kept same)
    (keeps_then (connection_of was) (connection_of mid) (connection_of is) (keeps_same (connection_of was) (connection_of mid) (ap (λ (c : ConnectionValue). c.footprint) connection)) d.keeps)
    (λ bytes before x. d.lives bytes before (subst (λ c. Lives bytes before c (Waits entry.command)) (sym connection) (subst (λ p. Lives bytes before (connection_of was) (undone_of p)) some x.0))
    (subst (λ c. Spends before c (entry.command.op ∷ [])) (sym connection) (subst (λ p. Spends before (connection_of was) (waiting_of p)) some x.1)))
    (λ h. only_found mid.stage t (subst (λ (c : ConnectionValue). Executes c.stage) (sym connection) executes) (d.halts h))
    (d.follows ∙ ap (λ p. follow p (commands_of d.effects)) progress) (λ c. subst (λ (x : ConnectionValue). CanTell x.stage) connection (d.tells c))

-- a frame is told
pub goes_telling : {B L : Type 0} (sent : L → Option (List (List ℕ))) (received : L → Option (List ℕ)) (was mid is : Client B) (s : SessionSeatValue) (l m : L) (frame : Frame) → Executes was.stage → was.waiting ≡ None
    → Takes (connection_of was) (connection_of mid) (Some (Direct frame)) → mid.outbox ≡ was.outbox → mid.kept ≡ was.kept → received m ≡ received l → StaysOrEnds mid.progress is.progress → TellsIt sent frame mid l is m → GoesOn sent received was s l is s m
goes_telling sent received was mid is s l m frame executes none w outbox kept unread same t =
    let progress = takes_no_other (connection_of was) (connection_of mid) (Some (Direct frame)) w in
    let still_so = still_executes (connection_of was) (connection_of mid) (Some (Direct frame)) w executes in record {
      effects = t.effects;
      added = sym (append-nil s.own) ∙ ap (λ x. s.own ++ x) (sym t.none_said);
      continues = ends_so was.progress was.progress is.progress s s (stays was.progress s) (subst (λ p. StaysOrEnds p is.progress) progress same);
      served = reserve sent (told_of t.effects) was mid is l m progress outbox kept t.served;
      keeps = keeps_then (connection_of was) (connection_of mid) (connection_of is) (keeps_same (connection_of was) (connection_of mid) (ap (λ (c : ConnectionValue). c.footprint) w.same)) t.keeps;
      heeds = by_deeds received was is l m t.effects unread
          (λ bytes before x. t.lives still_so bytes before (takes_one bytes before (connection_of was) (connection_of mid) (Direct frame) executes w (living bytes before (connection_of was) was.waiting none x.0))
          (spends_taken before [] (connection_of was) (connection_of mid) (Some (Direct frame)) executes w (spending before (connection_of was) was.waiting none x.1)));
      concludes =
          let k = t.concludes still_so in
          let stage = same_taken (connection_of was) (connection_of mid) (Some (Direct frame)) w in
          subst (λ said. Concludes sent (connection_of was) l (connection_of is) m said) (sym t.none_said) record {
            follows = elim k.follows [ inl x ↦ inl (x ∙ progress) | inr y ↦ inr (subst CanTell stage y.0, y.1) ];
            silent = λ over. k.silent (λ c. over (subst CanTell stage c));
            tells = λ c. subst CanTell stage (k.tells c);
          };
      halts = λ before h. absurd (not_halted mid.stage still_so (t.halts still_so h));
    }

-- its session closes
pub goes_closing : {B L : Type 0} (sent : L → Option (List (List ℕ))) (received : L → Option (List ℕ)) (was is : Client B) (mid : ConnectionValue) (s : SessionSeatValue) (l : L) (code : CloseCode) → Executes was.stage → was.waiting ≡ None → is.waiting ≡ None → is.outbox ≡ was.outbox → is.kept ≡ was.kept
    → Takes (connection_of was) mid (Some (Close code)) → (connection_of is) ≡ record mid { stage = closed_by code mid.last mid.progress mid.stage } → GoesOn sent received was s l is s l
goes_closing sent received was is mid s l code executes none still_none outbox kept w closed =
    let still_so = still_executes (connection_of was) mid (Some (Close code)) w executes in
    let steady = closes mid (connection_of is) code still_so closed in
    let d = passed_so mid (connection_of is) is.waiting s (Close code) still_so tt steady (ap (λ (c : ConnectionValue). c.progress) closed) still_none in
    let progress = ap (λ (c : ConnectionValue). c.progress) closed ∙ takes_no_other (connection_of was) mid (Some (Close code)) w in
    goes_doing sent received was is s s l d.effects d.added d.none_told (stands was.progress is.progress s s progress refl) (still was is progress outbox kept)
    (keeps_then (connection_of was) mid (connection_of is) (keeps_same (connection_of was) mid (ap (λ (c : ConnectionValue). c.footprint) w.same)) d.keeps)
    (λ bytes before x. d.lives bytes before (takes_one bytes before (connection_of was) mid (Close code) executes w (living bytes before (connection_of was) was.waiting none x.0))
    (spends_taken before [] (connection_of was) mid (Some (Close code)) executes w (spending before (connection_of was) was.waiting none x.1)))
    (λ h. absurd (not_halted mid.stage still_so (steady.halts h)))
    (d.follows ∙ ap (λ p. follow p (commands_of d.effects)) (takes_no_other (connection_of was) mid (Some (Close code)) w)) (λ c. subst CanTell (same_taken (connection_of was) mid (Some (Close code)) w) (steady.tells c))

-- no act is left
pub goes_resting : {B L : Type 0} (sent : L → Option (List (List ℕ))) (received : L → Option (List ℕ)) (was is : Client B) (mid : ConnectionValue) (s : SessionSeatValue) (l : L) → Executes was.stage → was.waiting ≡ None → is.waiting ≡ None → is.outbox ≡ was.outbox → is.kept ≡ was.kept
    → Takes (connection_of was) mid None → (connection_of is) ≡ record mid { stage = rested mid.stage } → GoesOn sent received was s l is s l
goes_resting sent received was is mid s l executes none still_none outbox kept w rest =
    let still_so = still_executes (connection_of was) mid None w executes in
    let same = takes_no_other (connection_of was) mid None w in
    let lost : IsLost mid.stage → IsDone mid.progress = λ lost. subst IsDone (sym same) (none_lost_yet (connection_of was) mid w (subst IsLost (same_taken (connection_of was) mid None w) lost)) in
    let steady = rests mid (connection_of is) still_so lost rest in
    let progress = ap (λ (c : ConnectionValue). c.progress) rest ∙ same in
    goes_doing sent received was is s s l [] (sym (append-nil s.own)) refl (stands was.progress is.progress s s progress refl) (still was is progress outbox kept)
    (keeps_then (connection_of was) mid (connection_of is) (keeps_same (connection_of was) mid (ap (λ (c : ConnectionValue). c.footprint) w.same)) (keeps_same mid (connection_of is) steady.restaged.footprint))
    (λ bytes before x. none_more_waits bytes before (connection_of is) is.waiting still_none
    (restays bytes before mid (connection_of is) Nothing steady.restaged (takes_none bytes before (connection_of was) mid executes w (living bytes before (connection_of was) was.waiting none x.0)))
    (spends_on before [] mid (connection_of is) steady.restaged.executes steady.restaged.footprint (spends_taken before [] (connection_of was) mid None executes w (spending before (connection_of was) was.waiting none x.1))))
    (λ h. absurd (not_halted mid.stage still_so (steady.halts h)))
    progress (λ c. subst CanTell (same_taken (connection_of was) mid None w) (steady.tells c))

pub not_some : {X : Type 0} (o : Option X) → ((x : X) → o ≡ Some x → ⊥) → o ≡ None
not_some None other = refl
not_some (Some x) other = absurd (other x refl)

-- ── a frame is told ──

-- The link took it; it was over, now or before; or memory was refused, and it is the next act again.
pub tells_told : {B L : Type 0} (sent : L → Option (List (List ℕ))) (frame : Frame) (was is : Client B) (l m : L) → was.waiting ≡ None → is.waiting ≡ was.waiting → (Executes was.stage → Steady (connection_of was) (connection_of is))
    → KeepsRoom (connection_of was) (connection_of is) → (Executes was.stage → Concludes sent (connection_of was) l (connection_of is) m []) → Served sent (frame ∷ []) was l is m → TellsIt sent frame was l is m
tells_told sent frame was is l m none waits steady keeps concludes s = record {
  concludes = concludes;
  halts = λ executes. (steady executes).halts;
  keeps = keeps;
  effects = Told frame ∷ [];
  none_said = refl;
  served = s;
  lives = λ executes. told_so (connection_of was) (connection_of is) is.waiting frame (Told frame) executes (steady executes).restaged (inl refl) (λ t. refl) (waits ∙ none);
}

pub tells_nobody : {B L : Type 0} (sent : L → Option (List (List ℕ))) (frame : Frame) (was is : Client B) (l m : L) → was.waiting ≡ None → is.waiting ≡ was.waiting → Steady (connection_of was) (connection_of is)
    → (Executes was.stage → HasTold is.stage → ⊥) → is.progress ≡ was.progress → sent m ≡ sent l → Served sent [] was l is m → TellsIt sent frame was l is m
tells_nobody sent frame was is l m none waits steady over progress unsent s = record {
  concludes = λ executes. concludes_quietly sent (connection_of was) (connection_of is) l m progress unsent steady.tells;
  halts = λ executes. steady.halts;
  keeps = keeps_same (connection_of was) (connection_of is) steady.restaged.footprint;
  effects = Untold frame ∷ [];
  none_said = refl;
  served = s;
  lives = λ executes. told_so (connection_of was) (connection_of is) is.waiting frame (Untold frame) executes steady.restaged (inr refl) (λ t. absurd (over executes t)) (waits ∙ none);
}

pub tells_later : {B L : Type 0} (sent : L → Option (List (List ℕ))) (frame : Frame) (was is : Client B) (l m : L) → Served sent [] was l is m → KeepsRoom (connection_of was) (connection_of is) → (HasHalted is.stage → HasHalted was.stage) → Concludes sent (connection_of was) l (connection_of is) m [] → (Executes was.stage → LivesOn (Taken (Direct frame)) [] (connection_of was) (connection_of is) is.waiting []) → TellsIt sent frame was l is m
tells_later sent frame was is l m s keeps halts concludes lives = record { concludes = λ executes. concludes; keeps = keeps; halts = λ executes. halts; effects = []; none_said = refl; served = s; lives = lives }
