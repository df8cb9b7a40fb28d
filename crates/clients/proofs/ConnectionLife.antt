-- How a connection at a seat does what its client's bytes ask for.
use Rattle.std.proofs.Common.{◌≡◌, ◌++◌, ◌∷◌, [], ℕ, List, Option, Some, None, refl, sym, ap, ◌∙◌, subst, inl, inr, append_assoc, append-nil, arith, true}
use Rattle.std.specs.Prelude.{◌&&◌, ◌<◌, ◌⊎◌, ◌≢◌, cond, is_some, nat_eq, not, option_to_list}
use Rattle.std.proofs.lemmas.List.{map-append}
use Rattle.std.specs.List.{AllByRecursion}
use Rattle.command_core.specs.Commands.{CommandValue}
use Rattle.command_core.specs.declared.command.Op.{Op}
use Rattle.command_core.specs.declared.command.Op.TheVariants as ops
use Rattle.command_core.specs.declared.command.End.TheVariants as ends
use Rattle.frame_core.specs.declared.frame.Frame.{Frame}
use Rattle.session_core.specs.declared.session.Act.{Act}
use Rattle.session_core.specs.declared.session.Act.TheVariants.{Do, Direct}
use Rattle.session_core.specs.declared.session.CloseCode.{CloseCode}
use Rattle.session_core.specs.declared.session.CloseCode.TheVariants.{NormalClosure, ProtocolError}
use Rattle.session_core.specs.Sessions.{Hearing, Hears, IsOver, fresh}
use Rattle.clients.specs.Connections.{ConnectionValue, HearsBytes, IsLost, IsSent, Listens, Takes, closed_by, loss_of, unheard, with_appended}
use Rattle.clients.specs.Progress.{IsDone, IsFinished, IsNext, after, asked, is_farewell, is_last, over, role_of}
use Rattle.clients.specs.Footprints.{FootprintValue, footprint}
use Rattle.clients.specs.declared.footprint.Cut.{Cut}
use Rattle.clients.specs.declared.footprint.Cut.TheVariants as cuts
use Rattle.clients.specs.Stages.{CanTell, Executes, IsEnding, IsOwnEnd, given_up, lost, parted, rested, stopped}
use Rattle.clients.specs.Acts.{Tasks, all_of}
use Rattle.clients.specs.declared.turned.Ended.{Ended}
use Rattle.clients.specs.declared.turned.Ended.TheVariants.{Bye, Lost, Bad, Stopped}
use Rattle.frame_core.specs.declared.frame.Verb.{Verb}
use Rattle.frame_core.specs.declared.frame.Verb.TheVariants as verbs
use Rattle.std.proofs.lemmas.Bool.{and_parts, cases_eq, eqb-true}
use Rattle.std.proofs.lemmas.Bool.Decides.{nat_tests}
use Rattle.clients.specs.declared.progress.Role.{Role}
use Rattle.clients.specs.declared.progress.Role.TheVariants.{Opens, Talks, Ends}
use Rattle.clients.specs.declared.progress.Progress.{Progress}
use Rattle.clients.specs.declared.progress.Progress.TheVariants.{New, Open, Ended as Finished, Gone}
use Rattle.clients.specs.declared.progress.Stage.{Stage}
use Rattle.clients.specs.declared.progress.Stage.TheVariants.{Running, GivingUp, Closing, Parting, Leaving, Over}
use Rattle.claim_core.specs.Counts.{Pair}
use Rattle.clients.proofs.Footprints.{nothing_by_end}
use Rattle.clients.proofs.ConnectionHears.{HasHeard, hears_on, nothing_heard_yet}
use Rattle.clients.specs.Conversations.{StaysOrEnds}
use Rattle.clients.specs.Effects.{Effect, Does, Said, Tells, commands_of, untold_of}
use Rattle.clients.specs.Histories.{HasTold, IsAsked, IsBad, IsLast, IsLoss, Lives, Nothing, Restaged, Steady, Taken, Undone, Waits, act_of}
use Rattle.clients.specs.Halting.{HasHalted, IsStopped}
use Rattle.clients.specs.ConnectionKeeps.{WaitsNext, is_next, opens}
use Rattle.clients.specs.Boxes.{BoxEntry}
use Rattle.clients.specs.SessionBytes.{IsCut, ops_of}
use Rattle.clients.proofs.ActsDone.{IsSilent, commands_append, does_say, does_silent, does_tell, none_more}
use Rattle.clients.proofs.Lists.{all_append}

-- ── a connection begins ──

pub begins : (limit : ℕ) (c : ConnectionValue) → c ≡ unheard limit → Lives [] [] c Nothing
begins limit c is = subst (λ x. Lives [] [] x Nothing) (sym is) record {
  heard = [];
  unheard = [];
  whole = refl;
  all = [];
  session = fresh;
  hears = nothing_heard_yet;
  asked_for = [];
  cut = [];
  halves = refl;
  losses = [];
  are_losses = tt;
  done = [];
  left = [];
  split = refl;
  cut_for = inl refl;
  reached = New;
  does = (refl, refl);
  none_untold = λ t. refl;
  none_unheard = λ r. refl;
  none_lost = λ r. refl;
  none_cut = λ r. refl;
  phase = λ r. refl;
  rest = λ r o. refl;
  none_left = λ e. refl;
  stands = λ e. refl;
  next = λ e. tt;
  stood = inl refl;
  last = inl refl;
  ended = λ e. absurd e;
}

-- ── it comes to another stage ──

over_twice : (p : Progress) → over (over p) ≡ over p
over_twice New = refl
over_twice (Open number) = refl
over_twice (Finished number) = refl
over_twice Gone = refl

pub finished_over : (p : Progress) → IsFinished (over p)
finished_over New = tt
finished_over (Open number) = tt
finished_over (Finished number) = tt
finished_over Gone = tt

pub done_finished : (p : Progress) → IsFinished p → IsDone p
done_finished New f = tt
done_finished (Open number) f = absurd f
done_finished (Finished number) f = tt
done_finished Gone f = tt

stood_then : (p q r : Progress) → StaysOrEnds p q → StaysOrEnds q r → StaysOrEnds p r
stood_then p q r (inl a) (inl b) = inl (b ∙ a)
stood_then p q r (inl a) (inr b) = inr (b ∙ ap over a)
stood_then p q r (inr a) (inl b) = inr (b ∙ a)
stood_then p q r (inr a) (inr b) = inr (b ∙ ap over a ∙ over_twice p)

finished_then : (p q : Progress) → StaysOrEnds p q → IsFinished p → IsFinished q
finished_then p q (inl same) f = subst IsFinished (sym same) f
finished_then p q (inr ends) f = subst IsFinished (sym ends) (finished_over p)

last_then : (old new : ConnectionValue) → new.last ≡ old.last → StaysOrEnds old.progress new.progress → IsLast old → IsLast new
last_then old new last stood (inl none) = inl (last ∙ none)
last_then old new last stood (inr f) = inr (finished_then old.progress new.progress stood f)

pub goes_on_then : (stage : Stage) → Executes stage → IsEnding stage → ⊥
goes_on_then Running e i = i
goes_on_then GivingUp e i = i
goes_on_then Leaving e i = i
goes_on_then (Closing ended) e i = e
goes_on_then (Parting ended) e i = e
goes_on_then (Over ended) e i = e

cut_as : (f g : FootprintValue) (asked cut done : List Act) (said : List Pair) → g ≡ f → IsCut f.cut asked cut done said → IsCut g.cut asked cut done said
cut_as f g asked cut done said same c = subst (λ (x : FootprintValue). IsCut x.cut asked cut done said) (sym same) c

-- with bytes that came and were not heard, where it does not run
pub restages : (bytes got : List ℕ) (effects : List Effect) (old new : ConnectionValue) (undone : Undone) → Restaged old new → (new.stage ≡ Running → got ≡ []) → Lives bytes effects old undone → Lives (bytes ++ got) effects new undone
restages bytes got effects old new undone r none l = record {
  heard = l.heard;
  unheard = l.unheard ++ got;
  whole = ap (λ b. b ++ got) l.whole ∙ append_assoc l.heard l.unheard got;
  all = l.all;
  session = l.session;
  hears = l.hears;
  asked_for = l.asked_for;
  cut = l.cut;
  halves = l.halves;
  losses = l.losses;
  are_losses = l.are_losses;
  done = l.done;
  left = l.left;
  split = l.split ∙ ap (λ (t : Tasks). l.done ++ (act_of undone ++ (l.left ++ all_of t))) (sym r.acts);
  cut_for = cut_as old.footprint new.footprint l.asked_for l.cut l.done (commands_of effects) r.footprint l.cut_for;
  reached = l.reached;
  does = l.does;
  none_untold = λ t. l.none_untold (r.told t);
  none_unheard = λ run. ap (λ b. l.unheard ++ b) (none run) ∙ append-nil l.unheard ∙ l.none_unheard (r.runs run);
  none_lost = λ run. l.none_lost (r.runs run);
  none_cut = λ run. l.none_cut (r.runs run);
  phase = λ run. l.phase (r.runs run) ∙ ap (λ (h : Hearing). h.phase) (sym (r.session run));
  rest = λ run on. l.rest (r.runs run) (λ over. on (subst (λ (h : Hearing). IsOver h.phase) (sym (r.session run)) over)) ∙ sym (r.session run);
  none_left = λ e. l.none_left (r.executes e);
  stands = λ e. r.progress e ∙ l.stands (r.executes e);
  next = λ e. l.next (r.executes e);
  stood = stood_then l.reached old.progress new.progress l.stood r.stood;
  last = last_then old new r.last r.stood l.last;
  ended = r.ended l.last l.ended;
}

as_bytes : (bytes : List ℕ) (effects : List Effect) (c : ConnectionValue) (undone : Undone) → Lives (bytes ++ []) effects c undone → Lives bytes effects c undone
as_bytes bytes effects c undone l = subst (λ b. Lives b effects c undone) (append-nil bytes) l

pub restays : (bytes : List ℕ) (effects : List Effect) (old new : ConnectionValue) (undone : Undone) → Restaged old new → Lives bytes effects old undone → Lives bytes effects new undone
restays bytes effects old new undone r l = as_bytes bytes effects new undone (restages bytes [] effects old new undone r (λ run. refl) l)

-- by the stage alone
pub by_stage : (old : ConnectionValue) (stage : Stage) → (stage ≡ Running → old.stage ≡ Running) → (HasTold stage → HasTold old.stage) → (Executes stage → Executes old.stage) → (IsEnding stage → IsEnding old.stage)
    → Restaged old (record old { stage = stage })
by_stage old stage runs told executes ending = record {
  acts = refl;
  session = λ r. refl;
  runs = runs;
  told = told;
  executes = executes;
  progress = λ e. refl;
  footprint = refl;
  last = refl;
  stood = inl refl;
  ended = λ last ended e. ended (ending e);
}

pub as_restaged : (old new it : ConnectionValue) → new ≡ it → Restaged old it → Restaged old new
as_restaged old new it is r = subst (λ x. Restaged old x) (sym is) r

-- ── it hears ──

pub hears_more : (bytes got : List ℕ) (effects : List Effect) (old new : ConnectionValue) → Listens old → HearsBytes old got new → Lives bytes effects old Nothing → Lives (bytes ++ got) effects new Nothing
hears_more bytes got effects old new listens is l = record {
  heard = l.heard ++ got;
  unheard = [];
  whole = ap (λ b. b ++ got) (l.whole ∙ ap (λ u. l.heard ++ u) (l.none_unheard runs) ∙ append-nil l.heard) ∙ sym (append-nil (l.heard ++ got));
  all = l.all ++ all_of new.acts;
  session = now.session;
  hears = now.hears;
  asked_for = l.all ++ all_of new.acts;
  cut = [];
  halves = sym (append-nil (l.all ++ all_of new.acts));
  losses = [];
  are_losses = tt;
  done = l.done;
  left = [];
  split = append-nil (l.all ++ all_of new.acts) ∙ ap (λ a. a ++ all_of new.acts) all_done;
  cut_for = inl refl;
  reached = l.reached;
  does = l.does;
  none_untold = λ t. l.none_untold (subst HasTold (sym runs) tt);
  none_unheard = λ r. refl;
  none_lost = λ r. refl;
  none_cut = λ r. refl;
  phase = now.phase;
  rest = now.rest;
  none_left = λ e. refl;
  stands = λ e. progress ∙ l.stands executes;
  next = λ e. tt;
  stood = inl (progress ∙ l.stands executes);
  last = last_then old new (ap (λ (c : ConnectionValue). c.last) is.same) (inl progress) l.last;
  ended = λ e. absurd (subst IsEnding (ap (λ (c : ConnectionValue). c.stage) is.same ∙ runs) e);
}
  where
    runs : old.stage ≡ Running
    runs = listens.0

    executes : Executes old.stage
    executes = subst Executes (sym runs) tt

    progress : new.progress ≡ old.progress
    progress = ap (λ (c : ConnectionValue). c.progress) is.same

    was : HasHeard l.heard l.all old
    was = record {
      session = l.session;
      hears = subst (λ a. Hears fresh l.heard a l.session) (sym (append-nil l.all) ∙ ap (λ a. l.all ++ a) (sym listens.1)) l.hears;
      phase = l.phase;
      rest = l.rest;
    }

    now : HasHeard (l.heard ++ got) l.all new
    now = hears_on got l.heard l.all old new listens is was

    all_done : l.all ≡ l.done
    all_done = l.halves ∙ ap (λ a. l.asked_for ++ a) (l.none_cut runs) ∙ ap (λ a. l.asked_for ++ a) (sym (l.none_lost runs)) ∙ l.split ∙ ap (λ a. l.done ++ a) (ap (λ a. a ++ all_of old.acts) (l.none_left executes) ∙ listens.1) ∙ append-nil l.done

-- ── where it is cut off ──

cut_more : (why : Cut) (asked cut done acts : List Act) (said after_it : List Pair) → after_it ≡ said → IsCut why asked cut done said → IsCut why asked cut (done ++ acts) after_it
cut_more why asked cut done acts said after_it same (inl none) = inl none
cut_more cuts.No asked cut done acts said after_it same (inr c) = absurd c
cut_more cuts.Evicted asked cut done acts said after_it same (inr c) = inr tt
cut_more (cuts.Full room) asked cut done acts said after_it same (inr c) = inr record {
  op = c.op;
  receipt = c.receipt;
  others = c.others;
  first = c.first;
  more = c.more ++ acts;
  before = ap (λ l. l ++ acts) c.before ∙ append_assoc asked c.more acts;
  passes = subst (λ l. room < footprint (ops_of l ++ c.op ∷ [])) (sym same) c.passes;
}

same_front : {X : Type 0} (xs ys zs : List X) → xs ++ ys ≡ xs ++ zs → ys ≡ zs
same_front [] ys zs e = e
same_front (x ∷ xs) ys zs e = same_front xs ys zs (let tail : xs ++ ys ≡ xs ++ zs = cc in tail)

loss_in : (more losses others : List Act) (act : Act) → AllByRecursion IsLoss losses → losses ≡ more ++ (act ∷ others) → IsLoss act
loss_in [] losses others act all e = (subst (AllByRecursion IsLoss) e all).0
loss_in (m ∷ more) losses others act all e = loss_in more (more ++ (act ∷ others)) others act (subst (AllByRecursion IsLoss) e all).1 refl

end_of : (op : Op) (receipt : Option (List ℕ)) → Do op receipt ≡ Do (ops.End ends.Lost) None → op ≡ ops.End ends.Lost
end_of op receipt e = cc

-- what is appended behind the last act before the cut is the session's end
cut_end : (why : Cut) (asked cut done others losses : List Act) (said : List Pair) (ticket : ℕ) (c : CommandValue) → AllByRecursion IsLoss losses → asked ++ losses ≡ done ++ (Do c.op c.receipt ∷ others) → IsCut why asked cut done said
    → IsCut why asked cut (done ++ Do c.op c.receipt ∷ []) (said ++ (ticket, c) ∷ [])
cut_end why asked cut done others losses said ticket c are_losses split (inl none) = inl none
cut_end cuts.No asked cut done others losses said ticket c are_losses split (inr k) = absurd k
cut_end cuts.Evicted asked cut done others losses said ticket c are_losses split (inr k) = inr tt
cut_end (cuts.Full room) asked cut done others losses said ticket c are_losses split (inr k) =
    let behind : losses ≡ k.more ++ (Do c.op c.receipt ∷ others) =
    same_front asked losses (k.more ++ (Do c.op c.receipt ∷ others)) (split ∙ ap (λ l. l ++ (Do c.op c.receipt ∷ others)) k.before ∙ append_assoc asked k.more (Do c.op c.receipt ∷ others)) in
    let end : c.op ≡ ops.End ends.Lost = end_of c.op c.receipt (loss_in k.more losses others (Do c.op c.receipt) are_losses behind) in
    let all : ops_of (said ++ (ticket, c) ∷ []) ≡ ops_of said ++ ops.End ends.Lost ∷ [] = map-append (λ (p : Pair). p.1.op) said ((ticket, c) ∷ []) ∙ ap (λ o. ops_of said ++ o ∷ []) end in
    inr record {
      op = k.op;
      receipt = k.receipt;
      others = k.others;
      first = k.first;
      more = k.more ++ Do c.op c.receipt ∷ [];
      before = ap (λ l. l ++ Do c.op c.receipt ∷ []) k.before ∙ append_assoc asked k.more (Do c.op c.receipt ∷ []);
      passes = subst (λ l. room < footprint (l ++ k.op ∷ [])) (sym all)
          (subst (λ n. room < n) (sym (nothing_by_end (ops_of said) ends.Lost k.op)) k.passes);
    }

pub tells_none : (effects : List Effect) (frame : Frame) (effect : Effect) → Tells frame effect → commands_of (effects ++ effect ∷ []) ≡ commands_of effects
tells_none effects frame effect (inl told) = commands_append effects (effect ∷ []) ∙ ap (λ d. commands_of effects ++ commands_of (d ∷ [])) told ∙ append-nil (commands_of effects)
tells_none effects frame effect (inr untold) = commands_append effects (effect ∷ []) ∙ ap (λ d. commands_of effects ++ commands_of (d ∷ [])) untold ∙ append-nil (commands_of effects)

never_next : (p : Progress) (c : CommandValue) → IsFinished p → IsNext p c → ⊥
never_next New c f next = f
never_next (Open number) c f next = f
never_next (Finished number) c f next = next
never_next Gone c f next = next

none_before : (p : Progress) (last : Option ℕ) → (IsFinished p → ⊥) → (last ≡ None) ⊎ IsFinished p → last ≡ None
none_before p last on (inl none) = none
none_before p last on (inr f) = absurd (on f)

last_said : (p : Progress) (last : Option ℕ) (op : Op) (receipt : Option (List ℕ)) (ticket : ℕ) → (IsFinished p → ⊥) → (last ≡ None) ⊎ IsFinished p
    → (cond (is_farewell op && is_some receipt) (Some ticket) last ≡ None) ⊎ IsFinished (after p (role_of op) ticket)
last_said p last (ops.End how) receipt ticket on l = inr (finished_over p)
last_said p last (ops.Open client_id) receipt ticket on l = inl (none_before p last on l)
last_said p last (ops.Send sending) receipt ticket on l = inl (none_before p last on l)
last_said p last (ops.Subscribe id to mode durable) receipt ticket on l = inl (none_before p last on l)
last_said p last (ops.Unsubscribe id durable) receipt ticket on l = inl (none_before p last on l)
last_said p last (ops.Ack delivery) receipt ticket on l = inl (none_before p last on l)
last_said p last (ops.Nack delivery) receipt ticket on l = inl (none_before p last on l)
last_said p last (ops.Commit members) receipt ticket on l = inl (none_before p last on l)
last_said p last ops.Note receipt ticket on l = inl (none_before p last on l)

-- ── an act is taken ──

-- lists of what is done, undone and left, one act further
one_further : (all losses done left acts others : List Act) (act : Act) → all ++ losses ≡ done ++ ([] ++ (left ++ acts)) → left ≡ [] → acts ≡ act ∷ others → all ++ losses ≡ done ++ (act ∷ [] ++ ([] ++ others))
one_further all losses done left acts others act split none first = split ∙ ap (λ l. done ++ l) (ap (λ l. l ++ acts) none ∙ first)

-- one more loss may have been asked for
takes_it : (bytes : List ℕ) (effects : List Effect) (old new : ConnectionValue) (undone : Undone) (l : Lives bytes effects old Nothing) (losses : List Act) → Executes old.stage → new.stage ≡ old.stage → new.session ≡ old.session → new.progress ≡ old.progress
    → new.footprint ≡ old.footprint → new.last ≡ old.last → AllByRecursion IsLoss losses → (new.stage ≡ Running → losses ≡ []) → (Executes new.stage → IsAsked l.reached undone)
    → l.asked_for ++ losses ≡ l.done ++ (act_of undone ++ ([] ++ all_of new.acts)) → Lives bytes effects new undone
takes_it bytes effects old new undone l losses executes stage session progress footprint last are_losses none_lost next split = record {
  heard = l.heard;
  unheard = l.unheard;
  whole = l.whole;
  all = l.all;
  session = l.session;
  hears = l.hears;
  asked_for = l.asked_for;
  cut = l.cut;
  halves = l.halves;
  losses = losses;
  are_losses = are_losses;
  done = l.done;
  cut_for = cut_as old.footprint new.footprint l.asked_for l.cut l.done (commands_of effects) footprint l.cut_for;
  left = [];
  split = split;
  reached = l.reached;
  does = l.does;
  none_untold = λ t. l.none_untold (subst HasTold stage t);
  none_unheard = λ r. l.none_unheard (sym stage ∙ r);
  none_lost = none_lost;
  none_cut = λ r. l.none_cut (sym stage ∙ r);
  phase = λ r. l.phase (sym stage ∙ r) ∙ ap (λ (h : Hearing). h.phase) (sym session);
  rest = λ r on. l.rest (sym stage ∙ r) (λ over. on (subst (λ (h : Hearing). IsOver h.phase) (sym session) over)) ∙ sym session;
  none_left = λ e. refl;
  stands = λ e. progress ∙ l.stands executes;
  next = next;
  stood = inl (progress ∙ l.stands executes);
  last = last_then old new last (inl progress) l.last;
  ended = λ e. absurd (goes_on_then old.stage executes (subst IsEnding stage e));
}

lost_runs : (stage : Stage) → IsLost stage → stage ≡ Running → ⊥
lost_runs Running lost e = lost
lost_runs GivingUp lost e = cc
lost_runs (Closing ended) lost e = cc
lost_runs (Parting ended) lost e = cc
lost_runs Leaving lost e = cc
lost_runs (Over ended) lost e = cc

lost_or_not : (stage : Stage) → IsLost stage ⊎ (IsLost stage → ⊥)
lost_or_not Running = inr (λ e. e)
lost_or_not GivingUp = inl tt
lost_or_not (Closing ended) = inr (λ e. e)
lost_or_not (Parting ended) = inr (λ e. e)
lost_or_not Leaving = inl tt
lost_or_not (Over ended) = inr (λ e. e)

loss_is : (p : Progress) (act : Act) → Some act ≡ loss_of p → IsLoss act
loss_is New act e = absurd (let never : Some act ≡ None = e in cc)
loss_is (Open number) act e = let both : Some act ≡ Some (Do (ops.End ends.Lost) None) = e in cc
loss_is (Finished number) act e = absurd (let never : Some act ≡ None = e in cc)
loss_is Gone act e = absurd (let never : Some act ≡ None = e in cc)

loss_none : (p : Progress) → None ≡ loss_of p → IsDone p
loss_none New e = tt
loss_none (Open number) e = absurd (let never : None ≡ Some (Do (ops.End ends.Lost) None) = e in cc)
loss_none (Finished number) e = tt
loss_none Gone e = tt

same_one : {X : Type 0} (x y : X) → Some x ≡ Some y → x ≡ y
same_one x y e = cc

pub same_taken : (old new : ConnectionValue) (act : Option Act) → Takes old new act → new.stage ≡ old.stage
same_taken old new act t = ap (λ (c : ConnectionValue). c.stage) t.same

-- the next act, or the loss
pub takes_one : (bytes : List ℕ) (effects : List Effect) (old new : ConnectionValue) (act : Act) → Executes old.stage → Takes old new (Some act) → Lives bytes effects old Nothing → Lives bytes effects new (Taken act)
takes_one bytes effects old new act executes t l = by_list (all_of old.acts) refl
  where
    stage : new.stage ≡ old.stage
    stage = same_taken old new (Some act) t

    taken : (losses : List Act) → new.session ≡ old.session → AllByRecursion IsLoss losses → (new.stage ≡ Running → losses ≡ []) → l.asked_for ++ losses ≡ l.done ++ (act ∷ [] ++ ([] ++ all_of new.acts)) → Lives bytes effects new (Taken act)
    taken losses session are_losses none_lost split = takes_it bytes effects old new (Taken act) l losses executes stage session
        (ap (λ (c : ConnectionValue). c.progress) t.same) (ap (λ (c : ConnectionValue). c.footprint) t.same) (ap (λ (c : ConnectionValue). c.last) t.same) are_losses none_lost (λ e. tt) split

    by_list : (a : List Act) → all_of old.acts ≡ a → Lives bytes effects new (Taken act)
    by_list (one ∷ others) e =
        let is = t.first one others e in
        taken l.losses is.2 l.are_losses (λ r. l.none_lost (sym stage ∙ r))
        (one_further l.asked_for l.losses l.done l.left (all_of old.acts) others act l.split (l.none_left executes) (e ∙ ap (λ x. x ∷ others) (sym (same_one act one is.0))) ∙ ap (λ o. l.done ++ (act ∷ o)) (sym is.1))
    by_list [] e = elim (lost_or_not old.stage) [
      | inl lost ↦
          let is = t.loss e lost in
          taken (l.losses ++ act ∷ []) is.2 (all_append IsLoss l.losses (act ∷ []) l.are_losses (loss_is old.progress act is.0, tt)) (λ r. absurd (lost_runs old.stage lost (sym stage ∙ r)))
          (sym (append_assoc l.asked_for l.losses (act ∷ [])) ∙ ap (λ a. a ++ act ∷ []) (l.split ∙ ap (λ a. l.done ++ a) (ap (λ a. a ++ all_of old.acts) (l.none_left executes) ∙ e) ∙ append-nil l.done)
          ∙ ap (λ o. l.done ++ (act ∷ o)) (sym is.1))
      | inr goes ↦ absurd (let never : Some act ≡ None = (t.none e goes).0 in cc)
    ]

-- no act is left
pub takes_none : (bytes : List ℕ) (effects : List Effect) (old new : ConnectionValue) → Executes old.stage → Takes old new None → Lives bytes effects old Nothing → Lives bytes effects new Nothing
takes_none bytes effects old new executes t l = by_list (all_of old.acts) refl
  where
    stage : new.stage ≡ old.stage
    stage = same_taken old new None t

    by_none : all_of old.acts ≡ [] → all_of new.acts ≡ [] → new.session ≡ old.session → Lives bytes effects new Nothing
    by_none none now session = takes_it bytes effects old new Nothing l l.losses executes stage session
        (ap (λ (c : ConnectionValue). c.progress) t.same) (ap (λ (c : ConnectionValue). c.footprint) t.same) (ap (λ (c : ConnectionValue). c.last) t.same) l.are_losses (λ r. l.none_lost (sym stage ∙ r)) (λ e. tt)
        (l.split ∙ ap (λ a. l.done ++ a) (ap (λ a. a ++ all_of old.acts) (l.none_left executes) ∙ none ∙ sym now))

    by_list : (a : List Act) → all_of old.acts ≡ a → Lives bytes effects new Nothing
    by_list (one ∷ others) e = absurd (let never : None ≡ Some one = (t.first one others e).0 in cc)
    by_list [] e = elim (lost_or_not old.stage) [
      | inl lost ↦ let is = t.loss e lost in by_none e is.1 is.2
      | inr goes ↦ let is = t.none e goes in by_none e is.1 is.2
    ]

-- and if it is lost, its session has ended
pub none_lost_yet : (old new : ConnectionValue) → Takes old new None → IsLost old.stage → IsDone old.progress
none_lost_yet old new t lost = by_list (all_of old.acts) refl
  where
    by_list : (a : List Act) → all_of old.acts ≡ a → IsDone old.progress
    by_list (one ∷ others) e = absurd (let never : None ≡ Some one = (t.first one others e).0 in cc)
    by_list [] e = loss_none old.progress (t.loss e lost).0

-- its command is the next of the conversation
pub asks_it : (bytes : List ℕ) (effects : List Effect) (c : ConnectionValue) (op : Op) (receipt : Option (List ℕ)) (command : CommandValue) → Executes c.stage → command ≡ asked c.progress op receipt → IsNext c.progress command
    → Lives bytes effects c (Taken (Do op receipt)) → Lives bytes effects c (Waits command)
asks_it bytes effects c op receipt command executes is next l = record {
  heard = l.heard;
  unheard = l.unheard;
  whole = l.whole;
  all = l.all;
  session = l.session;
  hears = l.hears;
  asked_for = l.asked_for;
  cut = l.cut;
  halves = l.halves;
  losses = l.losses;
  are_losses = l.are_losses;
  done = l.done;
  cut_for = l.cut_for;
  left = l.left;
  split = l.split ∙ ap (λ (x : CommandValue). l.done ++ (Do x.op x.receipt ∷ (l.left ++ all_of c.acts))) (sym is);
  reached = l.reached;
  does = l.does;
  none_untold = l.none_untold;
  none_unheard = l.none_unheard;
  none_lost = l.none_lost;
  none_cut = l.none_cut;
  phase = l.phase;
  rest = l.rest;
  none_left = l.none_left;
  stands = l.stands;
  next = λ e. subst (λ p. IsNext p command × (command ≡ asked p command.op command.receipt)) (l.stands executes) (next, subst (λ (x : CommandValue). x ≡ asked c.progress x.op x.receipt) (sym is) refl);
  stood = l.stood;
  last = l.last;
  ended = l.ended;
}

-- nothing is to be done for it
pub passes_it : (bytes : List ℕ) (effects : List Effect) (c : ConnectionValue) (act : Act) → Executes c.stage → IsSilent c.progress act → Lives bytes effects c (Taken act) → Lives bytes effects c Nothing
passes_it bytes effects c act executes silent l = record {
  heard = l.heard;
  unheard = l.unheard;
  whole = l.whole;
  all = l.all;
  session = l.session;
  hears = l.hears;
  asked_for = l.asked_for;
  cut = l.cut;
  halves = l.halves;
  losses = l.losses;
  are_losses = l.are_losses;
  done = l.done ++ act ∷ [];
  cut_for = cut_more c.footprint.cut l.asked_for l.cut l.done (act ∷ []) (commands_of effects) (commands_of effects) refl l.cut_for;
  left = l.left;
  split = l.split ∙ sym (append_assoc l.done (act ∷ []) (l.left ++ all_of c.acts));
  reached = l.reached;
  does = does_silent New l.done effects l.reached act l.does (subst (λ p. IsSilent p act) (l.stands executes) silent);
  none_untold = l.none_untold;
  none_unheard = l.none_unheard;
  none_lost = l.none_lost;
  none_cut = l.none_cut;
  phase = l.phase;
  rest = l.rest;
  none_left = l.none_left;
  stands = l.stands;
  next = λ e. tt;
  stood = l.stood;
  last = l.last;
  ended = l.ended;
}

-- ── it is done ──

pub says_it : (bytes : List ℕ) (effects : List Effect) (old new : ConnectionValue) (c : CommandValue) (ticket : ℕ) → Executes old.stage → new ≡ with_appended old (role_of c.op) (is_last c) ticket → Lives bytes effects old (Waits c)
    → Lives bytes (effects ++ Said (ticket, c) ∷ []) new Nothing
says_it bytes effects old new c ticket executes is l =
    let next = l.next executes in
    let command : c ≡ asked l.reached c.op c.receipt = next.1 in
    subst (λ x. Lives bytes (effects ++ Said (ticket, c) ∷ []) x Nothing) (sym is) record {
      heard = l.heard;
      unheard = l.unheard;
      whole = l.whole;
      all = l.all;
      session = l.session;
      hears = l.hears;
      asked_for = l.asked_for;
      cut = l.cut;
      halves = l.halves;
      losses = l.losses;
      are_losses = l.are_losses;
      done = l.done ++ Do c.op c.receipt ∷ [];
      cut_for = subst (λ said. IsCut old.footprint.cut l.asked_for l.cut (l.done ++ Do c.op c.receipt ∷ []) said) (sym (commands_append effects (Said (ticket, c) ∷ [])))
          (cut_end old.footprint.cut l.asked_for l.cut l.done (l.left ++ all_of old.acts) l.losses (commands_of effects) ticket c l.are_losses l.split l.cut_for);
      left = l.left;
      split = l.split ∙ sym (append_assoc l.done (Do c.op c.receipt ∷ []) (l.left ++ all_of old.acts));
      reached = after l.reached (role_of c.op) ticket;
      does = subst (λ (x : CommandValue). Does New (l.done ++ Do c.op c.receipt ∷ []) (effects ++ Said (ticket, x) ∷ []) (after l.reached (role_of c.op) ticket)) (sym command)
          (does_say New l.done effects l.reached ticket c.op c.receipt l.does (subst (λ (x : CommandValue). IsNext l.reached x) command next.0));
      none_untold = λ t. none_more effects (Said (ticket, c)) (l.none_untold t) refl;
      none_unheard = l.none_unheard;
      none_lost = l.none_lost;
      none_cut = l.none_cut;
      phase = l.phase;
      rest = l.rest;
      none_left = l.none_left;
      stands = λ e. ap (λ p. after p (role_of c.op) ticket) (l.stands e);
      next = λ e. tt;
      stood = inl (ap (λ p. after p (role_of c.op) ticket) (l.stands executes));
      last = last_said old.progress old.last c.op c.receipt ticket (λ f. never_next old.progress c f (subst (λ p. IsNext p c) (sym (l.stands executes)) next.0)) l.last;
      ended = λ e. absurd (goes_on_then old.stage executes e);
    }

-- it is left undone, where nothing more is appended
pub leaves_it : (bytes : List ℕ) (effects : List Effect) (old new : ConnectionValue) (undone : Undone) → Restaged old new → (Executes new.stage → ⊥) → Lives bytes effects old undone → Lives bytes effects new Nothing
leaves_it bytes effects old new undone r over m =
    let l : Lives bytes effects new undone = restays bytes effects old new undone r m in record {
      heard = l.heard;
      unheard = l.unheard;
      whole = l.whole;
      all = l.all;
      session = l.session;
      hears = l.hears;
      asked_for = l.asked_for;
      cut = l.cut;
      halves = l.halves;
      losses = l.losses;
      are_losses = l.are_losses;
      done = l.done;
      cut_for = l.cut_for;
      left = act_of undone ++ l.left;
      split = l.split ∙ ap (λ a. l.done ++ a) (sym (append_assoc (act_of undone) l.left (all_of new.acts)));
      reached = l.reached;
      does = l.does;
      none_untold = l.none_untold;
      none_unheard = l.none_unheard;
      none_lost = l.none_lost;
      none_cut = l.none_cut;
      phase = l.phase;
      rest = l.rest;
      none_left = λ e. absurd (over e);
      stands = λ e. absurd (over e);
      next = λ e. absurd (over e);
      stood = l.stood;
      last = l.last;
      ended = l.ended;
    }

-- a frame was told, or was not, since its link was over
pub tells_it : (bytes : List ℕ) (effects : List Effect) (old new : ConnectionValue) (frame : Frame) (effect : Effect) → Restaged old new → Executes old.stage → Tells frame effect → (HasTold new.stage → untold_of (effect ∷ []) ≡ [])
    → Lives bytes effects old (Taken (Direct frame)) → Lives bytes (effects ++ effect ∷ []) new Nothing
tells_it bytes effects old new frame effect r executes tells none m =
    let l : Lives bytes effects new (Taken (Direct frame)) = restays bytes effects old new (Taken (Direct frame)) r m in record {
      heard = l.heard;
      unheard = l.unheard;
      whole = l.whole;
      all = l.all;
      session = l.session;
      hears = l.hears;
      asked_for = l.asked_for;
      cut = l.cut;
      halves = l.halves;
      losses = l.losses;
      are_losses = l.are_losses;
      done = l.done ++ Direct frame ∷ [];
      cut_for = cut_more new.footprint.cut l.asked_for l.cut l.done (Direct frame ∷ []) (commands_of effects) (commands_of (effects ++ effect ∷ [])) (tells_none effects frame effect tells) l.cut_for;
      left = l.left;
      split = l.split ∙ sym (append_assoc l.done (Direct frame ∷ []) (l.left ++ all_of new.acts));
      reached = l.reached;
      does = does_tell New l.done effects l.reached frame effect l.does tells;
      none_untold = λ t. none_more effects effect (l.none_untold t) (none t);
      none_unheard = l.none_unheard;
      none_lost = l.none_lost;
      none_cut = l.none_cut;
      phase = l.phase;
      rest = l.rest;
      none_left = l.none_left;
      stands = l.stands;
      next = λ e. tt;
      stood = l.stood;
      last = l.last;
      ended = l.ended;
    }

-- memory was refused: it is the next again
pub again_next : (bytes : List ℕ) (effects : List Effect) (old new : ConnectionValue) (undone : Undone) (act : Act) → Executes old.stage → old.acts.again ≡ None → act_of undone ≡ act ∷ [] → new ≡ record old { acts = record old.acts { again = Some act } }
    → Lives bytes effects old undone → Lives bytes effects new Nothing
again_next bytes effects old new undone act executes first is_act is l = subst (λ x. Lives bytes effects x Nothing) (sym is) record {
  heard = l.heard;
  unheard = l.unheard;
  whole = l.whole;
  all = l.all;
  session = l.session;
  hears = l.hears;
  asked_for = l.asked_for;
  cut = l.cut;
  halves = l.halves;
  losses = l.losses;
  are_losses = l.are_losses;
  done = l.done;
  cut_for = l.cut_for;
  left = [];
  split = l.split ∙ ap (λ a. l.done ++ a) (ap (λ a. a ++ (l.left ++ all_of old.acts)) is_act ∙ ap (λ a. act ∷ (a ++ all_of old.acts)) (l.none_left executes) ∙ ap (λ o. act ∷ (option_to_list o ++ old.acts.rest)) first);
  reached = l.reached;
  does = l.does;
  none_untold = l.none_untold;
  none_unheard = l.none_unheard;
  none_lost = l.none_lost;
  none_cut = l.none_cut;
  phase = l.phase;
  rest = l.rest;
  none_left = λ e. refl;
  stands = l.stands;
  next = λ e. tt;
  stood = l.stood;
  last = l.last;
  ended = l.ended;
}

-- ── stages ──

pub never_again : (stage : Stage) → Executes (stopped stage) → ⊥
never_again Running e = e
never_again GivingUp e = e
never_again (Closing ended) e = e
never_again (Parting ended) e = e
never_again Leaving e = e
never_again (Over ended) e = e

no_run : (stage : Stage) → (Executes stage → ⊥) → stage ≡ Running → ⊥
no_run stage over r = over (subst Executes (sym r) tt)

untold_stop : (stage : Stage) → HasTold (stopped stage) → HasTold stage
untold_stop Running t = tt
untold_stop GivingUp t = tt
untold_stop Leaving t = absurd t
untold_stop (Closing ended) t = t
untold_stop (Parting ended) t = t
untold_stop (Over ended) t = t

ending_stop : (stage : Stage) → IsEnding (stopped stage) → IsEnding stage
ending_stop Running i = i
ending_stop GivingUp i = i
ending_stop Leaving i = i
ending_stop (Closing ended) i = i
ending_stop (Parting ended) i = i
ending_stop (Over ended) i = i

pub stops : (old new : ConnectionValue) → new ≡ record old { stage = stopped old.stage } → Restaged old new
stops old new is = as_restaged old new _ is (by_stage old (stopped old.stage) (λ r. absurd (no_run (stopped old.stage) (never_again old.stage) r)) (untold_stop old.stage) (λ e. absurd (never_again old.stage e)) (ending_stop old.stage))

can_stopping : (stage : Stage) → CanTell (stopped stage) → CanTell stage
can_stopping Running t = tt
can_stopping GivingUp t = tt
can_stopping Leaving t = absurd t
can_stopping (Closing ended) t = t
can_stopping (Parting ended) t = t
can_stopping (Over ended) t = t

pub stops_telling : (old new : ConnectionValue) → new ≡ record old { stage = stopped old.stage } → CanTell new.stage → CanTell old.stage
stops_telling old new is t = can_stopping old.stage (subst CanTell (ap (λ (c : ConnectionValue). c.stage) is) t)

pub can_where : (stage : Stage) → Executes stage → (stage ≡ Leaving → ⊥) → CanTell stage
can_where Running e heard = tt
can_where GivingUp e heard = tt
can_where Leaving e heard = absurd (heard refl)
can_where (Closing ended) e heard = absurd e
can_where (Parting ended) e heard = absurd e
can_where (Over ended) e heard = absurd e

pub stopped_over : (old new : ConnectionValue) → new ≡ record old { stage = stopped old.stage } → Executes new.stage → ⊥
stopped_over old new is e = never_again old.stage (subst Executes (ap (λ (c : ConnectionValue). c.stage) is) e)

lost_stage : (stage : Stage) → (lost stage ≡ Running → ⊥) × (Executes (lost stage) → Executes stage)
lost_stage Running = (λ e. cc, λ e. tt)
lost_stage GivingUp = (λ e. cc, λ e. tt)
lost_stage Leaving = (λ e. cc, λ e. tt)
lost_stage (Closing ended) = of_closing ended
  where
    of_closing : (ended : Ended) → (lost (Closing ended) ≡ Running → ⊥) × (Executes (lost (Closing ended)) → Executes (Closing ended))
    of_closing Bye = (λ e. cc, λ e. e)
    of_closing Bad = (λ e. cc, λ e. e)
    of_closing Lost = (λ e. cc, λ e. e)
    of_closing Stopped = (λ e. cc, λ e. e)
lost_stage (Parting ended) = (λ e. cc, λ e. e)
lost_stage (Over ended) = (λ e. cc, λ e. e)

untold_loss : (stage : Stage) → HasTold (lost stage) → HasTold stage
untold_loss Running t = tt
untold_loss GivingUp t = tt
untold_loss Leaving t = absurd t
untold_loss (Closing ended) t = of_closing ended t
  where
    of_closing : (ended : Ended) → HasTold (lost (Closing ended)) → IsBad ended
    of_closing Bye t = absurd t
    of_closing Bad t = absurd t
    of_closing Lost t = t
    of_closing Stopped t = t
untold_loss (Parting ended) t = t
untold_loss (Over ended) t = t

ending_loss : (stage : Stage) → IsEnding (lost stage) → IsEnding stage
ending_loss Running i = i
ending_loss GivingUp i = i
ending_loss Leaving i = i
ending_loss (Closing ended) i = of_closing ended i
  where
    of_closing : (ended : Ended) → IsEnding (lost (Closing ended)) → IsOwnEnd ended
    of_closing Bye i = tt
    of_closing Bad i = tt
    of_closing Lost i = tt
    of_closing Stopped i = i
ending_loss (Parting ended) i = i
ending_loss (Over ended) i = i

halted_loss : (stage : Stage) → HasHalted (lost stage) → HasHalted stage
halted_loss Running h = h
halted_loss GivingUp h = h
halted_loss Leaving h = h
halted_loss (Closing ended) h = of_closing ended h
  where
    of_closing : (ended : Ended) → HasHalted (lost (Closing ended)) → IsStopped ended
    of_closing Bye h = h
    of_closing Bad h = h
    of_closing Lost h = h
    of_closing Stopped h = h
halted_loss (Parting ended) h = h
halted_loss (Over ended) h = h

pub halted_giving : (stage : Stage) → HasHalted (given_up stage) → HasHalted stage
halted_giving Running h = h
halted_giving GivingUp h = h
halted_giving Leaving h = h
halted_giving (Closing ended) h = h
halted_giving (Parting ended) h = h
halted_giving (Over ended) h = h

halted_parting : (stage : Stage) → HasHalted (parted stage) → HasHalted stage
halted_parting Running h = h
halted_parting GivingUp h = h
halted_parting Leaving h = h
halted_parting (Closing ended) h = h
halted_parting (Parting ended) h = h
halted_parting (Over ended) h = h

pub not_halted : (stage : Stage) → Executes stage → HasHalted stage → ⊥
not_halted Running e h = h
not_halted GivingUp e h = h
not_halted Leaving e h = h
not_halted (Closing ended) e h = e
not_halted (Parting ended) e h = e
not_halted (Over ended) e h = e

-- a session's close
runs_closing : (code : CloseCode) (last : Option ℕ) (progress : Progress) (stage : Stage) → closed_by code last progress stage ≡ Running → stage ≡ Running
runs_closing NormalClosure None New stage e = cc
runs_closing NormalClosure None (Open number) stage e = e
runs_closing NormalClosure None (Finished number) stage e = cc
runs_closing NormalClosure None Gone stage e = cc
runs_closing NormalClosure (Some number) progress stage e = e
runs_closing ProtocolError last progress stage e = e

told_closing : (code : CloseCode) (last : Option ℕ) (progress : Progress) (stage : Stage) → HasTold (closed_by code last progress stage) → HasTold stage
told_closing NormalClosure None New stage t = absurd t
told_closing NormalClosure None (Open number) stage t = t
told_closing NormalClosure None (Finished number) stage t = absurd t
told_closing NormalClosure None Gone stage t = absurd t
told_closing NormalClosure (Some number) progress stage t = t
told_closing ProtocolError last progress stage t = t

ends_closing : (code : CloseCode) (last : Option ℕ) (progress : Progress) (stage : Stage) → Executes stage → IsEnding (closed_by code last progress stage) → IsDone progress
ends_closing NormalClosure None New stage e i = tt
ends_closing NormalClosure None (Open number) stage e i = absurd (goes_on_then stage e i)
ends_closing NormalClosure None (Finished number) stage e i = tt
ends_closing NormalClosure None Gone stage e i = tt
ends_closing NormalClosure (Some number) progress stage e i = absurd (goes_on_then stage e i)
ends_closing ProtocolError last progress stage e i = absurd (goes_on_then stage e i)

halts_closing : (code : CloseCode) (last : Option ℕ) (progress : Progress) (stage : Stage) → Executes stage → HasHalted (closed_by code last progress stage) → ⊥
halts_closing NormalClosure None New stage e h = h
halts_closing NormalClosure None (Open number) stage e h = not_halted stage e h
halts_closing NormalClosure None (Finished number) stage e h = h
halts_closing NormalClosure None Gone stage e h = h
halts_closing NormalClosure (Some number) progress stage e h = not_halted stage e h
halts_closing ProtocolError last progress stage e h = not_halted stage e h

can_closing : (code : CloseCode) (last : Option ℕ) (progress : Progress) (stage : Stage) → CanTell (closed_by code last progress stage) → CanTell stage
can_closing NormalClosure None New stage t = absurd t
can_closing NormalClosure None (Open number) stage t = t
can_closing NormalClosure None (Finished number) stage t = absurd t
can_closing NormalClosure None Gone stage t = absurd t
can_closing NormalClosure (Some number) progress stage t = t
can_closing ProtocolError last progress stage t = t

pub closes : (old new : ConnectionValue) (code : CloseCode) → Executes old.stage → new ≡ record old { stage = closed_by code old.last old.progress old.stage } → Steady old new
closes old new code executes is = record {
  restaged = as_restaged old new _ is (record {
    acts = refl;
    session = λ r. refl;
    runs = runs_closing code old.last old.progress old.stage;
    told = told_closing code old.last old.progress old.stage;
    executes = λ e. executes;
    progress = λ e. refl;
    footprint = refl;
    last = refl;
    stood = inl refl;
    ended = λ last before e. ends_closing code old.last old.progress old.stage executes e;
  });
  tells = λ t. can_closing code old.last old.progress old.stage (subst CanTell (ap (λ (c : ConnectionValue). c.stage) is) t);
  halts = λ h. absurd (halts_closing code old.last old.progress old.stage executes (subst HasHalted (ap (λ (c : ConnectionValue). c.stage) is) h));
}

-- nothing is left to be done
runs_resting : (stage : Stage) → rested stage ≡ Running → stage ≡ Running
runs_resting Running e = refl
runs_resting GivingUp e = cc
runs_resting (Closing ended) e = cc
runs_resting (Parting ended) e = cc
runs_resting Leaving e = cc
runs_resting (Over ended) e = cc

told_resting : (stage : Stage) → HasTold (rested stage) → HasTold stage
told_resting Running t = t
told_resting GivingUp t = tt
told_resting (Closing ended) t = t
told_resting (Parting ended) t = t
told_resting Leaving t = absurd t
told_resting (Over ended) t = t

ends_resting : (stage : Stage) (D : Type 0) → Executes stage → (IsLost stage → D) → IsEnding (rested stage) → D
ends_resting Running D e lost i = absurd i
ends_resting GivingUp D e lost i = lost tt
ends_resting (Closing ended) D e lost i = absurd e
ends_resting (Parting ended) D e lost i = absurd e
ends_resting Leaving D e lost i = lost tt
ends_resting (Over ended) D e lost i = absurd e

halts_resting : (stage : Stage) → Executes stage → HasHalted (rested stage) → ⊥
halts_resting Running e h = h
halts_resting GivingUp e h = h
halts_resting (Closing ended) e h = e
halts_resting (Parting ended) e h = e
halts_resting Leaving e h = h
halts_resting (Over ended) e h = e

can_resting : (stage : Stage) → CanTell (rested stage) → CanTell stage
can_resting Running t = t
can_resting GivingUp t = tt
can_resting (Closing ended) t = t
can_resting (Parting ended) t = t
can_resting Leaving t = absurd t
can_resting (Over ended) t = t

pub rests : (old new : ConnectionValue) → Executes old.stage → (IsLost old.stage → IsDone old.progress) → new ≡ record old { stage = rested old.stage } → Steady old new
rests old new executes lost is = record {
  restaged = as_restaged old new _ is (record {
    acts = refl;
    session = λ r. refl;
    runs = runs_resting old.stage;
    told = told_resting old.stage;
    executes = λ e. executes;
    progress = λ e. refl;
    footprint = refl;
    last = refl;
    stood = inl refl;
    ended = λ last before e. ends_resting old.stage (IsDone old.progress) executes lost e;
  });
  tells = λ t. can_resting old.stage (subst CanTell (ap (λ (c : ConnectionValue). c.stage) is) t);
  halts = λ h. absurd (halts_resting old.stage executes (subst HasHalted (ap (λ (c : ConnectionValue). c.stage) is) h));
}

can_loss : (stage : Stage) → CanTell (lost stage) → CanTell stage
can_loss Running t = tt
can_loss GivingUp t = tt
can_loss Leaving t = t
can_loss (Closing ended) t = of_closing ended t
  where
    of_closing : (ended : Ended) → CanTell (lost (Closing ended)) → ⊥
    of_closing Bye t = t
    of_closing Bad t = t
    of_closing Lost t = t
    of_closing Stopped t = t
can_loss (Parting ended) t = t
can_loss (Over ended) t = t

pub loses : (old new : ConnectionValue) → new ≡ record old { stage = lost old.stage } → Steady old new
loses old new is = record {
  restaged = as_restaged old new _ is (by_stage old (lost old.stage) (λ r. absurd ((lost_stage old.stage).0 r)) (untold_loss old.stage) (lost_stage old.stage).1 (ending_loss old.stage));
  tells = λ t. can_loss old.stage (subst CanTell (ap (λ (c : ConnectionValue). c.stage) is) t);
  halts = λ h. halted_loss old.stage (subst HasHalted (ap (λ (c : ConnectionValue). c.stage) is) h);
}

pub loses_run : (old new : ConnectionValue) → new ≡ record old { stage = lost old.stage } → new.stage ≡ Running → ⊥
loses_run old new is r = (lost_stage old.stage).0 (sym (ap (λ (c : ConnectionValue). c.stage) is) ∙ r)

given_up_stage : (stage : Stage) → (given_up stage ≡ Running → stage ≡ Running) × (Executes (given_up stage) → Executes stage)
given_up_stage Running = (λ e. refl, λ e. tt)
given_up_stage GivingUp = (λ e. e, λ e. e)
given_up_stage Leaving = (λ e. e, λ e. e)
given_up_stage (Closing ended) = (λ e. e, λ e. e)
given_up_stage (Parting ended) = (λ e. e, λ e. e)
given_up_stage (Over ended) = (λ e. e, λ e. e)

pub untold_giving : (stage : Stage) → HasTold (given_up stage) → HasTold stage
untold_giving Running t = tt
untold_giving GivingUp t = t
untold_giving Leaving t = t
untold_giving (Closing ended) t = t
untold_giving (Parting ended) t = t
untold_giving (Over ended) t = t

ending_giving : (stage : Stage) → IsEnding (given_up stage) → IsEnding stage
ending_giving Running i = i
ending_giving GivingUp i = i
ending_giving Leaving i = i
ending_giving (Closing ended) i = i
ending_giving (Parting ended) i = i
ending_giving (Over ended) i = i

pub can_giving : (stage : Stage) → CanTell (given_up stage) → CanTell stage
can_giving Running t = tt
can_giving GivingUp t = t
can_giving Leaving t = t
can_giving (Closing ended) t = t
can_giving (Parting ended) t = t
can_giving (Over ended) t = t

pub gives_up : (old new : ConnectionValue) → new ≡ record old { stage = given_up old.stage } → Steady old new
gives_up old new is = record {
  restaged = as_restaged old new _ is (by_stage old (given_up old.stage) (given_up_stage old.stage).0 (untold_giving old.stage) (given_up_stage old.stage).1 (ending_giving old.stage));
  tells = λ t. can_giving old.stage (subst CanTell (ap (λ (c : ConnectionValue). c.stage) is) t);
  halts = λ h. halted_giving old.stage (subst HasHalted (ap (λ (c : ConnectionValue). c.stage) is) h);
}

parted_stage : (stage : Stage) → (parted stage ≡ Running → stage ≡ Running) × (Executes (parted stage) → Executes stage)
parted_stage Running = (λ e. e, λ e. e)
parted_stage GivingUp = (λ e. e, λ e. e)
parted_stage Leaving = (λ e. e, λ e. e)
parted_stage (Closing ended) = (λ e. cc, λ e. e)
parted_stage (Parting ended) = (λ e. e, λ e. e)
parted_stage (Over ended) = (λ e. e, λ e. e)

untold_parting : (stage : Stage) → HasTold (parted stage) → HasTold stage
untold_parting Running t = t
untold_parting GivingUp t = t
untold_parting Leaving t = t
untold_parting (Closing ended) t = t
untold_parting (Parting ended) t = t
untold_parting (Over ended) t = t

ending_parting : (stage : Stage) → IsEnding (parted stage) → IsEnding stage
ending_parting Running i = i
ending_parting GivingUp i = i
ending_parting Leaving i = i
ending_parting (Closing ended) i = i
ending_parting (Parting ended) i = i
ending_parting (Over ended) i = i

can_parting : (stage : Stage) → CanTell (parted stage) → CanTell stage
can_parting Running t = t
can_parting GivingUp t = t
can_parting Leaving t = t
can_parting (Closing ended) t = t
can_parting (Parting ended) t = t
can_parting (Over ended) t = t

pub parts : (old new : ConnectionValue) → new ≡ record old { stage = parted old.stage } → Steady old new
parts old new is = record {
  restaged = as_restaged old new _ is (by_stage old (parted old.stage) (parted_stage old.stage).0 (untold_parting old.stage) (parted_stage old.stage).1 (ending_parting old.stage));
  tells = λ t. can_parting old.stage (subst CanTell (ap (λ (c : ConnectionValue). c.stage) is) t);
  halts = λ h. halted_parting old.stage (subst HasHalted (ap (λ (c : ConnectionValue). c.stage) is) h);
}

pub none_told_lost : (stage : Stage) → Executes stage → HasTold (lost stage) → ⊥
none_told_lost Running e t = t
none_told_lost GivingUp e t = t
none_told_lost Leaving e t = t
none_told_lost (Closing ended) e t = e
none_told_lost (Parting ended) e t = e
none_told_lost (Over ended) e t = e

pub none_told_leaving : (stage : Stage) → stage ≡ Leaving → HasTold stage → ⊥
none_told_leaving stage leaving t = subst HasTold leaving t

pub told_where : (stage : Stage) → Executes stage → (stage ≡ Leaving → ⊥) → HasTold stage
told_where Running e heard = tt
told_where GivingUp e heard = tt
told_where Leaving e heard = absurd (heard refl)
told_where (Closing ended) e heard = absurd e
told_where (Parting ended) e heard = absurd e
told_where (Over ended) e heard = absurd e

-- where it is closed by what was sent
pub closes_so : (old new : ConnectionValue) (p : Progress) (ended : Ended) → (IsBad ended → HasTold old.stage) → StaysOrEnds old.progress p → (IsLast old → IsDone p) → (IsStopped ended → ⊥) → new ≡ record old { progress = p; stage = Closing ended } → Steady old new
closes_so old new p ended told stood is_done goes is = record {
  restaged = as_restaged old new _ is (record {
    acts = refl;
    session = λ r. refl;
    runs = λ r. cc;
    told = told;
    executes = λ e. absurd e;
    progress = λ e. absurd e;
    footprint = refl;
    last = refl;
    stood = stood;
    ended = λ last before e. is_done last;
  });
  tells = λ t. absurd (subst CanTell (ap (λ (c : ConnectionValue). c.stage) is) t);
  halts = λ h. absurd (goes (subst HasHalted (ap (λ (c : ConnectionValue). c.stage) is) h));
}

pub closes_over : (old new : ConnectionValue) → HasTold old.stage → new ≡ record old { progress = over old.progress; stage = Closing Bad } → Steady old new
closes_over old new told is = closes_so old new (over old.progress) Bad (λ bad. told) (inr refl) (λ last. done_finished (over old.progress) (finished_over old.progress)) (λ h. h) is

-- ── an entry that waits ──

opens_so : (r : Role) → opens r ≡ true → r ≡ Opens
opens_so Opens is = refl
opens_so Talks is = absurd (let no : ⊥ = cc in no)
opens_so Ends is = absurd (let no : ⊥ = cc in no)

not_opens : (r : Role) → not (opens r) ≡ true → r ≢ Opens
not_opens Opens is = λ _. let no : ⊥ = cc in no
not_opens Talks is = λ same. let no : ⊥ = cc in no
not_opens Ends is = λ same. let no : ⊥ = cc in no

so_opens : (r : Role) → r ≡ Opens → opens r ≡ true
so_opens r same = ap opens same

so_not : (r : Role) → r ≢ Opens → not (opens r) ≡ true
so_not Opens other = absurd (other refl)
so_not Talks other = refl
so_not Ends other = refl

-- what may be the next, as a value
pub next_so : (p : Progress) (c : CommandValue) → is_next p c ≡ true → IsNext p c
next_so New c is = opens_so (role_of c.op) is
next_so (Open number) c is =
    let parts = and_parts (nat_eq c.session number) (not (opens (role_of c.op))) is in (eqb-true c.session number parts.0, not_opens (role_of c.op) parts.1)
next_so (Finished number) c is = absurd (let no : ⊥ = cc in no)
next_so Gone c is = absurd (let no : ⊥ = cc in no)

pub so_next : (p : Progress) (c : CommandValue) → IsNext p c → is_next p c ≡ true
so_next New c is = so_opens (role_of c.op) is
so_next (Open number) c is =
    let same : nat_eq c.session number ≡ true = let at = is.0 in grind (arith, nat_tests) in
    ap (λ b. b && not (opens (role_of c.op))) same ∙ so_not (role_of c.op) is.1
so_next (Finished number) c is = absurd is
so_next Gone c is = absurd is

pub waits_still : (old new : ConnectionValue) (p q : Option BoxEntry) → Restaged old new → q ≡ p → WaitsNext old.stage old.progress p → WaitsNext new.stage new.progress q
waits_still old new p q r same w = λ it some executes.
    subst (λ x. is_next x it.command ≡ true) (sym (r.progress executes)) (w it (sym same ∙ some) (r.executes executes))

pub waits_kept : (c : ConnectionValue) (p : Option BoxEntry) (entry : BoxEntry) → p ≡ Some entry → IsNext c.progress entry.command → WaitsNext c.stage c.progress p
waits_kept c p entry is next = λ it some executes.
    let both : Some entry ≡ Some it = sym is ∙ some in
    let same : entry ≡ it = cc in
    subst (λ (x : BoxEntry). is_next c.progress x.command ≡ true) same (so_next c.progress entry.command next)

pub none_waits_next : (c : ConnectionValue) (p : Option BoxEntry) → p ≡ None → WaitsNext c.stage c.progress p
none_waits_next c p none = λ it some executes. absurd (let both : Some it ≡ None = sym some ∙ none in cc)

pub same_stage : (old new : ConnectionValue) → new ≡ old → Steady old new
same_stage old new is = record {
  restaged = as_restaged old new old is (record {
    acts = refl;
    session = λ r. refl;
    runs = λ r. r;
    told = λ t. t;
    executes = λ e. e;
    progress = λ e. refl;
    footprint = refl;
    last = refl;
    stood = inl refl;
    ended = λ last ended. ended;
  });
  tells = λ t. subst CanTell (ap (λ (c : ConnectionValue). c.stage) is) t;
  halts = λ h. subst HasHalted (ap (λ (c : ConnectionValue). c.stage) is) h;
}

-- a conversation and its stage stay as they were
as_it_stood : (old : ConnectionValue) (p : Progress) (to : Stage) → p ≡ old.progress → to ≡ old.stage → record old { progress = p; stage = to } ≡ old
as_it_stood old p to progress stage = ap (λ x. record old { progress = x; stage = to }) progress ∙ ap (λ x. record old { stage = x }) stage

sends_receipt : (old : ConnectionValue) (p : Progress) (to : Stage) (number : ℕ) → IsSent old.progress old.stage old.last number verbs.Receipt p to → Steady old (record old { progress = p; stage = to })
sends_receipt old p to number s = by_last old.last refl
  where
    is_done : old.last ≡ Some number → IsLast old → IsDone old.progress
    is_done e (inl none) = absurd (let never : Some number ≡ None = sym e ∙ none in cc)
    is_done e (inr f) = done_finished old.progress f

    closing : old.last ≡ Some number → Steady old (record old { progress = p; stage = to })
    closing e = closes_so old (record old { progress = p; stage = to }) old.progress Bye (λ bad. absurd bad) (inl refl) (is_done e) (λ h. h) (ap (λ x. record old { progress = x; stage = to }) s.0 ∙ ap (λ x. record old { stage = x }) (s.1 e))

    by_last : (last : Option ℕ) → old.last ≡ last → Steady old (record old { progress = p; stage = to })
    by_last None e = same_stage old _ (as_it_stood old p to s.0 (s.2 (λ f. let none : None ≡ Some number = sym e ∙ f in cc)))
    by_last (Some other) e = elim (cases_eq other number) [
      | inl same ↦ closing (e ∙ ap (λ n. Some n) same)
      | inr differs ↦ same_stage old _ (as_it_stood old p to s.0 (s.2 (λ f. differs (let both : Some other ≡ Some number = sym e ∙ f in cc))))
    ]

pub sends_so : (old : ConnectionValue) (p : Progress) (to : Stage) (number : ℕ) (verb : Verb) → HasTold old.stage → IsSent old.progress old.stage old.last number verb p to → Steady old (record old { progress = p; stage = to })
sends_so old p to number verbs.Error t s = closes_over old _ t (ap (λ x. record old { progress = x; stage = to }) s.0 ∙ ap (λ x. record old { progress = over old.progress; stage = x }) s.1)
sends_so old p to number verbs.Receipt t s = sends_receipt old p to number s
sends_so old p to number verbs.Connect t s = same_stage old _ (as_it_stood old p to s.0 s.1)
sends_so old p to number verbs.Stomp t s = same_stage old _ (as_it_stood old p to s.0 s.1)
sends_so old p to number verbs.Connected t s = same_stage old _ (as_it_stood old p to s.0 s.1)
sends_so old p to number verbs.Send t s = same_stage old _ (as_it_stood old p to s.0 s.1)
sends_so old p to number verbs.Subscribe t s = same_stage old _ (as_it_stood old p to s.0 s.1)
sends_so old p to number verbs.Unsubscribe t s = same_stage old _ (as_it_stood old p to s.0 s.1)
sends_so old p to number verbs.Ack t s = same_stage old _ (as_it_stood old p to s.0 s.1)
sends_so old p to number verbs.Nack t s = same_stage old _ (as_it_stood old p to s.0 s.1)
sends_so old p to number verbs.Begin t s = same_stage old _ (as_it_stood old p to s.0 s.1)
sends_so old p to number verbs.Commit t s = same_stage old _ (as_it_stood old p to s.0 s.1)
sends_so old p to number verbs.Abort t s = same_stage old _ (as_it_stood old p to s.0 s.1)
sends_so old p to number verbs.Disconnect t s = same_stage old _ (as_it_stood old p to s.0 s.1)
sends_so old p to number verbs.Message t s = same_stage old _ (as_it_stood old p to s.0 s.1)
