-- How a connection at a seat keeps within its session's bytes, and how it is cut off.
use Rattle.std.proofs.Common.{◌≡◌, ◌<◌, ◌≤◌, ◌++◌, ◌∷◌, [], ℕ, List, Option, refl, sym, ap, ◌∙◌, subst, arith, inr, append_assoc, append-nil}
use Rattle.std.specs.Prelude.{max}
use Rattle.std.specs.List.{AllByRecursion}
use Rattle.std.proofs.lemmas.List.{map-append}
use Rattle.command_core.specs.Commands.{CommandValue}
use Rattle.command_core.specs.declared.command.Op.{Op}
use Rattle.command_core.specs.declared.command.Op.TheVariants as ops
use Rattle.command_core.specs.declared.command.End.TheVariants as ends
use Rattle.claim_core.specs.Counts.{Pair}
use Rattle.session_core.specs.declared.session.Act.{Act}
use Rattle.session_core.specs.declared.session.Act.TheVariants.{Do}
use Rattle.clients.specs.Connections.{ConnectionValue, Takes, filled, with_room}
use Rattle.clients.specs.Footprints.{FootprintValue, IsFootprint, IsWithin, charged, footprint, none_standing, settled, spent, standing, total}
use Rattle.clients.specs.Stages.{Executes, IsEnding, given_up}
use Rattle.clients.specs.Acts.{all_of}
use Rattle.clients.specs.declared.footprint.Part.{Part}
use Rattle.clients.specs.declared.progress.Stage.{Stage}
use Rattle.clients.specs.declared.progress.Stage.TheVariants.{Running, GivingUp, Closing, Parting, Leaving, Over}
use Rattle.clients.proofs.Footprints.{charges, within_less, within_more, within_none}
use Rattle.clients.specs.Effects.{Effect, Said, commands_of}
use Rattle.clients.specs.Histories.{IsLoss, Lives, Nothing, Undone, Waits}
use Rattle.clients.specs.SessionBytes.{IsCut, Spends, ops_of}
use Rattle.clients.proofs.ActsDone.{commands_append}
use Rattle.clients.proofs.ConnectionLife.{untold_giving}

-- ── what is counted ──

pub spends_new : (limit : ℕ) (c : ConnectionValue) → c.footprint ≡ none_standing limit → Spends [] c []
spends_new limit c none = record { within = within_none c.footprint.limit; stands = λ e. ap (λ (f : FootprintValue). f.parts) none; counted = omega arith }

pub spends_on : (effects : List Effect) (waiting : List Op) (old new : ConnectionValue) → (Executes new.stage → Executes old.stage) → new.footprint ≡ old.footprint → Spends effects old waiting → Spends effects new waiting
spends_on effects waiting old new executes same s = record {
  within = subst (λ (f : FootprintValue). IsWithin f.limit (ops_of (commands_of effects) ++ waiting)) (sym same) s.within;
  stands = λ e. ap (λ (f : FootprintValue). f.parts) same ∙ s.stands (executes e);
  counted = subst (λ (f : FootprintValue). footprint (ops_of (commands_of effects)) ≤ f.counted) (sym same) s.counted;
}

-- it may have more now, or less
pub spends_room : (room : ℕ) (effects : List Effect) (waiting : List Op) (c : ConnectionValue) → Spends effects c waiting → Spends effects (with_room room c) waiting
spends_room room effects waiting c s = record { within = s.within; stands = s.stands; counted = s.counted }

pub spends_as : (effects others : List Effect) (waiting : List Op) (c : ConnectionValue) → commands_of others ≡ commands_of effects → Spends effects c waiting → Spends others c waiting
spends_as effects others waiting c same s = record {
  within = subst (λ l. IsWithin c.footprint.limit (ops_of l ++ waiting)) (sym same) s.within;
  stands = λ e. s.stands e ∙ ap (λ l. standing (ops_of l ++ waiting)) (sym same);
  counted = subst (λ l. footprint (ops_of l) ≤ c.footprint.counted) (sym same) s.counted;
}

pub spends_taken : (effects : List Effect) (waiting : List Op) (old new : ConnectionValue) (act : Option Act) → Executes old.stage → Takes old new act → Spends effects old waiting → Spends effects new waiting
spends_taken effects waiting old new act executes t s = spends_on effects waiting old new (λ e. executes) (ap (λ (c : ConnectionValue). c.footprint) t.same) s

-- the command that is counted is appended
pub spends_said : (effects : List Effect) (old new : ConnectionValue) (c : CommandValue) (ticket : ℕ) → Executes old.stage → new.footprint ≡ settled old.footprint → Spends effects old (c.op ∷ []) → Spends (effects ++ Said (ticket, c) ∷ []) new []
spends_said effects old new c ticket executes same s =
    let all : ops_of (commands_of (effects ++ Said (ticket, c) ∷ [])) ++ [] ≡ ops_of (commands_of effects) ++ c.op ∷ [] =
    append-nil (ops_of (commands_of (effects ++ Said (ticket, c) ∷ []))) ∙ ap ops_of (commands_append effects (Said (ticket, c) ∷ [])) ∙ map-append (λ (p : Pair). p.1.op) (commands_of effects) ((ticket, c) ∷ []) in record {
      within = subst (λ (f : FootprintValue). IsWithin f.limit (ops_of (commands_of (effects ++ Said (ticket, c) ∷ [])) ++ [])) (sym same) (subst (λ l. IsWithin old.footprint.limit l) (sym all) s.within);
      stands = λ e. ap (λ (f : FootprintValue). f.parts) same ∙ s.stands executes ∙ ap standing (sym all);
      counted =
          let now : footprint (ops_of (commands_of (effects ++ Said (ticket, c) ∷ []))) ≡ total old.footprint.parts =
          ap footprint (sym (append-nil (ops_of (commands_of (effects ++ Said (ticket, c) ∷ [])))) ∙ all) ∙ ap total (sym (s.stands executes)) in
          let is : new.footprint.counted ≡ total old.footprint.parts = ap (λ (f : FootprintValue). f.counted) same in
          omega (arith, now, is);
    }

-- a command is counted
pub spends_charged : (effects : List Effect) (old new : ConnectionValue) (op : Op) → Executes old.stage → total (charged old.footprint.parts op) ≤ old.footprint.limit → new.footprint ≡ spent old.footprint op → Spends effects old [] → Spends effects new (op ∷ [])
spends_charged effects old new op executes fits same s =
    let all : List Op = ops_of (commands_of effects) in
    let stands : old.footprint.parts ≡ standing all = s.stands executes ∙ ap standing (append-nil all) in
    let more : IsWithin old.footprint.limit (all ++ op ∷ []) =
    within_more old.footprint.limit all op (subst (λ l. IsWithin old.footprint.limit l) (append-nil all) s.within) (subst (λ (parts : List Part). total (charged parts op) ≤ old.footprint.limit) stands fits) in record {
      within = subst (λ (f : FootprintValue). IsWithin f.limit (all ++ op ∷ [])) (sym same) more;
      stands = λ e. ap (λ (f : FootprintValue). f.parts) same ∙ ap (λ parts. charged parts op) stands ∙ sym (charges all op);
      counted =
          let is : new.footprint.counted ≡ max old.footprint.counted (total (charged old.footprint.parts op)) = ap (λ (f : FootprintValue). f.counted) same in
          omega (arith, is, s.counted);
    }

-- it is cut off
pub spends_filled : (effects : List Effect) (old new : ConnectionValue) → Executes old.stage → new ≡ filled old → Spends effects old [] → Spends effects new []
spends_filled effects old new executes same s =
    subst (λ c. Spends effects c []) (sym same) record { within = s.within; stands = λ e. s.stands executes; counted = s.counted }

-- what waited is dropped, and nothing more is appended
pub spends_no_more : (effects : List Effect) (waiting : List Op) (old new : ConnectionValue) → (Executes new.stage → ⊥) → new.footprint ≡ old.footprint → Spends effects old waiting → Spends effects new []
spends_no_more effects waiting old new over same s =
    let all : List Op = ops_of (commands_of effects) in record {
      within = subst (λ (f : FootprintValue). IsWithin f.limit (all ++ [])) (sym same)
          (subst (λ l. IsWithin old.footprint.limit l) (sym (append-nil all)) (within_less old.footprint.limit all waiting s.within));
      stands = λ e. absurd (over e);
      counted = subst (λ (f : FootprintValue). footprint all ≤ f.counted) (sym same) s.counted;
    }

-- ── it is cut off ──

not_given_up : (stage : Stage) → Executes stage → given_up stage ≡ Running → ⊥
not_given_up Running e r = cc
not_given_up GivingUp e r = cc
not_given_up Leaving e r = cc
not_given_up (Closing ended) e r = e
not_given_up (Parting ended) e r = e
not_given_up (Over ended) e r = e

not_ending : (stage : Stage) → Executes stage → IsEnding (given_up stage) → ⊥
not_ending Running e i = i
not_ending GivingUp e i = i
not_ending Leaving e i = i
not_ending (Closing ended) e i = e
not_ending (Parting ended) e i = e
not_ending (Over ended) e i = e

head_of : (a b : Act) (xs ys : List Act) → a ∷ xs ≡ b ∷ ys → a ≡ b
head_of a b xs ys e = cc

tail_of : (a b : Act) (xs ys : List Act) → a ∷ xs ≡ b ∷ ys → xs ≡ ys
tail_of a b xs ys e = cc

-- an act that is no loss stands among those that were asked for
stands_in : (asked losses done acts : List Act) (act : Act) → AllByRecursion IsLoss losses → (IsLoss act → ⊥) → asked ++ losses ≡ done ++ (act ∷ acts) → (rest : List Act) × (asked ≡ done ++ (act ∷ rest))
stands_in [] losses [] acts act all none e = absurd (none (subst (AllByRecursion IsLoss) e all).0)
stands_in [] losses (d ∷ done) acts act all none e = absurd (among losses (d ∷ done) all e)
  where
    among : (losses done : List Act) → AllByRecursion IsLoss losses → losses ≡ done ++ (act ∷ acts) → ⊥
    among losses [] all e = none (subst (AllByRecursion IsLoss) e all).0
    among losses (d ∷ done) all e = among (done ++ (act ∷ acts)) done (subst (AllByRecursion IsLoss) e all).1 refl
stands_in (a ∷ asked) losses [] acts act all none e = (asked, ap (λ x. x ∷ asked) (head_of a act (asked ++ losses) acts e))
stands_in (a ∷ asked) losses (d ∷ done) acts act all none e =
    let rest = stands_in asked losses done acts act all none (tail_of a d (asked ++ losses) (done ++ (act ∷ acts)) e) in
    (rest.0, ap (λ x. x ∷ asked) (head_of a d (asked ++ losses) (done ++ (act ∷ acts)) e) ∙ ap (λ l. d ∷ l) rest.1)

op_in : (op : Op) (receipt : Option (List ℕ)) → IsLoss (Do op receipt) → op ≡ ops.End ends.Lost
op_in op receipt e = cc

-- the session's end passes nothing
no_loss : (room : ℕ) (all : List Op) (op : Op) (receipt : Option (List ℕ)) → footprint all ≤ room → room < footprint (all ++ op ∷ []) → IsLoss (Do op receipt) → ⊥
no_loss room all op receipt fits passes loss =
    let same : footprint (all ++ ops.End ends.Lost ∷ []) ≡ footprint all = ap total (charges all (ops.End ends.Lost)) in
    let more : room < footprint (all ++ ops.End ends.Lost ∷ []) = subst (λ o. room < footprint (all ++ o ∷ [])) (op_in op receipt loss) passes in
    absurd (omega (arith, same, more, fits))

pub cuts_it : (bytes : List ℕ) (effects : List Effect) (old new : ConnectionValue) (c : CommandValue) → Executes old.stage → new ≡ filled old
    → footprint (ops_of (commands_of effects)) ≤ old.footprint.room → old.footprint.room < footprint (ops_of (commands_of effects) ++ c.op ∷ []) → Lives bytes effects old (Waits c) → Lives bytes effects new Nothing
cuts_it bytes effects old new c executes is fits passes l =
    let act : Act = Do c.op c.receipt in
    let split : l.asked_for ++ l.losses ≡ l.done ++ (act ∷ (l.left ++ all_of old.acts)) = l.split in
    let rest = stands_in l.asked_for l.losses l.done (l.left ++ all_of old.acts) act l.are_losses (no_loss old.footprint.room (ops_of (commands_of effects)) c.op c.receipt fits passes) split in
    subst (λ x. Lives bytes effects x Nothing) (sym is) record {
      heard = l.heard;
      unheard = l.unheard;
      whole = l.whole;
      all = l.all;
      session = l.session;
      hears = l.hears;
      asked_for = l.done;
      cut = act ∷ (rest.0 ++ l.cut);
      halves = l.halves ∙ ap (λ a. a ++ l.cut) rest.1 ∙ append_assoc l.done (act ∷ rest.0) l.cut;
      losses = [];
      are_losses = tt;
      done = l.done;
      left = [];
      split = refl;
      cut_for = inr record { op = c.op; receipt = c.receipt; others = rest.0 ++ l.cut; first = refl; more = []; before = sym (append-nil l.done); passes = passes };
      reached = l.reached;
      does = l.does;
      none_untold = λ t. l.none_untold (untold_giving old.stage t);
      none_unheard = λ r. absurd (not_given_up old.stage executes r);
      none_lost = λ r. refl;
      none_cut = λ r. absurd (not_given_up old.stage executes r);
      phase = λ r. absurd (not_given_up old.stage executes r);
      rest = λ r on. absurd (not_given_up old.stage executes r);
      none_left = λ e. refl;
      stands = λ e. l.stands executes;
      next = λ e. tt;
      stood = l.stood;
      last = l.last;
      ended = λ e. absurd (not_ending old.stage executes e);
    }

-- by what is counted
pub cut_by_count : (effects : List Effect) (old : ConnectionValue) (op : Op) → Executes old.stage → IsFootprint old.footprint → Spends effects old [] → old.footprint.room < total (charged old.footprint.parts op)
    → (footprint (ops_of (commands_of effects)) ≤ old.footprint.room) × (old.footprint.room < footprint (ops_of (commands_of effects) ++ op ∷ []))
cut_by_count effects old op executes form s passes =
    let all : List Op = ops_of (commands_of effects) in
    let stands : old.footprint.parts ≡ standing all = s.stands executes ∙ ap standing (append-nil all) in (
      omega (arith, s.counted, form.fits),
      subst (λ n. old.footprint.room < n) (ap (λ (parts : List Part). total (charged parts op)) stands ∙ ap total (sym (charges all op))) passes,
    )

-- ── what is counted has changed, and nothing else ──

pub counts_it : (bytes : List ℕ) (effects : List Effect) (old : ConnectionValue) (f : FootprintValue) (undone : Undone) → f.cut ≡ old.footprint.cut → Lives bytes effects old undone → Lives bytes effects (record old { footprint = f }) undone
counts_it bytes effects old f undone same l = record {
  heard = l.heard;
  unheard = l.unheard;
  whole = l.whole;
  all = l.all;
  session = l.session;
  hears = l.hears;
  asked_for = l.asked_for;
  cut = l.cut;
  halves = l.halves;
  losses = l.losses;
  are_losses = l.are_losses;
  done = l.done;
  left = l.left;
  split = l.split;
  cut_for = subst (λ why. IsCut why l.asked_for l.cut l.done (commands_of effects)) (sym same) l.cut_for;
  reached = l.reached;
  does = l.does;
  none_untold = l.none_untold;
  none_unheard = l.none_unheard;
  none_lost = l.none_lost;
  none_cut = l.none_cut;
  phase = l.phase;
  rest = l.rest;
  none_left = l.none_left;
  stands = l.stands;
  next = l.next;
  stood = l.stood;
  last = l.last;
  ended = l.ended;
}
