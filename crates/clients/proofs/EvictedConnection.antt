-- What an evicted connection keeps.
use Rattle.std.proofs.Common.{◌≡◌, ◌++◌, ◌∷◌, [], ℕ, List, Option, None, append_assoc, append-nil, ap, inl, inr, refl, subst, sym, ◌∙◌, ◌⊎◌}
use Rattle.std.specs.List.{AllByRecursion}
use Rattle.command_core.specs.declared.command.Op.{Op}
use Rattle.session_core.specs.declared.session.Act.{Act}
use Rattle.clients.specs.Connections.{ConnectionValue, connection_of, evicted, with_lost}
use Rattle.clients.specs.Stages.{Executes, lost}
use Rattle.clients.specs.Acts.{all_of, tasks}
use Rattle.clients.specs.declared.footprint.Cut.TheVariants as cuts
use Rattle.clients.specs.declared.turned.Ended.TheVariants.{Bye, Bad, Lost, Stopped}
use Rattle.clients.specs.declared.progress.Stage.{Stage}
use Rattle.clients.specs.declared.progress.Stage.TheVariants.{Running, GivingUp, Closing, Parting, Leaving, Over}
use Rattle.clients.specs.Effects.{Effect}
use Rattle.clients.specs.Histories.{Heeds, IsLoss, Lives, LivesAt, Undone, act_of, undone_of}
use Rattle.clients.specs.SessionBytes.{Spends, waiting_of}
use Rattle.clients.specs.declared.client.Client.{Client}
use Rattle.clients.proofs.ClientProgress.{by_deeds}
use Rattle.clients.proofs.ConnectionLife.{loses, restays}

pub lost_not_running : (stage : Stage) → lost stage ≡ Running → ⊥
lost_not_running Running e = cc
lost_not_running GivingUp e = cc
lost_not_running Leaving e = cc
lost_not_running (Closing Bye) e = cc
lost_not_running (Closing Bad) e = cc
lost_not_running (Closing Lost) e = cc
lost_not_running (Closing Stopped) e = cc
lost_not_running (Parting ended) e = cc
lost_not_running (Over ended) e = cc

lost_executes : (stage : Stage) → Executes (lost stage) → Executes stage
lost_executes Running e = tt
lost_executes GivingUp e = tt
lost_executes Leaving e = tt
lost_executes (Closing Bye) e = e
lost_executes (Closing Bad) e = e
lost_executes (Closing Lost) e = e
lost_executes (Closing Stopped) e = e
lost_executes (Parting ended) e = e
lost_executes (Over ended) e = e

-- ── what it does then of what was asked for ──

-- of two ways to cut one list one is the shorter in front
splits : {X : Type 0} (xs ys zs ws : List X) → xs ++ ys ≡ zs ++ ws → ((m : List X) × (xs ≡ zs ++ m) × (ws ≡ m ++ ys)) ⊎ ((m : List X) × (zs ≡ xs ++ m) × (ys ≡ m ++ ws))
splits xs ys [] ws e = inl (xs, refl, sym e)
splits [] ys (z ∷ zs) ws e = inr (z ∷ zs, refl, e)
splits (x ∷ xs) ys (z ∷ zs) ws e = elim (splits xs ys zs ws (tail e)) [
  | inl l ↦ inl (l.0, ap (λ a. x ∷ a) l.1 ∙ ap (λ a. a ∷ (zs ++ l.0)) (head e), l.2)
  | inr r ↦ inr (r.0, ap (λ a. z ∷ a) r.1 ∙ ap (λ a. a ∷ (xs ++ r.0)) (sym (head e)), r.2)
]
  where
    tail : x ∷ (xs ++ ys) ≡ z ∷ (zs ++ ws) → xs ++ ys ≡ zs ++ ws
    tail f = cc

    head : x ∷ (xs ++ ys) ≡ z ∷ (zs ++ ws) → x ≡ z
    head f = cc

all_front : {X : Type 0} (P : X → Type 0) (xs ys : List X) → AllByRecursion P (xs ++ ys) → AllByRecursion P xs
all_front P [] ys all = tt
all_front P (x ∷ xs) ys all = (all.0, all_front P xs ys all.1)

-- what waits is dropped
abbrev dropped : ConnectionValue → ConnectionValue
dropped c = record c { acts = tasks None []; footprint = record c.footprint { cut = cuts.Evicted } }

drops_so : (bytes : List ℕ) (effects : List Effect) (c : ConnectionValue) (undone : Undone) (l : Lives bytes effects c undone) (asked cut losses : List Act) → (c.stage ≡ Running → ⊥) → l.all ≡ asked ++ cut → AllByRecursion IsLoss losses
    → asked ++ losses ≡ l.done ++ (act_of undone ++ l.left) → Lives bytes effects (dropped c) undone
drops_so bytes effects c undone l asked cut losses over halves are_losses split = record {
  heard = l.heard;
  unheard = l.unheard;
  whole = l.whole;
  all = l.all;
  session = l.session;
  hears = l.hears;
  asked_for = asked;
  cut = cut;
  halves = halves;
  losses = losses;
  are_losses = are_losses;
  done = l.done;
  left = l.left;
  split = split ∙ ap (λ a. l.done ++ (act_of undone ++ a)) (sym (append-nil l.left));
  cut_for = inr tt;
  reached = l.reached;
  does = l.does;
  none_untold = l.none_untold;
  none_unheard = λ r. absurd (over r);
  none_lost = λ r. absurd (over r);
  none_cut = λ r. absurd (over r);
  phase = λ r. absurd (over r);
  rest = λ r on. absurd (over r);
  none_left = l.none_left;
  stands = l.stands;
  next = l.next;
  stood = l.stood;
  last = l.last;
  ended = l.ended;
}

drops_it : (bytes : List ℕ) (effects : List Effect) (c : ConnectionValue) (undone : Undone) → (c.stage ≡ Running → ⊥) → Lives bytes effects c undone → Lives bytes effects (dropped c) undone
drops_it bytes effects c undone over l =
    let front : List Act = l.done ++ (act_of undone ++ l.left) in
    let all : l.asked_for ++ l.losses ≡ front ++ all_of c.acts =
    l.split ∙ ap (λ a. l.done ++ a) (sym (append_assoc (act_of undone) l.left (all_of c.acts))) ∙ sym (append_assoc l.done (act_of undone ++ l.left) (all_of c.acts)) in
    elim (splits l.asked_for l.losses front (all_of c.acts) all) [
      | inl m ↦ drops_so bytes effects c undone l front (m.0 ++ l.cut) [] over (l.halves ∙ ap (λ a. a ++ l.cut) m.1 ∙ append_assoc front m.0 l.cut) tt (append-nil front)
      | inr m ↦ drops_so bytes effects c undone l l.asked_for l.cut m.0 over l.halves (all_front IsLoss m.0 (all_of c.acts) (subst (AllByRecursion IsLoss) m.2 l.are_losses)) (sym m.1)
    ]

spends_evicted : (effects : List Effect) (waiting : List Op) (c : ConnectionValue) → Spends effects c waiting → Spends effects (evicted c) waiting
spends_evicted effects waiting c s = record { within = s.within; stands = λ e. s.stands (lost_executes c.stage e); counted = s.counted }

evicts_it : (bytes : List ℕ) (effects : List Effect) (c : ConnectionValue) (undone : Undone) → Lives bytes effects c undone → Lives bytes effects (evicted c) undone
evicts_it bytes effects c undone l = drops_it bytes effects (with_lost c) undone (lost_not_running c.stage) (restays bytes effects c (with_lost c) undone (loses c (with_lost c) refl).restaged l)

pub evicts : {B L : Type 0} (received : L → Option (List ℕ)) (was is : Client B) (from to : L) → received to ≡ received from → (connection_of is) ≡ evicted (connection_of was) → is.waiting ≡ was.waiting → Heeds received was from is to []
evicts received was is from to unread same waits = by_deeds received was is from to [] unread
    (λ bytes before x. subst (λ d. LivesAt bytes d is) (sym (append-nil before))
    (subst (λ p. Lives bytes before (connection_of is) (undone_of p) × Spends before (connection_of is) (waiting_of p)) (sym waits)
    (subst (λ c. Lives bytes before c (undone_of was.waiting) × Spends before c (waiting_of was.waiting)) (sym same)
    (evicts_it bytes before (connection_of was) (undone_of was.waiting) x.0, spends_evicted before (waiting_of was.waiting) (connection_of was) x.1))))
