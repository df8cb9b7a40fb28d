-- What one client alone was served through a seat.
use Rattle.std.proofs.Common.{◌≡◌, ◌++◌, ◌∷◌, [], ℕ, List, Option, Some, None, refl, sym, ap, ◌∙◌, subst, inl, inr, append-nil, arith}
use Rattle.std.specs.List.{AllByRecursion}
use Rattle.claim_core.specs.Counts.{Pair}
use Rattle.claim_core.specs.Seats.{SessionSeatValue}
use Rattle.clients.specs.Connections.{ConnectionValue}
use Rattle.clients.specs.Progress.{number_in}
use Rattle.clients.specs.declared.turned.Ended as connections
use Rattle.clients.specs.declared.turned.Ended.TheVariants as ends
use Rattle.clients.specs.declared.progress.Progress.{Progress}
use Rattle.clients.specs.declared.progress.Progress.TheVariants.{New}
use Rattle.clients.specs.declared.progress.Stage.TheVariants.{Over}
use Rattle.clients.specs.TurnAnswers.{Awaits, GoesOnYet}
use Rattle.clients.specs.declared.turned.Next.{Next}
use Rattle.clients.specs.declared.turned.Next.TheVariants as nexts
use Rattle.clients.specs.Continues.{Continues}
use Rattle.clients.specs.Conversations.{IsConversation, IsPart, Speaks, number_of, part_of}
use Rattle.clients.specs.Effects.{commands_of}
use Rattle.clients.specs.Halting.{HasHalted}
use Rattle.clients.specs.Clients.{IsNew, IsOwn, Message, number_at}
use Rattle.clients.specs.ClientSteps.{GoesOn}
use Rattle.clients.specs.declared.client.Client.{Client}
use Rattle.clients.proofs.Lists.{all_weaker, cond_same}
use Rattle.clients.proofs.ClientProgress.{lives_anew}
use Rattle.engine_core.specs.Serving.{IsEndAt, Serves, end_of}
use Rattle.engine_core.specs.declared.working.Ended.{Ended}
use Rattle.engine_core.specs.declared.working.Ended.TheVariants.{Stopped}

-- ── how it ended ──

pub over : {B : Type 0} (client : Client B) (how : connections.Ended) → client.stage ≡ Over how → IsEndAt (end_of how) client
over client ends.Bye e = e
over client ends.Lost e = e
over client ends.Bad e = e
over client ends.Stopped e = e

-- it goes on, unless it is told to be over
pub goes_yet : {B : Type 0} (next : Next) (client : Client B) → ((how : connections.Ended) → next ≡ nexts.Over how → ⊥) → Awaits next client → GoesOnYet client.stage
goes_yet nexts.Go client other a = a
goes_yet nexts.Read client other a = subst GoesOnYet (sym a.0) tt
goes_yet nexts.Write client other a = subst GoesOnYet (sym a) tt
goes_yet (nexts.Room mark) client other a = a.0
goes_yet (nexts.Mark mark) client other a = subst GoesOnYet (sym a.0) tt
goes_yet nexts.Memory client other a = a
goes_yet nexts.Close client other a = subst GoesOnYet (sym a.1) tt
goes_yet (nexts.Over how) client other a = absurd (other how refl)

-- and has ended as it is told
pub over_as : {B : Type 0} (next : Next) (how : connections.Ended) (client : Client B) (told : Ended) → next ≡ nexts.Over how → told ≡ end_of how → Awaits next client → IsEndAt told client
over_as next how client told is same a = subst (λ e. IsEndAt e client) (sym same) (over client how (subst (λ n. Awaits n client) is a))

pub new_yet : {B : Type 0} (limit : ℕ) (client : Client B) → IsNew limit client → GoesOnYet client.stage
new_yet limit client anew = subst (λ (c : ConnectionValue). GoesOnYet c.stage) (sym anew.connection) tt

-- ── one conversation ──

nobody : (n : ℕ) → IsPart n 0 0 []
nobody n = record { most = omega arith; conversation = inl refl; begun = λ some. absurd (omega arith); opened = λ some. absurd (omega arith) }

all_part : (n : ℕ) (ps : List Pair) → AllByRecursion (λ (p : Pair). number_of p ≡ n) ps → part_of n ps ≡ ps
all_part n [] all = refl
all_part n (p ∷ ps) all = cond_same (number_of p) n (p ∷ part_of n ps) (part_of n ps) all.0 ∙ ap (λ l. p ∷ l) (all_part n ps all.1)

cancel : {X : Type 0} (xs ys zs : List X) → xs ++ ys ≡ xs ++ zs → ys ≡ zs
cancel [] ys zs e = e
cancel (x ∷ xs) ys zs e = cancel xs ys zs (tail e)
  where
    tail : x ∷ (xs ++ ys) ≡ x ∷ (xs ++ zs) → xs ++ ys ≡ xs ++ zs
    tail f = cc

one_number : (o : Option ℕ) (m k : ℕ) → o ≡ Some m → o ≡ Some k → k ≡ m
one_number None m k a b = absurd (cc)
one_number (Some n) m k a b = cc

-- a session's number, or 0 if it has none
abbrev number_or : Option ℕ → ℕ
number_or None = 0
number_or (Some n) = n

conversation_of : (o : Option ℕ) (said : List Pair) → AllByRecursion (λ (p : Pair). o ≡ Some (number_of p)) said → ((n : ℕ) → IsConversation n (part_of n said)) → IsConversation (number_or o) said
conversation_of None [] all each = inl refl
conversation_of None (p ∷ ps) all each = absurd (let e : None ≡ Some (number_of p) = all.0 in cc)
conversation_of (Some n) said all each =
    subst (λ l. IsConversation n l)
    (all_part n said (all_weaker (λ (q : Pair). Some n ≡ Some (number_of q)) (λ (q : Pair). number_of q ≡ n) (λ q own. one_number (Some n) n (number_of q) refl own) said all))
    (each n)

own_at : (o : Option ℕ) (m : Message) → IsOwn o m → IsOwn (Some (number_or o)) m
own_at None (inl frame) own = own
own_at None (inr out) own = absurd (let e : None ≡ Some out.session = own in cc)
own_at (Some n) m own = own

-- what one connection alone says is one conversation
alone : (is : Progress) (old new : SessionSeatValue) → Continues New old is new → (more : List Pair) → new.own ≡ old.own ++ more → IsConversation (number_or (number_in is)) more
alone is old new c more added =
    let anew : Speaks old.own old.own ([] ++ New ∷ []) = record { more = []; whole = sym (append-nil old.own); parts = nobody } in
    let now : Speaks old.own new.own ([] ++ is ∷ []) = c.speaks old.own [] [] anew in
    let same : now.more ≡ more = cancel old.own now.more more (sym now.whole ∙ added) in
    conversation_of (number_in is) more
    (subst (λ l. AllByRecursion (λ (p : Pair). number_in is ≡ Some (number_of p)) l) (cancel old.own c.said more (sym c.added ∙ added)) c.of_it)
    (λ n. subst (λ l. IsConversation n (part_of n l)) same (now.parts n).conversation)

-- ── its life ──

-- a connection that has ended so was stopped
halted : {B : Type 0} (client : Client B) → IsEndAt Stopped client → HasHalted client.stage
halted client e = subst HasHalted (sym e) tt

not_yet : {B : Type 0} (limit : ℕ) (was : Client B) → IsNew limit was → HasHalted was.stage → ⊥
not_yet limit was anew h = subst (λ (c : ConnectionValue). HasHalted c.stage) anew.connection h

pub serves : {B L : Type 0} (sent : L → Option (List (List ℕ))) (received : L → Option (List ℕ)) (was is : Client B) (s t : SessionSeatValue) (l m : L) (ended : Ended) (limit : ℕ)
    → IsNew limit was → GoesOn sent received was s l is t m → IsEndAt ended is → Serves B sent received s l t m ended
serves {B} sent received was is s t l m ended limit anew g ends = record {
  effects = g.effects;
  client = is;
  ends = ends;
  added = g.added;
  number = number_or (number_at is);
  conversation = alone is.progress s t (subst (λ p. Continues p s is.progress t) (ap (λ (c : ConnectionValue). c.progress) anew.connection) g.continues) (commands_of g.effects) g.added;
  messages = g.served.passes.messages;
  told = g.served.passes.told;
  own = all_weaker (IsOwn (number_at is)) (IsOwn (Some (number_or (number_at is)))) (own_at (number_at is)) g.served.passes.messages g.served.passes.own;
  frames_are = g.served.passes.frames_are;
  got = g.heeds.got;
  read = g.heeds.read;
  lives = lives_anew limit was is g.heeds.got g.effects anew g.heeds.lives;
  stopped = λ e. g.halts (λ h. absurd (not_yet limit was anew h)) (halted is (subst (λ how. IsEndAt how is) e ends));
}
