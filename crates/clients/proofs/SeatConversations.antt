-- How the conversations of a seat go on.
use Rattle.std.proofs.Common.{◌≡◌, ◌≢◌, ℕ, ◌+◌, ◌<◌, ◌≤◌, List, [], ◌∷◌, ◌++◌, Some, None, refl, sym, ap, ◌∙◌, subst, inl, inr, append_assoc, append-nil, arith}
use Rattle.std.specs.Prelude.{◌==◌}
use Rattle.std.specs.List.{sum_by}
use Rattle.std.proofs.lemmas.Bool.{cases_eq, cases_lt}
use Rattle.std.proofs.lemmas.List.Elements.{filter-append}
use Rattle.std.proofs.lemmas.List.Sums.{sum_by-append, sum_by-cons, sum_by-le-sum_by}
use Rattle.command_core.specs.Commands.{CommandValue}
use Rattle.claim_core.specs.Counts.{Pair}
use Rattle.claim_core.specs.Seats.{SessionSeatValue, with_seen}
use Rattle.claim_core.specs.Appends.{Appends, Refuses}
use Rattle.claim_core.specs.declared.refusals.Refused.{Refused}
use Rattle.claim_core.specs.declared.refusals.Refused.TheVariants.{Stopped, Exhausted, Busy}
use Rattle.clients.specs.Progress.{IsNext, after, number_in, over, role_of}
use Rattle.clients.specs.declared.progress.Progress.{Progress}
use Rattle.clients.specs.declared.progress.Progress.TheVariants.{New, Open, Ended, Gone}
use Rattle.clients.specs.declared.progress.Role.{Role}
use Rattle.clients.specs.declared.progress.Role.TheVariants.{Opens, Talks, Ends}
use Rattle.clients.specs.Continues.{Continues}
use Rattle.clients.specs.Conversations.{IsTalk, IsSession, IsOpened, IsPart, Speaks, StaysOrEnds, holds, number_of, numbered, opens, part_of}
use Rattle.clients.proofs.Lists.{AreBelow, all_append, all_filter, all_right, all_weaker, below, cond_other, cond_same}

-- what one more command makes of the part of its session, and of another
part_same : (n : ℕ) (more : List Pair) (p : Pair) → number_of p ≡ n → part_of n (more ++ p ∷ []) ≡ part_of n more ++ p ∷ []
part_same n more p e = filter-append (λ q. number_of q == n) more (p ∷ []) ∙ ap (λ l. part_of n more ++ l) (cond_same (number_of p) n (p ∷ []) [] e)

part_other : (n : ℕ) (more : List Pair) (p : Pair) → (number_of p ≡ n → ⊥) → part_of n (more ++ p ∷ []) ≡ part_of n more
part_other n more p e = filter-append (λ q. number_of q == n) more (p ∷ []) ∙ ap (λ l. part_of n more ++ l) (cond_other (number_of p) n (p ∷ []) [] e) ∙ append-nil (part_of n more)

-- a count over conversations, one of which stands between others
pub beside : (f : Progress → ℕ) (left right : List Progress) (x : Progress) → sum_by f (left ++ x ∷ right) ≡ f x + (sum_by f left + sum_by f right)
beside f left right x = omega (arith, sum_by-append f left (x ∷ right), sum_by-cons f x right)

pub opens_le : (n : ℕ) (p : Progress) → opens n p ≤ holds n p
opens_le n New = omega arith
opens_le n (Open m) = omega arith
opens_le n (Ended m) = omega arith
opens_le n Gone = omega arith

-- ── what belongs to one session ──

-- a session whose tickets are all below t is not the session t
never : (t : ℕ) (ps : List Pair) → AreBelow t ps → IsSession t ps → ⊥
never t ps below s =
    let all : AreBelow t ((t, s.opening) ∷ (s.talk ++ s.farewell)) = subst (AreBelow t) s.whole below in
    let itself : t < t = all.0 in
    absurd (omega arith)

of_opened : (n : ℕ) (ps : List Pair) → IsOpened n ps → IsSession n ps
of_opened n ps o = record {
  opening = o.opening;
  talk = o.talk;
  farewell = [];
  whole = o.whole ∙ ap (λ l. (n, o.opening) ∷ l) (sym (append-nil o.talk));
  begins = o.begins;
  talks = o.talks;
  ends = tt;
}

begins_part : (t : ℕ) (c : CommandValue) (ps : List Pair) (h o : ℕ) → role_of c.op ≡ Opens → AreBelow t ps → o ≤ h → IsPart t (0 + h) (0 + o) ps → IsPart t (1 + h) (1 + o) (ps ++ (t, c) ∷ [])
begins_part t c ps h o role below oh part =
    let nothing : ps ≡ [] = elim part.conversation [ inl e ↦ e | inr s ↦ absurd (never t ps below s) ] in
    let nobody : h < 1 = elim (cases_lt h 1) [ inl less ↦ less | inr least ↦ absurd (never t ps below (part.begun (omega arith))) ] in
    let opened : IsOpened t (ps ++ (t, c) ∷ []) = record { opening = c; talk = []; whole = ap (λ l. l ++ (t, c) ∷ []) nothing; begins = role; talks = tt } in
    record {
      most = omega arith;
      conversation = inr (of_opened t _ opened);
      begun = λ _. of_opened t _ opened;
      opened = λ _. opened;
    }

talks_part : (m t : ℕ) (c : CommandValue) (ps : List Pair) (h o : ℕ) → IsTalk m (t, c) → IsPart m (1 + h) (1 + o) ps → IsPart m (1 + h) (1 + o) (ps ++ (t, c) ∷ [])
talks_part m t c ps h o talk part =
    let was : IsOpened m ps = part.opened (omega arith) in
    let opened : IsOpened m (ps ++ (t, c) ∷ []) = record {
      opening = was.opening;
      talk = was.talk ++ (t, c) ∷ [];
      whole = ap (λ l. l ++ (t, c) ∷ []) was.whole;
      begins = was.begins;
      talks = all_append (IsTalk m) was.talk ((t, c) ∷ []) was.talks (talk, tt);
    } in
    record {
      most = part.most;
      conversation = inr (of_opened m _ opened);
      begun = λ _. of_opened m _ opened;
      opened = λ _. opened;
    }

ends_part : (m t : ℕ) (c : CommandValue) (ps : List Pair) (h o : ℕ) → c.session ≡ m → role_of c.op ≡ Ends → o ≤ h → IsPart m (1 + h) (1 + o) ps → IsPart m (1 + h) (0 + o) (ps ++ (t, c) ∷ [])
ends_part m t c ps h o session role oh part =
    let was : IsOpened m ps = part.opened (omega arith) in
    let alone : 1 + h ≤ 1 = part.most in
    let ended : IsSession m (ps ++ (t, c) ∷ []) = record {
      opening = was.opening;
      talk = was.talk;
      farewell = (t, c) ∷ [];
      whole = ap (λ l. l ++ (t, c) ∷ []) was.whole;
      begins = was.begins;
      talks = was.talks;
      ends = (session, role);
    } in
    record {
      most = part.most;
      conversation = inr ended;
      begun = λ _. ended;
      opened = λ some. absurd (omega arith);
    }

as_part : (n h h' o o' : ℕ) (ps qs : List Pair) → h ≡ h' → o ≡ o' → ps ≡ qs → IsPart n h o ps → IsPart n h' o' qs
as_part n h h' o o' ps qs a b c part = subst (λ k. IsPart n k o' qs) a (subst (λ k. IsPart n h k qs) b (subst (λ l. IsPart n h o l) c part))

-- ── one command more ──

-- A conversation of the session m goes on with one command of that session, from one state to the next. Of another session
-- neither says anything, and of its own session they count so many.
record Moves (was is : Progress) (m : ℕ) (p : Pair) : Type 0 where
  of_it : number_of p ≡ m
  number : number_in is ≡ Some m
  stays : (n : ℕ) → number_in was ≡ Some n → number_in is ≡ Some n
  held : (n : ℕ) → (m ≡ n → ⊥) → holds n is ≡ holds n was
  going : (n : ℕ) → (m ≡ n → ⊥) → opens n is ≡ opens n was
  part : (ps : List Pair) (h o : ℕ) → AreBelow p.0 ps → o ≤ h → IsPart m (holds m was + h) (opens m was + o) ps → IsPart m (holds m is + h) (opens m is + o) (ps ++ p ∷ [])

spoken_part : (was is : Progress) (m : ℕ) (p : Pair) (more : List Pair) (left right : List Progress) → Moves was is m p → AreBelow p.0 more
    → ((n : ℕ) → IsPart n (sum_by (holds n) (left ++ was ∷ right)) (sum_by (opens n) (left ++ was ∷ right)) (part_of n more))
    → (n : ℕ) → IsPart n (sum_by (holds n) (left ++ is ∷ right)) (sum_by (opens n) (left ++ is ∷ right)) (part_of n (more ++ p ∷ []))
spoken_part was is m p more left right moves below parts n =
    elim (cases_eq m n) [
      | inl same ↦ subst At same own
      | inr other ↦ as_part n _ _ _ _ _ _
          (beside (holds n) left right was ∙ ap (λ k. k + (sum_by (holds n) left + sum_by (holds n) right)) (sym (moves.held n other)) ∙ sym (beside (holds n) left right is))
          (beside (opens n) left right was ∙ ap (λ k. k + (sum_by (opens n) left + sum_by (opens n) right)) (sym (moves.going n other)) ∙ sym (beside (opens n) left right is))
          (sym (part_other n more p (λ e. other (sym moves.of_it ∙ e))))
          (parts n)
    ]
  where
    At : ℕ → Type 0
    At k = IsPart k (sum_by (holds k) (left ++ is ∷ right)) (sum_by (opens k) (left ++ is ∷ right)) (part_of k (more ++ p ∷ []))

    less : sum_by (opens m) left + sum_by (opens m) right ≤ sum_by (holds m) left + sum_by (holds m) right
    less = omega (arith, sum_by-le-sum_by (opens m) (holds m) left (opens_le m), sum_by-le-sum_by (opens m) (holds m) right (opens_le m))

    own : IsPart m (sum_by (holds m) (left ++ is ∷ right)) (sum_by (opens m) (left ++ is ∷ right)) (part_of m (more ++ p ∷ []))
    own = as_part m _ _ _ _ _ _ (sym (beside (holds m) left right is)) (sym (beside (opens m) left right is)) (sym (part_same m more p moves.of_it))
        (moves.part (part_of m more) (sum_by (holds m) left + sum_by (holds m) right) (sum_by (opens m) left + sum_by (opens m) right)
        (all_filter (λ (q : Pair). q.0 < p.0) (λ q. number_of q == m) more below) less
        (as_part m _ _ _ _ _ _ (beside (holds m) left right was) (beside (opens m) left right was) refl (parts m)))

spoken : (was is : Progress) (m window : ℕ) (p : Pair) (old new : SessionSeatValue) → Moves was is m p → Appends window old new p.0 p.1 → Continues was old is new
spoken was is m window p old new moves a = record {
  ring = ap (λ (s : SessionSeatValue). s.ring) a.added;
  number = ap (λ (s : SessionSeatValue). s.number) a.added;
  stays = moves.stays;
  said = p ∷ [];
  added = ap (λ (s : SessionSeatValue). s.own) a.added;
  of_it = (moves.number ∙ ap (λ k. Some k) (sym moves.of_it), tt);
  speaks = λ before left right s. record {
    more = s.more ++ p ∷ [];
    whole = ap (λ (x : SessionSeatValue). x.own) a.added ∙ ap (λ l. l ++ p ∷ []) s.whole ∙ append_assoc before s.more (p ∷ []);
    parts = spoken_part was is m p s.more left right moves (all_right (λ (q : Pair). q.0 < p.0) before s.more (subst (AreBelow p.0) s.whole (below p.0 old.own a.last))) s.parts;
  };
}

one : (m : ℕ) → holds m (Open m) ≡ 1
one m = cond_same m m 1 0 refl

number_by : (role : Role) (t : ℕ) (c : CommandValue) → role_of c.op ≡ role → number_of (t, c) ≡ numbered role t c.session
number_by role t c e = ap (λ r. numbered r t c.session) e

begins : (t : ℕ) (c : CommandValue) → role_of c.op ≡ Opens → Moves New (Open t) t (t, c)
begins t c role = record {
  of_it = number_by Opens t c role;
  number = refl;
  stays = λ n e. absurd (let never_some : None ≡ Some n = e in cc);
  held = λ n other. cond_other t n 1 0 other;
  going = λ n other. cond_other t n 1 0 other;
  part = λ ps h o below oh part. as_part t _ _ _ _ _ _ (ap (λ k. k + h) (sym (one t))) (ap (λ k. k + o) (sym (one t))) refl (begins_part t c ps h o role below oh part);
}

talks : (m t : ℕ) (c : CommandValue) → c.session ≡ m → role_of c.op ≡ Talks → Moves (Open m) (Open m) m (t, c)
talks m t c session role = record {
  of_it = number_by Talks t c role ∙ session;
  number = refl;
  stays = λ n e. e;
  held = λ n other. refl;
  going = λ n other. refl;
  part = λ ps h o below oh part. as_part m _ _ _ _ _ _ (ap (λ k. k + h) (sym (one m))) (ap (λ k. k + o) (sym (one m))) refl
      (talks_part m t c ps h o (session, role) (as_part m _ _ _ _ _ _ (ap (λ k. k + h) (one m)) (ap (λ k. k + o) (one m)) refl part));
}

ends : (m t : ℕ) (c : CommandValue) → c.session ≡ m → role_of c.op ≡ Ends → Moves (Open m) (Ended m) m (t, c)
ends m t c session role = record {
  of_it = number_by Ends t c role ∙ session;
  number = refl;
  stays = λ n e. e;
  held = λ n other. refl;
  going = λ n other. sym (cond_other m n 1 0 other);
  part = λ ps h o below oh part. as_part m _ _ _ _ _ _ (ap (λ k. k + h) (sym (one m))) refl refl
      (ends_part m t c ps h o session role oh (as_part m _ _ _ _ _ _ (ap (λ k. k + h) (one m)) (ap (λ k. k + o) (one m)) refl part));
}

no_talk : Talks ≡ Opens → ⊥
no_talk e = cc

no_end : Ends ≡ Opens → ⊥
no_end e = cc

said_new : (role : Role) (ticket window : ℕ) (c : CommandValue) (old new : SessionSeatValue) → role_of c.op ≡ role → role ≡ Opens → Appends window old new ticket c → Continues New old (after New role ticket) new
said_new Opens ticket window c old new role is a = spoken New (Open ticket) ticket window (ticket, c) old new (begins ticket c role) a
said_new Talks ticket window c old new role is a = absurd (no_talk is)
said_new Ends ticket window c old new role is a = absurd (no_end is)

said_open : (m : ℕ) (role : Role) (ticket window : ℕ) (c : CommandValue) (old new : SessionSeatValue) → role_of c.op ≡ role → c.session ≡ m → role ≢ Opens → Appends window old new ticket c
    → Continues (Open m) old (after (Open m) role ticket) new
said_open m Opens ticket window c old new role session other a = absurd (other refl)
said_open m Talks ticket window c old new role session other a = spoken (Open m) (Open m) m window (ticket, c) old new (talks m ticket c session role) a
said_open m Ends ticket window c old new role session other a = spoken (Open m) (Ended m) m window (ticket, c) old new (ends m ticket c session role) a

-- a connection's next command goes on with its conversation, beside all others
pub said : (p : Progress) (ticket window : ℕ) (c : CommandValue) (old new : SessionSeatValue) → IsNext p c → Appends window old new ticket c → Continues p old (after p (role_of c.op) ticket) new
said New ticket window c old new next a = said_new (role_of c.op) ticket window c old new refl next a
said (Open m) ticket window c old new next a = said_open m (role_of c.op) ticket window c old new refl next.0 next.1 a
said (Ended m) ticket window c old new next a = absurd next
said Gone ticket window c old new next a = absurd next

-- ── none more ──

pub silent : (p : Progress) (old new : SessionSeatValue) → new.ring ≡ old.ring → new.number ≡ old.number → new.own ≡ old.own → Continues p old p new
silent p old new ring number own = record {
  ring = ring;
  number = number;
  stays = λ n e. e;
  said = [];
  added = own ∙ sym (append-nil old.own);
  of_it = tt;
  speaks = λ before left right s. subst (λ l. Speaks before l (left ++ p ∷ right)) (sym own) s;
}

pub stays : (p : Progress) (s : SessionSeatValue) → Continues p s p s
stays p s = silent p s s refl refl refl

silent_by : (p : Progress) (old new it : SessionSeatValue) → new ≡ it → it.ring ≡ old.ring → it.number ≡ old.number → it.own ≡ old.own → Continues p old p new
silent_by p old new it is ring number own = subst (λ s. Continues p old p s) (sym is) (silent p old it ring number own)

-- nothing is added to them where the ring refuses
pub unsaid : (p : Progress) (window : ℕ) (refused : Refused) (old new : SessionSeatValue) → Refuses window old new refused → Continues p old p new
unsaid p window Stopped old new is = silent_by p old new _ is refl refl refl
unsaid p window Exhausted old new is = silent_by p old new _ is.2 refl refl refl
unsaid p window (Busy mark) old new is = silent_by p old new _ is.3 refl refl refl

pub number_over : (p : Progress) → number_in (over p) ≡ number_in p
number_over New = refl
number_over (Open m) = refl
number_over (Ended m) = refl
number_over Gone = refl

holds_over : (n : ℕ) (p : Progress) → holds n (over p) ≡ holds n p
holds_over n New = refl
holds_over n (Open m) = refl
holds_over n (Ended m) = refl
holds_over n Gone = refl

opens_over : (n : ℕ) (p : Progress) → opens n (over p) ≡ 0
opens_over n New = refl
opens_over n (Open m) = refl
opens_over n (Ended m) = refl
opens_over n Gone = refl

fewer : (n h h' o o' : ℕ) (ps : List Pair) → h ≡ h' → o' ≤ o → IsPart n h o ps → IsPart n h' o' ps
fewer n h h' o o' ps same less part = subst (λ k. IsPart n k o' ps) same (record { most = part.most; conversation = part.conversation; begun = part.begun; opened = λ some. part.opened (omega arith) })

-- a session may be left before its End
pub leaves : (p : Progress) (s : SessionSeatValue) → Continues p s (over p) s
leaves p s = record {
  ring = refl;
  number = refl;
  stays = λ n e. number_over p ∙ e;
  said = [];
  added = sym (append-nil s.own);
  of_it = tt;
  speaks = λ before left right x. record {
    more = x.more;
    whole = x.whole;
    parts = λ n. fewer n _ _ _ _ (part_of n x.more)
        (beside (holds n) left right p ∙ ap (λ k. k + (sum_by (holds n) left + sum_by (holds n) right)) (sym (holds_over n p)) ∙ sym (beside (holds n) left right (over p)))
        (omega (arith, beside (opens n) left right p, beside (opens n) left right (over p), opens_over n p))
        (x.parts n);
  };
}

-- ── one after another ──

pub joined : (p q r : Progress) (s t u : SessionSeatValue) → Continues p s q t → Continues q t r u → Continues p s r u
joined p q r s t u a b = record {
  ring = b.ring ∙ a.ring;
  number = b.number ∙ a.number;
  stays = λ n e. b.stays n (a.stays n e);
  said = a.said ++ b.said;
  added = b.added ∙ ap (λ l. l ++ b.said) a.added ∙ append_assoc s.own a.said b.said;
  of_it = all_append (λ (x : Pair). number_in r ≡ Some (number_of x)) a.said b.said (all_weaker (λ (x : Pair). number_in q ≡ Some (number_of x)) (λ (x : Pair). number_in r ≡ Some (number_of x)) (λ x. b.stays (number_of x)) a.said a.of_it) b.of_it;
  speaks = λ before left right x. b.speaks before left right (a.speaks before left right x);
}

pub ends_so : (p q r : Progress) (s t : SessionSeatValue) → Continues p s q t → StaysOrEnds q r → Continues p s r t
ends_so p q r s t a how = elim how [
  | inl same ↦ subst (λ x. Continues p s x t) (sym same) a
  | inr ended ↦ subst (λ x. Continues p s x t) (sym ended) (joined p q (over q) s t t a (leaves q t))
]

-- the mark was read, and the conversation stays or ends
pub reads_so : (p q r : Progress) (s t u : SessionSeatValue) (mark : ℕ) → Continues p s q t → StaysOrEnds q r → u ≡ with_seen t mark → Continues p s r u
reads_so p q r s t u mark a how read = ends_so p q r s u (joined p q q s t u a (silent_by q t u (with_seen t mark) read refl refl refl)) how

-- two parts of a turn, with what says nothing before them and behind
pub around : (p p' q r r' : Progress) (s t u : SessionSeatValue) → p' ≡ p → Continues p' s q t → Continues q t r u → r' ≡ r → Continues p s r' u
around p p' q r r' s t u e a b f = subst (λ x. Continues x s r' u) e (subst (λ x. Continues p' s x u) (sym f) (joined p' q r s t u a b))
