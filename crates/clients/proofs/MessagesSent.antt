-- What a client is sent, one message after another.
use Rattle.std.proofs.Common.{◌≡◌, ℕ, List, [], ◌∷◌, ◌++◌, Option, Some, None, refl, sym, ap, ◌∙◌, subst, inl, inr, append_assoc, append-nil}
use Rattle.std.specs.Prelude.{map, option_map}
use Rattle.std.proofs.lemmas.List.{map-append}
use Rattle.command_core.specs.Outs.{OutValue}
use Rattle.frame_core.specs.declared.frame.Frame.{Frame}
use Rattle.frame_core.specs.declared.frame.Verb.TheVariants as verbs
use Rattle.frame_core.specs.Written.{written}
use Rattle.ws_core.specs.Sending.{with_message}
use Rattle.outbox_core.specs.Boxes.{TakerValue}
use Rattle.session_core.specs.declared.session.Act.{Act}
use Rattle.clients.specs.Connections.{ConnectionValue, Takes}
use Rattle.clients.specs.Progress.{number_in}
use Rattle.clients.specs.declared.progress.Progress.{Progress}
use Rattle.clients.specs.declared.progress.Stage.TheVariants.{Running}
use Rattle.clients.specs.Conversations.{StaysOrEnds}
use Rattle.clients.specs.ConnectionKeeps.{KeepsOwn}
use Rattle.clients.specs.declared.relaying.Kept.{Kept}
use Rattle.clients.specs.declared.relaying.Kept.TheVariants as kept
use Rattle.clients.specs.declared.relaying.Relayed.{Relayed}
use Rattle.clients.specs.declared.relaying.Relayed.TheVariants as relayed
use Rattle.clients.specs.declared.client.Client.{Client}
use Rattle.clients.specs.Relays.{FindsNone, Handles, IsRefused, Passage, Relays, passage}
use Rattle.clients.specs.Clients.{IsOwn, IsTakerOf, Message, Passed, Passes, Served, Stays, Unserved, bytes_of, frames_of, kept_of, number_at, outs_of, passed, taken_of}
use Rattle.clients.proofs.Lists.{all_append, all_weaker}
use Rattle.clients.proofs.SeatConversations.{number_over}

outs_append : (a b : List Message) → outs_of (a ++ b) ≡ outs_of a ++ outs_of b
outs_append [] b = refl
outs_append (inl frame ∷ a) b = outs_append a b
outs_append (inr out ∷ a) b = ap (λ l. out ∷ l) (outs_append a b)

frames_append : (a b : List Message) → frames_of (a ++ b) ≡ frames_of a ++ frames_of b
frames_append [] b = refl
frames_append (inl frame ∷ a) b = ap (λ l. frame ∷ l) (frames_append a b)
frames_append (inr out ∷ a) b = frames_append a b

told_more : (sent : Option (List (List ℕ))) (a b : List Message)
    → option_map (λ l. l ++ map bytes_of b) (option_map (λ l. l ++ map bytes_of a) sent) ≡ option_map (λ l. l ++ map bytes_of (a ++ b)) sent
told_more None a b = refl
told_more (Some l) a b = ap (λ x. Some x) (append_assoc l (map bytes_of a) (map bytes_of b) ∙ ap (λ x. l ++ x) (sym (map-append bytes_of a b)))

told_none : (sent : Option (List (List ℕ))) → sent ≡ option_map (λ l. l ++ map bytes_of []) sent
told_none None = refl
told_none (Some l) = ap (λ x. Some x) (sym (append-nil l))

pub rests : (number : Option ℕ) (p : Passed) → Passes number [] p p
rests number p = record { messages = []; got = []; told = told_none p.sent; own = tt; frames_are = refl; taken = sym (append-nil p.taken); whole = append-nil p.kept }

pub joined : (number : Option ℕ) (f g : List Frame) (p q r : Passed) → Passes number f p q → Passes number g q r → Passes number (f ++ g) p r
joined number f g p q r a b = record {
  messages = a.messages ++ b.messages;
  got = a.got ++ b.got;
  told = b.told ∙ ap (λ o. option_map (λ l. l ++ map bytes_of b.messages) o) a.told ∙ told_more p.sent a.messages b.messages;
  own = all_append (IsOwn number) a.messages b.messages a.own b.own;
  frames_are = frames_append a.messages b.messages ∙ ap (λ l. l ++ frames_of b.messages) a.frames_are ∙ ap (λ l. f ++ l) b.frames_are;
  taken = b.taken ∙ ap (λ l. l ++ b.got) a.taken ∙ append_assoc p.taken a.got b.got;
  whole = sym (append_assoc p.kept a.got b.got) ∙ ap (λ l. l ++ b.got) a.whole ∙ append_assoc (outs_of a.messages) q.kept b.got
      ∙ ap (λ l. outs_of a.messages ++ l) b.whole ∙ sym (append_assoc (outs_of a.messages) (outs_of b.messages) r.kept)
      ∙ ap (λ l. l ++ r.kept) (sym (outs_append a.messages b.messages));
}

own_later : (earlier later : Option ℕ) → ((n : ℕ) → earlier ≡ Some n → later ≡ Some n) → (m : Message) → IsOwn earlier m → IsOwn later m
own_later earlier later stays (inl frame) own = own
own_later earlier later stays (inr out) own = stays out.session own

-- the session's number once it is known stays
pub of_later : (earlier later : Option ℕ) (f : List Frame) (p q : Passed) → ((n : ℕ) → earlier ≡ Some n → later ≡ Some n) → Passes earlier f p q → Passes later f p q
of_later earlier later f p q stays a = record {
  messages = a.messages;
  got = a.got;
  told = a.told;
  own = all_weaker (IsOwn earlier) (IsOwn later) (own_later earlier later stays) a.messages a.own;
  frames_are = a.frames_are;
  taken = a.taken;
  whole = a.whole;
}

same_box : (a b : TakerValue) (o : Option TakerValue) → b.box ≡ a.box → IsTakerOf b o → IsTakerOf a o
same_box a b None e is = is
same_box a b (Some t) e is = is ∙ e

box_later : (a : TakerValue) (mid is : Option TakerValue) → IsTakerOf a mid → ((t : TakerValue) → mid ≡ Some t → IsTakerOf t is) → IsTakerOf a is
box_later a None is there on = absurd there
box_later a (Some t) is there on = same_box a t is there (on t refl)

-- one after another
pub served : {B L : Type 0} (sent : L → Option (List (List ℕ))) (f g : List Frame) (was mid is : Client B) (l m n : L) → Served sent f was l mid m → Served sent g mid m is n → Served sent (f ++ g) was l is n
served sent f g was mid is l m n a b = record {
  stays = λ k e. b.stays k (a.stays k e);
  one_box = λ t e. box_later t mid.outbox is.outbox (a.one_box t e) b.one_box;
  passes = joined (number_at is) f g (passed sent was l) (passed sent mid m) (passed sent is n) (of_later (number_at mid) (number_at is) f _ _ b.stays a.passes) b.passes;
}

box_same : (t : TakerValue) (was is : Option TakerValue) → is ≡ was → was ≡ Some t → IsTakerOf t is
box_same t was is e f = subst (IsTakerOf t) (sym (e ∙ f)) refl

-- where nothing is sent
pub quiet : {B L : Type 0} (sent : L → Option (List (List ℕ))) (was is : Client B) (l m : L) → Stays was is → sent m ≡ sent l → Served sent [] was l is m
quiet sent was is l m s e = record {
  stays = s.stays;
  one_box = s.one_box;
  passes = record {
    messages = [];
    got = [];
    told = e ∙ told_none (sent l);
    own = tt;
    frames_are = refl;
    taken = s.taken ∙ sym (append-nil (taken_of was.outbox));
    whole = append-nil (kept_of was.kept) ∙ ap kept_of (sym s.kept);
  };
}

pub still : {B : Type 0} (was is : Client B) → is.progress ≡ was.progress → is.outbox ≡ was.outbox → is.kept ≡ was.kept → Stays was is
still was is progress outbox kept = record {
  stays = λ n e. ap number_in progress ∙ e;
  one_box = λ t e. box_same t was.outbox is.outbox outbox e;
  taken = ap taken_of outbox;
  kept = kept;
}

pub unserved : {B L : Type 0} (sent : L → Option (List (List ℕ))) (was is : Client B) (l m : L) → Unserved sent was l is m → Served sent [] was l is m
unserved sent was is l m u = quiet sent was is l m (still was is u.progress u.outbox u.kept) u.sent

pub at_rest : {B L : Type 0} (sent : L → Option (List (List ℕ))) (s : Client B) (l : L) → Served sent [] s l s l
at_rest sent s l = quiet sent s s l l (still s s refl refl refl) refl

pub same_number : (old new : Progress) → StaysOrEnds old new → number_in new ≡ number_in old
same_number old new how = elim how [ inl same ↦ ap number_in same | inr ended ↦ ap number_in ended ∙ number_over old ]

-- ── one output ──

-- what a call handles is what was kept, or the next that the outbox gave
handled : (k : Kept) (t u : TakerValue) (out : OutValue) → Handles k t u out → (got : List OutValue) × (u.taken ≡ t.taken ++ got) × (kept_of k ++ got ≡ out ∷ []) × (u.box ≡ t.box)
handled kept.Nothing t u out h = (out ∷ [], h.1, refl, h.0)
handled (kept.Waits one) t u out h = ([], ap (λ (x : TakerValue). x.taken) h.1 ∙ sym (append-nil t.taken), ap (λ x. x ∷ []) (sym h.0), ap (λ (x : TakerValue). x.box) h.1)
handled (kept.Unsent one) t u out h = ([], ap (λ (x : TakerValue). x.taken) h.1 ∙ sym (append-nil t.taken), ap (λ x. x ∷ []) (sym h.0), ap (λ (x : TakerValue). x.box) h.1)

-- what is handed on of an outbox, of the output that is kept and of a link
abbrev pub of_passage : Passage → Passed
of_passage p = record { taken = p.taker.taken; kept = kept_of p.kept; sent = p.sent }

-- what one call of `relay` makes of it, and that the outbox stays
abbrev pub Relayed_on : Option ℕ → Passage → Passage → Type 0
Relayed_on number p q = Passes number [] (of_passage p) (of_passage q) × (q.taker.box ≡ p.taker.box)

keeps_it : (number : Option ℕ) (p q : Passage) (out : OutValue) → Handles p.kept p.taker q.taker out → q.sent ≡ p.sent → kept_of q.kept ≡ out ∷ [] → Relayed_on number p q
keeps_it number p q out h untold kept =
    let of = handled p.kept p.taker q.taker out h in (
      record {
        messages = [];
        got = of.0;
        told = untold ∙ told_none p.sent;
        own = tt;
        frames_are = refl;
        taken = of.1;
        whole = of.2 ∙ sym kept;
      },
      of.3,
    )

found_none : (number : Option ℕ) (p q : Passage) → FindsNone p q → Relayed_on number p q
found_none number p q f = (
  record {
    messages = [];
    got = [];
    told = f.same.1 ∙ told_none p.sent;
    own = tt;
    frames_are = refl;
    taken = ap (λ (x : TakerValue). x.taken) f.nothing_taken.0 ∙ sym (append-nil p.taker.taken);
    whole = append-nil (kept_of p.kept) ∙ ap kept_of (sym f.same.0);
  },
  ap (λ (x : TakerValue). x.box) f.nothing_taken.0,
)

pub relayed_on : (session : ℕ) (number : Option ℕ) (p q : Passage) (seen : ℕ) (r : Relayed) → number ≡ Some session → Relays session p q seen r → Relayed_on number p q
relayed_on session number p q seen (relayed.Sent n verb bytes) is s =
    let of = handled p.kept p.taker q.taker s.out s.handled in (
      record {
        messages = inr s.out ∷ [];
        got = of.0;
        told = s.told;
        own = (is ∙ ap (λ k. Some k) (sym s.own), tt);
        frames_are = refl;
        taken = of.1;
        whole = of.2 ∙ ap (λ k. s.out ∷ kept_of k) (sym s.nothing_kept);
      },
      of.3,
    )
relayed_on session number p q seen relayed.Waits is s = keeps_it number p q s.out s.handled s.untold (ap kept_of s.is_kept)
relayed_on session number p q seen relayed.Foreign is s = keeps_it number p q s.out s.handled s.untold (ap kept_of s.is_kept)
relayed_on session number p q seen relayed.Empty is f = found_none number p q f
relayed_on session number p q seen relayed.Cut is f = found_none number p q f

pub refused_on : (session : ℕ) (number : Option ℕ) (p q : Passage) (seen : ℕ) → IsRefused session p q seen → Relayed_on number p q
refused_on session number p q seen s = keeps_it number p q s.out s.handled s.untold (ap kept_of s.is_kept)

unsent_nothing : (k : Kept) (out : OutValue) → k ≡ kept.Nothing → k ≡ kept.Unsent out → ⊥
unsent_nothing k out is e = let both : kept.Nothing ≡ kept.Unsent out = sym is ∙ e in cc

unsent_waits : (k : Kept) (one out : OutValue) → k ≡ kept.Waits one → k ≡ kept.Unsent out → ⊥
unsent_waits k one out is e = let both : kept.Waits one ≡ kept.Unsent out = sym is ∙ e in cc

-- one that runs on keeps no output of another session that may leave
pub keeps_own : (session : ℕ) (c : ConnectionValue) (p q : Passage) (seen : ℕ) (r : Relayed) → Relays session p q seen r → (r ≡ relayed.Foreign → c.stage ≡ Running → ⊥) → KeepsOwn c.stage c.progress q.kept
keeps_own session c p q seen (relayed.Sent n verb bytes) s over = λ out e runs. absurd (unsent_nothing q.kept out s.nothing_kept e)
keeps_own session c p q seen relayed.Waits s over = λ out e runs. absurd (unsent_waits q.kept s.out out s.is_kept e)
keeps_own session c p q seen relayed.Foreign s over = λ out e runs. absurd (over refl runs)
keeps_own session c p q seen relayed.Empty f over = λ out e runs. absurd (unsent_nothing q.kept out (f.same.0 ∙ f.nothing_kept) e)
keeps_own session c p q seen relayed.Cut f over = λ out e runs. absurd (unsent_nothing q.kept out (f.same.0 ∙ f.nothing_kept) e)

-- the same of a client with that outbox
pub client_relayed : {B L : Type 0} (sent : L → Option (List (List ℕ))) (was is : Client B) (l m : L) (t u : TakerValue) (k : Kept)
    → was.outbox ≡ Some t → is.outbox ≡ Some u → is.kept ≡ k → number_at is ≡ number_at was
    → Relayed_on (number_at is) (passage t was.kept (sent l)) (passage u k (sent m)) → Served sent [] was l is m
client_relayed {B} {L} sent was is l m t u k was_is is_is kept number r = record {
  stays = λ n e. number ∙ e;
  one_box = λ x e. subst (IsTakerOf x) (sym is_is) (r.1 ∙ box_in t x (sym was_is ∙ e));
  passes = record {
    messages = r.0.messages;
    got = r.0.got;
    told = r.0.told;
    own = r.0.own;
    frames_are = r.0.frames_are;
    taken = ap taken_of is_is ∙ r.0.taken ∙ ap (λ l. l ++ r.0.got) (sym (ap taken_of was_is));
    whole = r.0.whole ∙ ap (λ x. outs_of r.0.messages ++ kept_of x) (sym kept);
  };
}
  where
    box_in : (t x : TakerValue) → Some t ≡ Some x → t.box ≡ x.box
    box_in t x e = ap (λ (y : TakerValue). y.box) (let same : t ≡ x = cc in same)

-- an ERROR that doesn't wait for the broker
pub told_one : {B L : Type 0} (sent : L → Option (List (List ℕ))) (was is : Client B) (l m : L) (frame : Frame) → frame.verb ≡ verbs.Error
    → StaysOrEnds was.progress is.progress → is.outbox ≡ was.outbox → is.kept ≡ was.kept → sent m ≡ with_message (written frame) (sent l) → Served sent (frame ∷ []) was l is m
told_one sent was is l m frame error progress outbox kept told = record {
  stays = λ n e. same_number was.progress is.progress progress ∙ e;
  one_box = λ t e. box_same t was.outbox is.outbox outbox e;
  passes = record {
    messages = inl frame ∷ [];
    got = [];
    told = told;
    own = (error, tt);
    frames_are = refl;
    taken = ap taken_of outbox ∙ sym (append-nil (taken_of was.outbox));
    whole = append-nil (kept_of was.kept) ∙ ap kept_of (sym kept);
  };
}

-- what was the same before it stays the same
pub restay : {B : Type 0} (was mid is : Client B) → mid.progress ≡ was.progress → mid.outbox ≡ was.outbox → mid.kept ≡ was.kept → Stays mid is → Stays was is
restay was mid is progress outbox kept s = record {
  stays = λ n e. s.stays n (ap number_in progress ∙ e);
  one_box = λ t e. s.one_box t (outbox ∙ e);
  taken = s.taken ∙ ap taken_of outbox;
  kept = s.kept ∙ kept;
}

-- and of what is served
pub reserve : {B L : Type 0} (sent : L → Option (List (List ℕ))) (f : List Frame) (was mid is : Client B) (l m : L) → mid.progress ≡ was.progress → mid.outbox ≡ was.outbox → mid.kept ≡ was.kept → Served sent f mid l is m → Served sent f was l is m
reserve sent f was mid is l m progress outbox kept s = served sent [] f was mid is l l m (quiet sent was mid l l (still was mid progress outbox kept) refl) s

pub takes_no_other : (old new : ConnectionValue) (act : Option Act) → Takes old new act → new.progress ≡ old.progress
takes_no_other old new act t = ap (λ (c : ConnectionValue). c.progress) t.same
