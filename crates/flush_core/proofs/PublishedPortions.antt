-- Commands executed in turn, whose outputs are published in portions.
use Rattle.std.proofs.Common.{◌≡◌, ◌<◌, ◌≤◌, ◌+◌, ◌++◌, ℕ, List, [], ◌∷◌, false, if◌then◌else◌, length, length-append, min, refl, sym, ◌∙◌, ap, subst, arith}
use Rattle.std.specs.Prelude.{is_none}
use Rattle.std.proofs.lemmas.List.{append-nil, append_assoc}
use Rattle.std.proofs.lemmas.List.Elements.{filter-append}
use Rattle.frame_core.proofs.Lists.{all_append}
use Rattle.command_core.specs.Commands.{CommandValue}
use Rattle.command_core.specs.Outs.{OutValue}
use Rattle.broker_state.specs.States.{IsInOrder}
use Rattle.broker_core.specs.States.{BrokerValue, State}
use Rattle.broker_core.specs.Steps.{outs, outs_of, state_after, step}
use Rattle.claim_core.specs.Seats.{FlushSeatValue, with_mark}
use Rattle.outbox_core.specs.Giving.{AreGiven, Kept, box_of, unboxed}
use Rattle.outbox_core.proofs.Gifts.{are_more, are_none, are_stay}
use Rattle.flush_core.specs.Backlogs.{most_counted}
use Rattle.flush_core.specs.FlusherCalls.{ExecutesInPortions, GivesFirst, RaisesUpTo}
use Rattle.flush_core.specs.Flusher.{AreUnder}
use Rattle.flush_core.specs.Sessions.{ended_by, ended_of}
use Rattle.flush_core.proofs.FlusherKeeps.{under_kept, under_rest}
use Rattle.flush_core.proofs.SessionBoxes.{ended_commands}
use Rattle.flush_core.proofs.TakenCommands.{outs_commands, outs_under, state_commands, under_more}

-- what goes to no box, where sessions have boxes or none as before
unboxed_stay : (outs : List OutValue) (a b : Kept) → ((session : ℕ) → is_none (box_of session b) ≡ is_none (box_of session a)) → unboxed b outs ≡ unboxed a outs
unboxed_stay [] a b same = refl
unboxed_stay (out ∷ outs) a b same =
    (λ i. if same out.session i then out ∷ unboxed b outs else unboxed b outs)
    ∙ ap (λ (l : List OutValue). if is_none (box_of out.session a) then out ∷ l else l) (unboxed_stay outs a b same)

-- what is left of outputs, and of more
pub left_both : (xs ys : List OutValue) (a b : Kept) (could left last : List OutValue) → AreGiven xs a b → left ≡ could ++ unboxed a xs → last ≡ left ++ unboxed b ys → last ≡ could ++ unboxed a (xs ++ ys)
left_both xs ys a b could left last given was is =
    is ∙ ((λ i. was i ++ unboxed_stay ys a b (λ session. are_stay xs a b session given) i)
    ∙ (append_assoc could (unboxed a xs) (unboxed a ys)
    ∙ ap (λ (l : List OutValue). could ++ l) (sym (filter-append (λ (o : OutValue). is_none (box_of o.session a)) xs ys))))

module _ (old : BrokerValue) (waited : List OutValue) (noted : List ℕ) (kept : Kept) (could : List OutValue) where
  pub executes_none : old.broken ≡ false → ExecutesInPortions [] old old waited waited noted noted kept kept could could 0
  executes_none whole = record {
    broker = λ i. record { state = old.state; broken = whole i };
    ended_are = sym (append-nil noted);
    given = [];
    outs = sym (append-nil waited);
    boxed = are_none kept;
    left_are = sym (append-nil could);
    counted = omega arith;
  }

  module _ (cs : List CommandValue) (b : BrokerValue) (waiting : List OutValue) (ended : List ℕ) (boxes : Kept) (left : List OutValue) (many : ℕ) (did : ExecutesInPortions cs old b waited waiting noted ended kept boxes could left many) where
    was : b.state ≡ state_after old.state cs
    was = ap (λ (b : BrokerValue). b.state) did.broker

    -- one command more is executed
    pub executes_more : (c : CommandValue) (b' : BrokerValue) (waiting' : List OutValue) (ended' : List ℕ) (made many' : ℕ) → b' ≡ record { state = step b.state c; broken = false } → waiting' ≡ waiting ++ outs b.state c
        → ended' ≡ ended ++ ended_by b.state c → made ≡ length (outs b.state c) → many' ≡ min (many + made) most_counted → ExecutesInPortions (cs ++ c ∷ []) old b' waited waiting' noted ended' kept boxes could left many'
    executes_more c b' waiting' ended' made many' stepped more ends made_is many_is =
        let all = outs_commands cs old.state c in
        let made_there : made ≡ length (outs (state_after old.state cs) c) = made_is ∙ ap (λ (s : State). length (outs s c)) was in
        record {
          broker = stepped ∙ ap (λ (s : State). record { state = s; broken = false }) (ap (λ (s : State). step s c) was ∙ sym (state_commands cs old.state c));
          ended_are = ends
              ∙ ((λ i. did.ended_are i ++ ended_by (was i) c)
              ∙ (append_assoc noted (ended_of old.state cs) (ended_by (state_after old.state cs) c)
              ∙ ap (λ (l : List ℕ). noted ++ l) (sym (ended_commands cs old.state c))));
          given = did.given;
          outs = ap (λ (l : List OutValue). did.given ++ l) more
              ∙ (sym (append_assoc did.given waiting (outs b.state c))
              ∙ ((λ i. did.outs i ++ outs (was i) c)
              ∙ (append_assoc waited (outs_of old.state cs) (outs (state_after old.state cs) c)
              ∙ ap (λ (l : List OutValue). waited ++ l) (sym all))));
          boxed = did.boxed;
          left_are = did.left_are;
          counted = omega (arith, many_is, did.counted, made_there, ap (λ (l : List OutValue). length l) all, length-append (outs_of old.state cs) (outs (state_after old.state cs) c));
        }

    -- the first outputs that wait are published
    pub executes_given : (mark : ℕ) (seat next : FlushSeatValue) (boxes' : Kept) (waiting' left' : List OutValue) → GivesFirst mark seat next waiting waiting' boxes boxes' left left'
        → ExecutesInPortions cs old b waited waiting' noted ended kept boxes' could left' many
    executes_given mark seat next boxes' waiting' left' gives = record {
      broker = did.broker;
      ended_are = did.ended_are;
      given = did.given ++ gives.given;
      outs = append_assoc did.given gives.given waiting' ∙ (ap (λ (l : List OutValue). did.given ++ l) gives.outs ∙ did.outs);
      boxed = are_more did.given gives.given kept boxes boxes' did.boxed gives.boxed;
      left_are = left_both did.given gives.given kept boxes could left left' did.boxed did.left_are gives.left_are;
      counted = did.counted;
    }

    -- all that waits is of commands that are executed
    pub waits_under : (n : ℕ) → IsInOrder old.state → AreUnder old.state.count waited → old.state.count + length cs ≤ n → AreUnder n waiting
    waits_under n order under few =
        under_rest n did.given waiting
        (subst (λ (l : List OutValue). AreUnder n l) (sym did.outs)
        (all_append (λ (out : OutValue). out.number < n) waited (outs_of old.state cs) (under_more old.state.count n waited (omega (arith, few)) under) (outs_under cs old.state n order few)))

-- the mark is where it was
pub raises_none : (most : ℕ) (seat : FlushSeatValue) (left : List OutValue) → seat.published ≤ most → RaisesUpTo most seat seat left left
raises_none most seat left few = record { seat = refl; raised = omega arith; within = few; more = []; left_are = sym (append-nil left); under = tt }

pub raises_further : (most next : ℕ) (old new : FlushSeatValue) (could left : List OutValue) → most ≤ next → RaisesUpTo most old new could left → RaisesUpTo next old new could left
raises_further most next old new could left le was = record { seat = was.seat; raised = was.raised; within = omega (arith, le, was.within); more = was.more; left_are = was.left_are; under = was.under }

-- it is raised once more
pub raises_both : (most mark : ℕ) (old seat new : FlushSeatValue) (could left last : List OutValue) → RaisesUpTo most old seat could left → RaisesUpTo mark seat new left last → RaisesUpTo mark old new could last
raises_both most mark old seat new could left last was after = record {
  seat = after.seat ∙ ap (λ (s : FlushSeatValue). with_mark s new.published) was.seat;
  raised = omega (arith, was.raised, after.raised);
  within = after.within;
  more = was.more ++ after.more;
  left_are = after.left_are ∙ (ap (λ (l : List OutValue). l ++ after.more) was.left_are ∙ append_assoc could was.more after.more);
  under = all_append (λ (out : OutValue). out.number < new.published) was.more after.more (under_more seat.published new.published was.more after.raised was.under) after.under;
}

-- all that waited is given
pub gives_all : (mark : ℕ) (old new : FlushSeatValue) (waited waiting : List OutValue) (kept boxes : Kept) (could left : List OutValue) → new ≡ with_mark old mark → old.published ≤ mark → AreUnder mark waited
    → AreGiven waited kept boxes → waiting ≡ [] → left ≡ could ++ unboxed kept waited → GivesFirst mark old new waited waiting kept boxes could left
gives_all mark old new waited waiting kept boxes could left is le under given none left_is =
    let published : new.published ≡ mark = ap (λ (s : FlushSeatValue). s.published) is in
    record {
      given = waited;
      outs = ap (λ (l : List OutValue). waited ++ l) none ∙ append-nil waited;
      boxed = given;
      left_are = left_is;
      raised = record {
        seat = is ∙ ap (λ (n : ℕ). with_mark old n) (sym published);
        raised = omega (arith, le, published);
        within = omega (arith, published);
        more = unboxed kept waited;
        left_are = left_is;
        under = subst (λ (n : ℕ). AreUnder n (unboxed kept waited)) (sym published) (under_kept mark (λ (out : OutValue). is_none (box_of out.session kept)) waited under);
      };
    }

-- nothing is given
pub gives_none : (mark : ℕ) (seat : FlushSeatValue) (waiting : List OutValue) (boxes : Kept) (left : List OutValue) → seat.published ≤ mark → GivesFirst mark seat seat waiting waiting boxes boxes left left
gives_none mark seat waiting boxes left few = record { given = []; outs = refl; boxed = are_none boxes; left_are = sym (append-nil left); raised = raises_none mark seat left few }
