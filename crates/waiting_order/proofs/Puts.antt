-- A message is put into the own lines of a group, one after another.
use Rattle.std.proofs.Common.{◌≡◌, ◌≢◌, ◌≤◌, ◌+◌, ◌&&◌, List, ℕ, Bool, true, false, Some, suc, length, not, refl, sym, ap, ◌∙◌, arith, slice_get}
use Rattle.line_core.specs.Lines.{inserted}
use Rattle.line_core.specs.declared.message.Message.{Message}
use Rattle.broker_state.specs.Lists.{changed, is_none}
use Rattle.waiting_order.specs.declared.groups.Group.{Group}
use Rattle.waiting_order.specs.declared.groups.Place.{Place}
use Rattle.waiting_order.specs.declared.waiters.Waiter.{Waiter}
use Rattle.waiting_order.specs.Directories.{KeepsPlaces, behind_in, grouped, is_behind, is_in, members}
use Rattle.waiting_order.specs.Groups.{one}
use Rattle.waiting_order.specs.Keeping.{put_into}
use Rattle.waiting_order.specs.Waiting.{Waiting}
use Rattle.waiting_order.proofs.Behind.{behind_changed, eq_is, eq_not}
use Rattle.waiting_order.proofs.Keeping.{in_kept, keeps_put, kept_changed, members_kept, put_first, put_next, some_inserted}
use Rattle.waiting_order.proofs.Timed.{W}

-- The next one of a group that gets the message: who it is, and what all are then.
pub record Next (handle : ℕ) (m : Message) (old mid : Waiting) (at : ℕ) (place : Place) : Type 0 where
  pub n : ℕ
  pub waiter : Waiter
  pub there : slice_get mid.all n ≡ Some (place.key, waiter)
  pub inside : is_in handle waiter ≡ true
  pub more : record mid { all = changed n (put_into m) mid.all } ≡ record old { all = put_first (at + 1) (is_in handle) m old.all }

pub next_put : (handle : ℕ) (m : Message) (old mid : Waiting) (at : ℕ) (place : Place) → slice_get (members (is_in handle) old.all) at ≡ Some place → mid ≡ record old { all = put_first at (is_in handle) m old.all } → Next handle m old mid at place
next_put handle m old mid at place is was =
    let n = put_next (is_in handle) m old.all at place is in
    let more : suc at ≡ at + 1 = omega arith in
    record {
      n = n.at;
      waiter = n.entry.1;
      there = ap (λ (o : Waiting). slice_get o.all n.at) was ∙ n.there ∙ ap (λ (q : Place). Some (q.key, n.entry.1)) n.is;
      inside = n.passes;
      more = ap (λ (o : Waiting). record o { all = changed n.at (put_into m) o.all }) was ∙ ap (λ (l : List W). record old { all = l }) (n.more ∙ ap (λ (k : ℕ). put_first k (is_in handle) m old.all) more);
    }

module _ (m : Message) (mid : List W) (n : ℕ) (w : W) (there : slice_get mid n ≡ Some w) where
  abbrev after : List W
  after = changed n (put_into m) mid

  pub kept_after : KeepsPlaces mid after
  kept_after = kept_changed (put_into m) (keeps_put (λ (s : Waiter). true) m) mid n

  members_after : (group : ℕ) → members (is_in group) after ≡ members (is_in group) mid
  members_after group = members_kept (is_in group) (in_kept group) mid after kept_after

  -- its group has one more that is behind, unless it was
  pub now_behind : (handle : ℕ) (g : Group) → g ≡ grouped handle mid → is_in handle w.1 ≡ true → (first : Bool) → first ≡ is_none w.1.sub.line → record g { behind = g.behind + one first } ≡ grouped handle after
  now_behind handle g is inside first nothing =
      let changes = behind_changed handle (put_into m) mid n w there in
      let was = ap (λ b. one (b && is_behind w.1.sub)) inside ∙ ap (λ b. one (not b)) (sym nothing) in
      let now = ap (λ b. one (b && not (is_none (inserted m w.1.sub.line)))) inside ∙ ap (λ b. one (not b)) (some_inserted m w.1.sub.line) in
      let counted : behind_in handle mid + one first ≡ behind_in handle after = count_by first (one (is_in handle w.1 && is_behind w.1.sub)) (one (is_in handle w.1 && not (is_none (inserted m w.1.sub.line)))) (behind_in handle after) (behind_in handle mid) was now changes in
      ap (λ (x : Group). record x { behind = x.behind + one first }) is ∙ ap (λ k. record { places = members (is_in handle) mid; behind = k }) counted ∙ ap (λ l. record { places = l; behind = behind_in handle after }) (sym (members_after handle))
    where
      count_by : (b : Bool) (x y p q : ℕ) → x ≡ one (not b) → y ≡ 1 → p + x ≡ q + y → q + one b ≡ p
      count_by true x y p q was now changes = omega (arith, was, now, changes)
      count_by false x y p q was now changes = omega (arith, was, now, changes)

  -- the other groups have as many
  pub others_put : (handle other : ℕ) → is_in handle w.1 ≡ true → other ≢ handle → grouped other after ≡ grouped other mid
  others_put handle other inside differs =
      let outside : is_in other w.1 ≡ false = eq_not w.1.group other (λ is. differs (sym is ∙ eq_is w.1.group handle inside)) in
      let same : behind_in other after ≡ behind_in other mid = omega (arith, behind_changed other (put_into m) mid n w there, ap (λ b. one (b && is_behind w.1.sub)) outside, ap (λ b. one (b && not (is_none (inserted m w.1.sub.line)))) outside) in
      ap (λ l. record { places = l; behind = behind_in other after }) (members_after other) ∙ ap (λ k. record { places = members (is_in other) mid; behind = k }) same
