use Rattle.std.proofs.Common.{◌≡◌, ◌≢◌, ◌+◌, ◌&&◌, ◌∙◌, List, ℕ, Bool, Some, true, false, suc, ap, arith, length, not, refl, rules, slice_get, subst, sym}
use Rattle.std.proofs.lemmas.Option.{none-some}
use Rattle.line_core.specs.declared.message.Message.{Message}
use Rattle.broker_state.proofs.Firsts.{found}
use Rattle.broker_state.specs.Lists.{changed, is_none}
use Rattle.waiting_order.specs.declared.groups.Group.{Group}
use Rattle.waiting_order.specs.declared.waiters.Key.{Key}
use Rattle.waiting_order.specs.declared.groups.Place.{Place}
use Rattle.waiting_order.specs.declared.waiters.Waiter.{Waiter}
use Rattle.waiting_order.specs.Directories.{KeepsPlaces, behind_in, grouped, is_behind, is_in, members}
use Rattle.waiting_order.specs.Groups.{one}
use Rattle.waiting_order.specs.Keeping.{put_into}
use Rattle.waiting_order.specs.Waiting.{Waiting}
use Rattle.waiting_order.proofs.Behind.{behind_few}
use Rattle.waiting_order.proofs.Keeping.{keeps_put, kept_at, kept_both, kept_changed, kept_same, put_first, put_in_all, put_next}
use Rattle.waiting_order.proofs.Members.{member_at}
use Rattle.waiting_order.proofs.Puts.{kept_after, next_put, now_behind, others_put}
use Rattle.waiting_order.proofs.Timed.{W}
use Rattle.waiting_order.proofs.groups.put_among.Goals as goal

pub loop-at-init : goal.loop-at-init
loop-at-init c = record {
  places = kept_same c.args.waiters.now.all;
  same = refl;
  put = λ handle group. refl;
  group = λ handle group. group;
  others = λ handle other group differs. refl;
}

pub unreachable-requires : goal.unreachable-requires
unreachable-requires c =
    let p = found c.args.group.now.places c.loop-at.at (omega (arith, c.loop-at-test.true, c.len-at-end.ensures.len)) in
    none-some p.0 (sym c.in_default.is ∙ c.get.ensures ∙ ap (λ (l : List Place). slice_get l c.loop-at.at) c.loop-at.invariant.same ∙ p.1)

pub put-requires : goal.put-requires
put-requires c =
    let old = c.args.waiters.now.all in
    let p = c.in-Some.place in
    let g = c.requires in
    let listed : slice_get (members (is_in g.0) old) c.loop-at.at ≡ Some p = ap (λ (x : Group). slice_get x.places c.loop-at.at) (sym g.1) ∙ ap (λ (l : List Place). slice_get l c.loop-at.at) (sym c.loop-at.invariant.same) ∙ sym c.get.ensures ∙ c.in-Some.is in
    let m = member_at (is_in g.0) old p c.loop-at.at listed in
    let v = kept_at old c.loop-at.waiters.all m.at m.entry c.loop-at.invariant.places m.there in
    let key : v.0.0 ≡ p.key = v.2 ∙ ap (λ (q : Place). q.key) m.is in
    (m.at, v.0.1, v.1 ∙ ap (λ (k : Key). Some (k, v.0.1)) key)

pub count-requires : goal.count-requires
count-requires c =
    let few = behind_few c.requires.0 c.loop-at.waiters.all in
    let is = c.loop-at.invariant.group c.requires.0 c.requires.1 in
    omega (arith, few, ap (λ (g : Group). g.behind) is, ap (λ (g : Group). length g.places) is, ap length c.loop-at.invariant.same, c.len-at-end.ensures.len, c.len-at-end.ensures.small)

pub loop-at-preserved : goal.loop-at-preserved
loop-at-preserved c =
    let p = c.in-Some.place in
    let old = c.args.waiters.now in
    let mid = c.loop-at.waiters in
    let at = c.loop-at.at in
    let clone = c.in_ok-clone.field-0 in
    let same : clone ≡ c.args.message.now = search rules in
    let listed = λ (handle : ℕ) (group : c.args.group.now ≡ grouped handle old.all). ap (λ (x : Group). slice_get x.places at) (sym group) ∙ ap (λ (l : List Place). slice_get l at) (sym c.loop-at.invariant.same) ∙ sym c.get.ensures ∙ c.in-Some.is in
    let next = λ (handle : ℕ) (group : c.args.group.now ≡ grouped handle old.all). next_put handle c.args.message.now old mid at p (listed handle group) (c.loop-at.invariant.put handle group) in
    let is = λ (n : ℕ) (s : Waiter) (there : slice_get mid.all n ≡ Some (p.key, s)). c.in_ok-first.ensures.ok n s there ∙ ap (λ (x : Message). record mid { all = changed n (put_into x) mid.all }) same in
    let own = next c.requires.0 c.requires.1 in
    record {
      places = kept_both old.all mid.all c.put.new.self.all c.loop-at.invariant.places (subst (KeepsPlaces mid.all) (sym (ap (λ (o : Waiting). o.all) (is own.n own.waiter own.there))) (kept_after c.args.message.now mid.all own.n (p.key, own.waiter) own.there));
      same = ap (λ (g : Group). g.places) c.count.ensures ∙ c.loop-at.invariant.same;
      put = λ handle group.
          let n = next handle group in
          is n.n n.waiter n.there ∙ n.more;
      group = λ handle group.
          let n = next handle group in
          c.count.ensures ∙ now_behind c.args.message.now mid.all n.n (p.key, n.waiter) n.there handle c.loop-at.group (c.loop-at.invariant.group handle group) n.inside c.in_ok-first.first (c.in_ok-first.ensures.first n.n n.waiter n.there)
          ∙ ap (λ (o : Waiting). grouped handle o.all) (sym (is n.n n.waiter n.there));
      others = λ handle other group differs.
          let n = next handle group in
          ap (λ (o : Waiting). grouped other o.all) (is n.n n.waiter n.there)
          ∙ others_put c.args.message.now mid.all n.n (p.key, n.waiter) n.there handle other n.inside differs
          ∙ c.loop-at.invariant.others handle other group differs;
    }

pub returns-clause-put : goal.returns-clause-put
returns-clause-put c handle group =
    let old = c.args.waiters.now in
    c.loop-at.invariant.put handle group ∙ ap (λ (l : List W). record old { all = l }) (put_in_all (is_in handle) c.args.message.now old.all c.loop-at.at (omega (arith, ap (λ (g : Group). length g.places) group, c.len-at-end.ensures.len)))
