use Rattle.std.proofs.Common.{◌≡◌, ◌≢◌, ◌==◌, ◌≤◌, ◌+◌, ◌-◌, ◌⊎◌, ◌&&◌, ◌++◌, List, [], ◌∷◌, ℕ, Bool, true, false, Option, Some, None, inl, inr, is_some, length, not, cond, refl, sym, ap, subst, ◌∙◌, arith, remove, slice_get, unwrap_or, if◌then◌else◌}
use Rattle.std.specs.BTreeMap.{is_at}
use Rattle.std.specs.List.{AllByRecursion}
use Rattle.std.specs.Map.{lookup}
use Rattle.std.specs.Ordering.{is_eq}
use Rattle.std.specs.Str.{bytes_eq}
use Rattle.std.specs.declared.cmp.Ordering.{Ordering}
use Rattle.std.proofs.lemmas.Bool.{and_parts}
use Rattle.std.proofs.lemmas.List.{append-nil}
use Rattle.std.proofs.lemmas.Map.Text.{is_eq-slice_cmp}
use Rattle.std.proofs.lemmas.Option.{none-some, same_Some}
use Rattle.std.proofs.lemmas.Slice.Eq.{bytes_eq-Decides}
use Rattle.slab.specs.Slab.{Slab, get}
use Rattle.frame_core.proofs.Lists.{all_push}
use Rattle.broker_state.specs.declared.subscription.Subscription.{Subscription}
use Rattle.broker_state.specs.Lists.{is_none}
use Rattle.broker_state.specs.Names.{AreSame, Name, name_cmp, text_cmp}
use Rattle.broker_state.specs.Operations.{uses}
use Rattle.broker_state.proofs.Keys.{is_eq-name_cmp, name_itself, same_names, same_texts}
use Rattle.broker_state.proofs.Lookups.{is_equal}
use Rattle.broker_state.proofs.Weights.{all_at, all_removed}
use Rattle.waiting_order.specs.declared.groups.Group.{Group}
use Rattle.waiting_order.specs.declared.groups.Place.{Place}
use Rattle.waiting_order.specs.declared.waiters.Waiter.{Waiter}
use Rattle.waiting_order.specs.Directories.{AreFilled, AreOfGroup, IsGroup, IsIndex, behind_in, group_at, grouped, is_behind, is_in, is_plain_at, members, place_of}
use Rattle.waiting_order.specs.Groups.{HasHandle, HasNone, OthersStay, grown, one, shrunk}
use Rattle.waiting_order.specs.Tickets.{IsRising, without}
use Rattle.waiting_order.proofs.Behind.{behind_pushed, behind_removed, empty_is, eq_is, eq_itself, eq_not, nobody_behind}
use Rattle.waiting_order.proofs.Members.{IsMember, among_at, member_at, members_left, members_none, members_pushed, members_without, none_members}
use Rattle.waiting_order.proofs.Timed.{W, clash, ticket_of}

-- who stands in a group
pub in_group : (group : ℕ) (w : W) → w.1.group ≡ group → is_in group w.1 ≡ true
in_group group w is = ap (λ g. g == group) is ∙ eq_itself group

-- lists that aren't empty
pub some_pushed : {X : Type 0} (xs : List X) (x : X) → is_none (xs ++ x ∷ []) ≡ false
some_pushed [] x = refl
some_pushed (y ∷ xs) x = refl

pub some_more : {X : Type 0} (xs ys : List X) → is_none xs ≡ false → is_none (xs ++ ys) ≡ false
some_more [] ys some = absurd cc
some_more (x ∷ xs) ys some = refl

pub none_left : {X : Type 0} (xs : List X) → is_none xs ≡ true → xs ≡ []
none_left [] none = refl
none_left (x ∷ xs) none = absurd cc

some_first : {X : Type 0} (xs : List X) → is_none xs ≡ false → (x : X) × (slice_get xs 0 ≡ Some x)
some_first [] some = absurd cc
some_first (x ∷ xs) some = (x, refl)

pub somebody : (p : Waiter → Bool) (ws : List W) → is_none (members p ws) ≡ false → (place : Place) × IsMember p ws place
somebody p ws some =
    let first = some_first (members p ws) some in
    (first.0, member_at p ws first.0 0 first.1)

all_both : {X : Type 0} (P Q R : X → Type 0) → ((x : X) → P x → Q x → R x) → (xs : List X) → AllByRecursion P xs → AllByRecursion Q xs → AllByRecursion R xs
all_both P Q R so [] a b = tt
all_both P Q R so (x ∷ xs) a b = (so x a.0 b.0, all_both P Q R so xs a.1 b.1)

-- whether a waiter is of a group just where it passes
abbrev pub Fits : (Subscription → Bool) → W → Option ℕ → Type 0
Fits passes w None = passes w.1.sub ≡ false
Fits passes w (Some group) = passes w.1.sub ≡ is_in group w.1

module _ (passes : Subscription → Bool) (ws : List W) where
  AllAlike : ℕ → W → Type 0
  AllAlike group w = passes w.1.sub ≡ is_in group w.1

  pub fits_at : (o : Option ℕ) → IsGroup passes ws o → (at : ℕ) (w : W) → slice_get ws at ≡ Some w → Fits passes w o
  fits_at None none at w is = all_at (λ (v : W). passes v.1.sub ≡ false) ws at w is none
  fits_at (Some group) it at w is = all_at (λ (v : W). passes v.1.sub ≡ is_in group v.1) ws at w is it.alike

  -- one more
  pub group_pushed : (w : W) (o : Option ℕ) → IsGroup passes ws o → Fits passes w o → IsGroup passes (ws ++ w ∷ []) o
  group_pushed w None none fits = all_push (λ (v : W). passes v.1.sub ≡ false) ws w none fits
  group_pushed w (Some group) it fits = record {
    alike = all_push (λ (v : W). passes v.1.sub ≡ is_in group v.1) ws w it.alike fits;
    some = ap is_none (members_pushed (is_in group) ws w) ∙ some_more (members (is_in group) ws) (if is_in group w.1 then place_of w ∷ [] else []) it.some;
  }

  -- the first one
  pub group_begun : (w : W) (group : ℕ) → IsGroup passes ws None → members (is_in group) ws ≡ [] → passes w.1.sub ≡ true → is_in group w.1 ≡ true → AreOfGroup passes (ws ++ w ∷ []) group
  group_begun w group none nobody passing inside = record {
    alike = all_push (λ (v : W). passes v.1.sub ≡ is_in group v.1) ws w (all_both (λ (v : W). passes v.1.sub ≡ false) (λ (v : W). is_in group v.1 ≡ false) (λ (v : W). passes v.1.sub ≡ is_in group v.1) (λ v a b. a ∙ sym b) ws none (none_members (is_in group) ws nobody)) (passing ∙ sym inside);
    some = ap is_none (members_pushed (is_in group) ws w) ∙ ap (λ b. is_none (members (is_in group) ws ++ (if b then place_of w ∷ [] else []))) inside ∙ some_pushed (members (is_in group) ws) (place_of w);
  }

  module _ (at : ℕ) (w : W) (is : slice_get ws at ≡ Some w) where
    -- one of another group less
    pub group_left : (o : Option ℕ) → IsGroup passes ws o → passes w.1.sub ≡ false → IsGroup passes (remove ws at) o
    group_left None none fails = all_removed (λ (v : W). passes v.1.sub ≡ false) ws at none
    group_left (Some group) it fails = record {
      alike = all_removed (λ (v : W). passes v.1.sub ≡ is_in group v.1) ws at it.alike;
      some = ap is_none (members_left (is_in group) ws at w is (sym (fits_at (Some group) it at w is) ∙ fails)) ∙ it.some;
    }

    -- one of it less, and not the last
    pub group_less : (group : ℕ) → AreOfGroup passes ws group → is_none (members (is_in group) (remove ws at)) ≡ false → AreOfGroup passes (remove ws at) group
    group_less group it some = record {
      alike = all_removed (λ (v : W). passes v.1.sub ≡ is_in group v.1) ws at it.alike;
      some = some;
    }

    -- the last
    pub group_ended : (group : ℕ) → AreOfGroup passes ws group → members (is_in group) (remove ws at) ≡ [] → IsGroup passes (remove ws at) None
    group_ended group it none =
        all_both (λ (v : W). passes v.1.sub ≡ is_in group v.1) (λ (v : W). is_in group v.1 ≡ false) (λ (v : W). passes v.1.sub ≡ false) (λ v a b. a ∙ b) (remove ws at) (all_removed (λ (v : W). passes v.1.sub ≡ is_in group v.1) ws at it.alike) (none_members (is_in group) (remove ws at) none)

    -- one stands elsewhere
    pub group_moved : (v : W) → v.1.sub ≡ w.1.sub → v.1.group ≡ w.1.group → (o : Option ℕ) → IsGroup passes ws o → IsGroup passes (remove ws at ++ v ∷ []) o
    group_moved v sub same None none =
        all_push (λ (x : W). passes x.1.sub ≡ false) (remove ws at) v (all_removed (λ (x : W). passes x.1.sub ≡ false) ws at none) (ap passes sub ∙ fits_at None none at w is)
    group_moved v sub same (Some group) it = record {
      alike = all_push (λ (x : W). passes x.1.sub ≡ is_in group x.1) (remove ws at) v (all_removed (λ (x : W). passes x.1.sub ≡ is_in group x.1) ws at it.alike) (ap passes sub ∙ fits_at (Some group) it at w is ∙ sym (ap (λ g. g == group) same));
      some = ap is_none (members_pushed (is_in group) (remove ws at) v) ∙ by (is_in group w.1) refl;
    }
      where
        by : (b : Bool) → is_in group w.1 ≡ b → is_none (members (is_in group) (remove ws at) ++ (if is_in group v.1 then place_of v ∷ [] else [])) ≡ false
        by true inside = ap (λ b. is_none (members (is_in group) (remove ws at) ++ (if b then place_of v ∷ [] else []))) (ap (λ g. g == group) same ∙ inside) ∙ some_pushed (members (is_in group) (remove ws at)) (place_of v)
        by false outside = some_more (members (is_in group) (remove ws at)) (if is_in group v.1 then place_of v ∷ [] else []) (ap is_none (members_left (is_in group) ws at w is outside) ∙ it.some)

-- No subscription is under two keys.
abbrev Sole : {K : Type 0} → (K → Subscription → Bool) → Type 0
Sole {K} has = (a b : K) (sub : Subscription) → has a sub ≡ true → has b sub ≡ true → a ≡ b

module _ {K : Type 0} (cmp : K → K → Ordering) (same : AreSame cmp) (itself : (k : K) → is_eq (cmp k k) ≡ true) (has : K → Subscription → Bool) (sole : Sole has) (old : List (K × ℕ)) (ws : List W) (index : IsIndex cmp has old ws) where
  abbrev Keyed : W → K → Type 0
  Keyed w key = (q : K) → has q w.1.sub ≡ is_at (cmp q) key

  -- nobody of that group is under the key
  abbrev Strange : ℕ → K → Type 0
  Strange group q = (place : Place) (m : IsMember (is_in group) ws place) → has q m.entry.1.sub ≡ false

  apart : (group : ℕ) (q : K) → Strange group q → (h : ℕ) → AreOfGroup (has q) ws h → h ≡ group → ⊥
  apart group q strange h it is =
      let some = somebody (is_in h) ws it.some in
      let m = subst (λ g. IsMember (is_in g) ws some.0) is some.1 in
      let passes : has q m.entry.1.sub ≡ true = all_at (λ (v : W). has q v.1.sub ≡ is_in h v.1) ws m.at m.entry m.there it.alike ∙ ap (λ g. is_in g m.entry.1) is ∙ m.passes in
      clash (has q m.entry.1.sub) passes (strange some.0 m)

  -- a waiter of that group joins, and is not under the key
  pub beside_one : (q : K) (w : W) (group : ℕ) → w.1.group ≡ group → has q w.1.sub ≡ false → Strange group q → IsGroup (has q) (ws ++ w ∷ []) (lookup (is_at (cmp q)) old)
  beside_one q w group inside fails strange = group_pushed (has q) ws w (lookup (is_at (cmp q)) old) (index q) (fits (lookup (is_at (cmp q)) old) (index q))
    where
      fits : (o : Option ℕ) → IsGroup (has q) ws o → Fits (has q) w o
      fits None none = fails
      fits (Some h) it = fails ∙ sym (eq_not w.1.group h (λ is. apart group q strange h it (sym is ∙ inside)))

  pub index_beside : (w : W) (group : ℕ) → w.1.group ≡ group → ((q : K) → has q w.1.sub ≡ false) → ((q : K) → Strange group q) → IsIndex cmp has old (ws ++ w ∷ [])
  index_beside w group inside none strange q = beside_one q w group inside (none q) (strange q)

  -- and is under its own
  pub index_joined : (new : List (K × ℕ)) (key : K) (group : ℕ) (w : W) → HasHandle cmp key group old new → Keyed w key → w.1.group ≡ group → ((lookup (is_at (cmp key)) old ≡ Some group) ⊎ ((lookup (is_at (cmp key)) old ≡ None) × (members (is_in group) ws ≡ []))) → IsIndex cmp has new (ws ++ w ∷ [])
  index_joined new key group w handle keyed inside was q = by (is_at (cmp q) key) refl
    where
      here : (q : K) → q ≡ key → is_at (cmp q) key ≡ true → ((lookup (is_at (cmp key)) old ≡ Some group) ⊎ ((lookup (is_at (cmp key)) old ≡ None) × (members (is_in group) ws ≡ []))) → AreOfGroup (has q) (ws ++ w ∷ []) group
      here q key_is is (inl there) =
          group_pushed (has q) ws w (Some group) (subst (IsGroup (has q) ws) (ap (λ k. lookup (is_at (cmp k)) old) key_is ∙ there) (index q)) (keyed q ∙ is ∙ sym (in_group group w inside))
      here q key_is is (inr new) =
          group_begun (has q) ws w group (subst (IsGroup (has q) ws) (ap (λ k. lookup (is_at (cmp k)) old) key_is ∙ new.0) (index q)) new.1 (keyed q ∙ is) (in_group group w inside)

      strange : ((lookup (is_at (cmp key)) old ≡ Some group) ⊎ ((lookup (is_at (cmp key)) old ≡ None) × (members (is_in group) ws ≡ []))) → is_at (cmp q) key ≡ false → Strange group q
      strange (inl there) other place m = other_key (has q m.entry.1.sub) refl
        where
          other_key : (b : Bool) → has q m.entry.1.sub ≡ b → has q m.entry.1.sub ≡ false
          other_key true is =
              let it = subst (IsGroup (has key) ws) there (index key) in
              let passes : has key m.entry.1.sub ≡ true = all_at (λ (v : W). has key v.1.sub ≡ is_in group v.1) ws m.at m.entry m.there it.alike ∙ m.passes in
              absurd (clash (is_at (cmp q) key) (subst (λ k. is_at (cmp q) k ≡ true) (sole q key m.entry.1.sub is passes) (itself q)) other)
          other_key false is = is
      strange (inr new) other place m =
          absurd (clash (is_in group m.entry.1) m.passes (all_at (λ (v : W). is_in group v.1 ≡ false) ws m.at m.entry m.there (none_members (is_in group) ws new.1)))

      by : (b : Bool) → is_at (cmp q) key ≡ b → IsGroup (has q) (ws ++ w ∷ []) (lookup (is_at (cmp q)) new)
      by true is =
          subst (IsGroup (has q) (ws ++ w ∷ [])) (sym (handle q ∙ ap (λ b. if b then Some group else lookup (is_at (cmp q)) old) is)) (here q (same q key (is_equal (cmp q key) is)) is was)
      by false is =
          subst (IsGroup (has q) (ws ++ w ∷ [])) (sym (handle q ∙ ap (λ b. if b then Some group else lookup (is_at (cmp q)) old) is)) (beside_one q w group inside (keyed q ∙ is) (strange was is))

  module _ (at : ℕ) (w : W) (is : slice_get ws at ≡ Some w) where
    -- one leaves who is under none
    pub index_stays : ((q : K) → has q w.1.sub ≡ false) → IsIndex cmp has old (remove ws at)
    index_stays none q = group_left (has q) ws at w is (lookup (is_at (cmp q)) old) (index q) (none q)

    -- its group is that of its key
    pub key_there : (key : K) → Keyed w key → lookup (is_at (cmp key)) old ≡ Some w.1.group
    key_there key keyed = by (lookup (is_at (cmp key)) old) refl (index key)
      where
        by : (o : Option ℕ) → lookup (is_at (cmp key)) old ≡ o → IsGroup (has key) ws o → lookup (is_at (cmp key)) old ≡ Some w.1.group
        by None found none = absurd (clash (has key w.1.sub) (keyed key ∙ itself key) (all_at (λ (v : W). has key v.1.sub ≡ false) ws at w is none))
        by (Some h) found it =
            found ∙ ap Some (sym (eq_is w.1.group h (sym (all_at (λ (v : W). has key v.1.sub ≡ is_in h v.1) ws at w is it.alike) ∙ keyed key ∙ itself key)))

    here_of : (key : K) → Keyed w key → (q : K) → is_at (cmp q) key ≡ true → AreOfGroup (has q) ws w.1.group
    here_of key keyed q at_key =
        subst (λ k. AreOfGroup (has k) ws w.1.group) (sym (same q key (is_equal (cmp q key) at_key))) (subst (IsGroup (has key) ws) (key_there key keyed) (index key))

    -- one leaves who is not the last of its group
    pub index_less : (key : K) → Keyed w key → is_none (members (is_in w.1.group) (remove ws at)) ≡ false → IsIndex cmp has old (remove ws at)
    index_less key keyed some q = by (is_at (cmp q) key) refl
      where
        by : (b : Bool) → is_at (cmp q) key ≡ b → IsGroup (has q) (remove ws at) (lookup (is_at (cmp q)) old)
        by true at_key =
            subst (IsGroup (has q) (remove ws at)) (sym (ap (λ k. lookup (is_at (cmp k)) old) (same q key (is_equal (cmp q key) at_key)) ∙ key_there key keyed)) (group_less (has q) ws at w is w.1.group (here_of key keyed q at_key) some)
        by false other = group_left (has q) ws at w is (lookup (is_at (cmp q)) old) (index q) (keyed q ∙ other)

    -- the last of its group leaves
    pub index_ended : (new : List (K × ℕ)) (key : K) → HasNone cmp key old new → Keyed w key → members (is_in w.1.group) (remove ws at) ≡ [] → IsIndex cmp has new (remove ws at)
    index_ended new key gone keyed none q = by (is_at (cmp q) key) refl
      where
        by : (b : Bool) → is_at (cmp q) key ≡ b → IsGroup (has q) (remove ws at) (lookup (is_at (cmp q)) new)
        by true at_key =
            subst (IsGroup (has q) (remove ws at)) (sym (gone q ∙ ap (λ b. if b then None else lookup (is_at (cmp q)) old) at_key)) (group_ended (has q) ws at w is w.1.group (here_of key keyed q at_key) none)
        by false other =
            subst (IsGroup (has q) (remove ws at)) (sym (gone q ∙ ap (λ b. if b then None else lookup (is_at (cmp q)) old) other)) (group_left (has q) ws at w is (lookup (is_at (cmp q)) old) (index q) (keyed q ∙ other))

    -- one stands elsewhere
    pub index_moved : (v : W) → v.1.sub ≡ w.1.sub → v.1.group ≡ w.1.group → IsIndex cmp has old (remove ws at ++ v ∷ [])
    index_moved v sub group q = group_moved (has q) ws at w is v sub group (lookup (is_at (cmp q)) old) (index q)

-- one that is behind is one of so many
pub behind_within : (ws : List W) (at : ℕ) (w : W) → slice_get ws at ≡ Some w → one (is_behind w.1.sub) ≤ behind_in w.1.group ws
behind_within ws at w is =
    omega (arith, behind_removed w.1.group ws at w is, ap (λ b. one (b && is_behind w.1.sub)) (eq_itself w.1.group))

-- Groups after one joins, leaves or stands elsewhere.
module _ (old new : Slab Group) (ws : List W) (groups : (g : ℕ) → group_at old g ≡ grouped g ws) where
  pub groups_joined : (w : W) (group : ℕ) → w.1.group ≡ group → group_at new group ≡ grown (place_of w) (is_behind w.1.sub) (group_at old group) → OthersStay old new group → (g : ℕ) → group_at new g ≡ grouped g (ws ++ w ∷ [])
  groups_joined w group inside joined others g = by (g == group) refl
    where
      by : (b : Bool) → (g == group) ≡ b → group_at new g ≡ grouped g (ws ++ w ∷ [])
      by true is =
          let g_is = eq_is g group is in
          let within = in_group g w (inside ∙ sym g_is) in
          let places = members_pushed (is_in g) ws w ∙ ap (λ b. members (is_in g) ws ++ (if b then place_of w ∷ [] else [])) within in
          let behind = behind_pushed g ws w ∙ ap (λ b. behind_in g ws + one (b && is_behind w.1.sub)) within in
          ap (group_at new) g_is ∙ joined ∙ ap (λ h. grown (place_of w) (is_behind w.1.sub) (group_at old h)) (sym g_is) ∙ ap (grown (place_of w) (is_behind w.1.sub)) (groups g)
          ∙ ap (λ l. record { places = l; behind = behind_in g ws + one (is_behind w.1.sub) }) (sym places) ∙ ap (λ n. record { places = members (is_in g) (ws ++ w ∷ []); behind = n }) (sym behind)
      by false other =
          let outside : is_in g w.1 ≡ false = eq_not w.1.group g (λ is. clash (g == group) (ap (λ x. x == group) (sym is ∙ inside) ∙ eq_itself group) other) in
          let places = members_pushed (is_in g) ws w ∙ ap (λ b. members (is_in g) ws ++ (if b then place_of w ∷ [] else [])) outside ∙ append-nil (members (is_in g) ws) in
          let behind : behind_in g (ws ++ w ∷ []) ≡ behind_in g ws = omega (arith, behind_pushed g ws w, ap (λ b. one (b && is_behind w.1.sub)) outside) in
          ap (λ o. unwrap_or o (record { places = []; behind = 0 })) (others g (λ is. clash (g == group) (ap (λ x. x == group) is ∙ eq_itself group) other)) ∙ groups g
          ∙ ap (λ l. record { places = l; behind = behind_in g ws }) (sym places) ∙ ap (λ n. record { places = members (is_in g) (ws ++ w ∷ []); behind = n }) (sym behind)

  module _ (at t group : ℕ) (w : W) (rising : IsRising ticket_of ws) (is : slice_get ws at ≡ Some w) (ticket : w.1.ticket ≡ t) (inside : w.1.group ≡ group) where
    places_left : (g : ℕ) → (g == group) ≡ true → members (is_in g) (remove ws at) ≡ without t (members (is_in g) ws)
    places_left g same = members_without (is_in g) ws at t w rising is ticket (in_group g w (inside ∙ sym (eq_is g group same)))

    outside_of : (g : ℕ) → (g == group) ≡ false → is_in g w.1 ≡ false
    outside_of g other = eq_not w.1.group g (λ same. clash (g == group) (ap (λ x. x == group) (sym same ∙ inside) ∙ eq_itself group) other)

    not_it : (g : ℕ) → (g == group) ≡ false → g ≢ group
    not_it g other same = clash (g == group) (ap (λ x. x == group) same ∙ eq_itself group) other

    other_left : (g : ℕ) → (g == group) ≡ false → OthersStay old new group → group_at new g ≡ grouped g (remove ws at)
    other_left g other others =
        let outside = outside_of g other in
        let behind : behind_in g (remove ws at) ≡ behind_in g ws = omega (arith, behind_removed g ws at w is, ap (λ b. one (b && is_behind w.1.sub)) outside) in
        ap (λ o. unwrap_or o (record { places = []; behind = 0 })) (others g (not_it g other)) ∙ groups g
        ∙ ap (λ l. record { places = l; behind = behind_in g ws }) (sym (members_left (is_in g) ws at w is outside)) ∙ ap (λ n. record { places = members (is_in g) (remove ws at); behind = n }) (sym behind)

    pub members_after : members (is_in group) (remove ws at) ≡ without t (members (is_in group) ws)
    members_after = places_left group (eq_itself group)

    pub groups_less : group_at new group ≡ shrunk t (is_behind w.1.sub) (group_at old group) → OthersStay old new group → (g : ℕ) → group_at new g ≡ grouped g (remove ws at)
    groups_less left others g = by (g == group) refl
      where
        by : (b : Bool) → (g == group) ≡ b → group_at new g ≡ grouped g (remove ws at)
        by true same =
            let g_is = eq_is g group same in
            let within = in_group g w (inside ∙ sym g_is) in
            let behind : behind_in g ws - one (is_behind w.1.sub) ≡ behind_in g (remove ws at) = omega (arith, behind_removed g ws at w is, ap (λ b. one (b && is_behind w.1.sub)) within) in
            ap (group_at new) g_is ∙ left ∙ ap (λ h. shrunk t (is_behind w.1.sub) (group_at old h)) (sym g_is) ∙ ap (shrunk t (is_behind w.1.sub)) (groups g)
            ∙ ap (λ l. record { places = l; behind = behind_in g ws - one (is_behind w.1.sub) }) (sym (places_left g same)) ∙ ap (λ n. record { places = members (is_in g) (remove ws at); behind = n }) behind
        by false other = other_left g other others

    pub groups_ended : get new group ≡ None → members (is_in group) (remove ws at) ≡ [] → OthersStay old new group → (g : ℕ) → group_at new g ≡ grouped g (remove ws at)
    groups_ended gone none others g = by (g == group) refl
      where
        by : (b : Bool) → (g == group) ≡ b → group_at new g ≡ grouped g (remove ws at)
        by true same =
            let g_is = eq_is g group same in
            let nobody : members (is_in g) (remove ws at) ≡ [] = ap (λ h. members (is_in h) (remove ws at)) g_is ∙ none in
            ap (λ h. unwrap_or (get new h) (record { places = []; behind = 0 })) g_is ∙ ap (λ o. unwrap_or o (record { places = []; behind = 0 })) gone
            ∙ ap (λ l. record { places = l; behind = 0 }) (sym nobody) ∙ ap (λ n. record { places = members (is_in g) (remove ws at); behind = n }) (sym (nobody_behind g (remove ws at) nobody))
        by false other = other_left g other others

    pub groups_moved : (v : W) → v.1.sub ≡ w.1.sub → v.1.group ≡ w.1.group → group_at new group ≡ record (group_at old group) { places = without t (group_at old group).places ++ place_of v ∷ [] } → OthersStay old new group → (g : ℕ) → group_at new g ≡ grouped g (remove ws at ++ v ∷ [])
    groups_moved v sub same_group moved others g = by (g == group) refl
      where
        by : (b : Bool) → (g == group) ≡ b → group_at new g ≡ grouped g (remove ws at ++ v ∷ [])
        by true same =
            let g_is = eq_is g group same in
            let within = in_group g w (inside ∙ sym g_is) in
            let passed = in_group g v (same_group ∙ inside ∙ sym g_is) in
            let places = members_pushed (is_in g) (remove ws at) v ∙ ap (λ b. members (is_in g) (remove ws at) ++ (if b then place_of v ∷ [] else [])) passed ∙ ap (λ l. l ++ place_of v ∷ []) (places_left g same) in
            let behind : behind_in g ws ≡ behind_in g (remove ws at ++ v ∷ []) = omega (arith, behind_removed g ws at w is, ap (λ b. one (b && is_behind w.1.sub)) within, behind_pushed g (remove ws at) v, ap (λ b. one (b && is_behind v.1.sub)) passed, ap (λ s. one (is_behind s)) sub) in
            ap (group_at new) g_is ∙ moved ∙ ap (λ h. record (group_at old h) { places = without t (group_at old h).places ++ place_of v ∷ [] }) (sym g_is)
            ∙ ap (λ (x : Group). record x { places = without t x.places ++ place_of v ∷ [] }) (groups g)
            ∙ ap (λ l. record { places = l; behind = behind_in g ws }) (sym places) ∙ ap (λ n. record { places = members (is_in g) (remove ws at ++ v ∷ []); behind = n }) behind
        by false other =
            let outside : is_in g v.1 ≡ false = ap (λ x. x == g) same_group ∙ outside_of g other in
            let places = members_pushed (is_in g) (remove ws at) v ∙ ap (λ b. members (is_in g) (remove ws at) ++ (if b then place_of v ∷ [] else [])) outside ∙ append-nil (members (is_in g) (remove ws at)) in
            let behind : behind_in g (remove ws at ++ v ∷ []) ≡ behind_in g (remove ws at) = omega (arith, behind_pushed g (remove ws at) v, ap (λ b. one (b && is_behind v.1.sub)) outside) in
            other_left g other others ∙ ap (λ l. record { places = l; behind = behind_in g (remove ws at) }) (sym places) ∙ ap (λ n. record { places = members (is_in g) (remove ws at ++ v ∷ []); behind = n }) (sym behind)

-- Under which keys a subscription stands.
module _ (sub : Subscription) where
  pub plain_key : sub.durable ≡ None → (q : List ℕ) → is_plain_at q sub ≡ is_at (text_cmp q) sub.destination
  plain_key none q =
      ap (λ o. not (is_some o) && bytes_eq sub.destination q) none ∙ turned ∙ sym (is_eq-slice_cmp q sub.destination)
    where
      turned : bytes_eq sub.destination q ≡ bytes_eq q sub.destination
      turned = either_way (bytes_eq sub.destination q) (bytes_eq q sub.destination) (λ is. (bytes_eq-Decides q sub.destination).1 (sym ((bytes_eq-Decides sub.destination q).0 is))) (λ is. (bytes_eq-Decides sub.destination q).1 (sym ((bytes_eq-Decides q sub.destination).0 is)))
        where
          either_way : (a b : Bool) → (a ≡ true → b ≡ true) → (b ≡ true → a ≡ true) → a ≡ b
          either_way true b to from = sym (to refl)
          either_way false true to from = from refl
          either_way false false to from = refl

  pub named_elsewhere : (name : Name) → sub.durable ≡ Some name → (q : List ℕ) → is_plain_at q sub ≡ false
  named_elsewhere name is q = ap (λ o. not (is_some o) && bytes_eq sub.destination q) is

  pub uses_none : sub.durable ≡ None → (q : Name) → uses q sub ≡ false
  uses_none none q =
      ap (λ o. elim o as (λ x. Bool) [ None ↦ false | Some other ↦ bytes_eq q.0 other.0 && bytes_eq q.1 other.1 ]) none

  pub name_key : (name : Name) → sub.durable ≡ Some name → (q : Name) → uses q sub ≡ is_at (name_cmp q) name
  name_key name is q =
      ap (λ o. elim o as (λ x. Bool) [ None ↦ false | Some other ↦ bytes_eq q.0 other.0 && bytes_eq q.1 other.1 ]) is
      ∙ sym (is_eq-name_cmp q name)

  -- what a subscription under a key has
  pub plain_has : (q : List ℕ) → is_plain_at q sub ≡ true → (sub.durable ≡ None) × (sub.destination ≡ q)
  plain_has q is = by sub.durable refl
    where
      by : (o : Option Name) → sub.durable ≡ o → (sub.durable ≡ None) × (sub.destination ≡ q)
      by None none = (none, (bytes_eq-Decides sub.destination q).0 (sym (ap (λ o. not (is_some o) && bytes_eq sub.destination q) none) ∙ is))
      by (Some name) some = absurd (clash (is_plain_at q sub) is (named_elsewhere name some q))

  pub name_has : (q : Name) → uses q sub ≡ true → sub.durable ≡ Some q
  name_has q is = by sub.durable refl
    where
      by : (o : Option Name) → sub.durable ≡ o → sub.durable ≡ Some q
      by None none = absurd (clash (uses q sub) is (uses_none none q))
      by (Some name) some =
          let both = and_parts (bytes_eq q.0 name.0) (bytes_eq q.1 name.1) (sym (ap (λ o. elim o as (λ x. Bool) [ None ↦ false | Some other ↦ bytes_eq q.0 other.0 && bytes_eq q.1 other.1 ]) some) ∙ is) in
          some ∙ ap Some (sym (ap (λ x. (x, q.1)) ((bytes_eq-Decides q.0 name.0).0 both.0) ∙ ap (λ y. (name.0, y)) ((bytes_eq-Decides q.1 name.1).0 both.1)))

pub sole_plain : (a b : List ℕ) (sub : Subscription) → is_plain_at a sub ≡ true → is_plain_at b sub ≡ true → a ≡ b
sole_plain a b sub in_a in_b = sym (plain_has sub a in_a).1 ∙ (plain_has sub b in_b).1

pub sole_name : (a b : Name) (sub : Subscription) → uses a sub ≡ true → uses b sub ≡ true → a ≡ b
sole_name a b sub in_a in_b = same_Some a b (sym (name_has sub a in_a) ∙ name_has sub b in_b)

pub text_itself : (q : List ℕ) → is_eq (text_cmp q q) ≡ true
text_itself q = is_eq-slice_cmp q q ∙ (bytes_eq-Decides q q).1 refl

pub never_both : (sub : Subscription) (to : List ℕ) (name : Name) → uses name sub ≡ true → is_plain_at to sub ≡ false
never_both sub to name named = named_elsewhere sub name (name_has sub name named) to

pub never_named : (sub : Subscription) (to : List ℕ) (name : Name) → is_plain_at to sub ≡ true → uses name sub ≡ false
never_named sub to name plain = uses_none sub (plain_has sub to plain).0 name

-- What a group that one joined was: the one that stood there, or nobody's.
module _ (old : Slab Group) (ws : List W) (groups : (g : ℕ) → group_at old g ≡ grouped g ws) (group : ℕ) where
  nobody_there : get old group ≡ None → members (is_in group) ws ≡ []
  nobody_there none =
      ap (λ (g : Group). g.places) (sym (groups group) ∙ ap (λ (o : Option Group). unwrap_or o (record { places = []; behind = 0 })) none)

  pub joined_here : (o : Option ℕ) → ((o ≡ Some group) ⊎ ((o ≡ None) × (get old group ≡ None))) → ((o ≡ Some group) ⊎ ((o ≡ None) × (members (is_in group) ws ≡ [])))
  joined_here o (inl there) = inl there
  joined_here o (inr new) = inr (new.0, nobody_there new.1)

  pub joined_strange : {K : Type 0} (passes : Subscription → Bool) (has : K → Subscription → Bool) → ((q : K) (sub : Subscription) → passes sub ≡ true → has q sub ≡ false) → (o : Option ℕ) → IsGroup passes ws o → ((o ≡ Some group) ⊎ ((o ≡ None) × (get old group ≡ None))) → (q : K) → (place : Place) (m : IsMember (is_in group) ws place) → has q m.entry.1.sub ≡ false
  joined_strange passes has never o it (inl there) q place m =
      let of = subst (IsGroup passes ws) there it in
      never q m.entry.1.sub (all_at (λ (v : W). passes v.1.sub ≡ is_in group v.1) ws m.at m.entry m.there of.alike ∙ m.passes)
  joined_strange passes has never o it (inr new) q place m =
      absurd (clash (is_in group m.entry.1) m.passes (all_at (λ (v : W). is_in group v.1 ≡ false) ws m.at m.entry m.there (none_members (is_in group) ws (nobody_there new.1))))

-- No group is empty.
module _ (old new : Slab Group) (group : ℕ) (others : OthersStay old new group) (filled : AreFilled old) where
  filled_by : ((x : Group) → get new group ≡ Some x → is_none x.places ≡ false) → AreFilled new
  filled_by here h x is = by (h == group) refl
    where
      by : (b : Bool) → (h == group) ≡ b → is_none x.places ≡ false
      by true same = here x (ap (get new) (sym (eq_is h group same)) ∙ is)
      by false other = filled h x (sym (others h (λ same. clash (h == group) (ap (λ y. y == group) same ∙ eq_itself group) other)) ∙ is)

  pub filled_at : (g : Group) → group_at new group ≡ g → is_none g.places ≡ false → AreFilled new
  filled_at g is some = filled_by (λ x there. ap (λ (y : Group). is_none y.places) (sym (ap (λ o. unwrap_or o (record { places = []; behind = 0 })) there) ∙ is) ∙ some)

  pub filled_gone : get new group ≡ None → AreFilled new
  filled_gone none = filled_by (λ x there. absurd (none-some x (sym none ∙ there)))

-- a waiter's group has somebody
pub somewhere : (ws : List W) (at : ℕ) (w : W) → slice_get ws at ≡ Some w → is_none (members (is_in w.1.group) ws) ≡ false
somewhere ws at w is =
    let m = among_at (is_in w.1.group) ws at w is (eq_itself w.1.group) in
    by (members (is_in w.1.group) ws) m.0 m.1
  where
    by : (ps : List Place) (i : ℕ) → slice_get ps i ≡ Some (place_of w) → is_none ps ≡ false
    by [] i there = absurd (none-some (place_of w) there)
    by (p ∷ ps) i there = refl

-- One leaves who is not the last of its group, whatever it is looked for by.
module _ (ws : List W) (at : ℕ) (w : W) (is : slice_get ws at ≡ Some w) (some : is_none (members (is_in w.1.group) (remove ws at)) ≡ false) where
  pub less_plain : (old : List (List ℕ × ℕ)) → IsIndex text_cmp is_plain_at old ws → IsIndex text_cmp is_plain_at old (remove ws at)
  less_plain old index = by w.1.sub.durable refl
    where
      by : (o : Option Name) → w.1.sub.durable ≡ o → IsIndex text_cmp is_plain_at old (remove ws at)
      by None none = index_less text_cmp same_texts text_itself is_plain_at sole_plain old ws index at w is w.1.sub.destination (plain_key w.1.sub none) some
      by (Some name) named = index_stays text_cmp same_texts text_itself is_plain_at sole_plain old ws index at w is (named_elsewhere w.1.sub name named)

  pub less_name : (old : List (Name × ℕ)) → IsIndex name_cmp uses old ws → IsIndex name_cmp uses old (remove ws at)
  less_name old index = by w.1.sub.durable refl
    where
      by : (o : Option Name) → w.1.sub.durable ≡ o → IsIndex name_cmp uses old (remove ws at)
      by None none = index_stays name_cmp same_names name_itself uses sole_name old ws index at w is (uses_none w.1.sub none)
      by (Some name) named = index_less name_cmp same_names name_itself uses sole_name old ws index at w is name (name_key w.1.sub name named) some

pub behind_is : (sub : Subscription) (b : Bool) → b ≡ (length sub.line == 0) → not b ≡ is_behind sub
behind_is sub b is = ap not (is ∙ empty_is sub.line)
