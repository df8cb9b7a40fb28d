use Rattle.std.proofs.Common.{◌≡◌, ◌≢◌, ◌==◌, ◌<◌, ◌≤◌, ◌+◌, ◌-◌, ◌&&◌, ◌++◌, count_by, unwrap_or, List, Option, [], ◌∷◌, ℕ, suc, zero, Bool, true, false, cond, map, None, Some, drop, Result, Ok, Err, OnOk, OnErr, is_some, length, not, refl, sym, ap, subst, ◌∙◌, arith, slice_get, if◌then◌else◌}
use Rattle.std.specs.BTreeMap.{is_at}
use Rattle.std.specs.List.{AllByRecursion}
use Rattle.std.specs.Map.{lookup}
use Rattle.std.specs.Str.{bytes_eq}
use Rattle.std.proofs.lemmas.Option.{none-some, same_Some}
use Rattle.std.specs.Ordering.{is_lt}
use Rattle.line_core.specs.Lines.{by_number, inserted}
use Rattle.line_core.specs.declared.message.Message.{Message}
use Rattle.broker_state.specs.declared.subscription.Subscription.{Subscription}
use Rattle.broker_state.specs.Lists.{changed, is_none}
use Rattle.broker_state.specs.Names.{Name, name_cmp, text_cmp}
use Rattle.broker_state.specs.Operations.{uses}
use Rattle.waiting_order.specs.declared.groups.Directory.{Directory}
use Rattle.waiting_order.specs.declared.groups.Place.{Place}
use Rattle.waiting_order.specs.declared.waiters.Waiter.{Waiter}
use Rattle.waiting_order.specs.Directories.{AreAlike, AreFilled, AreFound, GroupsAreAlike, IsGroup, IsSlotted, KeepsPlace, KeepsPlaces, behind_in, group_at, grouped, is_behind, is_in, is_plain_at, members, place_of}
use Rattle.waiting_order.specs.Keeping.{put_in, put_into, put_where}
use Rattle.waiting_order.specs.Waiting.{subs_of}
use Rattle.waiting_order.specs.Groups.{OthersStay, one}
use Rattle.broker_state.proofs.Keys.{name_itself}
use Rattle.waiting_order.proofs.Behind.{behind_changed, counts, eq_is, eq_itself, eq_not}
use Rattle.waiting_order.proofs.Directories.{filled_at, fits_at, in_group, name_has, name_key, plain_has, plain_key, somewhere, text_itself}
use Rattle.waiting_order.proofs.Members.{count_members, members_alike, members_none}
use Rattle.waiting_order.specs.declared.groups.Group.{Group}
use Rattle.waiting_order.proofs.Timed.{W, clash}

keeps : (w : W) → KeepsPlace w w
keeps w = record { key = refl; ticket = refl; group = refl; session = refl; destination = refl; durable = refl }

pub kept_same : (ws : List W) → KeepsPlaces ws ws
kept_same [] = tt
kept_same (w ∷ ws) = (keeps w, kept_same ws)

pub kept_changed : (f : W → W) → ((w : W) → KeepsPlace w (f w)) → (ws : List W) (at : ℕ) → KeepsPlaces ws (changed at f ws)
kept_changed f each [] at = tt
kept_changed f each (w ∷ ws) zero = (each w, kept_same ws)
kept_changed f each (w ∷ ws) (suc at) = (keeps w, kept_changed f each ws at)

pub kept_both : (us ws vs : List W) → KeepsPlaces us ws → KeepsPlaces ws vs → KeepsPlaces us vs
kept_both [] [] [] a b = tt
kept_both [] [] (v ∷ vs) a b = absurd b
kept_both [] (w ∷ ws) vs a b = absurd a
kept_both (u ∷ us) [] vs a b = absurd a
kept_both (u ∷ us) (w ∷ ws) [] a b = absurd b
kept_both (u ∷ us) (w ∷ ws) (v ∷ vs) a b = (
  record {
    key = b.0.key ∙ a.0.key;
    ticket = b.0.ticket ∙ a.0.ticket;
    group = b.0.group ∙ a.0.group;
    session = b.0.session ∙ a.0.session;
    destination = b.0.destination ∙ a.0.destination;
    durable = b.0.durable ∙ a.0.durable;
  },
  kept_both us ws vs a.1 b.1,
)

pub kept_at : (ws vs : List W) (i : ℕ) (w : W) → KeepsPlaces ws vs → slice_get ws i ≡ Some w → (v : W) × (slice_get vs i ≡ Some v) × (v.0 ≡ w.0)
kept_at [] vs i w kept is = absurd (none-some w is)
kept_at (x ∷ ws) [] i w kept is = absurd kept
kept_at (x ∷ ws) (v ∷ vs) zero w kept is =
    (v, refl, kept.0.key ∙ ap (λ (y : W). y.0) (same_Some x w is))
kept_at (x ∷ ws) (v ∷ vs) (suc i) w kept is = kept_at ws vs i w kept.1 is

module _ (p : Waiter → Bool) (alike : (w v : W) → KeepsPlace w v → p v.1 ≡ p w.1) where
  pub members_kept : (ws vs : List W) → KeepsPlaces ws vs → members p vs ≡ members p ws
  members_kept [] [] kept = refl
  members_kept [] (v ∷ vs) kept = absurd kept
  members_kept (w ∷ ws) [] kept = absurd kept
  members_kept (w ∷ ws) (v ∷ vs) kept =
      let k = kept.0 in
      let place : place_of v ≡ place_of w = ap (λ t. record (place_of v) { ticket = t }) k.ticket ∙ ap (λ x. record (place_of w) { key = x }) k.key in
      ap (λ b. cond b (place_of v ∷ members p vs) (members p vs)) (alike w v k)
      ∙ ap (λ (q : Place). cond (p w.1) (q ∷ members p vs) (members p vs)) place
      ∙ ap (λ l. cond (p w.1) (place_of w ∷ l) l) (members_kept ws vs kept.1)

pub in_kept : (group : ℕ) (w v : W) → KeepsPlace w v → is_in group v.1 ≡ is_in group w.1
in_kept group w v k = ap (λ g. g == group) k.group

pub alike_plain : (q : List ℕ) (w v : W) → KeepsPlace w v → is_plain_at q v.1.sub ≡ is_plain_at q w.1.sub
alike_plain q w v k =
    ap (λ o. not (is_some o) && bytes_eq v.1.sub.destination q) k.durable ∙ ap (λ to. not (is_some w.1.sub.durable) && bytes_eq to q) k.destination

pub alike_uses : (q : Name) (w v : W) → KeepsPlace w v → uses q v.1.sub ≡ uses q w.1.sub
alike_uses q w v k =
    ap (λ o. elim o as (λ x. Bool) [ None ↦ false | Some other ↦ bytes_eq q.0 other.0 && bytes_eq q.1 other.1 ]) k.durable

-- what holds of waiters by their places
all_kept : (P : W → Type 0) → ((w v : W) → KeepsPlace w v → P w → P v) → (ws vs : List W) → KeepsPlaces ws vs → AllByRecursion P ws → AllByRecursion P vs
all_kept P so [] [] kept all = tt
all_kept P so [] (v ∷ vs) kept all = absurd kept
all_kept P so (w ∷ ws) [] kept all = absurd kept
all_kept P so (w ∷ ws) (v ∷ vs) kept all = (so w v kept.0 all.0, all_kept P so ws vs kept.1 all.1)

module _ (passes : Subscription → Bool) (alike : (w v : W) → KeepsPlace w v → passes v.1.sub ≡ passes w.1.sub) (ws vs : List W) (kept : KeepsPlaces ws vs) where
  pub group_kept : (o : Option ℕ) → IsGroup passes ws o → IsGroup passes vs o
  group_kept None none = all_kept (λ (w : W). passes w.1.sub ≡ false) (λ w v k fails. alike w v k ∙ fails) ws vs kept none
  group_kept (Some group) it = record {
    alike = all_kept (λ (w : W). passes w.1.sub ≡ is_in group w.1) (λ w v k same. alike w v k ∙ same ∙ sym (in_kept group w v k)) ws vs kept it.alike;
    some = ap is_none (members_kept (is_in group) (in_kept group) ws vs kept) ∙ it.some;
  }

pub slots_kept : (ws vs : List W) → KeepsPlaces ws vs → AllByRecursion IsSlotted ws → AllByRecursion IsSlotted vs
slots_kept ws vs kept all =
    all_kept IsSlotted (λ w v k it. (ap (λ x. x.session) k.key ∙ it.0 ∙ sym k.session, subst (λ n. n < 16) (sym (ap (λ x. x.slot) k.key)) it.1)) ws vs kept all

-- a directory of waiters whose places stay, with groups that have them
pub found_by : (d e : Directory) (ws vs : List W) → KeepsPlaces ws vs → e.destinations ≡ d.destinations → e.names ≡ d.names → AreFilled e.groups → ((group : ℕ) → group_at e.groups group ≡ grouped group vs) → AreFound d ws → AreFound e vs
found_by d e ws vs kept destinations names filled groups found = record {
  slots = slots_kept ws vs kept found.slots;
  directory = record {
    groups = groups;
    destinations = λ q. subst (λ m. IsGroup (is_plain_at q) vs (lookup (is_at (text_cmp q)) m.entries)) (sym destinations) (group_kept (is_plain_at q) (alike_plain q) ws vs kept (lookup (is_at (text_cmp q)) d.destinations.entries) (found.directory.destinations q));
    names = λ q. subst (λ m. IsGroup (uses q) vs (lookup (is_at (name_cmp q)) m.entries)) (sym names) (group_kept (uses q) (alike_uses q) ws vs kept (lookup (is_at (name_cmp q)) d.names.entries) (found.directory.names q));
    filled = filled;
  };
}

-- and whose lines stay empty or not
pub found_kept : (d : Directory) (ws vs : List W) → KeepsPlaces ws vs → ((group : ℕ) → behind_in group vs ≡ behind_in group ws) → AreFound d ws → AreFound d vs
found_kept d ws vs kept behind found =
    found_by d d ws vs kept refl refl found.directory.filled (λ group. found.directory.groups group
    ∙ ap (λ l. record { places = l; behind = behind_in group ws }) (sym (members_kept (is_in group) (in_kept group) ws vs kept))
    ∙ ap (λ n. record { places = members (is_in group) vs; behind = n }) (sym (behind group))) found

-- a message that is put into the own lines of the first ones that pass
abbrev pub put_first : ℕ → (Waiter → Bool) → Message → List W → List W
put_first zero p m ws = ws
put_first (suc n) p m [] = []
put_first (suc n) p m (w ∷ ws) = if p w.1 then put_into m w ∷ put_first n p m ws else w ∷ put_first (suc n) p m ws

module _ (p : Waiter → Bool) (m : Message) where
  -- the next one that passes
  pub record IsPutNext (i : ℕ) (ws : List W) (place : Place) : Type 0 where
    pub at : ℕ
    pub entry : W
    pub is : place_of entry ≡ place
    pub passes : p entry.1 ≡ true
    pub there : slice_get (put_first i p m ws) at ≡ Some entry
    pub more : changed at (put_into m) (put_first i p m ws) ≡ put_first (suc i) p m ws

  pub put_next : (ws : List W) (i : ℕ) (place : Place) → slice_get (members p ws) i ≡ Some place → IsPutNext i ws place
  put_next [] i place is = absurd (none-some place is)
  put_next (w ∷ ws) i place is = by (p w.1) refl i is (λ j there. put_next ws j place there)
    where
      by : (b : Bool) → p w.1 ≡ b → (i : ℕ) → slice_get (cond b (place_of w ∷ members p ws) (members p ws)) i ≡ Some place → ((j : ℕ) → slice_get (members p ws) j ≡ Some place → IsPutNext j ws place) → IsPutNext i (w ∷ ws) place
      by true passes zero is rest = record {
        at = 0;
        entry = w;
        is = same_Some (place_of w) place is;
        passes = passes;
        there = refl;
        more = sym (ap (λ b. cond b (put_into m w ∷ ws) (w ∷ put_first 1 p m ws)) passes);
      }
      by true passes (suc j) is rest =
          let r = rest j is in
          let now = ap (λ b. cond b (put_into m w ∷ put_first j p m ws) (w ∷ put_first (suc j) p m ws)) passes in
          record {
            at = suc r.at;
            entry = r.entry;
            is = r.is;
            passes = r.passes;
            there = ap (λ l. slice_get l (suc r.at)) now ∙ r.there;
            more = ap (changed (suc r.at) (put_into m)) now ∙ ap (λ l. put_into m w ∷ l) r.more ∙ sym (ap (λ b. cond b (put_into m w ∷ put_first (suc j) p m ws) (w ∷ put_first (suc (suc j)) p m ws)) passes);
          }
      by false fails zero is rest =
          let r = rest 0 is in
          record {
            at = suc r.at;
            entry = r.entry;
            is = r.is;
            passes = r.passes;
            there = r.there;
            more = ap (λ l. w ∷ l) r.more ∙ sym (ap (λ b. cond b (put_into m w ∷ ws) (w ∷ put_first 1 p m ws)) fails);
          }
      by false fails (suc j) is rest =
          let r = rest (suc j) is in
          let now = ap (λ b. cond b (put_into m w ∷ put_first j p m ws) (w ∷ put_first (suc j) p m ws)) fails in
          record {
            at = suc r.at;
            entry = r.entry;
            is = r.is;
            passes = r.passes;
            there = ap (λ l. slice_get l (suc r.at)) now ∙ r.there;
            more = ap (changed (suc r.at) (put_into m)) now ∙ ap (λ l. w ∷ l) r.more ∙ sym (ap (λ b. cond b (put_into m w ∷ put_first (suc j) p m ws) (w ∷ put_first (suc (suc j)) p m ws)) fails);
          }

  -- all of them
  pub put_in_all : (ws : List W) (i : ℕ) → length (members p ws) ≤ i → put_first i p m ws ≡ map (λ (x : W). if p x.1 then put_into m x else x) ws
  put_in_all [] zero le = refl
  put_in_all [] (suc i) le = refl
  put_in_all (w ∷ ws) i le = by (p w.1) refl i le (λ j less. put_in_all ws j less)
    where
      by : (b : Bool) → p w.1 ≡ b → (i : ℕ) → length (cond b (place_of w ∷ members p ws) (members p ws)) ≤ i → ((j : ℕ) → length (members p ws) ≤ j → put_first j p m ws ≡ map (λ (x : W). if p x.1 then put_into m x else x) ws) → put_first i p m (w ∷ ws) ≡ cond (p w.1) (put_into m w) w ∷ map (λ (x : W). if p x.1 then put_into m x else x) ws
      by true passes zero le rest = absurd (omega (arith, le))
      by true passes (suc j) le rest =
          ap (λ b. cond b (put_into m w ∷ put_first j p m ws) (w ∷ put_first (suc j) p m ws)) passes ∙ ap (λ l. put_into m w ∷ l) (rest j (omega (arith, le)))
          ∙ sym (ap (λ b. cond b (put_into m w) w ∷ map (λ (x : W). if p x.1 then put_into m x else x) ws) passes)
      by false fails zero le rest =
          ap (λ l. w ∷ l) (rest 0 le) ∙ sym (ap (λ b. cond b (put_into m w) w ∷ map (λ (x : W). if p x.1 then put_into m x else x) ws) fails)
      by false fails (suc j) le rest =
          ap (λ b. cond b (put_into m w ∷ put_first j p m ws) (w ∷ put_first (suc j) p m ws)) fails ∙ ap (λ l. w ∷ l) (rest (suc j) le)
          ∙ sym (ap (λ b. cond b (put_into m w) w ∷ map (λ (x : W). if p x.1 then put_into m x else x) ws) fails)

  -- none of them
  pub put_in_none : (ws : List W) → members p ws ≡ [] → ws ≡ map (λ (x : W). if p x.1 then put_into m x else x) ws
  put_in_none ws none = put_in_all ws 0 (omega (arith, ap length none))

  pub keeps_put : (w : W) → KeepsPlace w (put_into m w)
  keeps_put w = record { key = refl; ticket = refl; group = refl; session = refl; destination = refl; durable = refl }

pub subs_pushed : (ws : List W) (w : W) → subs_of (ws ++ w ∷ []) ≡ subs_of ws ++ w.1.sub ∷ []
subs_pushed [] w = refl
subs_pushed (v ∷ ws) w = ap (λ l. v.1.sub ∷ l) (subs_pushed ws w)

-- what holds either way
pub either : {A E : Type 0} (P : Type 0) (r : Result A E) → OnOk r P → OnErr r P → P
either P (Ok x) ok err = ok
either P (Err e) ok err = err

-- what is put into a line makes it one that has something
pub some_inserted : (m : Message) (line : List Message) → is_none (inserted m line) ≡ false
some_inserted m [] = refl
some_inserted m (x ∷ line) =
    elim (is_lt (by_number m.number x.number)) as (λ b. is_none (cond b (m ∷ x ∷ line) (x ∷ inserted m line)) ≡ false) [ true ↦ refl | false ↦ refl ]

-- one of the waiters is changed, who is behind as before
pub found_changed : (d : Directory) (f : W → W) → ((w : W) → KeepsPlace w (f w)) → (ws : List W) (at : ℕ) (w : W) → slice_get ws at ≡ Some w → is_behind (f w).1.sub ≡ is_behind w.1.sub → AreFound d ws → AreFound d (changed at f ws)
found_changed d f each ws at w there same found =
    found_kept d ws (changed at f ws) (kept_changed f each ws at) (λ group. as_many group) found
  where
    as_many : (group : ℕ) → behind_in group (changed at f ws) ≡ behind_in group ws
    as_many group =
        let counted : counts group (f w) ≡ counts group w = ap (λ b. b && is_behind (f w).1.sub) (in_kept group w (f w) (each w)) ∙ ap (λ b. is_in group w.1 && b) same in
        omega (arith, behind_changed group f ws at w there, ap one counted)

-- and who was the only one in the line
pub found_caught_up : (d e : Directory) (f : W → W) → ((w : W) → KeepsPlace w (f w)) → (ws : List W) (at : ℕ) (w : W) → slice_get ws at ≡ Some w → is_behind w.1.sub ≡ true → is_behind (f w).1.sub ≡ false → e.destinations ≡ d.destinations → e.names ≡ d.names
    → group_at e.groups w.1.group ≡ record (group_at d.groups w.1.group) { behind = (group_at d.groups w.1.group).behind - 1 } → OthersStay d.groups e.groups w.1.group → AreFound d ws → AreFound e (changed at f ws)
found_caught_up d e f each ws at w there was now destinations names caught others found =
    let vs = changed at f ws in
    let kept = kept_changed f each ws at in
    found_by d e ws vs kept destinations names (filled_at d.groups e.groups w.1.group others found.directory.filled _ caught (ap (λ (g : Group). is_none g.places) (found.directory.groups w.1.group) ∙ somewhere ws at w there)) (λ group. by group (group == w.1.group) refl) found
  where
    as_many : (group : ℕ) → (b : Bool) → is_in group w.1 ≡ b → behind_in group (changed at f ws) + one b ≡ behind_in group ws
    as_many group b is =
        let before = ap (λ c. one (c && is_behind w.1.sub)) is ∙ ap (λ c. one (b && c)) was in
        let after = ap (λ c. one (c && is_behind (f w).1.sub)) (in_kept group w (f w) (each w) ∙ is) ∙ ap (λ c. one (b && c)) now in
        of_both b before after (behind_changed group f ws at w there)
      where
        of_both : (b : Bool) → one (is_in group w.1 && is_behind w.1.sub) ≡ one (b && true) → one (is_in group (f w).1 && is_behind (f w).1.sub) ≡ one (b && false) → behind_in group (changed at f ws) + one (is_in group w.1 && is_behind w.1.sub) ≡ behind_in group ws + one (is_in group (f w).1 && is_behind (f w).1.sub) → behind_in group (changed at f ws) + one b ≡ behind_in group ws
        of_both true before after sum = omega (arith, before, after, sum)
        of_both false before after sum = omega (arith, before, after, sum)

    by : (group : ℕ) (b : Bool) → (group == w.1.group) ≡ b → group_at e.groups group ≡ grouped group (changed at f ws)
    by group true same =
        let is = eq_is group w.1.group same in
        let fewer : behind_in group ws - 1 ≡ behind_in group (changed at f ws) = omega (arith, as_many group true (in_group group w (sym is))) in
        ap (group_at e.groups) is ∙ caught ∙ ap (λ (g : Group). record g { behind = g.behind - 1 }) (ap (group_at d.groups) (sym is) ∙ found.directory.groups group)
        ∙ ap (λ l. record { places = l; behind = behind_in group ws - 1 }) (sym (members_kept (is_in group) (in_kept group) ws (changed at f ws) (kept_changed f each ws at)))
        ∙ ap (λ n. record { places = members (is_in group) (changed at f ws); behind = n }) fewer
    by group false other =
        let outside : is_in group w.1 ≡ false = eq_not w.1.group group (λ is. clash (group == w.1.group) (ap (λ x. x == w.1.group) (sym is) ∙ eq_itself w.1.group) other) in
        let same : behind_in group ws ≡ behind_in group (changed at f ws) = omega (arith, as_many group false outside) in
        ap (λ o. unwrap_or o (record { places = []; behind = 0 })) (others group (λ is. clash (group == w.1.group) (ap (λ x. x == w.1.group) is ∙ eq_itself w.1.group) other)) ∙ found.directory.groups group
        ∙ ap (λ l. record { places = l; behind = behind_in group ws }) (sym (members_kept (is_in group) (in_kept group) ws (changed at f ws) (kept_changed f each ws at)))
        ∙ ap (λ n. record { places = members (is_in group) (changed at f ws); behind = n }) same

-- the only message of a line is taken, or another one
pub last_taken : (line : List Message) → length line ≡ 1 → (is_none line ≡ false) × (is_none (drop 1 line) ≡ true)
last_taken [] is = absurd (omega (arith, is))
last_taken (x ∷ []) is = (refl, refl)
last_taken (x ∷ y ∷ line) is = absurd (omega (arith, is))

pub more_taken : (line : List Message) → (length line == 1) ≡ false → is_none (drop 1 line) ≡ is_none line
more_taken [] more = refl
more_taken (x ∷ []) more = absurd (clash (1 == 1) (eq_itself 1) more)
more_taken (x ∷ y ∷ line) more = refl

pub caught_by : (n group : ℕ) (o : Option ℕ) (h : ℕ) → o ≡ (if n == 1 then Some group else None) → o ≡ Some h → (n ≡ 1) × (group ≡ h)
caught_by n group o h is some = by (n == 1) refl
  where
    by : (b : Bool) → (n == 1) ≡ b → (n ≡ 1) × (group ≡ h)
    by true last = (eq_is n 1 last, same_Some group h (sym (is ∙ ap (λ b. if b then Some group else None) last) ∙ some))
    by false more = absurd (none-some h (sym (is ∙ ap (λ b. if b then Some group else None) more) ∙ some))

pub not_caught : (n group : ℕ) (o : Option ℕ) → o ≡ (if n == 1 then Some group else None) → o ≡ None → (n == 1) ≡ false
not_caught n group o is none = by (n == 1) refl
  where
    by : (b : Bool) → (n == 1) ≡ b → (n == 1) ≡ false
    by true last = absurd (none-some group (sym none ∙ is ∙ ap (λ b. if b then Some group else None) last))
    by false more = more

-- each of a group gets a message
pub found_put : (d e : Directory) (ws vs : List W) (handle : ℕ) → KeepsPlaces ws vs → e.destinations ≡ d.destinations → e.names ≡ d.names → group_at e.groups handle ≡ grouped handle vs → OthersStay d.groups e.groups handle → ((other : ℕ) → other ≢ handle → grouped other vs ≡ grouped other ws) → is_none (members (is_in handle) ws) ≡ false → AreFound d ws → AreFound e vs
found_put d e ws vs handle kept destinations names put stay others some found =
    found_by d e ws vs kept destinations names (filled_at d.groups e.groups handle stay found.directory.filled _ put (ap is_none (members_kept (is_in handle) (in_kept handle) ws vs kept) ∙ some)) (λ group. by group (group == handle) refl) found
  where
    by : (group : ℕ) (b : Bool) → (group == handle) ≡ b → group_at e.groups group ≡ grouped group vs
    by group true same =
        let is = eq_is group handle same in
        ap (group_at e.groups) is ∙ put ∙ ap (λ g. grouped g vs) (sym is)
    by group false other =
        let differs : group ≢ handle = λ is. clash (group == handle) (ap (λ x. x == handle) is ∙ eq_itself handle) other in
        ap (λ o. unwrap_or o (record { places = []; behind = 0 })) (stay group differs) ∙ found.directory.groups group ∙ sym (others group differs)

-- those who pass are in the group, so both put into the same lines
pub put_alike : (passes : Subscription → Bool) (group : ℕ) (m : Message) (ws : List W) → AllByRecursion (λ (w : W). passes w.1.sub ≡ is_in group w.1) ws → map (put_in group m) ws ≡ map (put_where passes m) ws
put_alike passes group m [] all = refl
put_alike passes group m (w ∷ ws) all =
    ap (λ b. cond b (put_into m w) w ∷ map (put_in group m) ws) (sym all.0) ∙ ap (λ l. put_where passes m w ∷ l) (put_alike passes group m ws all.1)

pub put_nowhere : (passes : Subscription → Bool) (m : Message) (ws : List W) → AllByRecursion (λ (w : W). passes w.1.sub ≡ false) ws → ws ≡ map (put_where passes m) ws
put_nowhere passes m [] all = refl
put_nowhere passes m (w ∷ ws) all =
    ap (λ l. w ∷ l) (put_nowhere passes m ws all.1) ∙ ap (λ b. cond b (put_into m w) w ∷ map (put_where passes m) ws) (sym all.0)

-- how many pass, by their group
pub counted_by : (passes : Subscription → Bool) (ws : List W) (o : Option ℕ) (n : ℕ) → IsGroup passes ws o → ((group : ℕ) → o ≡ Some group → n ≡ length (members (is_in group) ws)) → (o ≡ None → n ≡ 0) → n ≡ count_by passes (subs_of ws)
counted_by passes ws None n none some zero_is =
    zero_is refl ∙ sym (ap length (members_none (λ (s : Waiter). passes s.sub) ws none)) ∙ count_members passes ws
counted_by passes ws (Some group) n it some zero_is =
    some group refl ∙ ap length (sym (members_alike (λ (s : Waiter). passes s.sub) (is_in group) ws it.alike)) ∙ count_members passes ws

-- those of one group are alike
pub groups_alike : (d : Directory) (ws : List W) → AreFound d ws → GroupsAreAlike ws
groups_alike d ws found i j w v at_i at_j same = by w.1.sub.durable refl
  where
    plain_by : (o : Option ℕ) → IsGroup (is_plain_at w.1.sub.destination) ws o → w.1.sub.durable ≡ None → is_plain_at w.1.sub.destination v.1.sub ≡ true
    plain_by None none plain = absurd (clash (is_plain_at w.1.sub.destination w.1.sub) (plain_key w.1.sub plain w.1.sub.destination ∙ text_itself w.1.sub.destination) (fits_at (is_plain_at w.1.sub.destination) ws None none i w at_i))
    plain_by (Some g) it plain =
        let inside = sym (fits_at (is_plain_at w.1.sub.destination) ws (Some g) it i w at_i) ∙ plain_key w.1.sub plain w.1.sub.destination ∙ text_itself w.1.sub.destination in
        fits_at (is_plain_at w.1.sub.destination) ws (Some g) it j v at_j ∙ ap (λ x. x == g) (sym same) ∙ inside

    name_by : (name : Name) (o : Option ℕ) → IsGroup (uses name) ws o → w.1.sub.durable ≡ Some name → uses name v.1.sub ≡ true
    name_by name None none named = absurd (clash (uses name w.1.sub) (name_key w.1.sub name named name ∙ name_itself name) (fits_at (uses name) ws None none i w at_i))
    name_by name (Some g) it named =
        let inside = sym (fits_at (uses name) ws (Some g) it i w at_i) ∙ name_key w.1.sub name named name ∙ name_itself name in
        fits_at (uses name) ws (Some g) it j v at_j ∙ ap (λ x. x == g) (sym same) ∙ inside

    by : (o : Option Name) → w.1.sub.durable ≡ o → AreAlike w.1.sub v.1.sub
    by None plain =
        let has = plain_has v.1.sub w.1.sub.destination (plain_by (lookup (is_at (text_cmp w.1.sub.destination)) d.destinations.entries) (found.directory.destinations w.1.sub.destination) plain) in
        record { durable = plain ∙ sym has.0; destination = λ none. sym has.1 }
    by (Some name) named =
        let has = name_has v.1.sub name (name_by name (lookup (is_at (name_cmp name)) d.names.entries) (found.directory.names name) named) in
        record { durable = named ∙ sym has; destination = λ none. absurd (none-some name (sym none ∙ named)) }
