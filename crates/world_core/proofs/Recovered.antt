-- What the code that reads journals says of the bytes that it read.
use Rattle.std.proofs.Common.{◌≡◌, ◌⊎◌, ⊎_elim, ℕ, ◌+◌, ◌<◌, ◌≤◌, ◌^◌, false, List, [], ◌∷◌, ◌++◌, Option, Some, None, IfSome, Result, Ok, Err, IfOk, Vec, Global, length, sym, ◌∙◌, ap, subst, arith}
use Rattle.command_core.specs.Commands.{CommandValue}
use Rattle.broker_core.specs.Operations.{restarted}
use Rattle.broker_core.specs.States.{BrokerValue, State}
use Rattle.snapshot_core.specs.Snapshots.{Spells, snapshot_of}
use Rattle.area_core.specs.declared.area.Area.{Area}
use Rattle.area_core.specs.declared.version.Version.{Version}
use Rattle.area_core.specs.Areas.{front}
use Rattle.area_core.specs.Reading.{IsPast}
use Rattle.area_core.proofs.Single.{reads_one, size_one}
use Rattle.recover_core.specs.Standing.{Stands}
use Rattle.recover_core.specs.Told.{IsTooLarge, IsTooLong}
use Rattle.recover_core.proofs.Single.{stands_one}
use Rattle.recover_core.proofs.Stores.{stands}
use Rattle.world_core.specs.Calls.{CanCopy, CanRestart}
use Rattle.world_core.specs.Readings.{IsRead, Reading}
use Rattle.world_core.specs.Recoveries.{HasEnded, HasNoSnapshot, HasPassed, IsReadable}

pub passed_more : (area next : Area) (content : List ℕ) (cs : List CommandValue)
    → ((snapshot : List ℕ) (blocks : List (List CommandValue)) → IsPast area snapshot blocks content → IsPast next snapshot (blocks ++ cs ∷ []) content)
    → HasPassed area content → HasPassed next content
passed_more area next content cs block p = record { snapshot = p.snapshot; blocks = p.blocks ++ cs ∷ []; past = block p.snapshot p.blocks p.past }

pub gate_is : (area : Area) (content : List ℕ) → HasEnded area content → (size : ℕ) (r : Reading) → IsRead size content r → area.gate ≡ r.gate
gate_is area content e size r x =
    let one = reads_one area.version r.version area.size size area.selector x.selector e.snapshot x.snapshot e.blocks x.blocks content e.at.reads x.reads in
    e.at.gate ∙ ap (λ (v : Version). length (front v e.snapshot e.blocks)) one.0 ∙ ap (λ (l : List ℕ). length (front r.version l e.blocks)) one.3
    ∙ ap (λ (bs : List (List CommandValue)). length (front r.version x.snapshot bs)) one.4 ∙ sym x.gate

pub read_stands : (size : ℕ) (content : List ℕ) (r : Reading) → IsRead size content r → Stands content r.state
read_stands size content r x = stands r.version size x.selector x.snapshot x.blocks content r.state x.reads x.leads

too_large : (content : List ℕ) (size : ℕ) (r : Reading) → IsRead size content r → CanRestart size r → IsTooLarge content → ⊥
too_large content size r x can t =
    let same : t.state ≡ r.state = stands_one content t.state r.state t.stands (read_stands size content r x) in
    omega (arith, t.large, can.low, ap (λ (s : State). s.count) same)

too_long : (content : List ℕ) (size : ℕ) (r : Reading) → IsRead size content r → CanRestart size r → IsTooLong content → ⊥
too_long content size r x can t =
    let same : t.state ≡ r.state = stands_one content t.state r.state t.stands (read_stands size content r x) in
    let sizes : t.size ≡ size = size_one t.size size t.selector x.selector content t.journal x.reads.journal in
    let spelled : t.long.snapshot ≡ snapshot_of (restarted r.state) = t.long.spells.spelled ∙ ap (λ (s : State). snapshot_of (restarted s)) same in
    omega (arith, t.long.long, can.fits, sizes, ap (λ (l : List ℕ). length l) spelled)

pub no_restart : (content : List ℕ) → (IsTooLarge content ⊎ IsTooLong content) → (size : ℕ) (r : Reading) → IsRead size content r → CanRestart size r → ⊥
no_restart content why size r x can = ⊎_elim (too_large content size r x can) (too_long content size r x can) why

pub few_left : (content : List ℕ) (size : ℕ) (state : State) → IsReadable size content → ((s : State) → Stands content s → state ≡ restarted s) → (length state.sessions ≡ 0) × (length state.subscriptions ≡ 0)
few_left content size state can is =
    let same = is can.reading.state (read_stands size content can.reading can.is_read) in
    (ap (λ (s : State). length s.sessions) same, ap (λ (s : State). length s.subscriptions) same)

spelled_is : (content : List ℕ) (state : State) (spelling : List ℕ) → Spells spelling state → ((s : State) → Stands content s → state ≡ restarted s) → (size : ℕ) (r : Reading) → IsRead size content r → spelling ≡ snapshot_of (restarted r.state)
spelled_is content state spelling spells is size r x = spells.spelled ∙ ap (λ (s : State). snapshot_of s) (is r.state (read_stands size content r x))

pub does_not_fit : (content : List ℕ) (state : State) (spelling : List ℕ) → Spells spelling state → ((s : State) → Stands content s → state ≡ restarted s) → (size : ℕ) → size < length spelling + 9
    → (r : Reading) → IsRead size content r → CanRestart size r → ⊥
does_not_fit content state spelling spells is size long r x can =
    omega (arith, long, can.fits, ap (λ (l : List ℕ). length l) (spelled_is content state spelling spells is size r x))

pub can_restart : (content : List ℕ) (state : State) (spelling : List ℕ) → Spells spelling state → ((s : State) → Stands content s → state ≡ restarted s) → state.count ≤ 2 ^ 61 → (size : ℕ) → length spelling + 9 ≤ size
    → (r : Reading) → IsRead size content r → CanRestart size r × (spelling ≡ snapshot_of (restarted r.state))
can_restart content state spelling spells is low size fits r x =
    let same = is r.state (read_stands size content r x) in
    let spelled = spelled_is content state spelling spells is size r x in (
      record {
        low = omega (arith, low, ap (λ (s : State). s.count) same);
        spelled = subst (λ (s : State). Spells (snapshot_of s) s) same (subst (λ (l : List ℕ). Spells l state) spells.spelled spells);
        fits = omega (arith, fits, ap (λ (l : List ℕ). length l) spelled);
      },
      spelled,
    )

pub opened_state : (o p : Option BrokerValue) (c d : List ℕ) → o ≡ p → d ≡ c → IfSome p (λ broker. (s : State) → Stands d s → broker.state ≡ restarted s) → IfSome o (λ broker. (s : State) → Stands c s → broker.state ≡ restarted s)
opened_state o p c d is same state =
    subst (λ (q : Option BrokerValue). IfSome q (λ broker. (s : State) → Stands c s → broker.state ≡ restarted s)) (sym is)
    (subst (λ (l : List ℕ). IfSome p (λ broker. (s : State) → Stands l s → broker.state ≡ restarted s)) same state)

pub found_state : (o : Option BrokerValue) (b : BrokerValue) (c : List ℕ) → o ≡ Some b → IfSome o (λ broker. (s : State) → Stands c s → broker.state ≡ restarted s) → (s : State) → Stands c s → b.state ≡ restarted s
found_state o b c is state = subst (λ (q : Option BrokerValue). IfSome q (λ broker. (s : State) → Stands c s → broker.state ≡ restarted s)) is state

pub found_low : (o : Option BrokerValue) (b : BrokerValue) → o ≡ Some b → IfSome o (λ broker. (broker.state.count ≤ 2 ^ 61) × (broker.broken ≡ false)) → b.state.count ≤ 2 ^ 61
found_low o b is low = (subst (λ (q : Option BrokerValue). IfSome q (λ broker. (broker.state.count ≤ 2 ^ 61) × (broker.broken ≡ false))) is low).0

-- a snapshot that fits is one of a restart, and where it doesn't fit there is none
pub within_some : {E : Type 0} (res : Result (Option (Vec ℕ Global)) E) (size : ℕ) (content : List ℕ) (state : State) → ((s : State) → Stands content s → state ≡ restarted s) → state.count ≤ 2 ^ 61
    → IfOk res (λ found. IfSome found (λ snapshot. Spells snapshot.items state × (length snapshot.items + 9 ≤ size)))
    → IfOk res (λ found. IfSome found (λ snapshot. (r : Reading) → IsRead size content r → CanRestart size r × (snapshot.items ≡ snapshot_of (restarted r.state))))
within_some (Err e) size content state is low m = m
within_some (Ok None) size content state is low m = m
within_some (Ok (Some v)) size content state is low m = can_restart content state v.items m.0 is low size m.1

pub within_none : {E : Type 0} (res : Result (Option (Vec ℕ Global)) E) (size : ℕ) (content : List ℕ) (state : State) → ((s : State) → Stands content s → state ≡ restarted s)
    → IfOk res (λ found. found ≡ None → (spelling : List ℕ) × Spells spelling state × (size < length spelling + 9))
    → IfOk res (λ found. found ≡ None → (r : Reading) → IsRead size content r → CanRestart size r → ⊥)
within_none (Err e) size content state is m = m
within_none (Ok o) size content state is m = λ none. let s = m none in does_not_fit content state s.0 s.1 is size s.2

-- the state as it is

module _ (content : List ℕ) (state : State) (stands : Stands content state) (size : ℕ) (r : Reading) (x : IsRead size content r) where
  stored_is : state ≡ r.state
  stored_is = stands_one content state r.state stands (read_stands size content r x)

  pub can_copy : (spelling : List ℕ) → Spells spelling state → state.count ≤ 2 ^ 61 → length spelling + 9 ≤ size → CanCopy size r × (spelling ≡ snapshot_of r.state)
  can_copy spelling spells low fits =
      let spelled : spelling ≡ snapshot_of r.state = spells.spelled ∙ ap snapshot_of stored_is in (
        record {
          low = omega (arith, low, ap (λ (s : State). s.count) stored_is);
          spelled = subst (λ (s : State). Spells (snapshot_of s) s) stored_is (subst (λ (l : List ℕ). Spells l state) spells.spelled spells);
          fits = omega (arith, fits, ap (λ (l : List ℕ). length l) spelled);
        },
        spelled,
      )

  pub cannot_copy : HasNoSnapshot size state → CanCopy size r → ⊥
  cannot_copy none can = subst (λ (s : State). HasNoSnapshot size s) stored_is none can.spelled can.fits

pub too_large_to_copy : (content : List ℕ) (size : ℕ) → IsTooLarge content → (r : Reading) → IsRead size content r → CanCopy size r → ⊥
too_large_to_copy content size t r x can =
    let same : t.state ≡ r.state = stands_one content t.state r.state t.stands (read_stands size content r x) in
    omega (arith, t.large, can.low, ap (λ (s : State). s.count) same)

pub copy_found : {E : Type 0} (res : Result (Option (Vec ℕ Global)) E) (content : List ℕ) (state : State) → Stands content state → state.count ≤ 2 ^ 61 → (size : ℕ)
    → IfOk res (λ found. IfSome found (λ snapshot. Spells snapshot.items state × (length snapshot.items + 9 ≤ size)))
    → IfOk res (λ found. IfSome found (λ snapshot. (r : Reading) → IsRead size content r → CanCopy size r × (snapshot.items ≡ snapshot_of r.state)))
copy_found (Err e) content state stands low size found = found
copy_found (Ok None) content state stands low size found = found
copy_found (Ok (Some v)) content state stands low size found = λ r x. can_copy content state stands size r x v.items found.0 low found.1

pub no_copy_found : {E : Type 0} (res : Result (Option (Vec ℕ Global)) E) (content : List ℕ) (state : State) → Stands content state → (size : ℕ)
    → IfOk res (λ found. found ≡ None → HasNoSnapshot size state) → IfOk res (λ found. found ≡ None → (r : Reading) → IsRead size content r → CanCopy size r → ⊥)
no_copy_found (Err e) content state stands size found = found
no_copy_found (Ok o) content state stands size found = λ none r x. cannot_copy content state stands size r x (found none)
