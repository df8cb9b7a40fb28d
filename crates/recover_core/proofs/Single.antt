-- An image stands for one state.
use Rattle.std.proofs.Common.{◌≡◌, List, [], ◌++◌, ℕ, false, sym, ◌∙◌, ap}
use Rattle.std.proofs.Math.Logic.{∥∥₁_elim}
use Rattle.std.specs.Coded.{Coded-set}
use Rattle.command_core.specs.Commands.{CommandValue}
use Rattle.broker_core.specs.States.{BrokerValue, State}
use Rattle.broker_core.specs.Steps.{state_after_by}
use Rattle.broker_core.specs.contracts.broker.Broker.{the_row}
use Rattle.snapshot_core.proofs.SnapshotForms.{begins_no_other}
use Rattle.area_core.specs.declared.version.Version.{Version}
use Rattle.area_core.proofs.Single.{reads_one}
use Rattle.recover_core.specs.Standing.{joined, rule_of, Standing, Stands}

-- two proofs that states are the same are the same
pub state_set : (s t : State) → IsProp (s ≡ t)
state_set s t p q =
    let value : State → BrokerValue = λ u. record { state = u; broken = false } in
    ap (λ r. ap (λ (b : BrokerValue). b.state) r) (Coded-set the_row.coded (value s) (value t) (ap value p) (ap value q))

standing_one : (image : List ℕ) (s t : State) → Standing image s → Standing image t → s ≡ t
standing_one image s t x y =
    let one = reads_one x.version y.version x.size y.size x.selector y.selector x.snapshot y.snapshot x.blocks y.blocks image x.reads y.reads in
    let firsts = begins_no_other x.leads.first y.leads.first x.snapshot y.snapshot [] [] x.leads.spells y.leads.spells (ap (λ (l : List ℕ). l ++ []) one.3) in
    x.leads.is
    ∙ ap (λ (v : Version). state_after_by (rule_of v) x.leads.first (joined x.blocks)) one.0
    ∙ ap (λ (f : State). state_after_by (rule_of y.version) f (joined x.blocks)) firsts.0
    ∙ ap (λ (b : List (List CommandValue)). state_after_by (rule_of y.version) y.leads.first (joined b)) one.4
    ∙ sym y.leads.is

pub stands_one : (image : List ℕ) (s t : State) → Stands image s → Stands image t → s ≡ t
stands_one image s t x y = ∥∥₁_elim x (state_set s t) (λ (a : Standing image s). ∥∥₁_elim y (state_set s t) (λ (b : Standing image t). standing_one image s t a b))
