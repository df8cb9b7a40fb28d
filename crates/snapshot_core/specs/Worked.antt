use Rattle.std.specs.Prelude.{List, [], ◌∷◌, ◌++◌, ℕ, None, codes, replicate}
use Rattle.command_core.specs.declared.command.Op.TheVariants.{Open, Send}
use Rattle.broker_core.specs.States.{State, empty_state}
use Rattle.broker_core.specs.Steps.{step}

-- four and eight bytes with a small number
abbrev pub four : ℕ → List ℕ
four n = replicate 3 0 ++ n ∷ []

abbrev pub eight : ℕ → List ℕ
eight n = replicate 7 0 ++ n ∷ []

-- the state after a session was opened, and sent `hi` to a queue that nobody hears
abbrev pub with_message : State
with_message =
    step (step empty_state (record { session = 0; op = Open None; receipt = None }))
    (record { session = 0; op = Send (record { destination = codes "/queue/q"; headers = []; body = codes "hi" }); receipt = None })
