-- What a session has asked for that is still to be done.
use Rattle.std.specs.Prelude.{◌++◌, List, Option, option_to_list}
use Rattle.session_core.specs.declared.session.Act.{Act}

-- the act that was tried and is to be tried again, and those after it
pub record Tasks : Type 0 where
  pub again : Option Act
  pub rest : List Act

abbrev pub tasks : Option Act → List Act → Tasks
tasks again rest = record { again = again; rest = rest }

-- all of them in their order
abbrev pub all_of : Tasks → List Act
all_of t = option_to_list t.again ++ t.rest
