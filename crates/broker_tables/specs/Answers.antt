use Rattle.std.specs.Prelude.{List, ◌++◌, Option, option_map}
use Rattle.command_core.specs.Outs.{OutValue}

-- the outputs so far, if they are kept
abbrev pub Answered : Type 0
Answered = Option (List OutValue)

-- some more
abbrev pub with_outs : List OutValue → Answered → Answered
with_outs outs earlier = option_map (λ all. all ++ outs) earlier
