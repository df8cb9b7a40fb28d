use Rattle.server_core.proofs.Sweeping.{may_begin, may_end, may_pass}
use Rattle.server_core.proofs.event_loop.serve_all.Goals as goal

pub sweep_all-requires : goal.sweep_all-requires
sweep_all-requires g c = record { follows = may_begin c.args.begin c.args.services.now.items c.requires.begins }

pub sweep_all-requires-2 : goal.sweep_all-requires-2
sweep_all-requires-2 g c = record { follows = may_pass c.args.begin _ c.requires.begins c.sweep_all.ensures.done }

pub sweep_all-requires-3 : goal.sweep_all-requires-3
sweep_all-requires-3 g c = record { follows = may_end _ c.sweep_all-2.ensures.done }

pub returns-clause-ring : goal.returns-clause-ring
returns-clause-ring g c = λ ring before. c.sweep_all-3.ensures.ring ring (c.sweep_all-2.ensures.ring ring (c.sweep_all.ensures.ring ring before))
