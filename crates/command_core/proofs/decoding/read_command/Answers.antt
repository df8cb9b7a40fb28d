use Rattle.std.proofs.Common.{arith, sym, ◌∙◌}
use Rattle.command_core.proofs.Walks.{bytes_are}
use Rattle.command_core.proofs.RecordCommands.{command_formed}
use Rattle.command_core.proofs.decoding.read_command.Goals as goal

pub new-requires : goal.new-requires
new-requires c =
    command_formed c.args.bytes.now _ _ _ _ _ _ (bytes_are c.args.bytes.now (λ i. omega (arith, c.type_inv.bytes i))) c.in_ok-session.ensures c.in_ok-receipt.ensures c.in_ok-op.ensures (sym c.fits.ensures ∙ c.if-not-fits.false)
