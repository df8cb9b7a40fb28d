use Rattle.std.proofs.Common.{arith, rules}
use Rattle.command_core.proofs.WritableReplies.{message_writable}
use Rattle.command_core.proofs.output.Delivery.new.Goals as goal

pub returns : goal.returns
returns c = record {
  value = search rules;
  form = message_writable _ _ _ _ _ c.as_str-name.ensures.form (omega arith) (omega arith) c.is_acknowledged-fits.ensures.fits c.destination-destination.ensures.form;
}
