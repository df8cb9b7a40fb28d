-- The sending end, from what is left of it.
use Rattle.std.specs.Prelude.{Bool, true, false}
use Rattle.outbox_core.specs.declared.sender.BoxEnd.{BoxEnd}
use Rattle.outbox_core.specs.declared.sender.BoxEnd.TheVariants.{Open, Cut, Gone}
use Rattle.outbox_core.specs.Boxes.{GivenValue, SenderValue, gone}

-- a sending end, and whether its box is cut
abbrev pub as_sender : GivenValue → Bool → SenderValue
as_sender end cut = record { box = end.box; size = end.size; given = end.given; cut = cut }

abbrev pub sender_value : BoxEnd → SenderValue
sender_value (Open end) = as_sender end false
sender_value (Cut end) = as_sender end true
sender_value Gone = gone
