-- The box through which a session's outputs come, and its two ends.
use Rattle.std.specs.Prelude.{◌≡◌, ◌≢◌, Option, Some, None, []}
use Rattle.command_core.specs.Entries.{EntryValue}
use Rattle.outbox_core.specs.Boxes.{BoxId, SenderValue, TakerValue}
use Rattle.clients.specs.Progress.{role_of}
use Rattle.clients.specs.declared.progress.Role.{Role}
use Rattle.clients.specs.declared.progress.Role.TheVariants.{Opens, Talks, Ends}

-- both ends of one box, to which nothing was given, with room for 4,608 outputs and 32 MiB of them
pub record AreEnds (sender : Option SenderValue) (taker : Option TakerValue) : Type 0 where
  pub giving : SenderValue
  pub taking : TakerValue
  pub sender_is : sender ≡ Some giving
  pub taker_is : taker ≡ Some taking
  pub one_box : giving.box ≡ taking.box
  pub size : giving.size ≡ record { outputs = 4608; bytes = 33554432 }
  pub none_given : giving.given ≡ []
  pub none_taken : taking.taken ≡ []

-- an Open gets both ends of a new box, and no other command gets one
abbrev pub IsBoxFor : Role → Option SenderValue → Option TakerValue → Type 0
IsBoxFor Opens sender taker = AreEnds sender taker
IsBoxFor Talks sender taker = (sender ≡ None) × (taker ≡ None)
IsBoxFor Ends sender taker = (sender ≡ None) × (taker ≡ None)

-- which box a sending end is of
abbrev pub box_of : Option SenderValue → Option BoxId
box_of None = None
box_of (Some sender) = Some sender.box

-- an entry of the ring
abbrev pub BoxEntry : Type 0
BoxEntry = EntryValue SenderValue

-- The entry of an Open has the giving end of a box, whose taking end is this one, and from which nothing was taken. No other command has a box.
pub record HasBox (entry : BoxEntry) (taker : Option TakerValue) : Type 0 where
  pub opens : (t : TakerValue) → taker ≡ Some t → (role_of entry.command.op ≡ Opens) × (t.taken ≡ [])
  pub one_box : (t : TakerValue) → taker ≡ Some t → box_of entry.outbox ≡ Some t.box
  pub has_box : role_of entry.command.op ≡ Opens → taker ≢ None
