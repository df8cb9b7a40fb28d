-- What is not known of a message that was to be moved.
use Rattle.std.specs.Prelude.{Bool, List, [], ℕ, codes, cond}
use Rattle.client_core.specs.declared.fault.Doubt.{Doubt}
use Rattle.client_core.specs.declared.fault.Doubt.TheVariants.{Nothing, Stays, Uncounted, Twice}
use Rattle.client_core.specs.declared.fault.Cause.{Cause}
use Rattle.client_core.specs.declared.fault.Cause.TheVariants.{Error}
use Rattle.client_core.specs.declared.moving.Stage.{Stage}
use Rattle.client_core.specs.declared.moving.Stage.TheVariants.{Free, Sent, Stored, Settling}

-- Nothing was said of it. Or it was sent to the other server, which refused it, or may have it. Or that has it. Or its ACK was said: in a
-- transaction, which was refused as a whole, or may be committed; or after the other server had it.
abbrev pub doubt_of : Bool → Stage → Cause → Doubt
doubt_of is_far Free cause = Nothing
doubt_of is_far Sent (Error text) = Stays
doubt_of is_far Sent _ = Twice
doubt_of is_far Stored cause = Twice
doubt_of is_far Settling (Error text) = cond is_far Twice Stays
doubt_of is_far Settling _ = cond is_far Twice Uncounted

-- what is told of that
abbrev pub doubt_text : Doubt → List ℕ
doubt_text Nothing = []
doubt_text Stays = codes "; the message stays where it was"
doubt_text Uncounted = codes "; one more message may be moved, or not"
doubt_text Twice = codes "; one message may be at both servers, and would be moved again"
