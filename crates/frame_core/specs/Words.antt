-- The words that a broker writes itself.
use Rattle.std.specs.Prelude.{List, ℕ, codes}
use Rattle.frame_core.specs.declared.text.Word.{Word}
use Rattle.frame_core.specs.declared.text.Word.TheVariants.{Version, Session, HeartBeat, ReceiptId, Message, Subscription, MessageId, Destination, Ack, ContentLength}

abbrev pub word_bytes : Word → List ℕ
word_bytes Version = codes "version"
word_bytes Session = codes "session"
word_bytes HeartBeat = codes "heart-beat"
word_bytes ReceiptId = codes "receipt-id"
word_bytes Message = codes "message"
word_bytes Subscription = codes "subscription"
word_bytes MessageId = codes "message-id"
word_bytes Destination = codes "destination"
word_bytes Ack = codes "ack"
word_bytes ContentLength = codes "content-length"
