use Rattle.client_core.specs.declared.probe.Probe.TheVariants.{Disconnect, Send}
use Rattle.client_core.specs.Talks.{Converses}
use Rattle.client_core.proofs.Turns.{breaks_later, closed, converses, led_to_disconnect, led_to_send}
use Rattle.client_core.proofs.sending.converse.Goals as goal

pub returns-in-Err-ask_for_receipt-clause-fault : goal.returns-in-Err-ask_for_receipt-clause-fault
returns-in-Err-ask_for_receipt-clause-fault g c =
    let talk = g.P.Peer.talk in
    let x = talk c.args.peer.now in
    let y = talk c.say.new.peer in
    breaks_later Send c.in-Err-ask_for_receipt.fault x y (talk c.ask_for_receipt.new.peer) (led_to_send x y c.in-Ok.ensures.ok) c.in-Err-ask_for_receipt.ensures.fault

pub returns-in-Err-say-clause-fault : goal.returns-in-Err-say-clause-fault
returns-in-Err-say-clause-fault g c =
    let talk = g.P.Peer.talk in
    let x = talk c.args.peer.now in
    let y = talk c.say.new.peer in
    let z = talk c.ask_for_receipt.new.peer in
    breaks_later Disconnect c.in-Err-say.fault x z (talk c.say-in-Ok-ask_for_receipt.new.peer) (led_to_disconnect x y z c.in-Ok.ensures.ok c.in-Ok-ask_for_receipt.ensures.ok) c.in-Err-say.ensures.fault

pub returns-in-Ok-say-clause-ok : goal.returns-in-Ok-say-clause-ok
returns-in-Ok-say-clause-ok g c =
    let talk = g.P.Peer.talk in
    let x = talk c.args.peer.now in
    let y = talk c.say.new.peer in
    let z = talk c.ask_for_receipt.new.peer in
    let last = talk c.say-in-Ok-ask_for_receipt.new.peer in
    closed (Converses x) c.close_after.result last (talk c.close_after.new.peer) c.close_after.ensures.told
    (converses x z last (led_to_disconnect x y z c.in-Ok.ensures.ok c.in-Ok-ask_for_receipt.ensures.ok) c.in-Ok-say.ensures.ok)
